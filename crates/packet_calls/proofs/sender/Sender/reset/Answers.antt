use Rattle.std.proofs.Common.{rules, length}
use Rattle.packet_calls.specs.Sending.{given_mask}
use Rattle.packet_calls.proofs.Refused.{opening_fault-none}
use Rattle.packet_calls.proofs.sender.Sender.reset.Goals as goal

pub returns-clause-fault : goal.returns-clause-fault
returns-clause-fault c = opening_fault-none (length c.args.self.now.encoder.masks.mask) (given_mask c.args.mask) (search rules) (search rules) (search rules) (search rules)
