use Rattle.packet_calls.proofs.Received.{received}
use Rattle.packet_calls.proofs.laws.sent_inputs_are_received.Goals as goal

pub returns : goal.returns
returns c = received
