use Rattle.packet_calls.proofs.Refused.{spare_bit-is}
use Rattle.packet_calls.proofs.sender.mask_has_spare_bit.Goals as goal

pub returns-in-Some : goal.returns-in-Some
returns-in-Some c = rw c.in-Some.is (spare_bit-is c.args.places c.in-Some.bytes.now c.has_spare_bit.result c.has_spare_bit.ensures)
