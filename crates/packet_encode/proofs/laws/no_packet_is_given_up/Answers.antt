use Rattle.std.proofs.Common.{◌+◌, arith}
use Rattle.packet_encode.proofs.Deliveries.{kept_below}
use Rattle.packet_encode.proofs.laws.no_packet_is_given_up.Goals as goal

pub returns-clause-written : goal.returns-clause-written
returns-clause-written c = λ h copies t written. (kept_below h copies (t + 1) t (omega arith) written).0

pub returns-clause-mask : goal.returns-clause-mask
returns-clause-mask c = λ h copies t written. (kept_below h copies (t + 1) t (omega arith) written).1
