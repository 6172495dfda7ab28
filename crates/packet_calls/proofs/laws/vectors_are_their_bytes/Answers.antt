use Rattle.std.proofs.Common.{sym}
use Rattle.bit_vectors.proofs.NumberBits.{stored_is}
use Rattle.packet_calls.proofs.laws.vectors_are_their_bytes.Goals as goal

pub returns : goal.returns
returns c = λ f bytes below fits spare. sym (stored_is bytes f below fits spare)
