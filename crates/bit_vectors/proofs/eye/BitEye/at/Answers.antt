use Rattle.std.proofs.Common.{arith}
use Rattle.bit_vectors.proofs.NumberBits.{length-bits_of}
use Rattle.bit_vectors.proofs.eye.BitEye.at.Goals as goal

pub returns-clause-within : goal.returns-clause-within
returns-clause-within c = rw (← c.self.view_is) (omega (arith, length-bits_of c.self.inside.bytes.now))
