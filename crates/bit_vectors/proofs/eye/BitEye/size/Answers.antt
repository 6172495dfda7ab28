use Rattle.std.proofs.Common.{arith}
use Rattle.bit_vectors.proofs.NumberBits.{length-bits_of}
use Rattle.bit_vectors.proofs.eye.BitEye.size.Goals as goal

pub returns-clause-size : goal.returns-clause-size
returns-clause-size c = rw (← c.self.view_is) (omega (arith, length-bits_of c.self.inside.bytes.now))
