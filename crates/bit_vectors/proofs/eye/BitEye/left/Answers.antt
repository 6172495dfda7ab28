use Rattle.std.proofs.Common.{length, ap, arith}
use Rattle.bit_vectors.specs.Reading.{EyeState}
use Rattle.bit_vectors.proofs.NumberBits.{length-bits_of}
use Rattle.bit_vectors.proofs.eye.BitEye.left.Goals as goal

pub overflow_sub-result : goal.overflow_sub-result
overflow_sub-result c =
    omega (arith, length-bits_of c.self.inside.bytes.now, ap (λ (e : EyeState). length e.bits) c.self.view_is)

pub returns-clause-rest : goal.returns-clause-rest
returns-clause-rest c =
    omega (arith, length-bits_of c.self.inside.bytes.now, ap (λ (e : EyeState). length e.bits) c.self.view_is, ap (λ (e : EyeState). e.place) c.self.view_is)
