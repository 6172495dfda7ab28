use Rattle.std.proofs.Common.{◌<◌, length, false, ap, arith}
use Rattle.std.proofs.lemmas.List.{drop_more}
use Rattle.bit_vectors.specs.Vectors.{bits_of}
use Rattle.bit_vectors.specs.Reading.{EyeState}
use Rattle.bit_vectors.proofs.NumberBits.{length-bits_of}
use Rattle.bit_vectors.proofs.eye.BitEye.take.Goals as goal

pub bit_in-bit-requires : goal.bit_in-bit-requires
bit_in-bit-requires c =
    omega (arith, length-bits_of c.self.inside.bytes.now, ap (λ (e : EyeState). length e.bits) c.self.view_is)

pub invariant_of-self : goal.invariant_of-self
invariant_of-self c =
    (c.self.invariant.0, omega (arith, length-bits_of c.self.inside.bytes.now, ap (λ (e : EyeState). length e.bits) c.self.view_is), c.self.invariant.2)

pub returns-clause-bit : goal.returns-clause-bit
returns-clause-bit c =
    let left : c.self.inside.place < length (bits_of c.self.inside.bytes.now) =
    omega (arith, length-bits_of c.self.inside.bytes.now, ap (λ (e : EyeState). length e.bits) c.self.view_is) in
    rw (← c.self.view_is, c.bit_in-bit.ensures) (drop_more (bits_of c.self.inside.bytes.now) c.self.inside.place false left)
