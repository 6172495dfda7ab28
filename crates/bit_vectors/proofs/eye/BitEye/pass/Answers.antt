use Rattle.std.proofs.Common.{◌≡◌, ◌≤◌, ◌+◌, ◌*◌, ℕ, List, length, drop, ap, arith}
use Rattle.std.proofs.lemmas.List.{length-drop}
use Rattle.bit_vectors.specs.Vectors.{bits_of}
use Rattle.bit_vectors.specs.Reading.{EyeState}
use Rattle.bit_vectors.proofs.NumberBits.{length-bits_of}
use Rattle.bit_vectors.proofs.eye.BitEye.pass.Goals as goal

-- the place after them is within the bytes
within : (bytes : List ℕ) (place width : ℕ) (eye : EyeState) → record { bits = bits_of bytes; place = place } ≡ eye → place ≤ 8 * length bytes → width ≤ length (drop eye.place eye.bits) → place + width ≤ 8 * length bytes
within bytes place width eye view inside le =
    omega (arith, length-drop eye.place eye.bits, length-bits_of bytes, ap (λ (e : EyeState). length e.bits) view, ap (λ (e : EyeState). e.place) view)

pub overflow_add-self : goal.overflow_add-self
overflow_add-self c = omega (arith, within c.self.inside.bytes.now c.self.inside.place c.args.width c.args.self.now c.self.view_is c.self.invariant.1 c.requires, c.self.invariant.0)

pub invariant_of-self : goal.invariant_of-self
invariant_of-self c = (c.self.invariant.0, within c.self.inside.bytes.now c.self.inside.place c.args.width c.args.self.now c.self.view_is c.self.invariant.1 c.requires, c.self.invariant.2)
