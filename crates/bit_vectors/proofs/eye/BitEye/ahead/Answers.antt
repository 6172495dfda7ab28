use Rattle.std.proofs.Common.{◌≡◌, ◌+◌, ◌-◌, ◌*◌, ◌/◌, length, drop, subst, ap, arith}
use Rattle.std.proofs.lemmas.List.{length-drop}
use Rattle.bit_vectors.specs.Vectors.{bits_of}
use Rattle.bit_vectors.specs.Reading.{EyeState, bits_left, Shows}
use Rattle.bit_vectors.proofs.NumberBits.{length-bits_of}
use Rattle.bit_vectors.proofs.WordBytes.{Shows-from, Shows-drop}
use Rattle.bit_vectors.proofs.eye.BitEye.ahead.Goals as goal
use Rattle.bit_vectors.proofs.eye.BitEye.ahead.Goals.{Else-self-last}

pub returns-then-self-last : goal.returns-then-self-last
returns-then-self-last c =
    let left : Shows (bits_left (record { bits = bits_of c.self.inside.bytes.now; place = c.self.inside.place })) c.word_after.result =
    Shows-from c.self.inside.bytes.now c.self.inside.place c.word_after.result (length c.self.inside.bytes.now - c.self.inside.place / 8) (omega (arith, c.self.invariant.1)) c.word_after.ensures in
    subst (λ (eye : EyeState). Shows (bits_left eye) c.word_after.result) c.self.view_is left

last_is : (c : Else-self-last) → c.saturating_sub-last.result ≡ 8 * length c.self.inside.bytes.now - 64
last_is c = omega (arith, c.saturating_sub-last.ensures, c.size.ensures.size, length-bits_of c.self.inside.bytes.now, ap (λ (e : EyeState). length e.bits) c.self.view_is)

pub word_left-requires : goal.word_left-requires
word_left-requires c = omega (arith, last_is c, c.self.invariant.1)

pub returns-else-self-last : goal.returns-else-self-last
returns-else-self-last c =
    let bytes = c.self.inside.bytes.now in
    let d = (goal.at.returns-else-self-last c).Else-self-last in
    let place : c.self.inside.place ≡ 8 * (length c.self.inside.bytes.now - 8) + (c.self.inside.place - c.saturating_sub-last.result) = omega (arith, last_is d, c.if-self-last.false) in
    let left : Shows (bits_left (record { bits = bits_of c.self.inside.bytes.now; place = c.self.inside.place })) c.word_left.result =
    Shows-drop c.self.inside.bytes.now (length c.self.inside.bytes.now - 8) (c.self.inside.place - c.saturating_sub-last.result) c.self.inside.place c.word_left.result place
    (c.word_left.ensures (bits_of (drop (length c.self.inside.bytes.now - 8) c.self.inside.bytes.now)) (omega (arith, length-bits_of (drop (length c.self.inside.bytes.now - 8) c.self.inside.bytes.now), length-drop (length c.self.inside.bytes.now - 8) c.self.inside.bytes.now)) c.self.invariant.2) in
    subst (λ (eye : EyeState). Shows (bits_left eye) c.word_left.result) c.self.view_is left
