use Rattle.std.proofs.Common.{◌≡◌, ℕ, ◌+◌, ◌-◌, ◌*◌, ◌%◌, ◌^◌, ◌<◌, ◌≤◌, length, take, sym, ap, ◌∙◌, arith, eq-eqb}
use Rattle.std.proofs.lemmas.Bool.{eqb-true, leb-true}
use Rattle.std.proofs.lemmas.List.{length-take}
use Rattle.std.proofs.lemmas.Nat.{one_shl, pow_pos, shr_below}
use Rattle.std.proofs.Math.Nat.{mod-eq_of_lt}
use Rattle.bit_vectors.specs.Vectors.{number_bits, bits_number}
use Rattle.bit_vectors.specs.Reading.{bits_left}
use Rattle.bit_vectors.proofs.NumberBits.{length-number_bits, bits_number-number_bits, number_bits-mod}
use Rattle.bit_vectors.proofs.WordBytes.{shown_front}
use Rattle.bit_vectors.proofs.eye.BitEye.comes_next.Goals as goal
use Rattle.bit_vectors.proofs.eye.BitEye.comes_next.Goals.{After-from}

power : (width : ℕ) → width ≤ 32 → 1 * 2 ^ width % 2 ^ 64 ≡ 2 ^ width
power width most = one_shl width 64 (omega arith)

pub nonzero_rem-result : goal.nonzero_rem-result
nonzero_rem-result c = omega (arith, power c.args.width c.requires, pow_pos c.args.width)

same_bits : (width n m : ℕ) → n ≡ m % 2 ^ width → number_bits width n ≡ number_bits width m
same_bits width n m e = ap (number_bits width) e ∙ number_bits-mod width width m (omega arith)

same_number : (width n m : ℕ) → n < 2 ^ width → number_bits width n ≡ number_bits width m → n ≡ m % 2 ^ width
same_number width n m below e =
    sym (mod-eq_of_lt below) ∙ sym (bits_number-number_bits width n) ∙ ap bits_number e ∙ bits_number-number_bits width m

pub returns-then-width-left-clause-next : goal.returns-then-width-left-clause-next
returns-then-width-left-clause-next c =
    let w = c.args.width in
    let all : c.args.width + (64 - c.args.width) ≡ 64 = omega (arith, c.requires) in
    let shown : number_bits c.args.width c.high_bits.result ≡ take c.args.width (bits_left c.args.self.now) =
    rw c.high_bits.ensures (shown_front (bits_left c.args.self.now) c.ahead.result c.args.width c.ahead.ensures (omega (arith, c.requires)) (omega (arith, c.left.ensures.left))) in
    let below : c.high_bits.result < 2 ^ c.args.width = rw c.high_bits.ensures (shr_below c.ahead.result c.args.width (64 - c.args.width) (rw all c.ahead.type_inv)) in
    rw (power c.args.width c.requires, c.from.ensures)
    (λ t. sym shown ∙ same_bits c.args.width c.high_bits.result c.args.value (eqb-true _ _ t), λ e. eq-eqb _ _ (same_number c.args.width c.high_bits.result c.args.value below (shown ∙ e)))

pub returns-else-width-left-clause-next : goal.returns-else-width-left-clause-next
returns-else-width-left-clause-next c =
    let short : length (bits_left c.args.self.now) < c.args.width = omega (arith, c.left.ensures.left) in
    (λ t. absurd (omega (arith, leb-true _ _ t)), λ e. absurd (omega (arith, length-take c.args.width (bits_left c.args.self.now), length-number_bits c.args.width c.args.value, ap length e)))
