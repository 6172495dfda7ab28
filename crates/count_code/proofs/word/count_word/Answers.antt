use Rattle.std.proofs.Common.{◌≡◌, ◌+◌, ◌-◌, ◌*◌, ◌%◌, ◌^◌, ◌<◌, ◌≤◌, ◌++◌, ℕ, Bool, List, refl, ap, ◌∙◌, arith}
use Rattle.bit_vectors.specs.Vectors.{number_bits}
use Rattle.std.proofs.lemmas.Nat.{shl_whole, pow-add}
use Rattle.std.proofs.Math.Nat.{pow-le-pow_right}
use Rattle.bit_vectors.proofs.NumberBits.{number_bits-cat}
use Rattle.count_code.proofs.CountWords.{zero_in_one, six_in_three, seven_in_three, count_bits-one, count_bits-short, count_bits-long}
use Rattle.count_code.proofs.word.count_word.Goals as goal
use Rattle.count_code.proofs.word.count_word.Goals.{After-number_width-width}

pub returns-in-1-clause-bits : goal.returns-in-1-clause-bits
returns-in-1-clause-bits c = rw (c.in-1.is, count_bits-one) zero_in_one

pub returns-in-2-to-33-clause-bits : goal.returns-in-2-to-33-clause-bits
returns-in-2-to-33-clause-bits c =
    rw (count_bits-short c.args.a (omega arith) (omega arith))
    (number_bits-cat 3 5 6 (c.args.a - 2) (omega arith) ∙ ap (λ (front : List Bool). front ++ number_bits 5 (c.args.a - 2)) six_in_three)

-- three ones above the given number of bits
three_ones : (width : ℕ) → width ≤ 26 → 7 * 2 ^ width % 2 ^ 32 ≡ 7 * 2 ^ width
three_ones width most = shl_whole 7 3 width 32 (omega arith) (omega arith)

below : (width n : ℕ) → n < 2 ^ width → 7 * 2 ^ width + n < 2 ^ (3 + width)
below width n lt = rw (pow-add 2 3 width) (omega arith)

pub overflow_add-result-in_default : goal.overflow_add-result-in_default
overflow_add-result-in_default c =
    omega (arith, three_ones c.number_width-width.result c.number_width-width.ensures.most, c.number_width-width.ensures.fits, pow-le-pow_right {n = 2} (omega arith) {i = c.number_width-width.result} {j = 26} c.number_width-width.ensures.most)

pub returns-in_default-clause-bits : goal.returns-in_default-clause-bits
returns-in_default-clause-bits c =
    rw (three_ones c.number_width-width.result c.number_width-width.ensures.most, number_bits-cat 3 c.number_width-width.result 7 (c.args.a - 2) c.number_width-width.ensures.fits, count_bits-long c.args.a (omega arith), seven_in_three, c.number_width-width.ensures.width) refl

pub returns-in_default-clause-fits : goal.returns-in_default-clause-fits
returns-in_default-clause-fits c =
    rw (three_ones c.number_width-width.result c.number_width-width.ensures.most) (below c.number_width-width.result (c.args.a - 2) c.number_width-width.ensures.fits)
