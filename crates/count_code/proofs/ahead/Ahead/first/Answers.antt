use Rattle.std.proofs.Common.{◌≡◌, ◌-◌, ◌/◌, ◌^◌, ◌≤◌, ℕ, Bool, List, take, sym, ap, ◌∙◌, arith}
use Rattle.bit_vectors.specs.Vectors.{number_bits}
use Rattle.bit_vectors.proofs.WordBytes.{shown_first}
use Rattle.count_code.specs.Counts.{AreAhead}
use Rattle.count_code.specs.declared.ahead.Ahead.{Ahead}
use Rattle.count_code.proofs.CountWords.{count_bits-one, zero_in_one, two_in_two}
use Rattle.count_code.proofs.ahead.Ahead.first.Goals as goal

-- the first bits, as a number
front : (bits : List Bool) (ahead : Ahead) (width : ℕ) → AreAhead bits ahead → width ≤ ahead.shown → take width bits ≡ number_bits width (ahead.word / 2 ^ (64 - width))
front bits ahead width are le =
    sym (shown_first bits ahead.word width (λ k lt. are.shows k (omega (arith, lt, le))) (omega (arith, le, are.most)) (omega (arith, le, are.within)))

pub returns-then-limit-ge1-clause-word : goal.returns-then-limit-ge1-clause-word
returns-then-limit-ge1-clause-word c =
    λ bits are. front bits c.args.self 1 are c.if-self-ge1.true ∙ ap (number_bits 1) c.if-self-eq0.true ∙ zero_in_one ∙ sym count_bits-one

pub returns-then-self-ge2-clause-word : goal.returns-then-self-ge2-clause-word
returns-then-self-ge2-clause-word c =
    λ bits are. front bits c.args.self 2 are c.if-self-ge2.true ∙ ap (number_bits 2) c.if-self-eq2.true ∙ two_in_two

pub returns-then-self-word-clause-word : goal.returns-then-self-word-clause-word
returns-then-self-word-clause-word c =
    λ bits are. front bits c.args.self c.count_word-word.result.width are c.if-word-self.true ∙ ap (number_bits c.count_word-word.result.width) (c.if-self-word.true ∙ c.from.ensures) ∙ c.count_word-word.ensures.bits
