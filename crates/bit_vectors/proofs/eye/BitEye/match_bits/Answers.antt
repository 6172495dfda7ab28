use Rattle.std.proofs.Common.{◌≡◌, ℕ, ◌+◌, ◌-◌, ◌<◌, ◌/◌, ◌^◌, ◌∷◌, eqb, bit_and, refl, ap, ◌∙◌, arith}
use Rattle.std.proofs.lemmas.Nat.Bits.{shr_and_one}
use Rattle.std.proofs.lemmas.Result.{err_from_is_err_and}
use Rattle.bit_vectors.specs.Vectors.{number_bits}
use Rattle.bit_vectors.specs.Reading.{bits_left}
use Rattle.bit_vectors.proofs.NumberBits.{number_bits-more}
use Rattle.bit_vectors.proofs.ExactReading.{MovesOn-then, parse_word-none, parse_word-more, parse_word-fault}
use Rattle.bit_vectors.proofs.eye.BitEye.match_bits.Goals as goal

-- the bit of the next weight, and the bits below it
next_bit : (value weight : ℕ) → 0 < weight → number_bits weight value ≡ eqb (bit_and (value / 2 ^ (weight - 1)) 1) 1 ∷ number_bits (weight - 1) value
next_bit value weight some =
    let one_more : weight ≡ weight - 1 + 1 = omega arith in
    ap (λ (w : ℕ). number_bits w value) one_more ∙ number_bits-more (weight - 1) value ∙ rw (shr_and_one value (weight - 1)) refl

pub loop-weight-preserved : goal.loop-weight-preserved
loop-weight-preserved c =
    let i = c.loop-weight.invariant in
    record {
      moves = MovesOn-then c.args.self.now c.loop-weight.self c.take_allowed.new.self i.moves c.in_ok-take_allowed.ensures.moves;
      same = i.same ∙ rw (next_bit c.args.value c.loop-weight.weight c.loop-weight-test.true) (parse_word-more _ c.in_ok-take_allowed.field-0 (number_bits (c.loop-weight.weight - 1) c.args.value) (bits_left c.loop-weight.self) (bits_left c.take_allowed.new.self) c.in_ok-take_allowed.ensures.reading);
    }

pub returns-in_err-take_allowed-clause-reading : goal.returns-in_err-take_allowed-clause-reading
returns-in_err-take_allowed-clause-reading c =
    let p = err_from_is_err_and c.from_residual.result c.from_residual.ensures.1 in
    rw (p.1, p.2, c.loop-weight.invariant.same, next_bit c.args.value c.loop-weight.weight c.loop-weight-test.true)
    (parse_word-fault _ (number_bits (c.loop-weight.weight - 1) c.args.value) c.loop-weight.self c.take_allowed.new.self c.in_err-take_allowed.field-0.0 c.in_err-take_allowed.ensures.reading)

pub returns-clause-reading : goal.returns-clause-reading
unfolding number_bits
returns-clause-reading c =
    let done : c.loop-weight.weight ≡ 0 = omega arith in
    c.loop-weight.invariant.same ∙ rw done (parse_word-none (bits_left c.loop-weight.self))
