use Rattle.std.proofs.Common.{◌-◌, ◌%◌, bit_and, arith, refl, sym, ◌∙◌}
use Rattle.std.proofs.lemmas.Nat.{and_le_r}
use Rattle.bit_vectors.specs.Vectors.{number_bits}
use Rattle.run_code.proofs.Gathering.{word_extract}
use Rattle.run_code.proofs.Spreading.{step_inside, step_clear, step_others, step_off, step_bit}
use Rattle.run_code.proofs.Upward.{bits_up_is, spread_up_bits, none_left_up, number_up}
use Rattle.std.proofs.lemmas.Nat.Bits.{bit_at_and, bit_at-lt}
use Rattle.run_code.proofs.words.spread_up.Goals as goal

pub loop-rest-preserved : goal.loop-rest-preserved
loop-rest-preserved c =
    let i = c.loop-rest.invariant in
    record {
      small = omega (arith, and_le_r c.loop-rest.rest (c.loop-rest.rest - 1), i.small);
      inside = λ w none. step_inside c.loop-rest.made (c.loop-rest.next % 2) c.loop-rest.rest (omega arith) i.small (omega arith) i.clear c.args.at w (i.inside w) none;
      clear = step_clear c.loop-rest.made (c.loop-rest.next % 2) c.loop-rest.rest (omega arith) i.small (omega arith) i.clear;
      others = step_others c.loop-rest.made (c.loop-rest.next % 2) c.loop-rest.rest (omega arith) i.small (omega arith) i.clear 0 c.args.at i.inside i.others;
      right = λ new same bits. i.right new
          (λ w none. step_off c.loop-rest.made (c.loop-rest.next % 2) c.loop-rest.rest (omega arith) i.small (omega arith) i.clear new w same none)
          (spread_up_bits c.loop-rest.next c.loop-rest.rest (word_extract new c.loop-rest.rest) (word_extract new (bit_and c.loop-rest.rest (c.loop-rest.rest - 1))) (omega arith) i.small
          (step_bit c.loop-rest.made (c.loop-rest.next % 2) c.loop-rest.rest (omega arith) i.small (omega arith) i.clear new same) bits);
    }

pub returns-clause-bits : goal.returns-clause-bits
returns-clause-bits c =
    sym (bits_up_is (number_bits 64 c.loop-rest.made) (number_bits 64 c.args.at))
    ∙ c.loop-rest.invariant.right c.loop-rest.made (λ w none. refl) (none_left_up c.loop-rest.made c.loop-rest.next c.loop-rest.rest (omega arith))

pub returns-then-ones-gt-MANY-clause-bits : goal.returns-then-ones-gt-MANY-clause-bits
returns-then-ones-gt-MANY-clause-bits c =
    number_up (bit_and c.unpacked_once.result c.args.at) c.args.at c.args.number (omega (arith, c.ranges.at))
    (λ i lt one. sym (bit_at_and c.unpacked_once.result c.args.at i ∙ omega (arith, one, bit_at-lt c.unpacked_once.result i) ∙ c.unpacked_once.ensures i lt one))

pub returns-then-ones-gt-MANY-clause-others : goal.returns-then-ones-gt-MANY-clause-others
returns-then-ones-gt-MANY-clause-others c i none = bit_at_and c.unpacked_once.result c.args.at i ∙ omega (arith, none)
