use Rattle.std.proofs.Common.{◌-◌, ◌<◌, w64, arith, ◌∙◌, sym}
use Rattle.std.specs.Int.{bit_at, trailing_zeros}
use Rattle.std.specs.Prelude.{reverse}
use Rattle.bit_vectors.specs.Vectors.{number_bits}
use Rattle.std.proofs.lemmas.List.{append-nil}
use Rattle.std.proofs.lemmas.Nat.{and_le_r, ones-le}
use Rattle.std.proofs.lemmas.Nat.Bits.{shr_and_one, bit_at-lt}
use Rattle.run_code.proofs.Gathering.{word_extract, ones-lowest}
use Rattle.run_code.proofs.Upward.{above_small, gathered_up_more, gathered_up_all, number_up}
use Rattle.run_code.proofs.words.gathered_up.Goals as goal

pub loop-rest-init : goal.loop-rest-init
unfolding number_bits
loop-rest-init c = record { small = omega (arith, c.ranges.at); count = omega arith; fits = omega arith; bits = append-nil (reverse (word_extract c.args.bits c.args.at)) }

pub overflow_shl-gathered : goal.overflow_shl-gathered
overflow_shl-gathered c = omega (arith, c.loop-rest.invariant.count, ones-lowest c.loop-rest.rest (omega arith) c.loop-rest.invariant.small, ones-le 64 c.args.at (omega (arith, c.ranges.at)))

pub loop-rest-preserved : goal.loop-rest-preserved
loop-rest-preserved c =
    let i = c.loop-rest.invariant in
    let t = trailing_zeros w64 c.loop-rest.rest in
    let fewer = ones-lowest c.loop-rest.rest (omega arith) i.small in
    let within : c.loop-rest.taken < 64 = omega (arith, i.count, fewer, ones-le 64 c.args.at (omega (arith, c.ranges.at))) in
    record {
      small = omega (arith, and_le_r c.loop-rest.rest (c.loop-rest.rest - 1), i.small);
      count = omega (arith, i.count, fewer);
      fits = rw (shr_and_one c.args.bits t) (above_small (bit_at c.args.bits t) c.loop-rest.taken c.loop-rest.gathered (bit_at-lt c.args.bits t) within i.fits);
      bits = gathered_up_more c.args.bits c.loop-rest.rest c.loop-rest.gathered c.loop-rest.taken (omega arith) i.small within i.fits ∙ i.bits;
    }

pub returns-clause-bits : goal.returns-clause-bits
returns-clause-bits c =
    gathered_up_all c.args.bits c.loop-rest.rest c.loop-rest.taken c.loop-rest.gathered c.args.at (omega arith) c.loop-rest.invariant.count c.loop-rest.invariant.bits

pub returns-then-ones-gt-MANY-clause-bits : goal.returns-then-ones-gt-MANY-clause-bits
returns-then-ones-gt-MANY-clause-bits c = sym (number_up c.args.bits c.args.at c.packed_once.result (omega (arith, c.ranges.at)) c.packed_once.ensures.bits)
