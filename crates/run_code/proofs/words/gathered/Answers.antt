use Rattle.std.proofs.Common.{◌+◌, ◌-◌, ◌*◌, ◌^◌, refl, arith}
use Rattle.std.specs.Int.RustNames.{count_ones}
use Rattle.std.proofs.lemmas.Nat.{and_le_r}
use Rattle.bit_vectors.specs.Vectors.{bits_number}
use Rattle.run_code.proofs.Gathering.{word_extract, length-word_extract, gathered_more, gathered_small, gathered_all, gathered_fits}
use Rattle.run_code.proofs.words.gathered.Goals as goal

pub loop-rest-init : goal.loop-rest-init
loop-rest-init c = record {
  small = omega (arith, c.ranges.at);
  total = rw (length-word_extract c.args.bits c.args.at (omega (arith, c.ranges.at))) refl;
}

pub overflow_mul-gathered : goal.overflow_mul-gathered
overflow_mul-gathered c =
    omega (arith, gathered_small c.args.bits c.loop-rest.rest c.loop-rest.gathered (c.args.held * 2 ^ count_ones c.args.at + bits_number (word_extract c.args.bits c.args.at)) (omega arith) c.loop-rest.invariant.small (gathered_fits c.args.held c.args.bits c.args.at (omega (arith, c.ranges.at)) c.requires.fits) c.loop-rest.invariant.total)

pub overflow_add-gathered : goal.overflow_add-gathered
overflow_add-gathered c =
    omega (arith, gathered_small c.args.bits c.loop-rest.rest c.loop-rest.gathered (c.args.held * 2 ^ count_ones c.args.at + bits_number (word_extract c.args.bits c.args.at)) (omega arith) c.loop-rest.invariant.small (gathered_fits c.args.held c.args.bits c.args.at (omega (arith, c.ranges.at)) c.requires.fits) c.loop-rest.invariant.total)

pub loop-rest-preserved : goal.loop-rest-preserved
loop-rest-preserved c = record {
  small = omega (arith, and_le_r c.loop-rest.rest (c.loop-rest.rest - 1), c.loop-rest.invariant.small);
  total = gathered_more c.args.bits c.loop-rest.rest c.loop-rest.gathered (c.args.held * 2 ^ count_ones c.args.at + bits_number (word_extract c.args.bits c.args.at)) (omega arith) c.loop-rest.invariant.small c.loop-rest.invariant.total;
}

pub returns : goal.returns
returns c = gathered_all c.args.bits c.loop-rest.rest c.loop-rest.gathered (c.args.held * 2 ^ count_ones c.args.at + bits_number (word_extract c.args.bits c.args.at)) (omega arith) c.loop-rest.invariant.total
