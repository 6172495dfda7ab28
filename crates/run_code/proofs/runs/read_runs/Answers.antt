use Rattle.std.proofs.Common.{◌≡◌, ◌∙◌, ◌-◌, suc, true, length, arith}
use Rattle.std.proofs.lemmas.List.{length-replicate, length-set}
use Rattle.std.proofs.lemmas.Result.{err_from_is_err_and}
use Rattle.bit_vectors.specs.Reading.{bits_left}
use Rattle.bit_vectors.proofs.ExactReading.{MovesOn-refl, MovesOn-then}
use Rattle.run_code.proofs.RunWords.{parse_ones-value, parse_ones-end, parse_ones-fault, vector_at_is}
use Rattle.run_code.proofs.runs.read_runs.Goals as goal

pub loop-distance-init : goal.loop-distance-init
loop-distance-init c =
    let cleared = c.clear.ensures in
    let len : length c.clear.new.self ≡ length c.args.into.now = rw cleared (length-replicate (length c.args.into.now) _) in
    record {
      within = omega arith;
      places = len;
      moves = MovesOn-refl c.args.eye.now;
      ahead = c.none-ahead.ensures (bits_left c.args.eye.now);
      same = (suc (length c.args.into.now), omega (arith, c.len-below.ensures.len), rw (c.len-below.ensures.len, len, cleared) (vector_at_is (length c.args.into.now) (bits_left c.args.eye.now)));
    }

pub returns-in_err-distance-clause-reading : goal.returns-in_err-distance-clause-reading
returns-in_err-distance-clause-reading c =
    let p = err_from_is_err_and c.from_residual.result c.from_residual.ensures.1 in
    let i = c.loop-distance.invariant in
    rw (p.1, p.2, i.same.2) (parse_ones-fault (λ (u : Unit {0}). c.loop-distance.into) i.same.0 c.loop-distance.below c.loop-distance.into (bits_left c.loop-distance.eye) c.in_err-distance.field-0.0 c.take_count_with.new.eye i.same.1 c.in_err-distance.ensures.reading)

pub loop-distance-preserved : goal.loop-distance-preserved
loop-distance-preserved c =
    let i = c.loop-distance.invariant in
    let word = rw c.in-Value.is at c.in_ok-distance.ensures.word in
    let read = rw c.in-Value.is at c.in_ok-distance.ensures.reading in
    let next = parse_ones-value i.same.0 c.loop-distance.below c.loop-distance.into (bits_left c.loop-distance.eye) c.in-Value.distance (bits_left c.take_count_with.new.eye) i.same.1 word.0.0 word.0.1 read in
    record {
      within = rw c.set.ensures (omega (arith, i.within, length-set c.loop-distance.into (c.loop-distance.below - c.in-Value.distance) true));
      places = rw c.set.ensures (length-set c.loop-distance.into (c.loop-distance.below - c.in-Value.distance) true ∙ i.places);
      moves = MovesOn-then c.args.eye.now c.loop-distance.eye c.take_count_with.new.eye i.moves c.in_ok-distance.ensures.moves;
      ahead = c.take_count_with.ensures.ahead;
      same = (next.0, next.1, i.same.2 ∙ rw c.set.ensures next.2);
    }

pub returns-clause-reading : goal.returns-clause-reading
returns-clause-reading c =
    let i = c.loop-distance.invariant in
    let read = rw c.in_default.is at c.in_ok-distance.ensures.reading in
    i.same.2 ∙ parse_ones-end i.same.0 c.loop-distance.below c.loop-distance.into (bits_left c.loop-distance.eye) (bits_left c.take_count_with.new.eye) i.same.1 read
