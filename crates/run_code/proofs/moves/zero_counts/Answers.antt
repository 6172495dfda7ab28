use Rattle.std.proofs.Common.{arith}
use Rattle.run_code.proofs.BitMoves.{first_marks, next_marks, count_of, marks_below, last_count, each_level, each_fits}
use Rattle.run_code.proofs.moves.zero_counts.Goals as goal

pub returns : goal.returns
returns c =
    let at = c.args.at in
    let marks_0 = first_marks at (omega (arith, c.ranges.at)) in
    let count_0 = count_of at 0 _ c.summed-ones.result marks_0 c.summed-ones.ensures in
    let marks_1 = next_marks at 0 _ c.summed-ones.result c.summed-ones.type_inv marks_0 count_0 in
    let count_1 = count_of at 1 _ c.summed-twos.result marks_1 c.summed-twos.ensures in
    let marks_2 = next_marks at 1 _ c.summed-twos.result c.summed-twos.type_inv marks_1 count_1 in
    let count_2 = count_of at 2 _ c.summed-fours.result marks_2 c.summed-fours.ensures in
    let marks_3 = next_marks at 2 _ c.summed-fours.result c.summed-fours.type_inv marks_2 count_2 in
    let count_3 = count_of at 3 _ c.summed-eights.result marks_3 c.summed-eights.ensures in
    let marks_4 = next_marks at 3 _ c.summed-eights.result c.summed-eights.type_inv marks_3 count_3 in
    let count_4 = count_of at 4 _ c.summed-sixteens.result marks_4 c.summed-sixteens.ensures in
    let marks_5 = next_marks at 4 _ c.summed-sixteens.result c.summed-sixteens.type_inv marks_4 count_4 in
    let count_5 = last_count at _ c.wrapping_neg.result (marks_below _ c.summed-sixteens.result) marks_5 c.wrapping_neg.type_inv c.wrapping_neg.ensures in
    record {
      small = omega (arith, c.ranges.at);
      bits = each_level at _ _ _ _ _ _ count_0 count_1 count_2 count_3 count_4 count_5;
      fits = each_fits _ _ _ _ _ _ c.summed-ones.type_inv c.summed-twos.type_inv c.summed-fours.type_inv c.summed-eights.type_inv c.summed-sixteens.type_inv c.wrapping_neg.type_inv;
    }
