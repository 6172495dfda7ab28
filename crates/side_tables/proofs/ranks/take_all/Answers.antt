use Rattle.side_tables.specs.Rows.{names}
use Rattle.side_tables.proofs.Claimed.{HasReached-more, TakesRank-then}
use Rattle.side_tables.proofs.ranks.take_all.Goals as goal

pub loop-reached-preserved : goal.loop-reached-preserved
loop-reached-preserved c =
    let claim = c.args.claim.now in
    let kept = c.loop-reached.invariant in
    let visited = c.visit-reached.ensures in
    record {
      takes = TakesRank-then (names claim.span) claim.rank c.args.cells.now c.loop-reached.cells c.visit-reached.new.cells kept.takes visited.takes;
      runs = visited.cells.runs;
      numbers = kept.numbers;
      past = HasReached-more claim c.loop-reached.cells c.visit-reached.new.cells c.loop-reached.reached c.in-Some.t c.visit-reached.result kept.past visited.takes c.in-Some.ensures.named c.in-Some.ensures.first visited.holds;
    }
