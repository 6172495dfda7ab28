use Rattle.std.proofs.Common.{◌≡◌, ◌-◌, length}
use Rattle.side_tables.specs.Ranks.{RunsHold, TakesRank}
use Rattle.side_tables.specs.Rows.{names}
use Rattle.side_tables.proofs.Claimed.{HasReached}
use Rattle.side_tables.proofs.ranks.take_all.Given as goal

abbrev pub invariant-loop-reached : goal.invariant-loop-reached
invariant-loop-reached l = record {
  takes : TakesRank (names l.claim.span) l.claim.rank l.initial.cells l.cells;
  runs : RunsHold l.cells;
  numbers : l.numbers ≡ length l.initial.cells;
  past : HasReached l.claim l.cells l.reached;
}

abbrev pub decreases-loop-reached : goal.decreases-loop-reached
decreases-loop-reached l = l.numbers - l.reached
