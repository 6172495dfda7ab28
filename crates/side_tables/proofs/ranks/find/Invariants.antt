use Rattle.std.proofs.Common.{◌≡◌, length, take}
use Rattle.side_tables.specs.Ranks.{RunsHold}
use Rattle.side_tables.proofs.Claimed.{AreClaimed, HaveRanks}
use Rattle.side_tables.proofs.ranks.find.Given as goal

abbrev pub invariant-loop-claim : goal.invariant-loop-claim
invariant-loop-claim l = record {
  len : length l.cells ≡ length l.fn.cells;
  runs : RunsHold l.cells;
  claimed : AreClaimed l.claims l.base l.cells;
  ranks : HaveRanks (take l.claim-index l.claims) l.base l.cells;
}
