use Rattle.side_tables.proofs.StreamRows.{AreIndexesBefore}
use Rattle.side_tables.proofs.streams.indexes_of.Given as goal

abbrev pub invariant-loop-index : goal.invariant-loop-index
invariant-loop-index l = AreIndexesBefore l.rows l.index l.indexes.items
