use Rattle.std.proofs.Common.{take}
use Rattle.side_tables.proofs.RowKinds.{AreOfKinds}
use Rattle.side_tables.proofs.schedule.Schedule.of_rows.Given as goal

abbrev pub invariant-loop-row : goal.invariant-loop-row
invariant-loop-row l = AreOfKinds (take l.row-index l.rows) l.flags.items l.robust.items
