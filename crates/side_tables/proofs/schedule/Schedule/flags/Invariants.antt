use Rattle.std.proofs.Common.{◌≡◌, take}
use Rattle.side_tables.specs.Rows.{flags_of}
use Rattle.side_tables.proofs.schedule.Schedule.flags.Given as goal

abbrev pub invariant-loop-row : goal.invariant-loop-row
invariant-loop-row l = l.flags ≡ flags_of (take l.row-index l.row-items) l.t
