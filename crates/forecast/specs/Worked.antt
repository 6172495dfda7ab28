-- A worked schedule and script.
use Rattle.std.specs.Prelude.{false, true, List, [], ◌∷◌}
use Rattle.side_tables.specs.declared.rows.CopyRow.{CopyRow}
use Rattle.side_tables.specs.Rows.{ScheduleRows}

-- packet 5 carries its mask and its whole content
abbrev pub worked_plan : ScheduleRows
worked_plan = record {
  flags = record { first = 5; last = 5; step = 1; flags = record { p = false; f = true; r = true } } ∷ [];
  robust = [];
}

-- the packets 2 and 3 are lost
abbrev pub worked_script : List CopyRow
worked_script = record { first = 2; last = 3; step = 1; copies = 0 } ∷ []
