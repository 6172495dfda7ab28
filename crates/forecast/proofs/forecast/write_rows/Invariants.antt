use Rattle.std.proofs.Common.{◌≡◌, ◌++◌}
use Rattle.desk_ports.specs.declared.desk.Outlet.TheVariants as outlet
use Rattle.desk_ports.specs.Meanings.{IsReadyOut}
use Rattle.desk_ports.specs.Courses.{to_output}
use Rattle.desk_ports.proofs.Steps.{HasWritten}
use Rattle.forecast.specs.Prospects.{fate_of}
use Rattle.forecast.specs.Outlooks.{foresees, rows_at, header_row}
use Rattle.forecast.proofs.forecast.write_rows.Given as goal

-- the first line and those of the stretches that have ended were written, and nothing else happened
abbrev pub invariant-loop : goal.invariant-loop
invariant-loop g l = record {
  written : HasWritten g.D.Desk.meaning g.D.Desk.counts l.fn.desk l.desk (to_output (header_row ++ rows_at (fate_of (foresees l.fn.running.outlook)) l.counter));
  ready : IsReadyOut (g.D.Desk.meaning l.desk) outlet.Main;
  running : l.running ≡ record { packets = l.counter; outlook = l.fn.running.outlook };
}
