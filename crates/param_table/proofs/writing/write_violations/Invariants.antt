use Rattle.std.proofs.Common.{◌≡◌, ◌≤◌, length, take}
use Rattle.desk_ports.specs.declared.desk.Outlet.TheVariants as outlet
use Rattle.desk_ports.specs.Meanings.{IsReadyOut}
use Rattle.desk_ports.specs.Courses.{to_report}
use Rattle.desk_ports.proofs.Steps.{HasWritten}
use Rattle.param_table.specs.Texts.{packet_violations, violation_rows}
use Rattle.param_table.proofs.writing.write_violations.Given as goal

-- the rows of the first columns were written, and nothing else happened
abbrev pub invariant-loop-column : goal.invariant-loop-column
invariant-loop-column g l = record {
  written : HasWritten g.D.Desk.meaning g.D.Desk.counts l.fn.desk l.desk (to_report (violation_rows (packet_violations (take l.column-index l.columns) (l.t, l.packet))));
  ready : IsReadyOut (g.D.Desk.meaning l.desk) outlet.Report;
  found : l.found ≡ length (packet_violations (take l.column-index l.columns) (l.t, l.packet));
  few : l.found ≤ l.column-index;
}
