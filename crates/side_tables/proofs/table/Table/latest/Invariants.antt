use Rattle.std.proofs.Common.{◌≡◌, take, IfSome}
use Rattle.side_tables.specs.Rows.{last_row}
use Rattle.side_tables.proofs.table.Table.latest.Given as goal

abbrev pub invariant-loop-row : goal.invariant-loop-row
invariant-loop-row g l = record {
  row : l.latest ≡ last_row g.R.TableRow.span_of (take l.row-index l.row-items) l.t;
  right : IfSome l.latest g.R.TableRow.is_right;
}
