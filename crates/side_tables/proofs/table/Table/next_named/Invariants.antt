use Rattle.std.proofs.Common.{◌≡◌, ℕ, ◌<◌, ◌≤◌, false, All, take}
use Rattle.side_tables.specs.Rows.{names}
use Rattle.side_tables.proofs.table.Table.next_named.Given as goal

-- from the number asked for, up to this one, no row so far names a number
abbrev pub invariant-loop-row : goal.invariant-loop-row
invariant-loop-row g l = record {
  least : l.t ≤ l.next;
  none : (n : ℕ) → l.t ≤ n → n < l.next → All (λ row. names (g.R.TableRow.span_of row) n ≡ false) (take l.row-index l.row-items);
}
