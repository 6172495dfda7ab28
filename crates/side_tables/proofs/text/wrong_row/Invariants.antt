use Rattle.std.proofs.Common.{All}
use Rattle.side_tables.proofs.text.wrong_row.Given as goal

abbrev pub invariant-records : goal.invariant-records
invariant-records g l = All (g.G.RowGrammar.is_right l.fn.grammar) l.rows.items
