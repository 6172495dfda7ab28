use Rattle.std.proofs.Common.{◌≡◌, drop}
use Rattle.std.specs.List.{list_any}
use Rattle.param_table.specs.Rows.{names_limit}
use Rattle.param_table.proofs.grammar.has_limit.Given as goal

abbrev pub invariant-loop-row : goal.invariant-loop-row
invariant-loop-row l = list_any (names_limit l.name) (drop l.row-index l.rows) ≡ list_any (names_limit l.name) l.rows
