use Rattle.std.proofs.Common.{◌≡◌, drop}
use Rattle.std.specs.List.{list_any}
use Rattle.param_table.specs.Rows.{names_field}
use Rattle.param_table.proofs.grammar.has_field.Given as goal

abbrev pub invariant-loop-row : goal.invariant-loop-row
invariant-loop-row l = list_any (names_field l.name) (drop l.row-index l.rows) ≡ list_any (names_field l.name) l.rows
