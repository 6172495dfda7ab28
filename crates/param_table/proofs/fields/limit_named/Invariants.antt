use Rattle.std.proofs.Common.{◌≡◌, drop}
use Rattle.param_table.specs.Rows.{limit_named}
use Rattle.param_table.proofs.fields.limit_named.Given as goal

abbrev pub invariant-loop-row : goal.invariant-loop-row
invariant-loop-row l = limit_named (drop l.row-index l.limits) l.name ≡ limit_named l.limits l.name
