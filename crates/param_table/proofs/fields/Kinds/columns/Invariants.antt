use Rattle.std.proofs.Common.{◌≡◌, map}
use Rattle.param_table.specs.Rows.{column_of}
use Rattle.param_table.proofs.fields.Kinds.columns.Given as goal

abbrev pub invariant-loop-field : goal.invariant-loop-field
invariant-loop-field l = record {
  columns : l.columns.items ≡ map (column_of l.fn.self.limits.items) l.yielded;
  limits : l.self.limits.items ≡ l.fn.self.limits.items;
}
