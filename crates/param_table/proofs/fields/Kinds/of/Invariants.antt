use Rattle.std.proofs.Common.{◌≡◌}
use Rattle.std.specs.List.{filter_map}
use Rattle.param_table.specs.Rows.{field_of, limit_of}
use Rattle.param_table.proofs.fields.Kinds.of.Given as goal

abbrev pub invariant-loop-row : goal.invariant-loop-row
invariant-loop-row l = record {
  fields : l.kinds.fields.items ≡ filter_map field_of l.yielded;
  limits : l.kinds.limits.items ≡ filter_map limit_of l.yielded;
}
