use Rattle.std.proofs.Common.{◌≡◌, ◌+◌, ◌*◌, ◌≤◌, ◌++◌, length, drop, codes}
use Rattle.std.specs.List.{flat_map}
use Rattle.param_table.specs.Texts.{comma_name}
use Rattle.param_table.proofs.texts.put_names.Given as goal

abbrev pub invariant-loop-index : goal.invariant-loop-index
invariant-loop-index l = record {
  within : l.index ≤ length l.columns;
  text : l.line ≡ flat_map comma_name (drop l.index l.columns) ++ codes "\n";
  room : length l.line + 33 * l.index ≤ 8449;
}
