use Rattle.std.proofs.Common.{◌≡◌, map, drop}
use Rattle.pocket_cmd.specs.Verbs.{view_row, kind_of}
use Rattle.pocket_cmd.proofs.verbs.row_of.Given as goal

abbrev pub invariant-loop-row : goal.invariant-loop-row
invariant-loop-row l = kind_of (map view_row (drop l.row-index l.rows)) l.key ≡ kind_of (map view_row l.rows) l.key
