use Rattle.std.proofs.Common.{◌≡◌, map, drop}
use Rattle.std.specs.String.{string_bytes}
use Rattle.pocket_cmd.specs.Verbs.{view_row}
use Rattle.pocket_cmd.specs.Words.{is_missing}
use Rattle.pocket_cmd.proofs.words.is_missing.Given as goal

abbrev pub invariant-loop-row : goal.invariant-loop-row
invariant-loop-row l = is_missing (map view_row (drop l.row-index l.rows)) (map string_bytes l.words) ≡ is_missing (map view_row l.rows) (map string_bytes l.words)
