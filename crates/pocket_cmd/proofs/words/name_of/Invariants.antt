use Rattle.std.proofs.Common.{◌≡◌, map, drop}
use Rattle.std.specs.String.{string_bytes}
use Rattle.pocket_cmd.specs.Verbs.{view_row}
use Rattle.pocket_cmd.specs.Words.{name_of}
use Rattle.pocket_cmd.proofs.words.name_of.Given as goal

abbrev pub invariant-loop-row : goal.invariant-loop-row
invariant-loop-row l = name_of (map view_row (drop l.row-index l.rows)) (map string_bytes l.words) l.port ≡ name_of (map view_row l.rows) (map string_bytes l.words) l.port
