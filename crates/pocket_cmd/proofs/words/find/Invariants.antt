use Rattle.std.proofs.Common.{◌≡◌, ◌+◌, map, drop}
use Rattle.std.specs.String.{string_bytes}
use Rattle.pocket_cmd.specs.Words.{place_of, text_of}
use Rattle.pocket_cmd.proofs.words.find.Given as goal

abbrev pub invariant-loop-word : goal.invariant-loop-word
invariant-loop-word l =
    (l.place ≡ l.word-index + 1)
    × (place_of (map string_bytes (drop l.word-index l.words)) l.key + l.word-index ≡ place_of (map string_bytes l.words) l.key)
    × (text_of (map string_bytes (drop l.word-index l.words)) l.key ≡ text_of (map string_bytes l.words) l.key)
