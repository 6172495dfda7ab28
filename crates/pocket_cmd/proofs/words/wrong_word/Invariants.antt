use Rattle.std.proofs.Common.{◌≡◌, [], map, take, drop}
use Rattle.std.specs.String.{string_bytes}
use Rattle.pocket_cmd.specs.Verbs.{view_row}
use Rattle.pocket_cmd.specs.Words.{wrong_word}
use Rattle.pocket_cmd.proofs.words.wrong_word.Given as goal

-- the first wrong word is that of the words from here on, after those so far
abbrev pub invariant-loop-word : goal.invariant-loop-word
invariant-loop-word l =
    (l.place ≡ l.word-index)
    × (wrong_word (map view_row l.rows) (map string_bytes (take l.word-index l.words)) (map string_bytes (drop l.word-index l.words)) ≡ wrong_word (map view_row l.rows) [] (map string_bytes l.words))
