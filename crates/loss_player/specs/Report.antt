-- The play report.
use Rattle.std.specs.Prelude.{ℕ, List, ◌++◌, codes, Option, Some, None}
use Rattle.std.specs.Fmt.{decimal}
use Rattle.loss_player.specs.declared.played.Played.{Played}

-- the report's first line
abbrev pub header_row : List ℕ
header_row = codes "packets,delivered,dropped,repeats,first,widest\n"

-- the least delivered number, and a dash if there is none
abbrev pub first_text : Option ℕ → List ℕ
first_text None = codes "-"
first_text (Some t) = decimal t

-- the row of the numbers
abbrev pub numbers_row : Played → List ℕ
numbers_row p =
    decimal p.packets ++ codes "," ++ decimal p.delivered ++ codes "," ++ decimal p.dropped ++ codes "," ++ decimal p.repeats
    ++ codes "," ++ first_text p.first ++ codes "," ++ decimal p.widest ++ codes "\n"

-- the report of these numbers
abbrev pub play_report : Played → List ℕ
play_report p = header_row ++ numbers_row p
