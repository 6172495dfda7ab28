-- Worked columns and packets.
use Rattle.std.specs.Prelude.{Bool, true, false, List, [], ◌∷◌, codes, None, Some, pos, negsuc}
use Rattle.param_table.specs.declared.rows.Column.{Column}

-- an unsigned field of eight bits without a limit, and a signed one from -10 to 40
abbrev pub worked_columns : List Column
worked_columns =
    record { field = record { place = 0; width = 8; signed = false; name = codes "mode" }; limit = None }
    ∷ record { field = record { place = 8; width = 8; signed = true; name = codes "temp" }; limit = Some (record { low = negsuc 9; high = pos 40 }) }
    ∷ []

-- 1 and -16, and 2 and 40
abbrev pub worked_packets : List (List Bool)
worked_packets =
    (false ∷ false ∷ false ∷ false ∷ false ∷ false ∷ false ∷ true ∷ true ∷ true ∷ true ∷ true ∷ false ∷ false ∷ false ∷ false ∷ [])
    ∷ (false ∷ false ∷ false ∷ false ∷ false ∷ false ∷ true ∷ false ∷ false ∷ false ∷ true ∷ false ∷ true ∷ false ∷ false ∷ false ∷ [])
    ∷ []
