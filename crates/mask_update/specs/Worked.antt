-- A worked history of 8 places. The first mask is zero, and no robustness is required. The inputs are
-- 00 01 01 01 01 01 in hexadecimal, and steps 3 and 5 take a new mask.
use Rattle.std.specs.Prelude.{ℕ, ◌==◌, ◌||◌, Bool, true, false, List, [], ◌∷◌, ◌++◌, replicate}
use Rattle.bit_vectors.specs.declared.flags.Flags.{Flags}
use Rattle.mask_update.specs.Histories.{History, history_of}

-- the vectors 00 and 01
abbrev pub none : List Bool
none = replicate 8 false

abbrev pub last : List Bool
last = replicate 7 false ++ true ∷ []

abbrev pub worked_flags : ℕ → Flags
worked_flags t = record { p = (t == 3) || (t == 5); f = false; r = false }

abbrev pub worked : History
worked = history_of (none ∷ last ∷ last ∷ last ∷ last ∷ last ∷ []) worked_flags (λ _. 0) 8 none
