-- The worked history of masks, now with one lost packet that must be tolerated.
use Rattle.std.specs.Prelude.{[], ◌∷◌}
use Rattle.mask_update.specs.Histories.{History, history_of}
use Rattle.mask_update.specs.Worked.{none, last, worked_flags}

abbrev pub worked : History
worked = history_of (none ∷ last ∷ last ∷ last ∷ last ∷ last ∷ []) worked_flags (λ _. 1) 8 none
