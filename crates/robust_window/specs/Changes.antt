-- Recent changes, effective robustness level and 'twice' (CCSDS 124.0-B-1), each as a question about the list of all
-- changes of a mask.
use Rattle.std.specs.Prelude.{◌≡◌, ℕ, ◌+◌, ◌-◌, nat_le, Bool, false, not, List, [], length, max, min, reverse, find, unwrap_or, count_by, slice_index_or}
use Rattle.std.specs.List.{range_with_len, list_all, list_any}
use Rattle.mask_update.specs.Masks.{vector_by}

-- What a step does to the mask: its change, and whether it takes a new one. The required robustness of the packet is kept
-- with it.
pub record MaskStep : Type 0 where
  pub change : List Bool
  pub new_mask : Bool
  pub robust : ℕ

abbrev pub no_mask_step : MaskStep
no_mask_step = record { change = []; new_mask = false; robust = 0 }

abbrev pub mask_step : List MaskStep → ℕ → MaskStep
mask_step steps t = slice_index_or steps t no_mask_step

-- the number of the latest step, and 0 before the first
abbrev pub latest_change : List MaskStep → ℕ
latest_change steps = length steps - 1

-- the step changes the place
abbrev pub changes_place : List MaskStep → ℕ → ℕ → Bool
changes_place steps place s = slice_index_or (mask_step steps s).change place false

abbrev pub takes_new_mask : List MaskStep → ℕ → Bool
takes_new_mask steps s = (mask_step steps s).new_mask

-- the step does not change the mask
abbrev pub is_quiet : List MaskStep → ℕ → Bool
is_quiet steps s = not (list_any (λ bit. bit) (mask_step steps s).change)

abbrev pub IsQuiet : List MaskStep → ℕ → Type 0
IsQuiet steps s = (place : ℕ) → changes_place steps place s ≡ false

-- the steps from one number up to, but not including, another
abbrev pub steps_from : ℕ → ℕ → List ℕ
steps_from from to = range_with_len from (to - from)

-- The recent changes: 1 if any of the steps within the required robustness of a step changes the place. Step 0
-- is not looked at.
unfoldable pub recent_of : List MaskStep → ℕ → List Bool
recent_of steps t =
    let robust = (mask_step steps t).robust in
    vector_by (length (mask_step steps t).change) (λ place. list_any (changes_place steps place) (steps_from (max 1 (t - robust)) (t + 1)))

-- The greatest that the effective robustness level of a step can be: 15, and at the start the number of the step; but in
-- any case at least the required robustness.
abbrev pub most_level : ℕ → ℕ → ℕ
most_level robust t = max robust (min 15 t)

-- before a step, every step from the given number back up to just before those within the required robustness is quiet
abbrev pub is_quiet_back : List MaskStep → ℕ → ℕ → Bool
is_quiet_back steps t level = list_all (is_quiet steps) (steps_from (t - level) (t - (mask_step steps t).robust))

-- The effective robustness level: the greatest number that the required robustness and `most_level` allow, such that all
-- steps before those of the recent changes, as far back as it says, are quiet.
unfoldable pub level_of : List MaskStep → ℕ → ℕ
level_of steps t =
    let robust = (mask_step steps t).robust in
    unwrap_or (find (is_quiet_back steps t) (reverse (steps_from robust (most_level robust t + 1)))) robust

-- two or more of the steps within the effective robustness level of a step take a new mask
unfoldable pub twice_of : List MaskStep → ℕ → Bool
twice_of steps t = nat_le 2 (count_by (takes_new_mask steps) (steps_from (t - level_of steps t) (t + 1)))
