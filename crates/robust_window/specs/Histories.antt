-- The same for a history: recent changes, effective robustness level and 'twice' are those of its changes.
use Rattle.std.specs.Prelude.{◌≡◌, ℕ, ◌-◌, ◌<◌, ◌≤◌, Bool, true, false, List, length, map, replicate}
use Rattle.std.specs.List.{range_with_len}
use Rattle.mask_update.specs.Histories.{History, robust_at}
use Rattle.mask_update.specs.Masks.{change_at, new_mask_at}
use Rattle.robust_window.specs.Changes.{MaskStep, most_level, recent_of, level_of, twice_of}

abbrev pub mask_step_at : History → ℕ → MaskStep
mask_step_at h t = record { change = change_at h t; new_mask = new_mask_at h t; robust = robust_at h t }

-- all changes of a history
abbrev pub mask_steps : History → List MaskStep
mask_steps h = map (mask_step_at h) (range_with_len 0 (length h.steps))

-- the recent changes of the mask, X
abbrev pub recent_at : History → ℕ → List Bool
recent_at h t = recent_of (mask_steps h) t

-- the effective robustness level, V
abbrev pub level_at : History → ℕ → ℕ
level_at h t = level_of (mask_steps h) t

-- whether the extracted bits include those of all recent changes, c
abbrev pub twice_at : History → ℕ → Bool
twice_at h t = twice_of (mask_steps h) t

-- ---- what they mean

-- the step does not change the mask
abbrev pub LeavesMask : History → ℕ → Type 0
LeavesMask h s = change_at h s ≡ replicate h.places false

-- A level that the required robustness of a step and `most_level` allow, such that every step before those of the recent
-- changes, as far back as the level says, does not change the mask.
pub record IsLevel (h : History) (t level : ℕ) : Type 0 where
  pub least : robust_at h t ≤ level
  pub most : level ≤ most_level (robust_at h t) t
  pub quiet : (s : ℕ) → t - level ≤ s → s < t - robust_at h t → LeavesMask h s

-- two steps within the effective robustness level of a step take a new mask
pub record Twice (h : History) (t : ℕ) : Type 0 where
  pub first : ℕ
  pub second : ℕ
  pub from : t - level_at h t ≤ first
  pub apart : first < second
  pub to : second ≤ t
  pub first_takes : new_mask_at h first ≡ true
  pub second_takes : new_mask_at h second ≡ true
