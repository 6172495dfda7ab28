-- What a window keeps, and which changes it stands for.
use Rattle.std.specs.Prelude.{◌≡◌, ℕ, ◌+◌, ◌-◌, ◌<◌, ◌≤◌, ◌==◌, nat_le, max, min, Bool, true, false, if◌then◌else◌, List, [], ◌∷◌, ◌++◌, length, drop, replicate, count_by, All, Contains, slice_index_or}
use Rattle.std.specs.List.{list_any, range_with_len}
use Rattle.std.specs.Bool.{OnFalse, OnTrue}
use Rattle.std.specs.Int.{bit_at}
use Rattle.circular_buffer.specs.Buffer.{Buffer}
use Rattle.bit_vectors.specs.Vectors.{IsVector, number_bits}
use Rattle.mask_update.specs.Masks.{vector_by}
use Rattle.robust_window.specs.Changes.{MaskStep, IsQuiet, latest_change, mask_step, takes_new_mask, recent_of, level_of, twice_of}

-- The latest sixteen changes and new-mask flags, the oldest first; the values at the latest step; and how many steps were
-- taken.
pub record WindowState : Type 0 where
  pub changes : List (List Bool)
  pub new_masks : List Bool
  pub recent : List Bool
  pub level : ℕ
  pub twice : Bool
  pub taken : ℕ

-- the change and the flag the given number of steps back, which is below sixteen
abbrev pub change_back : List (List Bool) → ℕ → List Bool
change_back changes back = slice_index_or changes (15 - back) []

abbrev pub new_mask_back : List Bool → ℕ → Bool
new_mask_back new_masks back = slice_index_or new_masks (15 - back) false

-- the marks of the latest sixteen steps, the oldest first, and the mark a number of steps back: the bits of a number
abbrev pub marks_of : ℕ → List Bool
marks_of marks = number_bits 16 marks

abbrev pub mark_back : ℕ → ℕ → Bool
mark_back marks back = bit_at marks back == 1

-- two or more of so many of the latest flags are set
abbrev pub are_two_set : List Bool → ℕ → Bool
are_two_set new_masks count = nat_le 2 (count_by (new_mask_back new_masks) (range_with_len 0 count))

-- so many of the latest steps are kept: from 1 to 16
abbrev pub IsKeptCount : ℕ → Type 0
IsKeptCount count = (1 ≤ count) × (count ≤ 16)

-- none of the latest marks is set
abbrev pub AreClear : ℕ → ℕ → Type 0
AreClear marks count = (back : ℕ) → back < count → mark_back marks back ≡ false

-- the slots that are marked, with nothing in place of the others
abbrev pub where_marked : {A : Type 0} → List Bool → List A → A → List A
where_marked (mark ∷ marks) (slot ∷ slots) nothing = (if mark then slot else nothing) ∷ where_marked marks slots nothing
where_marked (mark ∷ marks) [] nothing = []
where_marked [] slots nothing = []

-- the latest sixteen changes, of the given number of places, the oldest first: a slot without a mark stands for zeros,
-- whatever it has
abbrev pub changes_of : ℕ → ℕ → List (List Bool) → List (List Bool)
changes_of f marks slots = where_marked (marks_of marks) slots (replicate f false)

-- A value for each of the latest sixteen of the given number of steps, by how many steps back it is, and a value that
-- means "no step" if there are fewer steps.
pub record HoldsLatest {A : Type 0} (back_value : ℕ → A) (value : ℕ → A) (none : A) (count : ℕ) : Type 0 where
  pub same : (back : ℕ) → back < 16 → back < count → back_value back ≡ value (count - 1 - back)
  pub past : (back : ℕ) → back < 16 → count ≤ back → back_value back ≡ none

abbrev pub HoldsChanges : List MaskStep → List (List Bool) → ℕ → Type 0
HoldsChanges steps changes places = HoldsLatest (change_back changes) (λ s. (mask_step steps s).change) (replicate places false) (length steps)

abbrev pub HoldsNewMasks : List MaskStep → List Bool → Type 0
HoldsNewMasks steps new_masks = HoldsLatest (new_mask_back new_masks) (takes_new_mask steps) false (length steps)

-- What the window keeps is what these steps give at the latest one.
pub record StandsFor (steps : List MaskStep) (value : WindowState) : Type 0 where
  pub changes : HoldsChanges steps value.changes (length value.recent)
  pub new_masks : HoldsNewMasks steps value.new_masks
  pub first : IsQuiet steps 0
  pub recent : 0 < length steps → value.recent ≡ recent_of steps (latest_change steps)
  pub level : 0 < length steps → value.level ≡ level_of steps (latest_change steps)
  pub twice : 0 < length steps → value.twice ≡ twice_of steps (latest_change steps)
  pub taken : value.taken ≡ length steps

-- What the next step may take: it is one of the first 4,294,967,296 and its required robustness is at most 7; the first
-- takes no new mask.
abbrev pub IsNextStep : WindowState → Bool → ℕ → Type 0
IsNextStep window new_mask robust = (window.taken < 4294967296) × (window.taken ≡ 0 → new_mask ≡ false) × (robust ≤ 7)

-- What a window becomes at a step whose change is the latest of those kept already: the recent changes, the effective
-- robustness level and 'twice' by what is kept.
pub record Advances (old new : WindowState) (new_mask : Bool) (robust : ℕ) : Type 0 where
  pub changes : new.changes ≡ old.changes
  pub flags_full : length old.new_masks ≡ 16
  pub new_masks : new.new_masks ≡ drop 1 old.new_masks ++ new_mask ∷ []
  pub recent : new.recent ≡ vector_by (length old.recent) (λ place. list_any (λ back. slice_index_or (change_back old.changes back) place false) (range_with_len 0 (robust + 1)))
  pub recent_len : length new.recent ≡ length old.recent
  pub level_least : robust ≤ new.level
  pub level_most : new.level ≤ max robust (min old.taken 15)
  pub quiet : (back : ℕ) → robust < back → back ≤ new.level → change_back old.changes back ≡ replicate (length old.recent) false
  pub stops : new.level < max robust (min old.taken 15) → Contains (change_back old.changes (new.level + 1)) true
  pub twice : new.twice ≡ are_two_set new.new_masks (new.level + 1)
  pub taken : new.taken ≡ old.taken + 1

-- what is marked is a change with a 1
abbrev pub AreMarked : ℕ → List (List Bool) → Type 0
AreMarked marks slots = (back : ℕ) → back < 16 → mark_back marks back ≡ true → Contains (change_back slots back) true

-- the latest sixteen changes, the oldest first, and their number of places
pub record LatestChanges : Type 0 where
  pub places : ℕ
  pub latest : List (List Bool)

-- sixteen slots, of as many places as the zeros, and what is marked has a 1
pub record AreChanges (slots : Buffer (List Bool)) (marks : ℕ) (zeros : List Bool) : Type 0 where
  pub full : slots.capacity ≡ 16
  pub count : length slots.items ≡ 16
  pub places : All (λ change. length change ≡ length zeros) slots.items
  pub bound : marks < 65536
  pub marked : AreMarked marks slots.items
  pub none : zeros ≡ replicate (length zeros) false

-- The parts of a window agree, vectors have the same length, and numbers are within their bounds. It is known whether there
-- is a recent change.
pub record IsWindow (changes : LatestChanges) (recent : List Bool) (quiet : Bool) (level taken : ℕ) : Type 0 where
  pub vector : IsVector recent
  pub places : changes.places ≡ length recent
  pub full : length changes.latest ≡ 16
  pub zero : OnTrue quiet (recent ≡ replicate (length recent) false)
  pub some : OnFalse quiet (Contains recent true)
  pub level_most : level ≤ 15
  pub taken_most : taken ≤ 4294967296
