-- The bytes of a window in a saved state.
use Rattle.std.specs.Prelude.{◌≡◌, ℕ, ◌+◌, ◌*◌, ◌≤◌, Bool, List, ◌∷◌, ◌++◌, All, length}
use Rattle.std.specs.List.{flat_map}
use Rattle.std.specs.Int.{to_be_bytes, w16}
use Rattle.bit_vectors.specs.Vectors.{IsPlaces, bits_number}
use Rattle.state_bytes.specs.Parts.{vector_part, vector_room}
use Rattle.robust_window.specs.Window.{WindowState, are_two_set}

-- the level, the marks of new masks, and what follows
abbrev pub level_before : ℕ → ℕ → List ℕ → List ℕ
level_before level marks rest = level ∷ (to_be_bytes w16 marks ++ rest)

-- the changes, one after the other, and then the recent changes
abbrev pub changes_before : List (List Bool) → List Bool → List ℕ
changes_before changes recent = flat_map vector_part changes ++ vector_part recent

-- the level, the flags of new masks, the latest sixteen changes, the oldest first, and the recent changes
unfoldable pub window_bytes : WindowState → List ℕ
window_bytes w = level_before w.level (bits_number w.new_masks) (changes_before w.changes w.recent)

-- the most bytes of a window of vectors of f places
abbrev pub window_room : ℕ → ℕ
window_room f = 3 + 17 * vector_room f

-- changes of f places, sixteen of them
pub record AreSixteen (f : ℕ) (changes : List (List Bool)) : Type 0 where
  pub count : length changes ≡ 16
  pub places : All (λ change. length change ≡ f) changes

-- what a window of vectors of f places may be
pub record IsWindowState (f : ℕ) (w : WindowState) : Type 0 where
  pub vector : IsPlaces f
  pub changes : AreSixteen f w.changes
  pub new_masks : length w.new_masks ≡ 16
  pub recent : length w.recent ≡ f
  pub level_most : w.level ≤ 15
  pub twice : w.twice ≡ are_two_set w.new_masks (w.level + 1)
  pub most : w.taken ≤ 4294967296

-- the bytes are those of such a window; how many steps were taken is not in them
pub record AreOfWindow (f : ℕ) (bytes : List ℕ) : Type 0 where
  pub window : WindowState
  pub valid : IsWindowState f window
  pub bytes_are : bytes ≡ window_bytes window

-- the bytes are sixteen changes of f places and recent changes of as many
pub record AreChangesBytes (f : ℕ) (bytes : List ℕ) : Type 0 where
  pub changes : List (List Bool)
  pub recent : List Bool
  pub sixteen : AreSixteen f changes
  pub recent_places : length recent ≡ f
  pub bytes_are : bytes ≡ changes_before changes recent
