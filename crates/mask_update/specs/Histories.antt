-- Histories (CCSDS 124.0-B-1): what a sender is given for each packet, from the first on.
use Rattle.std.specs.Prelude.{◌≡◌, ℕ, ◌-◌, ◌<◌, ◌≤◌, nat_le, Bool, true, false, if◌then◌else◌, List, [], ◌∷◌, ◌++◌, map, length, slice_index_or}
use Rattle.std.specs.List.{enumerate_from}
use Rattle.bit_vectors.specs.declared.flags.Flags.{Flags}
use Rattle.bit_vectors.specs.Vectors.{IsVector}

-- One step of a history makes one packet. It has the input vector, the flags after the schedule, and the
-- required robustness: the number of consecutive lost packets that the packet must tolerate.
pub record Step : Type 0 where
  pub input : List Bool
  pub flags : Flags
  pub robust : ℕ

-- The number of places of every vector, the first mask, and the steps. Step 0 comes first.
pub record History : Type 0 where
  pub places : ℕ
  pub first_mask : List Bool
  pub steps : List Step

-- a packet with whole content, its mask and no new mask
abbrev pub forced_flags : Flags
forced_flags = record { p = false; f = true; r = true }

abbrev pub no_step : Step
no_step = record { input = []; flags = forced_flags; robust = 0 }

abbrev pub step_at : History → ℕ → Step
step_at h t = slice_index_or h.steps t no_step

abbrev pub input_at : History → ℕ → List Bool
input_at h t = (step_at h t).input

abbrev pub flags_at : History → ℕ → Flags
flags_at h t = (step_at h t).flags

abbrev pub robust_at : History → ℕ → ℕ
robust_at h t = (step_at h t).robust

-- the number of the latest step, and 0 before the first
abbrev pub latest_step : History → ℕ
latest_step h = length h.steps - 1

-- Vectors of the same length, at most 4,294,967,296 of them, and a required robustness of at most 7. Up to the
-- required robustness of its step, a packet is forced: the receiver then has mask and content from it alone.
pub record IsValid (h : History) : Type 0 where
  pub vector : IsVector h.first_mask
  pub places : length h.first_mask ≡ h.places
  pub most : length h.steps ≤ 4294967296
  pub inputs : (t : ℕ) → t < length h.steps → length (input_at h t) ≡ h.places
  pub robust : (t : ℕ) → t < length h.steps → robust_at h t ≤ 7
  pub forced : (t : ℕ) → t < length h.steps → t ≤ robust_at h t → flags_at h t ≡ forced_flags

-- the history without steps
abbrev pub no_steps : List Bool → History
no_steps first_mask = record { places = length first_mask; first_mask = first_mask; steps = [] }

-- the history and one more step
abbrev pub with_step : History → Step → History
with_step h step = record h { steps = h.steps ++ step ∷ [] }

-- the given flags, except for a forced packet, which is one up to the required robustness
abbrev pub flags_after : ℕ → ℕ → Flags → Flags
flags_after robust t given = if nat_le t robust then forced_flags else given

abbrev pub step_of : (ℕ → Flags) → (ℕ → ℕ) → ℕ × List Bool → Step
step_of flags robust numbered =
    record { input = numbered.1; flags = flags_after (robust numbered.0) numbered.0 (flags numbered.0); robust = robust numbered.0 }

-- the history of these inputs, each with its required robustness, that takes the given flags wherever it may
abbrev pub history_of : List (List Bool) → (ℕ → Flags) → (ℕ → ℕ) → ℕ → List Bool → History
history_of inputs flags robust f first_mask =
    record { places = f; first_mask = first_mask; steps = map (step_of flags robust) (enumerate_from 0 inputs) }
