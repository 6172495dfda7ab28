-- Mask, build and change vectors (CCSDS 124.0-B-1), each as a question about the whole history.
use Rattle.std.specs.Prelude.{◌≡◌, ◌≢◌, ℕ, zero, suc, ◌+◌, ◌-◌, ◌*◌, ◌/◌, ◌<◌, ◌≤◌, nat_le, nat_lt, ◌==◌, ◌↔◌, Bool, false, not, IsTrue, ◌&&◌, ◌||◌, if◌then◌else◌, List, map, reverse, find, unwrap_or, length, replicate, slice_index_or, true, Contains}
use Rattle.std.specs.List.{range_with_len, list_any}
use Rattle.std.specs.Bool.{OnFalse, OnTrue}
use Rattle.bit_vectors.specs.Vectors.{IsVector, NoneIsOne, xor_bits, or_bits}
use Rattle.mask_update.specs.Histories.{History, input_at, flags_at, latest_step}

-- the bit of the input at a step
abbrev pub input_bit : History → ℕ → ℕ → Bool
input_bit h t place = slice_index_or (input_at h t) place false

-- the place moved at the step: its bit differs from that of the input before
abbrev pub Moved : History → ℕ → ℕ → Type 0
Moved h step place = (1 ≤ step) × (step < length h.steps) × (input_bit h step place ≢ input_bit h (step - 1) place)

-- the place moved at a step above the first number, up to the second
abbrev pub MovedBetween : History → ℕ → ℕ → ℕ → Type 0
MovedBetween h from to place = (step : ℕ) × (from < step) × (step ≤ to) × Moved h step place

-- whether the place's bit differs from that of the input before
abbrev pub has_moved : History → ℕ → ℕ → Bool
has_moved h zero place = false
has_moved h (suc t) place = if input_bit h t place then not (input_bit h (suc t) place) else input_bit h (suc t) place

-- the steps above the first number, up to the second
abbrev pub steps_between : ℕ → ℕ → List ℕ
steps_between from to = range_with_len (from + 1) (to - from)

-- the mask takes the build vector at this step
abbrev pub new_mask_at : History → ℕ → Bool
new_mask_at h t = (flags_at h t).p

-- no step up to this one takes a new mask; step 0 is not looked at
abbrev pub NoNewMask : History → ℕ → Type 0
NoNewMask h t = (step : ℕ) → 1 ≤ step → step ≤ t → new_mask_at h step ≡ false

-- the latest new-mask step up to a step, not counting step 0; 0 if there is none
unfoldable pub latest_new_mask : History → ℕ → ℕ
latest_new_mask h t = unwrap_or (find (new_mask_at h) (reverse (steps_between 0 t))) 0

-- the latest new-mask step before that one; 0 if there is none
unfoldable pub second_latest_new_mask : History → ℕ → ℕ
second_latest_new_mask h t = latest_new_mask h (latest_new_mask h t - 1)

-- whether the place moved at a step above the first number, up to the second
abbrev pub has_moved_between : History → ℕ → ℕ → ℕ → Bool
has_moved_between h from to place = list_any (λ step. has_moved h step place) (steps_between from to)

-- a vector, place by place
abbrev pub vector_by : ℕ → (ℕ → Bool) → List Bool
vector_by f bit = map bit (range_with_len 0 f)

-- The mask: 1 if the place moved since the second latest new mask, and, as long as there was no new mask,
-- also if the first mask is 1.
unfoldable pub mask_at : History → ℕ → List Bool
mask_at h t =
    vector_by h.places (λ place. has_moved_between h (second_latest_new_mask h t) t place
    || ((latest_new_mask h t == 0) && slice_index_or h.first_mask place false))

-- The build vector: 1 if the place moved since the latest new mask.
unfoldable pub build_at : History → ℕ → List Bool
build_at h t = vector_by h.places (has_moved_between h (latest_new_mask h t) t)

-- The change of the mask at the step: 1 if the mask differs from that of the step before.
unfoldable pub change_at : History → ℕ → List Bool
change_at h zero = replicate h.places false
change_at h (suc t) = xor_bits (mask_at h t) (mask_at h (suc t))

-- The standard's recurrences, in terms of the places that moved: the build vector collects them and is cleared at a new
-- mask, and the mask collects them, added to the build vector at a new mask.
abbrev pub next_build : Bool → List Bool → List Bool → List Bool
next_build new_mask moved build = if new_mask then replicate (length build) false else or_bits build moved

abbrev pub next_mask : Bool → List Bool → List Bool → List Bool → List Bool
next_mask new_mask moved build mask = or_bits (if new_mask then build else mask) moved

-- the input of the step is that of the step before once more, and the step takes no new mask
abbrev pub ComesAgain : History → ℕ → Type 0
ComesAgain h t = (1 ≤ t) × (new_mask_at h t ≡ false) × (input_at h (t - 1) ≡ input_at h t)

-- The running vectors: the latest input, build, mask and change, whether that input came again, and how many inputs were
-- taken.
pub record Running : Type 0 where
  pub previous : List Bool
  pub build : List Bool
  pub mask : List Bool
  pub change : List Bool
  pub again : Bool
  pub taken : ℕ

-- the running vectors are what the history gives at its latest step
pub record StandsFor (h : History) (value : Running) : Type 0 where
  pub previous : 0 < length h.steps → value.previous ≡ input_at h (latest_step h)
  pub build : value.build ≡ build_at h (latest_step h)
  pub mask : value.mask ≡ mask_at h (latest_step h)
  pub change : value.change ≡ change_at h (latest_step h)
  pub again : IsTrue value.again ↔ ComesAgain h (latest_step h)
  pub taken : value.taken ≡ length h.steps

-- What the running vectors become, place by place, if these places move and there is no new mask. What the change had
-- before stays in it.
pub record HaveMoved (moves : ℕ → Bool) (old new : Running) : Type 0 where
  pub previous : (place : ℕ) → slice_index_or new.previous place false ≡ (if slice_index_or old.previous place false then not (moves place) else moves place)
  pub build : (place : ℕ) → slice_index_or new.build place false ≡ (slice_index_or old.build place false || moves place)
  pub mask : (place : ℕ) → slice_index_or new.mask place false ≡ (slice_index_or old.mask place false || moves place)
  pub change : (place : ℕ) → slice_index_or new.change place false ≡ (slice_index_or old.change place false || (moves place && not (slice_index_or old.mask place false)))
  pub previous_len : length new.previous ≡ length old.previous
  pub build_len : length new.build ≡ length old.build
  pub mask_len : length new.mask ≡ length old.mask
  pub change_len : length new.change ≡ length old.change
  pub taken : new.taken ≡ old.taken

-- the places of a vector that are 1 in the words from one number up to, but not including, another
abbrev pub moves_in : List Bool → ℕ → ℕ → ℕ → Bool
moves_in moved from to place = nat_le from (place / 64) && (nat_lt (place / 64) to && slice_index_or moved place false)

-- These words were walked over: their places at which the input differs from the previous one have moved, and it is told
-- whether there is none.
pub record Walked (input : List Bool) (from to : ℕ) (unmoved : Bool) (old new : Running) : Type 0 where
  pub moved : HaveMoved (moves_in (xor_bits old.previous input) from to) old new
  pub same : IsTrue unmoved ↔ NoneIsOne (xor_bits old.previous input) (64 * from) (64 * to)

-- What the running vectors become at an input that is not the first.
pub record Advances (input : List Bool) (new_mask : Bool) (old new : Running) : Type 0 where
  pub build : new.build ≡ next_build new_mask (xor_bits old.previous input) old.build
  pub mask : new.mask ≡ next_mask new_mask (xor_bits old.previous input) old.build old.mask
  pub change : new.change ≡ xor_bits old.mask new.mask
  pub previous : new.previous ≡ input
  pub places : length new.mask ≡ length old.mask
  pub taken : new.taken ≡ old.taken

-- The running vectors have the same length, which is a valid one, and the number of inputs is within its bound. It is
-- known whether there is a change.
pub record AreRunning (previous build mask change : List Bool) (still : Bool) (taken : ℕ) : Type 0 where
  pub vector : IsVector mask
  pub previous_len : length previous ≡ length mask
  pub build_len : length build ≡ length mask
  pub change_len : length change ≡ length mask
  pub no_change : OnTrue still (change ≡ replicate (length mask) false)
  pub some_change : OnFalse still (Contains change true)
  pub most : taken ≤ 4294967296
