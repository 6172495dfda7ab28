-- The form of a packet (CCSDS 124.0-B-1): its parts, the bits by which it is sent, and the form of each step of a history.
use Rattle.std.specs.List.{list_any}
use Rattle.std.specs.Prelude.{◌≡◌, ℕ, ◌<◌, nat_lt, Bool, true, false, ◌&&◌, if◌then◌else◌, List, [], ◌∷◌, ◌++◌, length, count_by, Contains, Option, None, Some, IfSome, ◌+◌, take}
use Rattle.bit_vectors.specs.Vectors.{number_bits, or_bits, IsOne, padded, without_bits}
use Rattle.bit_vectors.specs.declared.flags.Flags.{Flags}
use Rattle.count_code.specs.Code.{count_bits}
use Rattle.run_code.specs.Extraction.{bits_up, extract}
use Rattle.run_code.specs.Runs.{edges, run_bits}
use Rattle.mask_update.specs.Histories.{History, flags_at, input_at, step_of, with_step}
use Rattle.mask_update.specs.Masks.{mask_at}
use Rattle.robust_window.specs.Histories.{level_at, recent_at, twice_at}

-- ---- the form of a packet (CCSDS 124.0-B-1): its parts, and the bits by which it is sent

-- Which recent changes made a place predictable, as a vector of these places; and whether the mask was made new
-- more than once within the robustness level, so that all recent changes are extracted too.
pub record Directions : Type 0 where
  pub predictable : List Bool
  pub twice : Bool

-- the whole content, or only some of its bits
pub data Content : Type 0 where
  Whole : List Bool → Content
  Part : List Bool → Content

-- Its parts: the change vector of the recent changes of the mask, the effective robustness level, the directions of
-- those changes if they are sent, the mask if it is sent, and the content.
pub record Form : Type 0 where
  pub recent : List Bool
  pub level : ℕ
  pub directions : Option Directions
  pub sent : Option (List Bool)
  pub content : Content

-- ---- which forms there are

-- directions come with a level above 0, and name at least one of the recent changes
pub record AreDirections (form : Form) (directions : Directions) : Type 0 where
  pub level : 0 < form.level
  pub places : length directions.predictable ≡ length form.recent
  pub recent : (place : ℕ) → IsOne directions.predictable place → IsOne form.recent place
  pub some : Contains directions.predictable true

abbrev pub HasPlaces : ℕ → Content → Type 0
HasPlaces f (Whole content) = length content ≡ f
HasPlaces f (Part bits) = Unit {0}

-- a form of vectors of f places
pub record IsForm (f : ℕ) (form : Form) : Type 0 where
  pub recent : length form.recent ≡ f
  pub level : form.level < 16
  pub directions : IfSome form.directions (AreDirections form)
  pub sent : IfSome form.sent (λ mask. length mask ≡ f)
  pub content : HasPlaces f form.content

-- ---- its bits

-- For each recent change, from the lowest place up, whether it made the place predictable; and whether all recent
-- changes are extracted.
abbrev pub direction_bits : List Bool → Option Directions → List Bool
direction_bits recent None = false ∷ []
direction_bits recent (Some directions) = true ∷ (bits_up directions.predictable recent ++ directions.twice ∷ [])

-- the first part: the recent changes, the level in four bits, and, if there are changes and a level above 0, directions
unfoldable pub change_bits : Form → List Bool
change_bits form =
    run_bits form.recent ++ (number_bits 4 form.level ++ (if list_any (λ bit. bit) form.recent && nat_lt 0 form.level then direction_bits form.recent form.directions else []))

-- the mask as the runs of its edges
abbrev pub mask_bits : Option (List Bool) → List Bool
mask_bits None = false ∷ []
mask_bits (Some mask) = true ∷ run_bits (edges mask)

-- the whole content after its number of places
abbrev pub content_bits : Content → List Bool
content_bits (Part bits) = false ∷ bits
content_bits (Whole content) = true ∷ (count_bits (length content) ++ content)

-- the parts after the first: a 1 if neither the mask nor the whole content is sent, and otherwise a 0 and both
abbrev pub data_bits : Option (List Bool) → Content → List Bool
data_bits None (Part bits) = true ∷ bits
data_bits None (Whole content) = false ∷ (mask_bits None ++ content_bits (Whole content))
data_bits (Some mask) content = false ∷ (mask_bits (Some mask) ++ content_bits content)

unfoldable pub form_bits : Form → List Bool
form_bits form = change_bits form ++ data_bits form.sent form.content

-- ---- what is extracted

-- the places that are extracted: those of the mask, and also all recent changes if the directions say so
abbrev pub wide_by : Option Directions → List Bool → List Bool → List Bool
wide_by None recent mask = mask
wide_by (Some directions) recent mask = if directions.twice then or_bits mask recent else mask

abbrev pub wide : Form → List Bool → List Bool
wide form mask = wide_by form.directions form.recent mask

-- under a mask: a part of the content has a bit for each extracted place
abbrev pub FitsPlaces : List Bool → Content → Type 0
FitsPlaces places (Whole content) = Unit {0}
FitsPlaces places (Part bits) = length bits ≡ count_by (λ bit. bit) places

abbrev pub Fits : Form → List Bool → Type 0
Fits form mask = FitsPlaces (wide form mask) form.content

-- ---- the form that a sender chooses

-- The recent changes that the mask doesn't have, if there are any and the level is above 0: they became predictable.
abbrev pub directions_of : List Bool → List Bool → ℕ → Bool → Option Directions
directions_of mask recent level twice =
    if nat_lt 0 level && list_any (λ bit. bit) (without_bits recent mask) then Some (record { predictable = without_bits recent mask; twice = twice }) else None

-- the mask, if it is to be sent
abbrev pub sent_of : Bool → List Bool → Option (List Bool)
sent_of send mask = if send then Some mask else None

-- the whole content, or its bits at these places
abbrev pub sent_content : Bool → List Bool → List Bool → Content
sent_content whole content places = if whole then Whole content else Part (extract content places)

-- the form of a packet with these values and flags
abbrev pub form_of : List Bool → List Bool → ℕ → Bool → List Bool → Flags → Form
form_of mask recent level twice input flags =
    let directions = directions_of mask recent level twice in
    record {
      recent = recent;
      level = level;
      directions = directions;
      sent = sent_of flags.f mask;
      content = sent_content flags.r input (wide_by directions recent mask);
    }

-- ---- for a history

-- the form of a step
abbrev pub form_at : History → ℕ → Form
form_at h t = form_of (mask_at h t) (recent_at h t) (level_at h t) (twice_at h t) (input_at h t) (flags_at h t)

-- the bits of its packet, in whole bytes
abbrev pub packet_at : History → ℕ → List Bool
packet_at h t = padded (form_bits (form_at h t))

-- The history and one more input, for which this robustness is required. It takes the given flags, except for a
-- packet that is forced.
abbrev pub with_next_input : History → ℕ → List Bool → Flags → History
with_next_input h robust input flags = with_step h (step_of (λ _. flags) (λ _. robust) (length h.steps, input))

-- two histories have the same vectors and flags up to a step
pub record AgreeUpTo (h other : History) (t : ℕ) : Type 0 where
  pub places : h.places ≡ other.places
  pub first_mask : h.first_mask ≡ other.first_mask
  pub steps : take (t + 1) h.steps ≡ take (t + 1) other.steps
