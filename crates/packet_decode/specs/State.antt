-- What a decoder knows and is, and what a packet's first part says of the mask by that (CCSDS 124.0-B-1).
use Rattle.std.specs.Option.{option_map}
use Rattle.std.specs.Prelude.{◌≡◌, ◌==◌, ℕ, ◌-◌, nat_le, Bool, true, false, if◌then◌else◌, List, length, Option, None, Some, IfSome, ◌<◌, replicate, Result, Ok, Err, unwrap_or, ◌&&◌, ◌||◌, IsSome}
use Rattle.bit_vectors.specs.Vectors.{xor_bits, or_bits, without_bits, IsOne}
use Rattle.bit_vectors.specs.declared.fault.BitFault.{BitFault}
use Rattle.mask_update.specs.Histories.{History, flags_at, input_at}
use Rattle.mask_update.specs.Masks.{mask_at}
use Rattle.robust_window.specs.Histories.{level_at}
use Rattle.packet_encode.specs.Deliveries.{reaches}
use Rattle.packet_encode.specs.Forms.{Directions, Form}
use Rattle.packet_decode.specs.declared.decoder.Reading.{Reading}
use Rattle.packet_decode.specs.declared.decoder.Reading.TheVariants.{Written, Unsynced, Gap}

-- ---- what a decoder knows, and what a packet's first part says of the mask by that (CCSDS 124.0-B-1)

-- a vector that became known, and the number of the packet with which it did
pub record KnownVector : Type 0 where
  pub number : ℕ
  pub vector : List Bool

-- The mask and the content of packets are known apart: the latest mask that became known and the latest content that did,
-- each if there is one.
pub record State : Type 0 where
  pub mask : Option KnownVector
  pub content : Option KnownVector

-- nothing is known
abbrev pub no_vectors : State
no_vectors = record { mask = None; content = None }

-- mask and content of the packet with this number are known
abbrev pub both_known : ℕ → List Bool → List Bool → State
both_known number mask content = record { mask = Some (record { number = number; vector = mask }); content = Some (record { number = number; vector = content }) }

-- a vector, if it is known
abbrev pub known_if : Bool → List Bool → Option (List Bool)
known_if true vector = Some vector
known_if false vector = None

-- what is known has f places
abbrev pub HasVector : ℕ → Option KnownVector → Type 0
HasVector f part = IfSome part (λ known. length known.vector ≡ f)

pub record IsState (f : ℕ) (state : State) : Type 0 where
  pub mask : HasVector f state.mask
  pub content : HasVector f state.content

-- What is known, if it is in reach of the packet with the number t and this effective robustness level: at most as many
-- packets as the level says are between the one with which it became known and this one.
abbrev pub in_reach : Option KnownVector → ℕ → ℕ → Option (List Bool)
in_reach None t level = None
in_reach (Some known) t level = if nat_le (t - 1 - known.number) level then Some known.vector else None

-- ---- the state after a packet

-- a part of it, by the vector that became known with the packet t, if one did
abbrev pub next_part : Option KnownVector → ℕ → Option (List Bool) → Option KnownVector
next_part part t None = part
next_part part t (Some vector) = Some (record { number = t; vector = vector })

-- the state, by the mask and the content that became known
abbrev pub next_state : State → ℕ → Option (List Bool) → Option (List Bool) → State
next_state state t mask content = record { mask = next_part state.mask t mask; content = next_part state.content t content }

-- ---- the first part of a packet

-- the recent changes of the mask, the effective robustness level, and the directions if they are sent
pub record Change : Type 0 where
  pub recent : List Bool
  pub level : ℕ
  pub directions : Option Directions

abbrev pub change_of : Form → Change
change_of form = record { recent = form.recent; level = form.level; directions = form.directions }

-- the recent changes that did not make a place predictable
abbrev pub unpredictable : List Bool → Option Directions → List Bool
unpredictable recent None = recent
unpredictable recent (Some directions) = without_bits recent directions.predictable

-- The mask after another one. At level 0 each change turns a place; above it, a change makes its place predictable if
-- the directions say so, and otherwise unpredictable.
abbrev pub mask_after : List Bool → Change → List Bool
mask_after mask change =
    if change.level == 0 then xor_bits mask change.recent
    else or_bits (without_bits mask change.recent) (unpredictable change.recent change.directions)

-- the mask after another one, by a form
abbrev pub deduced_mask : List Bool → Form → List Bool
deduced_mask mask form = mask_after mask (change_of form)

-- ---- what is in reach

-- the mask that is deduced, if the known mask is in reach
abbrev pub deduced_by : State → ℕ → Change → Option (List Bool)
deduced_by state t change = option_map (λ mask. mask_after mask change) (in_reach state.mask t change.level)

-- the known content, if it is in reach
abbrev pub known_by : State → ℕ → Change → Option (List Bool)
known_by state t change = in_reach state.content t change.level

-- ---- what a decoder is: the number of places of its vectors, the known mask and the known content, and the recent changes of
-- the mask and the effective robustness level of the latest written packet, which are zero before the first

pub record Decoding : Type 0 where
  pub places : ℕ
  pub state : State
  pub recent : List Bool
  pub level : ℕ

-- the number of the packet with which it became known
abbrev pub known_number : Option KnownVector → Option ℕ
known_number part = option_map (λ known. known.number) part

-- the vector that became known, and zeros before the first
abbrev pub known_vector : ℕ → Option KnownVector → List Bool
known_vector f part = unwrap_or (option_map (λ known. known.vector) part) (replicate f false)

-- the number of the latest written packet
abbrev pub latest_number : State → Option ℕ
latest_number state = known_number state.content

-- the number of the latest packet whose mask became known
abbrev pub latest_mask_number : State → Option ℕ
latest_mask_number state = known_number state.mask

-- this number is greater than those of the packets with which the mask and the content became known
pub record IsAfter (t : ℕ) (state : State) : Type 0 where
  pub content : IfSome (latest_number state) (λ last. last < t)
  pub mask : IfSome (latest_mask_number state) (λ last. last < t)

-- the latest mask that became known, and zeros before the first
abbrev pub latest_mask : ℕ → State → List Bool
latest_mask f state = known_vector f state.mask

-- the content of the latest written packet, and zeros before the first
abbrev pub latest_content : ℕ → State → List Bool
latest_content f state = known_vector f state.content

-- the data say nothing that becomes known
abbrev pub tells_nothing : Result Reading BitFault → Bool
tells_nothing (Ok Written) = false
tells_nothing (Ok (Unsynced true)) = false
tells_nothing (Ok (Unsynced false)) = true
tells_nothing (Ok (Gap level true)) = false
tells_nothing (Ok (Gap level false)) = true
tells_nothing (Err fault) = true

-- ---- the packets of a history, as a decoder knows them

-- the state of a decoder that knows the mask of this step and the input of that one, or none
abbrev pub true_state : History → Option ℕ → Option ℕ → State
true_state h mask content = record {
  mask = option_map (λ s. record { number = s; vector = mask_at h s }) mask;
  content = option_map (λ s. record { number = s; vector = input_at h s }) content;
}

-- The packet of a step tells its mask, when the latest known one is that of this step: it carries the mask, or its
-- effective robustness level reaches that one.
abbrev pub is_mask_told : History → Option ℕ → ℕ → Bool
is_mask_told h mask t = (flags_at h t).f || reaches mask t (level_at h t)

-- It tells its content, when the latest known mask and content are of these steps: it carries the whole content, or it
-- tells its mask and its effective robustness level reaches that content.
abbrev pub is_content_told : History → Option ℕ → Option ℕ → ℕ → Bool
is_content_told h mask content t = (flags_at h t).r || is_mask_told h mask t && reaches content t (level_at h t)

-- ---- the directions of the recent changes, as they are taken

-- directions, if it was sent whether all recent changes are extracted
abbrev pub sent_directions : Option Bool → List Bool → Option Directions
sent_directions None predictable = None
sent_directions (Some twice) predictable = Some (record { predictable = predictable; twice = twice })

-- if directions are sent, what became predictable are recent changes
abbrev pub AreRecent : Option Bool → List Bool → List Bool → Type 0
AreRecent twice predictable recent = IsSome twice → (place : ℕ) → IsOne predictable place → IsOne recent place
