-- What the values stand for by which packets are read.
use Rattle.std.specs.Prelude.{◌≡◌, ◌≢◌, ℕ, ◌+◌, ◌*◌, ◌/◌, ◌%◌, ◌<◌, ⊤, List, [], ◌∷◌, Bool, true, false, replicate, IfNone, IfSome, length, Option, None, Some, Result}
use Rattle.std.specs.Borrow.{Bor}
use Rattle.std.specs.Option.{option_map}
use Rattle.bit_vectors.specs.declared.fault.BitFault.{BitFault}
use Rattle.bit_vectors.specs.Reading.{EyeState, bits_left, MovesOn, Parsed}
use Rattle.bit_vectors.specs.Vectors.{IsVector, bits_of}
use Rattle.packet_encode.specs.Forms.{Form}
use Rattle.packet_decode.specs.declared.latest.DataKind.{DataKind}
use Rattle.packet_decode.specs.declared.latest.DataKind.TheVariants.{Deduced as DeducedKind, Sent as SentKind, Maskless as MasklessKind, Opaque as OpaqueKind}
use Rattle.packet_decode.specs.declared.draft.Draft.{Draft}
use Rattle.packet_decode.specs.declared.draft.Room.{Room}
use Rattle.packet_decode.specs.declared.latest.Latest.{Latest}
use Rattle.packet_decode.specs.State.{KnownVector, State, Change, deduced_by, known_if}
use Rattle.packet_decode.specs.Spelling.{Spells}
use Rattle.packet_decode.specs.PacketReading.{Found, Outcome, Spelled, Opaque, Tells}

-- what the parts after the first one say, by the deduced mask, if there is one, the sent mask and the content
abbrev pub outcome_of : DataKind → Option (List Bool) → List Bool → List Bool → Outcome
outcome_of (DeducedKind known) deduced sent content = Spelled deduced (known_if known content)
outcome_of (SentKind known) deduced sent content = Spelled (Some sent) (known_if known content)
outcome_of MasklessKind deduced sent content = Spelled None (Some content)
outcome_of OpaqueKind deduced sent content = Opaque

-- what they say under a mask, if the content is known and if it is not
abbrev pub content_outcome : Bool → List Bool → List Bool → Outcome
content_outcome known mask content = Spelled (Some mask) (known_if known content)

-- the data have a content under a deduced mask
abbrev pub IsDeduced : DataKind → Type 0
IsDeduced (DeducedKind known) = ⊤
IsDeduced (SentKind known) = ⊥
IsDeduced MasklessKind = ⊥
IsDeduced OpaqueKind = ⊥

-- whether they tell a mask, and whether they tell the content
abbrev pub tells_mask : DataKind → Bool
tells_mask (DeducedKind known) = true
tells_mask (SentKind known) = true
tells_mask MasklessKind = false
tells_mask OpaqueKind = false

abbrev pub tells_content : DataKind → Bool
tells_content (DeducedKind known) = known
tells_content (SentKind known) = known
tells_content MasklessKind = true
tells_content OpaqueKind = false

-- the eye moved on, and what the call answered, seen by view, is what reading the bits that were left gives
pub record TakesPart {A B : Type 0} (view : A → B) (result : Result A BitFault) (old new : EyeState) (parse : List Bool → Parsed B) : Type 0 where
  pub moves : MovesOn old new
  pub reading : Tells view result new (parse (bits_left old))

-- a known vector, if there is a number
abbrev pub part_by : Option ℕ → List Bool → Option KnownVector
part_by number vector = option_map (λ n. record { number = n; vector = vector }) number

-- the state of a decoder that keeps these
abbrev pub kept_state : Latest → State
kept_state latest = record { mask = part_by latest.mask_number latest.mask; content = part_by latest.content_number latest.content }

-- the latest vectors have so many places
pub record LatestHasPlaces (f : ℕ) (latest : Latest) : Type 0 where
  pub mask : length latest.mask ≡ f
  pub content : length latest.content ≡ f

-- these are the latest vectors, of so many places, before the packet with the number t
pub record IsBefore (t f : ℕ) (latest : Latest) : Type 0 where
  pub later : IfSome latest.content_number (λ last. last < t)
  pub later_mask : IfSome latest.mask_number (λ last. last < t)
  pub vectors : LatestHasPlaces f latest

-- the first part has a change
abbrev pub IsChanged : Change → Type 0
IsChanged change = change.recent ≢ replicate (length change.recent) false

-- what was read into the room, under a state
abbrev pub found_in : Room → State → ℕ → DataKind → Found
found_in room state t kind = record { change = room.next; outcome = outcome_of kind (deduced_by state t room.next) room.sent room.draft.content }

-- the vectors that were lent, if there are any
abbrev pub lent : Option (Bor (List Bool)) → Option (List Bool)
lent vector = option_map (λ v. v.now) vector

-- What holds when the parts after the first one are read: the first part, the deduced mask and the known content, if
-- there are such, have the draft's places.
pub record IsReady (first : Change) (mask content : Option (List Bool)) (vectors : Draft) : Type 0 where
  pub change : length first.recent ≡ length vectors.content
  pub deduced : IfSome mask (λ v. length v ≡ length vectors.content)
  pub known : IfSome content (λ v. length v ≡ length vectors.content)

-- What holds when a mask can be sent besides: the vector for it has the draft's places too.
pub record IsReadyForMask (first : Change) (mask content : Option (List Bool)) (sent : List Bool) (vectors : Draft) : Type 0 where
  pub ready : IsReady first mask content vectors
  pub for_sent : length sent ≡ length vectors.content

-- these bytes with this level in the four bits after the first two
abbrev pub with_level : ℕ → List ℕ → List ℕ
with_level level [] = []
with_level level (byte ∷ rest) = (byte / 64 * 64 + 4 * level + byte % 4) ∷ rest

-- something, and these bytes are it with this level
pub record IsAtLevel (level : ℕ) (others bytes : List ℕ) : Type 0 where
  pub below : level < 16
  pub some : others ≢ []
  pub bytes_are : bytes ≡ with_level level others

-- Under some state, these bytes spell a packet by which the latest mask and the latest content became known. It has no recent
-- changes, and these are those of the latest written packet too.
pub record SpellLatest (latest : Latest) (shown : Change) (bytes : List ℕ) : Type 0 where
  pub state : State
  pub t : ℕ
  pub form : Form
  pub spells : Spells (length latest.content) state t (bits_of bytes) form (Some latest.mask) (Some latest.content)
  pub recent : form.recent ≡ shown.recent
  pub quiet : form.recent ≡ replicate (length form.recent) false
  pub numbers : latest.mask_number ≡ latest.content_number

-- what is remembered, if it is something
abbrev pub IsRemembered : Latest → Change → List ℕ → Type 0
IsRemembered latest shown bytes = bytes ≢ [] → SpellLatest latest shown bytes

-- What holds of the parts of a decoder: the latest vectors, the first part of the latest written packet, what is filled as
-- the next packet is read, and the data that are remembered.
pub record IsDecoder (latest : Latest) (shown : Change) (room : Room) (kept : List ℕ) : Type 0 where
  pub vector : IsVector latest.content
  pub latest_vectors : LatestHasPlaces (length latest.content) latest
  pub shown_places : length shown.recent ≡ length latest.content
  pub room_places : length room.draft.content ≡ length latest.content
  pub first_mask : IfNone latest.mask_number (latest.mask ≡ replicate (length latest.content) false)
  pub first_content : IfNone latest.content_number (latest.content ≡ replicate (length latest.content) false)
  pub first_recent : IfNone latest.content_number (shown.recent ≡ replicate (length latest.content) false)
  pub first_level : IfNone latest.content_number (shown.level ≡ 0)
  pub remembered : IsRemembered latest shown kept
