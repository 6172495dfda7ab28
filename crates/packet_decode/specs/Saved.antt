-- The bytes of a decoder in a saved state.
use Rattle.std.specs.Prelude.{◌≡◌, ℕ, ◌+◌, ◌*◌, ◌<◌, ◌≤◌, ◌^◌, false, Bool, List, ◌∷◌, ◌++◌, length, replicate, Option, None, Some, IfNone}
use Rattle.bit_vectors.specs.Vectors.{IsPlaces}
use Rattle.state_bytes.specs.Parts.{number_bytes, vector_part, vector_room}
use Rattle.packet_decode.specs.State.{IsState, Decoding, latest_content, latest_mask, latest_mask_number, latest_number}

-- The number of a packet and one more, and 0 if there is none.
abbrev pub number_and_one : Option ℕ → ℕ
number_and_one None = 0
number_and_one (Some n) = n + 1

-- two numbers, a level, and what follows
abbrev pub numbers_before : ℕ → ℕ → ℕ → List ℕ → List ℕ
numbers_before mask content level rest = number_bytes mask ++ (number_bytes content ++ (level ∷ rest))

-- three vectors
abbrev pub three_parts : List Bool → List Bool → List Bool → List ℕ
three_parts mask content recent = vector_part mask ++ (vector_part content ++ vector_part recent)

-- the numbers of the latest mask and content, the level, and then the mask, the content and the recent changes
abbrev pub decoding_bytes : Decoding → List ℕ
decoding_bytes d =
    numbers_before (number_and_one (latest_mask_number d.state)) (number_and_one (latest_number d.state)) d.level
    (three_parts (latest_mask d.places d.state) (latest_content d.places d.state) d.recent)

-- the most bytes of a decoder with vectors of f places
abbrev pub decoding_room : ℕ → ℕ
decoding_room f = 17 + 3 * vector_room f

-- what a decoder with vectors of f places may be: known vectors have as many, numbers are within 64 bits and the level within
-- four, and before the first content there are no recent changes
pub record IsDecoding (f : ℕ) (d : Decoding) : Type 0 where
  pub vector : IsPlaces f
  pub places : d.places ≡ f
  pub state : IsState f d.state
  pub recent_places : length d.recent ≡ f
  pub level_most : d.level < 16
  pub mask_number : number_and_one (latest_mask_number d.state) < 2 ^ 64
  pub content_number : number_and_one (latest_number d.state) < 2 ^ 64
  pub first_recent : IfNone d.state.content (d.recent ≡ replicate f false)
  pub first_level : IfNone d.state.content (d.level ≡ 0)

-- numbers are within 64 bits
pub record AreNumbers (d : Decoding) : Type 0 where
  pub mask : number_and_one (latest_mask_number d.state) < 2 ^ 64
  pub content : number_and_one (latest_number d.state) < 2 ^ 64

-- the bytes are those of such a decoder, whose numbers are before this one
pub record AreOfDecoding (f before : ℕ) (bytes : List ℕ) : Type 0 where
  pub decoding : Decoding
  pub valid : IsDecoding f decoding
  pub mask : number_and_one (latest_mask_number decoding.state) ≤ before
  pub content : number_and_one (latest_number decoding.state) ≤ before
  pub bytes_are : bytes ≡ decoding_bytes decoding

-- the bytes are three vectors of f places, of which the first and the other two are zero unless they may have a 1
pub record AreThree (f : ℕ) (first others : Bool) (bytes : List ℕ) : Type 0 where
  pub mask : List Bool
  pub content : List Bool
  pub recent : List Bool
  pub bytes_are : bytes ≡ three_parts mask content recent
  pub mask_places : length mask ≡ f
  pub content_places : length content ≡ f
  pub recent_places : length recent ≡ f
  pub mask_zero : first ≡ false → mask ≡ replicate f false
  pub content_zero : others ≡ false → content ≡ replicate f false
  pub recent_zero : others ≡ false → recent ≡ replicate f false
