-- What a sender keeps, and what it is given.
use Rattle.std.specs.Prelude.{◌≡◌, ℕ, ◌+◌, ◌*◌, ◌==◌, Bool, false, true, List, length, take, drop, replicate, Option, None, Some, Contains}
use Rattle.std.specs.Borrow.{Bor}
use Rattle.std.specs.Option.{option_map}
use Rattle.bit_vectors.specs.Pen.{PenState}
use Rattle.bit_vectors.specs.Vectors.{bits_of, byte_count, has_spare_bit}
use Rattle.packet_encode.specs.Encoder.{EncoderState}

-- the vector of f places that these bytes spell
abbrev pub vector_in : ℕ → List ℕ → List Bool
vector_in f bytes = take f (bits_of bytes)

-- the bytes are as many as a vector of f places needs
abbrev pub HasByteCount : ℕ → List ℕ → Type 0
HasByteCount f bytes = length bytes ≡ byte_count f

-- a bit of them that belongs to no place is 1
abbrev pub HasSpareBit : ℕ → List ℕ → Type 0
HasSpareBit f bytes = Contains (drop f (bits_of bytes)) true

-- the bytes of a mask, if one is given
abbrev pub given_mask : Option (Bor (List ℕ)) → Option (List ℕ)
given_mask mask = option_map (λ m. m.now) mask

-- the first mask of a sender: the given one, or else zeros
abbrev pub first_mask : ℕ → Option (List ℕ) → List Bool
first_mask f None = replicate f false
first_mask f (Some bytes) = vector_in f bytes

-- no mask is given, or one that has as many bytes as it needs
abbrev pub mask_fits : ℕ → Option (List ℕ) → Bool
mask_fits f None = true
mask_fits f (Some bytes) = length bytes == byte_count f

-- a mask is given that has a spare bit
abbrev pub mask_has_spare_bit : ℕ → Option (List ℕ) → Bool
mask_has_spare_bit f None = false
mask_has_spare_bit f (Some bytes) = has_spare_bit f bytes

-- the room for any packet of vectors of f places, in bits and in bytes
abbrev pub room_bits : ℕ → ℕ
room_bits f = 10 * f + 43

abbrev pub room_bytes : ℕ → ℕ
room_bytes f = byte_count (room_bits f)

-- what an encoder keeps, and the room of the pen that its packets are written with, in bits
pub record SenderState : Type 0 where
  pub encoder : EncoderState
  pub room : ℕ

-- the vector for an input has the places of the masks, and the pen has room for any packet, and no more
pub record IsSender (encoder : EncoderState) (input : List Bool) (pen : PenState) : Type 0 where
  pub places : length input ≡ length encoder.masks.mask
  pub room : pen.room ≡ room_bits (length encoder.masks.mask)
