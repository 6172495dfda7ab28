-- The parts of a saved state, one after the other.
use Rattle.std.specs.Prelude.{◌≡◌, ℕ, ◌+◌, Bool, false, if◌then◌else◌, List, [], ◌∷◌, ◌++◌, length, take, drop, replicate}
use Rattle.std.specs.List.{list_any}
use Rattle.std.specs.Int.{to_be_bytes, w64}
use Rattle.bit_vectors.specs.Vectors.{byte_count, vector_bytes}

-- a number of 64 bits, the most significant byte first
unfoldable pub number_bytes : ℕ → List ℕ
number_bytes n = to_be_bytes w64 n

-- some bit is 1
abbrev pub has_one : List Bool → Bool
has_one v = list_any (λ bit. bit) v

-- A vector: the byte 1 and its bytes, or if no bit of it is 1 the byte 0 alone.
unfoldable pub vector_part : List Bool → List ℕ
vector_part v = if has_one v then 1 ∷ vector_bytes v else 0 ∷ []

-- the most bytes of the part of a vector of f places
abbrev pub vector_room : ℕ → ℕ
vector_room f = byte_count f + 1

-- Bytes were written at a place, and end before another; all else stays.
pub record Puts (old new : List ℕ) (at : ℕ) (bytes : List ℕ) (end : ℕ) : Type 0 where
  pub end_is : end ≡ at + length bytes
  pub is : new ≡ take at old ++ bytes ++ drop end old
  pub len : length new ≡ length old

-- the bytes begin with the part of this vector of f places, and the rest follows
pub record BeginsVector (f : ℕ) (v : List Bool) (bytes rest : List ℕ) : Type 0 where
  pub places : length v ≡ f
  pub bytes_are : bytes ≡ vector_part v ++ rest

-- the same for a vector that is zero unless it may have a 1
pub record BeginsVectorIf (may : Bool) (f : ℕ) (v : List Bool) (bytes rest : List ℕ) : Type 0 where
  pub begins : BeginsVector f v bytes rest
  pub zero : may ≡ false → v ≡ replicate f false
