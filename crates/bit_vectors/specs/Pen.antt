-- What a pen holds: the bits so far, and the capacity.
use Rattle.std.specs.Prelude.{◌≡◌, ℕ, ◌+◌, ◌-◌, ◌*◌, ◌/◌, ◌%◌, ◌^◌, ◌<◌, ◌≤◌, Bool, List, ◌++◌, length, take}
use Rattle.std.specs.Int.{w64, to_be_bytes}
use Rattle.bit_vectors.specs.Vectors.{number_bits, bits_of}

pub record PenState : Type 0 where
  pub bits : List Bool
  pub room : ℕ

-- the bits of the whole words, which are in the bytes, and the first bits of the word that isn't full
abbrev pub written_bits : List ℕ → ℕ → ℕ → ℕ → List Bool
written_bits bytes words word held = bits_of (take (8 * words) bytes) ++ number_bits held (word / 2 ^ (64 - held))

-- how many bytes are needed for the words of the given number of bits, and one word more
abbrev pub pen_bytes : ℕ → ℕ
pen_bytes room = 8 * ((room + 63) / 64) + 8

-- The bytes have the capacity and never grow beyond it, so that no memory is allocated. The word that isn't full is
-- zero after its bits, and is in the bytes too if it has any.
pub record HasRoom (bytes : List ℕ) (capacity words word held room : ℕ) : Type 0 where
  pub within : 64 * words + held ≤ room
  pub most : room ≤ 524288
  pub bytes_fit : length bytes ≡ pen_bytes room
  pub taken : capacity ≡ pen_bytes room
  pub short : held < 64
  pub small : word < 2 ^ 64
  pub clean : word % 2 ^ (64 - held) ≡ 0
  pub kept : 0 < held → take (8 * words + 8) bytes ≡ take (8 * words) bytes ++ to_be_bytes w64 word
