-- The words of 64 bits in which a vector is kept: place 0 is the bit of the greatest weight of word 0.
use Rattle.std.specs.Prelude.{◌≡◌, ℕ, ◌+◌, ◌-◌, ◌*◌, ◌/◌, ◌%◌, ◌^◌, ◌<◌, ◌≤◌, ◌==◌, Bool, false, List, length, take, slice_index, slice_index_or}
use Rattle.std.specs.List.{flat_map}
use Rattle.std.specs.Int.{bit_at}
use Rattle.bit_vectors.specs.Vectors.{number_bits, most_places}

-- how many words the given number of places needs
abbrev pub word_count : ℕ → ℕ
word_count places = (places + 63) / 64

-- the 64 bits of a word are those of the vector from place 64 * index on, and zeros after its end
abbrev pub IsWord : List Bool → ℕ → ℕ → Type 0
IsWord v index word = (k : ℕ) → k < 64 → (bit_at word (63 - k) == 1) ≡ slice_index_or v (64 * index + k) false

-- in the word with this number, each bit that belongs to none of the given number of places is zero
abbrev pub HasNoSpareBit : ℕ → ℕ → ℕ → Type 0
HasNoSpareBit places index word = (k : ℕ) → k < 64 → places ≤ 64 * index + k → bit_at word (63 - k) ≡ 0

-- ---- what is kept

-- the bit with this number, counted over all the words, or a zero after their end
unfoldable pub bit_of : List ℕ → ℕ → Bool
bit_of words k = bit_at (slice_index words (k / 64)) (63 - k % 64) == 1

-- the bits of all the words
abbrev pub word_bits : List ℕ → List Bool
word_bits words = flat_map (number_bits 64) words

-- the vector with the given number of places
unfoldable pub vector_of : List ℕ → ℕ → List Bool
vector_of words places = take places (word_bits words)

-- the words contain the places, and no spare bit is 1
pub record AreWords (words : List ℕ) (places : ℕ) : Type 0 where
  pub some : 1 ≤ places
  pub most : places ≤ most_places
  pub count : length words ≡ word_count places
  pub numbers : (i : ℕ) → slice_index words i < 2 ^ 64
  pub spare : (k : ℕ) → places ≤ k → bit_of words k ≡ false

-- no bit is 1 from one number up to, but not including, another
abbrev pub NoBitIsOne : List ℕ → ℕ → ℕ → Type 0
NoBitIsOne words from to = (k : ℕ) → from ≤ k → k < to → bit_of words k ≡ false
