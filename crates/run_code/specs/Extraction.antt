-- Bits of one vector at the ones of another, and the places of its ones.
use Rattle.std.specs.Int.{bit_at}
use Rattle.std.specs.Int.RustNames.{count_ones}
use Rattle.std.specs.List.{list_any}
use Rattle.std.specs.Prelude.{◌≡◌, ℕ, ◌+◌, ◌-◌, ◌*◌, ◌%◌, ◌^◌, ◌<◌, ◌≤◌, Bool, List, [], ◌∷◌, ◌++◌, length, map, take, reverse, if◌then◌else◌, slice_index, true, false, not, replicate, slice_index_or, slice_set, Contains}
use Rattle.bit_vectors.specs.Reading.{Parsed, Read, WrongBit, ◌>>=◌, bit_where}
use Rattle.bit_vectors.specs.Vectors.{number_bits, most_places, IsOne}
use Rattle.run_code.specs.declared.descending.WordOnes.{WordOnes}

-- ---- the places of a vector's ones

-- the places of the ones of a list whose first bit has this place, the least first
unfoldable pub ones_from : ℕ → List Bool → List ℕ
ones_from place [] = []
ones_from place (bit ∷ bits) = if bit then place ∷ ones_from (place + 1) bits else ones_from (place + 1) bits

-- the places of a vector's ones, the least first
abbrev pub places_up : List Bool → List ℕ
places_up v = ones_from 0 v

-- the greatest first
abbrev pub places_down : List Bool → List ℕ
places_down v = reverse (places_up v)

-- the places of the ones of the first words of a vector, as many as these, the greatest first
abbrev pub places_before : ℕ → List Bool → List ℕ
places_before words v = places_down (take (64 * words) v)

-- the ones that are left of a word, and those of the words before it, the greatest first
unfoldable pub ones_left : List Bool → WordOnes → List ℕ
ones_left v word = map (λ place. 64 * word.index + place) (places_down (number_bits 64 word.ones)) ++ places_before word.index v

-- a word with its ones, of a vector
pub record AreWithin (v : List Bool) (word : WordOnes) : Type 0 where
  pub vector : length v ≤ most_places
  pub index : 64 * word.index < length v
  pub ones : word.ones < 2 ^ 64

-- how many ones a number has below a weight
unfoldable pub ones_under : ℕ → ℕ → ℕ
ones_under n weight = count_ones (n % 2 ^ weight)

-- how many zeros it has there
unfoldable pub zeros_under : ℕ → ℕ → ℕ
zeros_under n weight = weight - ones_under n weight

-- Six words that tell, bit by bit, the zeros of a word below each weight: at this weight they have the bits of that number,
-- from the lowest up.
pub record AreZeroCounts (word : ℕ) (counts : List ℕ) : Type 0 where
  pub small : word < 2 ^ 64
  pub bits : (level weight : ℕ) → level < 6 → weight < 64 → bit_at (slice_index counts level) weight ≡ bit_at (zeros_under word weight) level
  pub fits : (level : ℕ) → level < 6 → slice_index counts level < 2 ^ 64

-- ---- bits of one vector at the ones of another

-- the bits of a vector at these places
abbrev pub bits_at : List Bool → List ℕ → List Bool
bits_at v places = map (λ place. slice_index_or v place false) places

-- the bits of the first at the ones of the second, from the highest place down
abbrev pub extract : List Bool → List Bool → List Bool
extract a b = bits_at a (places_down b)

-- the same from the lowest place up
abbrev pub bits_up : List Bool → List Bool → List Bool
bits_up a b = bits_at a (places_up b)

-- the inverted bits of a mask at the ones of a vector, from the lowest place up
abbrev pub inverse_up : List Bool → List Bool → List Bool
inverse_up mask x = map not (bits_up mask x)

-- at every place at which a vector is zero, the new bit is the old one
abbrev pub SameOutside : List Bool → List Bool → List Bool → Type 0
SameOutside b old new =
    (place : ℕ) → slice_index_or b place false ≡ false → slice_index_or new place false ≡ slice_index_or old place false

-- a set of ones of a vector that is not empty, and its word: for each 1 of the vector, from the lowest place up,
-- whether it is in the set
pub record IsInverseWord (x set_of_ones word : List Bool) : Type 0 where
  pub places : length set_of_ones ≡ length x
  pub within : (place : ℕ) → IsOne set_of_ones place → IsOne x place
  pub some : Contains set_of_ones true
  pub bits : word ≡ bits_up set_of_ones x

-- ---- reading

-- a vector with the bits read at these places
unfoldable pub parse_filled : List ℕ → List Bool → List Bool → Parsed (List Bool)
parse_filled [] v bits = Read v bits
parse_filled (place ∷ places) v bits =
    bit_where (λ bit. true) bits
    >>= λ bit rest. parse_filled places (slice_set v place bit) rest

-- a set of ones of a vector; if it would be empty the last bit is wrong
unfoldable pub parse_inverse : List Bool → List Bool → Parsed (List Bool)
parse_inverse x bits =
    parse_filled (places_up x) (replicate (length x) false) bits
    >>= λ y rest. if list_any (λ bit. bit) y then Read y rest else WrongBit rest
