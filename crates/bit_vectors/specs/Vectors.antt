-- Vectors of bits, and how bits are placed in bytes: the bit of the greatest weight of the first byte comes first.
use Rattle.std.specs.Prelude.{ℕ, zero, suc, ◌+◌, ◌-◌, ◌*◌, ◌/◌, ◌^◌, ◌<◌, ◌≤◌, ◌==◌, Bool, true, false, if◌then◌else◌, List, [], ◌∷◌, ◌++◌, length, take, drop, replicate, slice_index, slice_index_or, ◌≡◌, not, ◌&&◌, ◌||◌}
use Rattle.std.specs.List.{flat_map, list_any}
use Rattle.std.specs.Int.{bit_at}
use Rattle.std.specs.Simd.Lanes.{zip2}

-- the most places that a vector has
abbrev pub most_places : ℕ
most_places = 49152

-- a number of places; a vector has such a number
abbrev pub IsPlaces : ℕ → Type 0
IsPlaces f = (1 ≤ f) × (f ≤ most_places)

abbrev pub IsVector : List Bool → Type 0
IsVector v = IsPlaces (length v)

-- vectors place by place: 1 if exactly one of the two bits is 1, if at least one is, if the first alone is
abbrev pub xor_bits : List Bool → List Bool → List Bool
xor_bits = zip2 (λ a b. if a then not b else b)

abbrev pub or_bits : List Bool → List Bool → List Bool
or_bits = zip2 (λ a b. a || b)

abbrev pub without_bits : List Bool → List Bool → List Bool
without_bits = zip2 (λ a b. a && not b)

-- the bit at this place is 1; so the place is one of the vector's
abbrev pub IsOne : List Bool → ℕ → Type 0
IsOne v place = slice_index_or v place false ≡ true

-- no bit is 1 from one place up to, but not including, another
abbrev pub NoneIsOne : List Bool → ℕ → ℕ → Type 0
NoneIsOne v from to = (k : ℕ) → from ≤ k → k < to → slice_index_or v k false ≡ false

-- the bits of a number in this width, the bit of the greatest weight first
unfoldable pub number_bits : ℕ → ℕ → List Bool
number_bits zero n = []
number_bits (suc width) n = (bit_at n width == 1) ∷ number_bits width n

-- the number that these bits spell, the bit of the greatest weight first
unfoldable pub bits_number : List Bool → ℕ
bits_number [] = 0
bits_number (bit ∷ bits) = (if bit then 2 ^ length bits else 0) + bits_number bits

-- the bits of bytes: eight for each
abbrev pub bits_of : List ℕ → List Bool
bits_of bytes = flat_map (number_bits 8) bytes

-- numbers below 256
abbrev pub AreBytes : List ℕ → Type 0
AreBytes bytes = (i : ℕ) → slice_index bytes i < 256

-- how many bytes the given number of bits needs
abbrev pub byte_count : ℕ → ℕ
byte_count count = (count + 7) / 8

-- whether a bit that belongs to none of the given number of places is 1
abbrev pub has_spare_bit : ℕ → List ℕ → Bool
has_spare_bit places bytes = list_any (λ bit. bit) (drop places (bits_of bytes))

-- the bits, and fewer than eight zeros after them, so that they fill whole bytes
abbrev pub padded : List Bool → List Bool
padded bits = bits ++ replicate (8 * byte_count (length bits) - length bits) false

-- the given number of bytes that the first of these bits fill
unfoldable pub bytes_from : ℕ → List Bool → List ℕ
bytes_from zero bits = []
bytes_from (suc count) bits = bits_number (take 8 bits) ∷ bytes_from count (drop 8 bits)

-- the bits as bytes: the bytes of the padded bits
unfoldable pub vector_bytes : List Bool → List ℕ
vector_bytes bits = bytes_from (byte_count (length bits)) (padded bits)
