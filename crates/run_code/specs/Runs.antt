-- Edges of a mask, and the word of a vector's runs (CCSDS 124.0-B-1).
use Rattle.std.specs.Prelude.{◌≡◌, ℕ, zero, suc, ◌-◌, ◌⊎◌, Bool, true, false, List, [], ◌∷◌, ◌++◌, length, replicate, slice_set, drop}
use Rattle.bit_vectors.specs.Reading.{Parsed, Read, TooShort, ◌>>=◌}
use Rattle.bit_vectors.specs.Vectors.{xor_bits}
use Rattle.count_code.specs.Code.{count_bits, end_bits}
use Rattle.count_code.specs.Counts.{IsBegunBy, IsLeastWithin, parse_count}
use Rattle.count_code.specs.declared.count.Count.{Count}
use Rattle.count_code.specs.declared.count.Count.TheVariants.{Value, End}
use Rattle.run_code.specs.Extraction.{places_down}

-- ---- the word of a vector's runs (CCSDS 124.0-B-1): for each 1, from the highest place down, the count of places from the
-- 1 before it, and then the end of the counts. The first is counted from the number of places

-- the counts from a place down to the first of these, and from each to the next, and the end
unfoldable pub runs_from : ℕ → List ℕ → List Bool
runs_from place [] = end_bits
runs_from place (next ∷ places) = count_bits (place - next) ++ runs_from next places

unfoldable pub run_bits : List Bool → List Bool
run_bits v = runs_from (length v) (places_down v)

-- the same without the end
unfoldable pub counts_from : ℕ → List ℕ → List Bool
counts_from place [] = []
counts_from place (next ∷ places) = count_bits (place - next) ++ counts_from next places

-- the last of these places, which are all below this one, or this one if there are none
unfoldable pub lowest_from : ℕ → List ℕ → ℕ
lowest_from place [] = place
lowest_from place (next ∷ places) = lowest_from next places

-- the run word of a vector without its end, and the place below which everything is zero after it
abbrev pub counts_of : List Bool → List Bool
counts_of v = counts_from (length v) (places_down v)

abbrev pub lowest_of : List Bool → ℕ
lowest_of v = lowest_from (length v) (places_down v)

-- the run word of a vector with the given number of places
abbrev pub IsRunWordOf : ℕ → List Bool → List Bool → Type 0
IsRunWordOf f v word = (length v ≡ f) × (word ≡ run_bits v)

abbrev pub IsRunWord : ℕ → List Bool → Type 0
IsRunWord f word = (v : List Bool) × IsRunWordOf f v word

-- ---- completions

-- The bits are the counts of a vector with the given number of places, and then some that begin the end, or that begin a
-- count, the least of which is within the place of the lowest 1.
pub record IsRunFront (f : ℕ) (bits : List Bool) : Type 0 where
  pub vector : List Bool
  pub places : length vector ≡ f
  pub front : List Bool
  pub parts : bits ≡ counts_of vector ++ front
  pub next : IsBegunBy front End ⊎ IsLeastWithin (lowest_of vector) front

-- ---- reading

-- what to do at a count, and at the end
abbrev pub at_count : {A : Type 0} → Count → (ℕ → A) → A → A
at_count (Value a) next end = next a
at_count End next end = end

-- a vector so far, with the ones that are still to be read, of which there are fewer than `most`, below a place
unfoldable pub parse_ones : ℕ → ℕ → List Bool → List Bool → Parsed (List Bool)
parse_ones zero below v bits = TooShort
parse_ones (suc most) below v bits =
    parse_count below bits
    >>= λ count rest. at_count count (λ a. parse_ones most (below - a) (slice_set v (below - a) true) rest) (Read v rest)

-- a vector with the given number of places
unfoldable pub parse_vector : ℕ → List Bool → Parsed (List Bool)
parse_vector f bits = parse_ones (suc f) f (replicate f false) bits

-- ---- the edges of a mask: the places at which it differs from the next place (CCSDS 124.0-B-1)

-- each bit and the next one; a zero follows the last
abbrev pub edges : List Bool → List Bool
edges mask = xor_bits mask (drop 1 mask ++ false ∷ [])
