-- Numbers out of vectors.
use Rattle.std.specs.Prelude.{ℕ, ◌+◌, ◌-◌, ◌^◌, Bool, false, ◌&&◌, List, take, drop, slice_index_or, ℤ, pos, ◌-ℤ◌, if◌then◌else◌}
use Rattle.std.specs.List.{range_with_len, sum_by}
use Rattle.bit_vectors.specs.Vectors.{bits_number}

-- the number that the bits of a vector from a place on spell in this width, the bit of the greatest weight first
abbrev pub number_in : List Bool → ℕ → ℕ → ℕ
number_in v place width = bits_number (take width (drop place v))

-- the first of these bits
abbrev pub first_bit : List Bool → ℕ → Bool
first_bit v place = slice_index_or v place false

-- a number that may be signed: then it is less by 2^width if its first bit is 1
abbrev pub signed_if : Bool → Bool → ℕ → ℕ → ℤ
signed_if signed first width number = if signed && first then pos number -ℤ pos (2 ^ width) else pos number

-- what a field of this place, width and kind has in a vector
abbrev pub cell_in : List Bool → ℕ → ℕ → Bool → ℤ
cell_in v place width signed = signed_if signed (first_bit v place) width (number_in v place width)

-- the sum of the bits from a place on, each by its weight
abbrev pub sum_by_weight : List Bool → ℕ → ℕ → ℕ
sum_by_weight v place width = sum_by (λ i. if slice_index_or v (place + i) false then 2 ^ (width - 1 - i) else 0) (range_with_len 0 width)
