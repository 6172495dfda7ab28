-- Numbers as texts write them.
use Rattle.std.specs.Prelude.{ℕ, ℤ, neg_ℤ, pos, slice_index, drop, Bool, false, not, ◌&&◌, ◌==◌, nat_le, List, [], ◌∷◌, Option, Some, None, if◌then◌else◌}
use Rattle.std.specs.Option.{option_map}
use Rattle.std.specs.Str.{all_ascii_digits}
use Rattle.std.specs.Str.Parse.{digits_value}

-- digits alone, with no leading zero unless the text is `0`
abbrev pub is_plain_decimal : List ℕ → Bool
is_plain_decimal [] = false
is_plain_decimal (digit ∷ []) = all_ascii_digits (digit ∷ [])
is_plain_decimal (digit ∷ next ∷ rest) = not (digit == 48) && all_ascii_digits (digit ∷ next ∷ rest)

-- the number that the text says, if it is a plain decimal from low to high
abbrev pub number_of : ℕ → ℕ → List ℕ → Option ℕ
number_of low high text =
    if is_plain_decimal text && nat_le low (digits_value 10 text) && nat_le (digits_value 10 text) high
    then Some (digits_value 10 text)
    else None

-- The number that the text says, from -2^63 to 2^64 - 1: a plain decimal, or `-` and a plain decimal above 0.
abbrev pub signed_number_of : List ℕ → Option ℤ
signed_number_of text =
    if slice_index text 0 == 45
    then option_map (λ n. neg_ℤ (pos n)) (number_of 1 9223372036854775808 (drop 1 text))
    else option_map pos (number_of 0 18446744073709551615 text)
