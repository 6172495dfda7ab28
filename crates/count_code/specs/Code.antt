-- The code of counts (CCSDS 124.0-B-1).
use Rattle.std.specs.Prelude.{ℕ, zero, suc, ◌-◌, ◌*◌, ◌/◌, ◌==◌, nat_le, Bool, true, false, if◌then◌else◌, List, [], ◌∷◌, ◌++◌}
use Rattle.bit_vectors.specs.Vectors.{number_bits}

-- how many times a number can be halved before it is 0, counted up to a limit
unfoldable pub halvings : ℕ → ℕ → ℕ
halvings zero n = 0
halvings (suc most) n = if n == 0 then 0 else suc (halvings most (n / 2))

-- how many binary digits a number has: one more than the integer part of its logarithm to base 2
unfoldable pub digits : ℕ → ℕ
digits n = halvings n n

-- the word of a count, from 1 up
unfoldable pub count_bits : ℕ → List Bool
count_bits a =
    if a == 1 then false ∷ []
    else if nat_le a 33 then (true ∷ true ∷ false ∷ []) ++ number_bits 5 (a - 2)
    else (true ∷ true ∷ true ∷ []) ++ number_bits (2 * digits (a - 2) - 6) (a - 2)

-- the word that ends a list of counts
abbrev pub end_bits : List Bool
end_bits = true ∷ false ∷ []
