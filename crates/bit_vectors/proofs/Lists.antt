-- Lists as such, for every crate.
use Rattle.std.proofs.Common.{◌≡◌, ℕ, zero, suc, ◌+◌, ◌<◌, Bool, true, false, List, [], ◌∷◌, map, replicate, get_or, refl, ap, ◌∙◌, arith}
use Rattle.std.specs.List.{list_any, range_with_len}
use Rattle.std.specs.Prelude.{Contains}

-- copies of a value have it at each place, also after their end if it is the default
pub get_or-replicate_same : {A : Type 0} (n k : ℕ) (a : A) → get_or (replicate n a) k a ≡ a
get_or-replicate_same zero k a = refl
get_or-replicate_same (suc n) zero a = refl
get_or-replicate_same (suc n) (suc k) a = get_or-replicate_same n k a

-- if any bit is a one, the bits have a one
pub one_in : (bits : List Bool) → list_any (λ (bit : Bool). bit) bits ≡ true → Contains bits true
one_in [] any = absurd cc
one_in (true ∷ bits) any = (0, omega arith, refl)
one_in (false ∷ bits) any = let one = one_in bits any in (suc one.0, omega (arith, one.1), one.2)

-- two functions that agree up to a number give the same list up to there
pub map_same : {A : Type 0} (p q : ℕ → A) (a n : ℕ) → ((s : ℕ) → s < a + n → p s ≡ q s) → map p (range_with_len a n) ≡ map q (range_with_len a n)
map_same p q a zero same = refl
map_same p q a (suc n) same =
    ap (λ x. x ∷ map p (range_with_len (a + 1) n)) (same a (omega arith))
    ∙ ap (λ xs. q a ∷ xs) (map_same p q (a + 1) n (λ s lt. same s (omega arith)))
