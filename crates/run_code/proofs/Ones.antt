-- The places of a vector's ones, found one after another.
use Rattle.std.proofs.Common.{◌≡◌, ℕ, zero, suc, ◌+◌, ◌-◌, ◌<◌, ◌≤◌, Bool, true, false, cond, List, [], ◌∷◌, ◌++◌, length, get_or, take, replicate, refl, sym, ap, ◌∙◌, arith, inl, inr, ◌⊎◌, add-one}
use Rattle.std.specs.Prelude.{reverse, count_by, Contains}
use Rattle.std.proofs.lemmas.Bool.{cases_eq, cases_lt, true≢false}
use Rattle.std.proofs.lemmas.List.{reverse-append, append-nil, length-take, length-reverse, take_more, take_all, get_or_past, get_or-replicate, length-replicate}
use Rattle.std.proofs.lemmas.List.Sums.{sum_by-cons}
use Rattle.bit_vectors.specs.Vectors.{NoneIsOne}
use Rattle.run_code.specs.Extraction.{ones_from, places_up, places_down}

-- the places of the ones below a place, the greatest first
unfoldable pub ones_below : ℕ → List Bool → List ℕ
ones_below zero v = []
ones_below (suc place) v = cond (get_or v place false) (place ∷ ones_below place v) (ones_below place v)

pub one_or_zero : (bit : Bool) → (bit ≡ true) ⊎ (bit ≡ false)
one_or_zero true = inl refl
one_or_zero false = inr refl

pub zeros_at : (n k : ℕ) → get_or (replicate n false) k false ≡ false
zeros_at n k =
    elim (cases_lt k n) [
      | inl lt ↦ get_or-replicate n k false false lt
      | inr le ↦ get_or_past (replicate n false) k false (omega (arith, length-replicate n false))
    ]

-- ---- from the greatest down

ones_from-push : (n : ℕ) (bits : List Bool) (bit : Bool) → ones_from n (bits ++ bit ∷ []) ≡ ones_from n bits ++ cond bit ((n + length bits) ∷ []) []
unfolding ones_from
ones_from-push n [] true = ap (λ (k : ℕ). k ∷ []) (omega arith)
ones_from-push n [] false = refl
ones_from-push n (true ∷ bits) bit =
    let count : (n + 1) + length bits ≡ n + suc (length bits) = omega arith in
    ap (λ (rest : List ℕ). n ∷ rest) (rw count at (ones_from-push (n + 1) bits bit))
ones_from-push n (false ∷ bits) bit =
    let count : (n + 1) + length bits ≡ n + suc (length bits) = omega arith in
    rw count at (ones_from-push (n + 1) bits bit)

reverse_push : (places : List ℕ) (bit : Bool) (n : ℕ) → reverse (places ++ cond bit (n ∷ []) []) ≡ cond bit (n ∷ reverse places) (reverse places)
reverse_push places true n = reverse-append places (n ∷ [])
reverse_push places false n = ap reverse (append-nil places)

pub below_is : (n : ℕ) (v : List Bool) → n ≤ length v → reverse (ones_from 0 (take n v)) ≡ ones_below n v
unfolding ones_from ones_below
below_is zero v le = refl
below_is (suc n) v le =
    let more : take (suc n) v ≡ take n v ++ get_or v n false ∷ [] = rw add-one at (take_more v n false (omega arith)) in
    let count : 0 + length (take n v) ≡ n = omega (arith, length-take n v) in
    let push : ones_from 0 (take n v ++ get_or v n false ∷ []) ≡ ones_from 0 (take n v) ++ cond (get_or v n false) (n ∷ []) [] =
    rw count at (ones_from-push 0 (take n v) (get_or v n false)) in
    rw (more, push, reverse_push (ones_from 0 (take n v)) (get_or v n false) n, below_is n v (omega arith)) refl

pub places_down_is : (v : List Bool) → places_down v ≡ ones_below (length v) v
places_down_is v = rw (take_all (length v) v (omega arith)) at (below_is (length v) v (omega arith))

pub ones_below-one : (v : List Bool) (p n : ℕ) → p < n → get_or v p false ≡ true → NoneIsOne v (p + 1) n → ones_below n v ≡ p ∷ ones_below p v
unfolding ones_below
ones_below-one v p zero lt one none = absurd (omega arith)
ones_below-one v p (suc n) lt one none =
    elim (cases_eq p n) [
      | inl same ↦ rw (← same, one) refl
      | inr other ↦ rw (none n (omega arith) (omega arith)) (ones_below-one v p n (omega arith) one (λ k from to. none k from (omega arith)))
    ]

pub ones_below-none : (v : List Bool) (n : ℕ) → NoneIsOne v 0 n → ones_below n v ≡ []
unfolding ones_below
ones_below-none v zero none = refl
ones_below-none v (suc n) none = rw (none n (omega arith) (omega arith)) (ones_below-none v n (λ k from to. none k from (omega arith)))

pub one_within : (v : List Bool) (p : ℕ) → get_or v p false ≡ true → p < length v
one_within v p one =
    elim (cases_lt p (length v)) [ inl lt ↦ lt | inr le ↦ absurd (true≢false (sym one ∙ get_or_past v p false le)) ]

-- ---- how many

pub length-ones_from : (n : ℕ) (bits : List Bool) → length (ones_from n bits) ≡ count_by (λ bit. bit) bits
unfolding ones_from
length-ones_from n [] = refl
length-ones_from n (true ∷ bits) =
    omega (arith, length-ones_from (n + 1) bits, sum_by-cons {X = Bool} (λ (bit : Bool). cond bit 1 0) true bits)
length-ones_from n (false ∷ bits) =
    omega (arith, length-ones_from (n + 1) bits, sum_by-cons {X = Bool} (λ (bit : Bool). cond bit 1 0) false bits)

pub length-places_down : (v : List Bool) → length (places_down v) ≡ count_by (λ bit. bit) v
length-places_down v = length-reverse (places_up v) ∙ length-ones_from 0 v

-- ---- which places, and that they are different

Contains-cons : (x y : ℕ) (xs : List ℕ) → Contains (x ∷ xs) y → (x ≡ y) ⊎ Contains xs y
Contains-cons x y xs (zero, lt, is) = inl is
Contains-cons x y xs (suc k, lt, is) = inr (k, omega arith, is)

Contains-later : (x y : ℕ) (xs : List ℕ) → Contains xs y → Contains (x ∷ xs) y
Contains-later x y xs (k, lt, is) = (suc k, omega arith, is)

-- places below a length, all different
abbrev pub AreApart : List ℕ → ℕ → Type 0
AreApart [] len = Unit {0}
AreApart (place ∷ places) len = (place < len) × (Contains places place → ⊥) × AreApart places len

pub in_ones_from : (n : ℕ) (bits : List Bool) (k : ℕ) → Contains (ones_from n bits) k → (n ≤ k) × (get_or bits (k - n) false ≡ true)
unfolding ones_from
in_ones_from n [] k (i, lt, is) = absurd (omega arith)
in_ones_from n (true ∷ bits) k c =
    elim (Contains-cons n k (ones_from (n + 1) bits) c) [
      | inl here ↦ let none : k - n ≡ 0 = omega arith in (omega arith, rw none refl)
      | inr later ↦
          let h = in_ones_from (n + 1) bits k later in
          let place : k - n ≡ suc (k - (n + 1)) = omega (arith, h.0) in
          (omega (arith, h.0), rw place h.1)
    ]
in_ones_from n (false ∷ bits) k c =
    let h = in_ones_from (n + 1) bits k c in
    let place : k - n ≡ suc (k - (n + 1)) = omega (arith, h.0) in
    (omega (arith, h.0), rw place h.1)

pub ones_from_has : (n : ℕ) (bits : List Bool) (j : ℕ) → get_or bits j false ≡ true → Contains (ones_from n bits) (n + j)
unfolding ones_from
ones_from_has n [] j one = absurd (true≢false (sym one))
ones_from_has n (true ∷ bits) zero one = (0, omega arith, omega arith)
ones_from_has n (false ∷ bits) zero one = absurd (true≢false (sym one))
ones_from_has n (true ∷ bits) (suc j) one =
    let place : n + 1 + j ≡ n + suc j = omega arith in
    Contains-later n (n + suc j) (ones_from (n + 1) bits) (rw place at (ones_from_has (n + 1) bits j one))
ones_from_has n (false ∷ bits) (suc j) one =
    let place : n + 1 + j ≡ n + suc j = omega arith in
    rw place at (ones_from_has (n + 1) bits j one)

ones_from_apart : (n len : ℕ) (bits : List Bool) → n + length bits ≤ len → AreApart (ones_from n bits) len
unfolding ones_from
ones_from_apart n len [] le = tt
ones_from_apart n len (true ∷ bits) le =
    (omega arith, λ c. absurd (omega (arith, (in_ones_from (n + 1) bits n c).0)), ones_from_apart (n + 1) len bits (omega arith))
ones_from_apart n len (false ∷ bits) le = ones_from_apart (n + 1) len bits (omega arith)

pub places_up_apart : (v : List Bool) → AreApart (places_up v) (length v)
places_up_apart v = ones_from_apart 0 (length v) v (omega arith)

pub in_places_up : (v : List Bool) (k : ℕ) → Contains (places_up v) k → get_or v k false ≡ true
in_places_up v k c = let none : k - 0 ≡ k = omega arith in rw none at (in_ones_from 0 v k c).1

pub places_up_has : (v : List Bool) (k : ℕ) → get_or v k false ≡ true → Contains (places_up v) k
places_up_has v k one = let place : 0 + k ≡ k = omega arith in rw place at (ones_from_has 0 v k one)

below_case : (bit : Bool) (n k : ℕ) (places : List ℕ) → Contains (cond bit (n ∷ places) places) k → ((bit ≡ true) × (n ≡ k)) ⊎ Contains places k
below_case true n k places c = elim (Contains-cons n k places c) [ inl here ↦ inl (refl, here) | inr later ↦ inr later ]
below_case false n k places c = inr c

in_ones_below : (n : ℕ) (v : List Bool) (k : ℕ) → Contains (ones_below n v) k → (k < n) × (get_or v k false ≡ true)
unfolding ones_below
in_ones_below zero v k (i, lt, is) = absurd (omega arith)
in_ones_below (suc n) v k c =
    elim (below_case (get_or v n false) n k (ones_below n v) c) [
      | inl here ↦ (omega (arith, here.1), rw (← here.1) here.0)
      | inr later ↦ let h = in_ones_below n v k later in (omega (arith, h.0), h.1)
    ]

apart_case : (bit : Bool) (n len : ℕ) (places : List ℕ) → n < len → (Contains places n → ⊥) → AreApart places len → AreApart (cond bit (n ∷ places) places) len
apart_case true n len places lt new apart = (lt, new, apart)
apart_case false n len places lt new apart = apart

ones_below_apart : (n len : ℕ) (v : List Bool) → n ≤ len → AreApart (ones_below n v) len
unfolding ones_below
ones_below_apart zero len v le = tt
ones_below_apart (suc n) len v le =
    apart_case (get_or v n false) n len (ones_below n v) (omega arith) (λ c. absurd (omega (arith, (in_ones_below n v n c).0))) (ones_below_apart n len v (omega arith))

pub places_down_apart : (v : List Bool) → AreApart (places_down v) (length v)
places_down_apart v = rw (places_down_is v) (ones_below_apart (length v) (length v) v (omega arith))

pub in_places_down : (v : List Bool) (k : ℕ) → Contains (places_down v) k → get_or v k false ≡ true
in_places_down v k c = (in_ones_below (length v) v k (rw (places_down_is v) at c)).1

below_has : (bit : Bool) (n k : ℕ) (places : List ℕ) → Contains places k → Contains (cond bit (n ∷ places) places) k
below_has true n k places c = Contains-later n k places c
below_has false n k places c = c

ones_below_has : (n : ℕ) (v : List Bool) (k : ℕ) → k < n → get_or v k false ≡ true → Contains (ones_below n v) k
unfolding ones_below
ones_below_has zero v k lt one = absurd (omega arith)
ones_below_has (suc n) v k lt one =
    elim (cases_eq k n) [
      | inl here ↦ rw (← here, one) (0, omega arith, refl)
      | inr other ↦ below_has (get_or v n false) n k (ones_below n v) (ones_below_has n v k (omega arith) one)
    ]

pub places_down_has : (v : List Bool) (k : ℕ) → get_or v k false ≡ true → Contains (places_down v) k
places_down_has v k one = rw (places_down_is v) (ones_below_has (length v) v k (one_within v k one) one)

-- ---- the greatest 1

none_up_to : (n : ℕ) (v : List Bool) (from : ℕ) → NoneIsOne v from n → get_or v n false ≡ false → NoneIsOne v from (suc n)
none_up_to n v from none zero_here k le lt =
    elim (cases_eq k n) [ inl here ↦ rw here zero_here | inr other ↦ none k le (omega arith) ]

pub greatest_one : (n : ℕ) (v : List Bool) → NoneIsOne v 0 n ⊎ ((p : ℕ) × (p < n) × (get_or v p false ≡ true) × NoneIsOne v (p + 1) n)
greatest_one zero v = inl (λ k from to. absurd (omega arith))
greatest_one (suc n) v =
    elim (one_or_zero (get_or v n false)) [
      | inl one ↦ inr (n, omega arith, one, λ k from to. absurd (omega arith))
      | inr none ↦ elim (greatest_one n v) [
        | inl all ↦ inl (λ k from to. none_up_to n v 0 all none k from to)
        | inr h ↦ inr (h.0, omega (arith, h.1), h.2, λ k from to. none_up_to n v (h.0 + 1) h.3 none k from to)
      ]
    ]
