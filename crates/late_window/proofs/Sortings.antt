-- Arrivals in order: where one stands among them, and that the sorted list is the only one.
use Rattle.std.specs.List.{insert, remove, swap}
use Rattle.std.specs.List.Sorted.{IsNonDecreasingBy}
use Rattle.std.proofs.Common.{◌≡◌, ℕ, zero, suc, ◌+◌, ◌-◌, ◌<◌, ◌≤◌, ltb, Bool, true, false, if◌then◌else◌, List, [], ◌∷◌, ◌++◌, length, take, drop, get_or, set, refl, sym, ap, ◌∙◌, subst, arith, ◌⊎◌, inl, inr, eqb, cond, append_assoc, append-nil}
use Rattle.std.proofs.lemmas.Bool.{ltb-true, ltb-false, lt-ltb, le-ltb, cases_lt, eq-eqb, eqb-true, ne_eqb}
use Rattle.std.proofs.lemmas.List.{drop-take, length-append, length-drop, length-take-le, take-append-drop, take-append-le, take_at}
use Rattle.std.proofs.lemmas.List.Edits.{insert-append_left, length-insert, swap_is}
use Rattle.std.proofs.lemmas.List.Elements.{filter-append}
use Rattle.late_window.specs.Lines.{AreFrom, AreRising}
use Rattle.late_window.specs.Order.{Numbered, placed, IsSorting, sorted, sorted_from, with_number}

-- ---- an arrival among others in order: where it stands, and that the order stays

abbrev pub placed_by : Bool → Numbered → Numbered → List Numbered → List Numbered
placed_by before a b arrivals = if before then a ∷ b ∷ arrivals else b ∷ placed a arrivals

-- ---- how many there are

length-by : (before : Bool) (a b : Numbered) (arrivals : List Numbered) → length (placed a arrivals) ≡ length arrivals + 1 → length (placed_by before a b arrivals) ≡ suc (length arrivals) + 1
length-by true a b arrivals more = omega arith
length-by false a b arrivals more = omega (arith, more)

pub length-placed : (a : Numbered) (arrivals : List Numbered) → length (placed a arrivals) ≡ length arrivals + 1
length-placed a [] = omega arith
length-placed a (b ∷ arrivals) = length-by (ltb a.number b.number) a b arrivals (length-placed a arrivals)

-- ---- no number is less than this

pub AreFrom-less : (s t : ℕ) (arrivals : List Numbered) → s ≤ t → AreFrom t arrivals → AreFrom s arrivals
AreFrom-less s t [] le from = tt
AreFrom-less s t (a ∷ arrivals) le from = (omega (arith, le, from.0), AreFrom-less s t arrivals le from.1)

AreFrom-by : (before : Bool) (t : ℕ) (a b : Numbered) (arrivals : List Numbered) → t ≤ a.number → AreFrom t (b ∷ arrivals) → AreFrom t (placed a arrivals) → AreFrom t (placed_by before a b arrivals)
AreFrom-by true t a b arrivals le from more = (le, from)
AreFrom-by false t a b arrivals le from more = (from.0, more)

pub AreFrom-placed : (t : ℕ) (a : Numbered) (arrivals : List Numbered) → t ≤ a.number → AreFrom t arrivals → AreFrom t (placed a arrivals)
AreFrom-placed t a [] le from = (le, tt)
AreFrom-placed t a (b ∷ arrivals) le from = AreFrom-by (ltb a.number b.number) t a b arrivals le from (AreFrom-placed t a arrivals le from.1)

-- ---- the order stays

AreRising-by : (before : Bool) (a b : Numbered) (arrivals : List Numbered) → ltb a.number b.number ≡ before → AreRising (b ∷ arrivals) → AreRising (placed a arrivals) → AreRising (placed_by before a b arrivals)
AreRising-by true a b arrivals is rising more =
    let less : a.number ≤ b.number = omega (arith, ltb-true a.number b.number is) in
    ((less, AreFrom-less a.number b.number arrivals less rising.0), rising)
AreRising-by false a b arrivals is rising more = (AreFrom-placed b.number a arrivals (ltb-false a.number b.number is) rising.0, more)

pub AreRising-placed : (a : Numbered) (arrivals : List Numbered) → AreRising arrivals → AreRising (placed a arrivals)
AreRising-placed a [] rising = (tt, tt)
AreRising-placed a (b ∷ arrivals) rising = AreRising-by (ltb a.number b.number) a b arrivals refl rising (AreRising-placed a arrivals rising.1)

pub AreRising-drop : (arrivals : List Numbered) → AreRising arrivals → AreRising (drop 1 arrivals)
AreRising-drop [] rising = tt
AreRising-drop (a ∷ arrivals) rising = rising.1

-- ---- where it stands

-- no number is greater than this
abbrev pub AreUpTo : ℕ → List Numbered → Type 0
AreUpTo t [] = Unit {0}
AreUpTo t (a ∷ arrivals) = (a.number ≤ t) × AreUpTo t arrivals

pub AreUpTo-more : (s t : ℕ) (arrivals : List Numbered) → s ≤ t → AreUpTo s arrivals → AreUpTo t arrivals
AreUpTo-more s t [] le all = tt
AreUpTo-more s t (a ∷ arrivals) le all = (omega (arith, le, all.0), AreUpTo-more s t arrivals le all.1)

-- it stands after all that are no greater
pub placed-after : (a : Numbered) (front rest : List Numbered) → AreUpTo a.number front → placed a (front ++ rest) ≡ front ++ placed a rest
placed-after a [] rest all = refl
placed-after a (b ∷ front) rest all = ap (λ (before : Bool). placed_by before a b (front ++ rest)) (le-ltb a.number b.number all.0) ∙ ap (λ (l : List Numbered). b ∷ l) (placed-after a front rest all.1)

-- and before all that are greater
pub placed-before : (a : Numbered) (arrivals : List Numbered) → AreFrom (a.number + 1) arrivals → placed a arrivals ≡ a ∷ arrivals
placed-before a [] from = refl
placed-before a (b ∷ arrivals) from = ap (λ (before : Bool). placed_by before a b arrivals) (lt-ltb a.number b.number (omega (arith, from.0)))

placed-insert : (a : Numbered) (arrivals : List Numbered) (at : ℕ) → AreUpTo a.number (take at arrivals) → AreFrom (a.number + 1) (drop at arrivals) → placed a arrivals ≡ insert arrivals at a
placed-insert a arrivals at before after =
    ap (placed a) (sym (take-append-drop at arrivals))
    ∙ (placed-after a (take at arrivals) (drop at arrivals) before ∙ ap (λ (l : List Numbered). take at arrivals ++ l) (placed-before a (drop at arrivals) after))

pub AreFrom-at : (t : ℕ) (arrivals : List Numbered) (k : ℕ) (d : Numbered) → AreFrom t arrivals → k < length arrivals → t ≤ (get_or arrivals k d).number
AreFrom-at t [] k d from lt = absurd (omega (arith, lt))
AreFrom-at t (a ∷ arrivals) zero d from lt = from.0
AreFrom-at t (a ∷ arrivals) (suc k) d from lt = AreFrom-at t arrivals k d from.1 (omega (arith, lt))

-- if one in order is no greater than this, then all before it are not either
pub AreUpTo-front : (t : ℕ) (arrivals : List Numbered) (at : ℕ) (d : Numbered) → AreRising arrivals → at < length arrivals → (get_or arrivals at d).number ≤ t → AreUpTo t (take (suc at) arrivals)
AreUpTo-front t [] at d rising lt le = absurd (omega (arith, lt))
AreUpTo-front t (a ∷ arrivals) zero d rising lt le = (le, tt)
AreUpTo-front t (a ∷ arrivals) (suc at) d rising lt le =
    let here = AreFrom-at a.number arrivals at d rising.0 (omega (arith, lt)) in
    (omega (arith, here, le), AreUpTo-front t arrivals at d rising.1 (omega (arith, lt)) le)

pub AreFrom-before : (t : ℕ) (arrivals : List Numbered) (at : ℕ) (d : Numbered) → at < length arrivals → t ≤ (get_or arrivals at d).number → AreFrom t (drop (suc at) arrivals) → AreFrom t (drop at arrivals)
AreFrom-before t [] at d lt le from = absurd (omega (arith, lt))
AreFrom-before t (a ∷ arrivals) zero d lt le from = (le, from)
AreFrom-before t (a ∷ arrivals) (suc at) d lt le from = AreFrom-before t arrivals at d (omega (arith, lt)) le from

-- ---- among places

-- one in the place of another
pub set-inserted : (places : List Numbered) (at : ℕ) (a : Numbered) → at < length places → set places at a ≡ insert (remove places at) at a
set-inserted [] at a lt = absurd (omega (arith, lt))
set-inserted (b ∷ places) zero a lt = refl
set-inserted (b ∷ places) (suc at) a lt = ap (λ (l : List Numbered). b ∷ l) (set-inserted places at a (omega (arith, lt)))

-- one that was put in, and the one before it, in each other's place
pub swap-inserted : (others : List Numbered) (at : ℕ) (a : Numbered) → at < length others → swap (insert others (suc at) a) at (suc at) ≡ insert others at a
swap-inserted [] at a lt = absurd (omega (arith, lt))
swap-inserted (b ∷ others) zero a lt = refl
swap-inserted (b ∷ others) (suc at) a lt =
    let more = insert others (suc at) a in
    let size : length more ≡ length others + 1 = length-insert others (suc at) a (omega (arith, lt)) in
    ap (λ (l : List Numbered). b ∷ l) (swap_is more at (suc at) b (omega (arith, lt, size)) (omega (arith, lt, size)) ∙ swap-inserted others at a (omega (arith, lt)))

-- what stands before it
pub read-inserted : (places : List Numbered) (held at : ℕ) (a d : Numbered) → at < held → held < length places → get_or (insert (remove places held) (suc at) a) at d ≡ get_or (take held places) at d
read-inserted [] held at a d le lt = absurd (omega (arith, lt))
read-inserted (b ∷ places) zero at a d le lt = absurd (omega (arith, le))
read-inserted (b ∷ places) (suc held) zero a d le lt = refl
read-inserted (b ∷ places) (suc held) (suc at) a d le lt = read-inserted places held at a d (omega (arith, le)) (omega (arith, lt))

-- among the first places
held-inserted : (places : List Numbered) (held at : ℕ) (a : Numbered) → held < length places → at ≤ held → take (held + 1) (insert (remove places held) at a) ≡ insert (take held places) at a
held-inserted places held at a lt le =
    let front : length (take held places) ≡ held = length-take-le held places (omega (arith, lt)) in
    let within : at ≤ length (take held places) = omega (arith, le, front) in
    let size : length (insert (take held places) at a) ≡ held + 1 = omega (arith, length-insert (take held places) at a within, front) in
    ap (take (held + 1)) (insert-append_left (take held places) (drop (suc held) places) at a within)
    ∙ take_at (insert (take held places) at a) (drop (suc held) places) (held + 1) size

-- an arrival put in order among the first places, in the place after them
pub held-placed : (places : List Numbered) (held at : ℕ) (a : Numbered) → held < length places → at ≤ held → AreUpTo a.number (take at (take held places)) → AreFrom (a.number + 1) (drop at (take held places)) → take (held + 1) (insert (remove places held) at a) ≡ placed a (take held places)
held-placed places held at a lt le before after = held-inserted places held at a lt le ∙ sym (placed-insert a (take held places) at before after)

-- the first of the places goes to the end
pub length-rotated : (places : List Numbered) → length (drop 1 places ++ take 1 places) ≡ length places
length-rotated [] = refl
length-rotated (a ∷ places) = simp length-append (omega arith)

pub AreRising-rotated : (places : List Numbered) (held : ℕ) → 0 < held → held ≤ length places → AreRising (take held places) → AreRising (take (held - 1) (drop 1 places ++ take 1 places))
AreRising-rotated places held some most rising =
    let size : held - 1 ≤ length (drop 1 places) = omega (arith, length-drop 1 places, most) in
    let count : 1 + (held - 1) ≡ held = omega (arith, some) in
    let rest : drop 1 (take held places) ≡ take (held - 1) (drop 1 places ++ take 1 places) =
    ap (λ (n : ℕ). drop 1 (take n places)) (sym count) ∙ (drop-take 1 (held - 1) places ∙ sym (take-append-le (held - 1) (drop 1 places) (take 1 places) size)) in
    subst AreRising rest (AreRising-drop (take held places) rising)

-- ---- the sorted list is in order, has equal numbers in the order of arrival, and is the only such list

abbrev pub has_number : ℕ → Numbered → Bool
has_number t a = eqb a.number t

abbrev pub first_if : Bool → Numbered → List Numbered → List Numbered
first_if own a others = cond own (a ∷ others) others

-- ---- the arrivals with one number

-- there is none if all numbers are greater
pub with_number-none : (t : ℕ) (arrivals : List Numbered) → AreFrom (t + 1) arrivals → with_number t arrivals ≡ []
with_number-none t [] from = refl
with_number-none t (a ∷ arrivals) from =
    let other : has_number t a ≡ false = ne_eqb a.number t (λ same. absurd (omega (arith, from.0, same))) in
    ap (λ (own : Bool). first_if own a (with_number t arrivals)) other ∙ with_number-none t arrivals from.1

-- one that is put before greater ones
before-others : (own : Bool) (a : Numbered) (others : List Numbered) → (own ≡ true → others ≡ []) → first_if own a others ≡ others ++ first_if own a []
before-others true a others none = let is = none refl in (λ i. a ∷ is i) ∙ sym (λ i. is i ++ a ∷ [])
before-others false a others none = sym (append-nil others)

after-one : (own : Bool) (b : Numbered) (xs ys zs : List Numbered) → xs ≡ ys ++ zs → first_if own b xs ≡ first_if own b ys ++ zs
after-one true b xs ys zs is = ap (λ (l : List Numbered). b ∷ l) is
after-one false b xs ys zs is = is

with-by : (t : ℕ) (a b : Numbered) (arrivals : List Numbered) (before : Bool) → ltb a.number b.number ≡ before → AreRising (b ∷ arrivals)
    → with_number t (placed a arrivals) ≡ with_number t arrivals ++ with_number t (a ∷ [])
    → with_number t (placed_by before a b arrivals) ≡ with_number t (b ∷ arrivals) ++ with_number t (a ∷ [])
with-by t a b arrivals true before rising more =
    let less = ltb-true a.number b.number before in
    before-others (has_number t a) a (with_number t (b ∷ arrivals)) (λ own.
    let same = eqb-true a.number t own in
    with_number-none t (b ∷ arrivals) (omega (arith, less, same), AreFrom-less (t + 1) b.number arrivals (omega (arith, less, same)) rising.0))
with-by t a b arrivals false before rising more = after-one (has_number t b) b (with_number t (placed a arrivals)) (with_number t arrivals) (with_number t (a ∷ [])) more

with_number-placed : (t : ℕ) (a : Numbered) (arrivals : List Numbered) → AreRising arrivals → with_number t (placed a arrivals) ≡ with_number t arrivals ++ with_number t (a ∷ [])
with_number-placed t a [] rising = refl
with_number-placed t a (b ∷ arrivals) rising = with-by t a b arrivals (ltb a.number b.number) refl rising (with_number-placed t a arrivals rising.1)

with_number-sorted_from : (t : ℕ) (done arrivals : List Numbered) → AreRising done → with_number t (sorted_from done arrivals) ≡ with_number t done ++ with_number t arrivals
with_number-sorted_from t done [] rising = sym (append-nil (with_number t done))
with_number-sorted_from t done (a ∷ arrivals) rising =
    with_number-sorted_from t (placed a done) arrivals (AreRising-placed a done rising)
    ∙ (ap (λ (l : List Numbered). l ++ with_number t arrivals) (with_number-placed t a done rising)
    ∙ (append_assoc (with_number t done) (with_number t (a ∷ [])) (with_number t arrivals)
    ∙ ap (λ (l : List Numbered). with_number t done ++ l) (sym (filter-append (has_number t) (a ∷ []) arrivals))))

pub with_number-sorted : (t : ℕ) (arrivals : List Numbered) → with_number t (sorted arrivals) ≡ with_number t arrivals
with_number-sorted t arrivals = with_number-sorted_from t [] arrivals tt

-- ---- in order

AreRising-sorted_from : (done arrivals : List Numbered) → AreRising done → AreRising (sorted_from done arrivals)
AreRising-sorted_from done [] rising = rising
AreRising-sorted_from done (a ∷ arrivals) rising = AreRising-sorted_from (placed a done) arrivals (AreRising-placed a done rising)

pub AreRising-sorted : (arrivals : List Numbered) → AreRising (sorted arrivals)
AreRising-sorted arrivals = AreRising-sorted_from [] arrivals tt

rises-at : (arrivals : List Numbered) → AreRising arrivals → (i j : ℕ) (d : Numbered) → i ≤ j → j < length arrivals → (get_or arrivals i d).number ≤ (get_or arrivals j d).number
rises-at [] rising i j d le lt = absurd (omega (arith, lt))
rises-at (a ∷ arrivals) rising zero zero d le lt = omega arith
rises-at (a ∷ arrivals) rising zero (suc j) d le lt = AreFrom-at a.number arrivals j d rising.0 (omega (arith, lt))
rises-at (a ∷ arrivals) rising (suc i) zero d le lt = absurd (omega (arith, le))
rises-at (a ∷ arrivals) rising (suc i) (suc j) d le lt = rises-at arrivals rising.1 i j d (omega (arith, le)) (omega (arith, lt))

from-at : (t : ℕ) (arrivals : List Numbered) → ((k : ℕ) (d : Numbered) → k < length arrivals → t ≤ (get_or arrivals k d).number) → AreFrom t arrivals
from-at t [] all = tt
from-at t (a ∷ arrivals) all = (all 0 a (omega arith), from-at t arrivals (λ k d lt. all (suc k) d (omega (arith, lt))))

rising-at : (arrivals : List Numbered) → IsNonDecreasingBy (λ a. a.number) arrivals → AreRising arrivals
rising-at [] rises = tt
rising-at (a ∷ arrivals) rises = (
  from-at a.number arrivals (λ k d lt. rises 0 (suc k) d (omega arith) (omega (arith, lt))),
  rising-at arrivals (λ i j d le lt. rises (suc i) (suc j) d (omega (arith, le)) (omega (arith, lt))),
)

pub IsSorting-sorted : (arrivals : List Numbered) → IsSorting arrivals (sorted arrivals)
IsSorting-sorted arrivals = record { rises = rises-at (sorted arrivals) (AreRising-sorted arrivals); same = λ t. with_number-sorted t arrivals }

-- ---- and no other list is

with-first : (a : Numbered) (arrivals : List Numbered) → with_number a.number (a ∷ arrivals) ≡ a ∷ with_number a.number arrivals
with-first a arrivals = ap (λ (own : Bool). first_if own a (with_number a.number arrivals)) (eq-eqb a.number a.number refl)

-- the first of one list isn't below the first of another with the same arrivals of each number
not-below : (a b : Numbered) (xs ys : List Numbered) → AreRising (b ∷ ys) → ((t : ℕ) → with_number t (a ∷ xs) ≡ with_number t (b ∷ ys)) → b.number ≤ a.number
not-below a b xs ys rising same = by_order (cases_lt a.number b.number) where
  by_order : (a.number < b.number) ⊎ (b.number ≤ a.number) → b.number ≤ a.number
  by_order (inr le) = le
  by_order (inl lt) =
      let none = with_number-none a.number (b ∷ ys) (omega (arith, lt), AreFrom-less (a.number + 1) b.number ys (omega (arith, lt)) rising.0) in
      let both : ◌≡◌ {A = List Numbered} (a ∷ with_number a.number xs) [] = sym (with-first a xs) ∙ (same a.number ∙ none) in
      absurd cc

others-by : (own : Bool) (a : Numbered) (xs ys : List Numbered) → first_if own a xs ≡ first_if own a ys → xs ≡ ys
others-by true a xs ys is = cc
others-by false a xs ys is = is

record AreSameFirst (a b : Numbered) (xs ys : List Numbered) : Type 0 where
  first : a ≡ b
  others : (t : ℕ) → with_number t xs ≡ with_number t ys

same-first : (a b : Numbered) (xs ys : List Numbered) → AreRising (a ∷ xs) → AreRising (b ∷ ys) → ((t : ℕ) → with_number t (a ∷ xs) ≡ with_number t (b ∷ ys)) → AreSameFirst a b xs ys
same-first a b xs ys rising_a rising_b same =
    let below = not-below a b xs ys rising_b same in
    let above = not-below b a ys xs rising_a (λ t. sym (same t)) in
    let number : b.number ≡ a.number = omega (arith, below, above) in
    let both : ◌≡◌ {A = List Numbered} (a ∷ with_number a.number xs) (b ∷ with_number a.number ys) =
    sym (with-first a xs) ∙ (same a.number ∙ subst (λ (t : ℕ). with_number t (b ∷ ys) ≡ b ∷ with_number t ys) number (with-first b ys)) in
    let first : a ≡ b = cc in
    record {
      first = first;
      others = λ t. others-by (has_number t a) a (with_number t xs) (with_number t ys) (same t ∙ ap (λ (c : Numbered). first_if (has_number t c) c (with_number t ys)) (sym first));
    }

only : (xs ys : List Numbered) → AreRising xs → AreRising ys → ((t : ℕ) → with_number t xs ≡ with_number t ys) → xs ≡ ys
only [] [] rising_x rising_y same = refl
only [] (b ∷ ys) rising_x rising_y same = let both : ◌≡◌ {A = List Numbered} [] (b ∷ with_number b.number ys) = same b.number ∙ with-first b ys in absurd cc
only (a ∷ xs) [] rising_x rising_y same = let both : ◌≡◌ {A = List Numbered} (a ∷ with_number a.number xs) [] = sym (with-first a xs) ∙ same a.number in absurd cc
only (a ∷ xs) (b ∷ ys) rising_x rising_y same =
    let heads = same-first a b xs ys rising_x rising_y same in
    let tails = only xs ys rising_x.1 rising_y.1 heads.others in
    λ i. heads.first i ∷ tails i

pub sorted-only : (arrivals order : List Numbered) → AreRising order → ((t : ℕ) → with_number t order ≡ with_number t arrivals) → order ≡ sorted arrivals
sorted-only arrivals order rising same = only order (sorted arrivals) rising (AreRising-sorted arrivals) (λ t. same t ∙ sym (with_number-sorted t arrivals))

pub IsSorting-only : (arrivals order : List Numbered) → IsSorting arrivals order → order ≡ sorted arrivals
IsSorting-only arrivals order is = sorted-only arrivals order (rising-at order is.rises) is.same
