-- Tests on the numbers from one up to another, and the effective robustness level by the quiet steps.
use Rattle.std.specs.Cmp.{both_ways}
use Rattle.std.specs.List.{count_by, list_all, list_any, range_with_len}
use Rattle.std.specs.Prelude.{reverse, find, ◌||◌, ◌&&◌, Contains, not, unwrap_or}
use Rattle.std.proofs.Common.{max, subst, ◌≡◌, ℕ, zero, suc, ◌+◌, ◌-◌, ◌<◌, ◌≤◌, Bool, true, false, cond, [], ◌∷◌, Some, get_or, refl, sym, ap, ◌∙◌, ◌⊎◌, inl, inr, arith, add-one, map, List, length, replicate}
use Rattle.std.proofs.lemmas.Bool.{and_from, cases_eq, cases_lt}
use Rattle.std.proofs.lemmas.List.{reverse-append}
use Rattle.std.proofs.lemmas.List.Folds.{Any-from_list_any, list_all_at, list_any_at}
use Rattle.std.proofs.lemmas.List.FromFn.{get_or-range_with_len, length-range_with_len}
use Rattle.std.proofs.lemmas.List.Sums.{count_by-le-length, sum_by-cons, sum_by_push}
use Rattle.mask_update.proofs.StepByStep.{range_push}
use Rattle.robust_window.specs.Changes.{steps_from, MaskStep, is_quiet, is_quiet_back, level_of, mask_step, most_level}

-- ---- any and all

pub list_any-from_range : (p : ℕ → Bool) (from to : ℕ) → list_any p (steps_from from to) ≡ true → (s : ℕ) × (from ≤ s) × (s < to) × (p s ≡ true)
list_any-from_range p from to one =
    let any = Any-from_list_any p (steps_from from to) one in
    let within : any.0 < to - from = omega (arith, any.2, length-range_with_len from (to - from)) in
    let at : any.1 ≡ from + any.0 = sym any.3 ∙ get_or-range_with_len from (to - from) any.0 any.1 within in
    (any.1, omega arith, omega arith, any.4)

at_range : (p : ℕ → Bool) (from to s : ℕ) (b : Bool) → from ≤ s → s < to → p s ≡ b → p (get_or (steps_from from to) (s - from) 0) ≡ b
at_range p from to s b ge lt e =
    let at : from + (s - from) ≡ s = omega arith in
    ap p (get_or-range_with_len from (to - from) (s - from) 0 (omega arith) ∙ at) ∙ e

pub list_any-in_range : (p : ℕ → Bool) (from to s : ℕ) → from ≤ s → s < to → p s ≡ true → list_any p (steps_from from to) ≡ true
list_any-in_range p from to s ge lt one =
    list_any_at p (steps_from from to) (s - from) 0 (omega (arith, length-range_with_len from (to - from))) (at_range p from to s true ge lt one)

pub list_all-not_in_range : (p : ℕ → Bool) (from to s : ℕ) → from ≤ s → s < to → p s ≡ false → list_all p (steps_from from to) ≡ false
list_all-not_in_range p from to s ge lt none =
    list_all_at p (steps_from from to) (s - from) 0 (omega (arith, length-range_with_len from (to - from))) (at_range p from to s false ge lt none)

all_with_len : (p : ℕ → Bool) (a n : ℕ) → ((s : ℕ) → a ≤ s → s < a + n → p s ≡ true) → list_all p (range_with_len a n) ≡ true
all_with_len p a zero all = refl
all_with_len p a (suc n) all =
    and_from (p a) (list_all p (range_with_len (a + 1) n)) (all a (omega arith) (omega arith)) (all_with_len p (a + 1) n (λ s ge lt. all s (omega arith) (omega arith)))

pub list_all-from_range : (p : ℕ → Bool) (from to : ℕ) → ((s : ℕ) → from ≤ s → s < to → p s ≡ true) → list_all p (steps_from from to) ≡ true
list_all-from_range p from to all = all_with_len p from (to - from) (λ s ge lt. all s ge (omega arith))

pub true_or : (b : Bool) → (b ≡ true) ⊎ (b ≡ false)
true_or true = inl refl
true_or false = inr refl

pub list_all-in_range : (p : ℕ → Bool) (from to s : ℕ) → list_all p (steps_from from to) ≡ true → from ≤ s → s < to → p s ≡ true
list_all-in_range p from to s all ge lt =
    elim (true_or (p s)) [
      | inl pass ↦ pass
      | inr fail ↦ let other : true ≡ false = sym all ∙ list_all-not_in_range p from to s ge lt fail in cc
    ]

-- ---- counting

pub count_push : (p : ℕ → Bool) (a n j : ℕ) → a + n ≡ j → count_by p (range_with_len a (n + 1)) ≡ count_by p (range_with_len a n) + cond (p j) 1 0
count_push p a n j at =
    ap (λ k. count_by p (range_with_len a k)) (add-one n)
    ∙ ap (count_by p) (range_push a n j at)
    ∙ sum_by_push (λ x. cond (p x) 1 0) (range_with_len a n) j

pub count-le : (p : ℕ → Bool) (a n : ℕ) → count_by p (range_with_len a n) ≤ n
count-le p a n = omega (arith, count_by-le-length p (range_with_len a n), length-range_with_len a n)

-- two of the numbers from one up to another pass
pub record TwoPass (p : ℕ → Bool) (from to : ℕ) : Type 0 where
  pub first : ℕ
  pub second : ℕ
  pub from_is : from ≤ first
  pub apart : first < second
  pub to_is : second < to
  pub first_passes : p first ≡ true
  pub second_passes : p second ≡ true

count-cons : (p : ℕ → Bool) (a n : ℕ) → count_by p (range_with_len a (suc n)) ≡ cond (p a) 1 0 + count_by p (range_with_len (a + 1) n)
count-cons p a n = sum_by-cons (λ x. cond (p x) 1 0) a (range_with_len (a + 1) n)

count-yes : (p : ℕ → Bool) (a n : ℕ) → p a ≡ true → count_by p (range_with_len a (suc n)) ≡ 1 + count_by p (range_with_len (a + 1) n)
count-yes p a n pass = count-cons p a n ∙ ap (λ b. cond b 1 0 + count_by p (range_with_len (a + 1) n)) pass

count-no : (p : ℕ → Bool) (a n : ℕ) → p a ≡ false → count_by p (range_with_len a (suc n)) ≡ 0 + count_by p (range_with_len (a + 1) n)
count-no p a n fail = count-cons p a n ∙ ap (λ b. cond b 1 0 + count_by p (range_with_len (a + 1) n)) fail

count_rest : (p : ℕ → Bool) (a n : ℕ) → count_by p (range_with_len (a + 1) n) ≤ count_by p (range_with_len a (suc n))
count_rest p a n = omega (arith, count-cons p a n)

one_passes : (p : ℕ → Bool) (a n : ℕ) → 1 ≤ count_by p (range_with_len a n) → (s : ℕ) × (a ≤ s) × (s < a + n) × (p s ≡ true)
one_passes p a zero some = absurd (omega arith)
one_passes p a (suc n) some = one_in (true_or (p a)) (one_passes p (a + 1) n)
  where
    one_in : (p a ≡ true) ⊎ (p a ≡ false) → (1 ≤ count_by p (range_with_len (a + 1) n) → (s : ℕ) × (a + 1 ≤ s) × (s < a + 1 + n) × (p s ≡ true)) → (s : ℕ) × (a ≤ s) × (s < a + suc n) × (p s ≡ true)
    one_in (inl pass) later = (a, omega arith, omega arith, pass)
    one_in (inr fail) later =
        let rest = later (omega (arith, count-no p a n fail)) in
        (rest.0, omega (arith, rest.1), omega (arith, rest.2), rest.3)

passes_one : (p : ℕ → Bool) (a n s : ℕ) → a ≤ s → s < a + n → p s ≡ true → 1 ≤ count_by p (range_with_len a n)
passes_one p a zero s ge lt pass = absurd (omega arith)
passes_one p a (suc n) s ge lt pass =
    elim (cases_eq s a) [
      | inl at ↦ omega (arith, count-yes p a n (ap p (sym at) ∙ pass))
      | inr other ↦ omega (arith, count_rest p a n, passes_one p (a + 1) n s (omega arith) (omega arith) pass)
    ]

two_pass : (p : ℕ → Bool) (a n : ℕ) → 2 ≤ count_by p (range_with_len a n) → TwoPass p a (a + n)
two_pass p a zero some = absurd (omega arith)
two_pass p a (suc n) some = two_in (true_or (p a)) (two_pass p (a + 1) n)
  where
    two_in : (p a ≡ true) ⊎ (p a ≡ false) → (2 ≤ count_by p (range_with_len (a + 1) n) → TwoPass p (a + 1) (a + 1 + n)) → TwoPass p a (a + suc n)
    two_in (inl pass) later =
        let second = one_passes p (a + 1) n (omega (arith, count-yes p a n pass)) in
        record { first = a; second = second.0; from_is = omega arith; apart = omega (arith, second.1); to_is = omega (arith, second.2); first_passes = pass; second_passes = second.3 }
    two_in (inr fail) later =
        let rest = later (omega (arith, count-no p a n fail)) in
        record { first = rest.first; second = rest.second; from_is = omega (arith, rest.from_is); apart = rest.apart; to_is = omega (arith, rest.to_is); first_passes = rest.first_passes; second_passes = rest.second_passes }

passes_two : (p : ℕ → Bool) (a n : ℕ) → TwoPass p a (a + n) → 2 ≤ count_by p (range_with_len a n)
passes_two p a zero two = absurd (omega (arith, two.from_is, two.apart, two.to_is))
passes_two p a (suc n) two =
    elim (cases_eq two.first a) [
      | inl at ↦
          omega (
            arith,
            count-yes p a n (ap p (sym at) ∙ two.first_passes),
            passes_one p (a + 1) n two.second (omega (arith, two.apart)) (omega (arith, two.to_is)) two.second_passes,
          )
      | inr other ↦
          omega (
            arith,
            count_rest p a n,
            passes_two p (a + 1) n (record {
              first = two.first;
              second = two.second;
              from_is = omega (arith, two.from_is);
              apart = two.apart;
              to_is = omega (arith, two.to_is);
              first_passes = two.first_passes;
              second_passes = two.second_passes;
            }),
          )
    ]

pub TwoPass-from_count : (p : ℕ → Bool) (from to : ℕ) → 2 ≤ count_by p (steps_from from to) → TwoPass p from to
TwoPass-from_count p from to some =
    elim (cases_lt from to) [
      | inl lt ↦ let end : from + (to - from) ≡ to = omega arith in subst (λ e. TwoPass p from e) end (two_pass p from (to - from) some)
      | inr ge ↦ absurd (omega (arith, count-le p from (to - from)))
    ]

pub count-from_TwoPass : (p : ℕ → Bool) (from to : ℕ) → TwoPass p from to → 2 ≤ count_by p (steps_from from to)
count-from_TwoPass p from to two =
    let end : to ≡ from + (to - from) = omega (arith, two.from_is, two.apart, two.to_is) in
    passes_two p from (to - from) (subst (λ e. TwoPass p from e) end two)

-- ---- from a number backwards, and up to it

-- Two tests, one by the distance back from `t` and one by the number, that agree up to `t` numbers back; none is farther
-- back.
pub record AgreesBack (t count : ℕ) (back_test test : ℕ → Bool) : Type 0 where
  pub same : (back : ℕ) → back < count → back ≤ t → back_test back ≡ test (t - back)
  pub none : (back : ℕ) → back < count → t < back → back_test back ≡ false

fewer : (t count : ℕ) (p q : ℕ → Bool) → AgreesBack t (suc count) p q → AgreesBack t count p q
fewer t count p q agrees = record { same = λ back lt. agrees.same back (omega arith); none = λ back lt. agrees.none back (omega arith) }

pub count_back : (t count : ℕ) (p q : ℕ → Bool) → AgreesBack t count p q → count_by p (range_with_len 0 count) ≡ count_by q (steps_from (t + 1 - count) (t + 1))
count_back t zero p q agrees = let none : (t + 1) - (t + 1 - 0) ≡ 0 = omega arith in sym (ap (λ n. count_by q (range_with_len (t + 1 - 0) n)) none)
count_back t (suc count) p q agrees =
    ap (λ n. count_by p (range_with_len 0 n)) (sym (add-one count))
    ∙ count_push p 0 count count (omega arith)
    ∙ ap (λ n. n + cond (p count) 1 0) (count_back t count p q (fewer t count p q agrees))
    ∙ elim (cases_lt t count) [
      | inl past ↦
          let from : t + 1 - count ≡ t + 1 - suc count = omega arith in
          ap (λ b. count_by q (steps_from (t + 1 - count) (t + 1)) + cond b 1 0) (agrees.none count (omega arith) past)
          ∙ plus_zero (count_by q (steps_from (t + 1 - count) (t + 1)))
          ∙ ap (λ a. count_by q (steps_from a (t + 1))) from
      | inr within ↦ first_of within
    ]
  where
    plus_zero : (n : ℕ) → n + 0 ≡ n
    plus_zero n = omega arith

    swap_sum : (m n : ℕ) → m + n ≡ n + m
    swap_sum m n = omega arith

    first_of : count ≤ t → count_by q (steps_from (t + 1 - count) (t + 1)) + cond (p count) 1 0 ≡ count_by q (steps_from (t + 1 - suc count) (t + 1))
    first_of within =
        let next : t + 1 - count ≡ (t - count) + 1 = omega arith in
        let first : t + 1 - suc count ≡ t - count = omega arith in
        let len : (t + 1) - ((t - count) + 1) ≡ count = omega arith in
        let more : (t + 1) - (t - count) ≡ suc count = omega arith in
        ap (λ a. count_by q (steps_from a (t + 1)) + cond (p count) 1 0) next
        ∙ ap (λ n. count_by q (range_with_len ((t - count) + 1) n) + cond (p count) 1 0) len
        ∙ ap (λ b. count_by q (range_with_len ((t - count) + 1) count) + cond b 1 0) (agrees.same count (omega arith) within)
        ∙ swap_sum (count_by q (range_with_len ((t - count) + 1) count)) (cond (q (t - count)) 1 0)
        ∙ sym (sum_by-cons (λ x. cond (q x) 1 0) (t - count) (range_with_len ((t - count) + 1) count))
        ∙ ap (λ n. count_by q (range_with_len (t - count) n)) (sym more)
        ∙ ap (λ a. count_by q (steps_from a (t + 1))) (sym first)

-- if number 0 doesn't pass, it need not be looked at
pub any_back : (t count : ℕ) (p q : ℕ → Bool) → AgreesBack t (count + 1) p q → q 0 ≡ false → list_any p (range_with_len 0 (count + 1)) ≡ list_any q (steps_from (max 1 (t - count)) (t + 1))
any_back t count p q agrees start = ap (λ n. list_any p (range_with_len 0 n)) all ∙ both_ways _ _ up back
  where
    all : count + 1 ≡ (count + 1) - 0
    all = omega arith

    at_step : (back : ℕ) → back < count + 1 → p back ≡ true → (t < back) ⊎ (back ≤ t) → list_any q (steps_from (max 1 (t - count)) (t + 1)) ≡ true
    at_step back lt one (inl past) = let other : true ≡ false = sym one ∙ agrees.none back lt past in cc
    at_step back lt one (inr within) =
        let passes : q (t - back) ≡ true = sym (agrees.same back lt within) ∙ one in
        elim (cases_eq (t - back) 0) [
          | inl at ↦ let other : true ≡ false = sym passes ∙ ap q at ∙ start in cc
          | inr some ↦ list_any-in_range q (max 1 (t - count)) (t + 1) (t - back) (omega arith) (omega arith) passes
        ]

    up : list_any p (steps_from 0 (count + 1)) ≡ true → list_any q (steps_from (max 1 (t - count)) (t + 1)) ≡ true
    up one =
        let found = list_any-from_range p 0 (count + 1) one in
        at_step found.0 found.2 found.3 (cases_lt t found.0)

    back : list_any q (steps_from (max 1 (t - count)) (t + 1)) ≡ true → list_any p (steps_from 0 (count + 1)) ≡ true
    back one =
        let found = list_any-from_range q (max 1 (t - count)) (t + 1) one in
        let lt : t - found.0 < count + 1 = omega (arith, found.1, found.2) in
        let same : t - (t - found.0) ≡ found.0 = omega (arith, found.2) in
        list_any-in_range p 0 (count + 1) (t - found.0) (omega arith) lt (agrees.same (t - found.0) lt (omega arith) ∙ ap q same ∙ found.3)

-- ---- the greatest

pub find_greatest : (p : ℕ → Bool) (a n v : ℕ) → a ≤ v → v < a + n → p v ≡ true → ((w : ℕ) → v < w → w < a + n → p w ≡ false) → find p (reverse (range_with_len a n)) ≡ Some v
find_greatest p a zero v ge lt passes none = absurd (omega arith)
find_greatest p a (suc n) v ge lt passes none =
    ap (λ xs. find p (reverse xs)) (range_push a n (a + n) refl)
    ∙ ap (find p) (reverse-append (range_with_len a n) ((a + n) ∷ []))
    ∙ elim (cases_eq v (a + n)) [
      | inl at ↦
          let here : p (a + n) ≡ true = ap p (sym at) ∙ passes in
          ap (λ b. cond b (Some (a + n)) (find p (reverse (range_with_len a n)))) here ∙ ap Some (sym at)
      | inr other ↦
          ap (λ b. cond b (Some (a + n)) (find p (reverse (range_with_len a n)))) (none (a + n) (omega arith) (omega arith))
          ∙ find_greatest p a n v ge (omega arith) passes (λ w above below. none w above (omega arith))
    ]

-- ---- tests that agree

pub map_same : {A : Type 0} (p q : ℕ → A) (a n : ℕ) → ((s : ℕ) → s < a + n → p s ≡ q s) → map p (range_with_len a n) ≡ map q (range_with_len a n)
map_same p q a zero same = refl
map_same p q a (suc n) same =
    ap (λ x. x ∷ map p (range_with_len (a + 1) n)) (same a (omega arith))
    ∙ ap (λ xs. q a ∷ xs) (map_same p q (a + 1) n (λ s lt. same s (omega arith)))

-- what carries over to a list by a test of each element
fold_same : {B : Type 0} (whole : (ℕ → Bool) → List ℕ → B) (next : Bool → B → B) → ((p q : ℕ → Bool) → whole p [] ≡ whole q []) → ((p : ℕ → Bool) (x : ℕ) (xs : List ℕ) → whole p (x ∷ xs) ≡ next (p x) (whole p xs)) → (p q : ℕ → Bool) (a n : ℕ) → ((s : ℕ) → s < a + n → p s ≡ q s) → whole p (range_with_len a n) ≡ whole q (range_with_len a n)
fold_same whole next none more p q a zero same = none p q
fold_same whole next none more p q a (suc n) same =
    more p a (range_with_len (a + 1) n)
    ∙ ap (λ b. next b (whole p (range_with_len (a + 1) n))) (same a (omega arith))
    ∙ ap (next (q a)) (fold_same whole next none more p q (a + 1) n (λ s lt. same s (omega arith)))
    ∙ sym (more q a (range_with_len (a + 1) n))

steps_same : {B : Type 0} (whole : (ℕ → Bool) → List ℕ → B) (next : Bool → B → B) → ((p q : ℕ → Bool) → whole p [] ≡ whole q []) → ((p : ℕ → Bool) (x : ℕ) (xs : List ℕ) → whole p (x ∷ xs) ≡ next (p x) (whole p xs)) → (p q : ℕ → Bool) (from to : ℕ) → ((s : ℕ) → s < to → p s ≡ q s) → whole p (steps_from from to) ≡ whole q (steps_from from to)
steps_same whole next none more p q from to same =
    elim (cases_lt from to) [
      | inl lt ↦ fold_same whole next none more p q from (to - from) (λ s within. same s (omega arith))
      | inr ge ↦ let empty : to - from ≡ 0 = omega arith in ap (λ n. whole p (range_with_len from n)) empty ∙ none p q ∙ sym (ap (λ n. whole q (range_with_len from n)) empty)
    ]

pub any_same : (p q : ℕ → Bool) (from to : ℕ) → ((s : ℕ) → s < to → p s ≡ q s) → list_any p (steps_from from to) ≡ list_any q (steps_from from to)
any_same = steps_same (λ p xs. list_any p xs) (λ b rest. b || rest) (λ p q. refl) (λ p x xs. refl)

pub all_same : (p q : ℕ → Bool) (from to : ℕ) → ((s : ℕ) → s < to → p s ≡ q s) → list_all p (steps_from from to) ≡ list_all q (steps_from from to)
all_same = steps_same (λ p xs. list_all p xs) (λ b rest. b && rest) (λ p q. refl) (λ p x xs. refl)

pub count_same : (p q : ℕ → Bool) (from to : ℕ) → ((s : ℕ) → s < to → p s ≡ q s) → count_by p (steps_from from to) ≡ count_by q (steps_from from to)
count_same = steps_same (λ p xs. count_by p xs) (λ b rest. cond b 1 0 + rest) (λ p q. refl) (λ p x xs. sum_by-cons (λ y. cond (p y) 1 0) x xs)

-- ---- the effective robustness level, in terms of the quiet steps before a step

pub list_any-zeros : (n : ℕ) → list_any (λ (bit : Bool). bit) (replicate n false) ≡ false
list_any-zeros zero = refl
list_any-zeros (suc n) = list_any-zeros n

pub is_quiet-zeros : (steps : List MaskStep) (s : ℕ) → (mask_step steps s).change ≡ replicate (length (mask_step steps s).change) false → is_quiet steps s ≡ true
is_quiet-zeros steps s zeros =
    ap (λ v. not (list_any (λ (bit : Bool). bit) v)) zeros ∙ ap not (list_any-zeros (length (mask_step steps s).change))

pub is_quiet-one : (steps : List MaskStep) (s : ℕ) → Contains (mask_step steps s).change true → is_quiet steps s ≡ false
is_quiet-one steps s one = ap not (list_any_at (λ (bit : Bool). bit) (mask_step steps s).change one.0 true one.1 one.2)

-- the level reaches back from the required robustness over steps that are quiet, and ends at the greatest that it can be
-- or at a step that isn't quiet
pub level_of-is : (steps : List MaskStep) (t robust v : ℕ) → (mask_step steps t).robust ≡ robust → robust ≤ v → v ≤ most_level robust t → ((s : ℕ) → t - v ≤ s → s < t - robust → is_quiet steps s ≡ true) → (v < most_level robust t → is_quiet steps (t - (v + 1)) ≡ false) → level_of steps t ≡ v
unfolding level_of
level_of-is steps t robust v robust_is least most quiet stops =
    ap (λ found. unwrap_or found (mask_step steps t).robust)
    (find_greatest (is_quiet_back steps t) own (most_level own t + 1 - own) v (omega arith) (omega arith)
    (list_all-from_range (is_quiet steps) (t - v) (t - own) (λ s ge lt. quiet s ge (omega arith)))
    (λ w above below.
    list_all-not_in_range (is_quiet steps) (t - w) (t - own) (t - (v + 1)) (omega arith) (omega arith) (stops (omega arith))))
  where
    own : ℕ
    own = (mask_step steps t).robust

-- ---- the level exists

-- if a number passes a test, one of the numbers up to a bound is the greatest that passes
pub record IsGreatest (p : ℕ → Bool) (from to v : ℕ) : Type 0 where
  pub least : from ≤ v
  pub most : v < to
  pub passes : p v ≡ true
  pub others : (w : ℕ) → v < w → w < to → p w ≡ false

greatest_of : (p : ℕ → Bool) (a n : ℕ) → p a ≡ true → (v : ℕ) × IsGreatest p a (a + suc n) v
greatest_of p a zero first = (a, record { least = omega arith; most = omega arith; passes = first; others = λ w above below. absurd (omega arith) })
greatest_of p a (suc n) first = top_in (true_or (p (a + suc n))) (greatest_of p a n first)
  where
    top_in : (p (a + suc n) ≡ true) ⊎ (p (a + suc n) ≡ false) → (v : ℕ) × IsGreatest p a (a + suc n) v → (v : ℕ) × IsGreatest p a (a + suc (suc n)) v
    top_in (inl one) lower = (a + suc n, record { least = omega arith; most = omega arith; passes = one; others = λ w above below. absurd (omega arith) })
    top_in (inr none) lower =
        (lower.0, record { least = lower.1.least; most = omega (arith, lower.1.most); passes = lower.1.passes; others = λ w above below. others_in lower.0 lower.1.others w above below (cases_eq w (a + suc n)) })
      where
        others_in : (v : ℕ) → ((w : ℕ) → v < w → w < a + suc n → p w ≡ false) → (w : ℕ) → v < w → w < a + suc (suc n) → (w ≡ a + suc n) ⊎ (w ≡ a + suc n → ⊥) → p w ≡ false
        others_in v others w above below (inl at) = ap p at ∙ none
        others_in v others w above below (inr other) = others w above (omega arith)

level_of-own : (steps : List MaskStep) (t : ℕ) → let own = (mask_step steps t).robust in IsGreatest (is_quiet_back steps t) own (most_level own t + 1) (level_of steps t)
unfolding level_of
level_of-own steps t =
    let found = greatest_of (is_quiet_back steps t) own (most_level own t - own) (list_all-from_range (is_quiet steps) (t - own) (t - own) (λ s ge lt. absurd (omega arith))) in
    let to : own + suc (most_level own t - own) ≡ most_level own t + 1 = omega arith in
    let level : level_of steps t ≡ found.0 =
    ap (λ o. unwrap_or o own)
    (find_greatest (is_quiet_back steps t) own (most_level own t + 1 - own) found.0 found.1.least (omega (arith, found.1.most)) found.1.passes
    (λ w above below. found.1.others w above (omega arith))) in
    subst (λ v. IsGreatest (is_quiet_back steps t) own (most_level own t + 1) v) (sym level)
    (subst (λ end. IsGreatest (is_quiet_back steps t) own end found.0) to found.1)
  where
    own : ℕ
    own = (mask_step steps t).robust

pub level_of-greatest : (steps : List MaskStep) (t robust : ℕ) → (mask_step steps t).robust ≡ robust → IsGreatest (is_quiet_back steps t) robust (most_level robust t + 1) (level_of steps t)
level_of-greatest steps t robust robust_is =
    subst (λ r. IsGreatest (is_quiet_back steps t) r (most_level r t + 1) (level_of steps t)) robust_is (level_of-own steps t)

-- ---- a change without a 1, and one with a 1

pub no_ones : (v : List Bool) → list_any (λ (bit : Bool). bit) v ≡ false → v ≡ replicate (length v) false
no_ones [] none = refl
no_ones (bit ∷ v) none = zeros_in bit none (no_ones v)
  where
    zeros_in : (b : Bool) → (b || list_any (λ (bit : Bool). bit) v) ≡ false → (list_any (λ (bit : Bool). bit) v ≡ false → v ≡ replicate (length v) false) → b ∷ v ≡ replicate (suc (length v)) false
    zeros_in true none rest = let other : true ≡ false = none in cc
    zeros_in false none rest = ap (λ (bits : List Bool). false ∷ bits) (rest none)

pub some_one : (v : List Bool) → list_any (λ (bit : Bool). bit) v ≡ true → Contains v true
some_one v one =
    let any = Any-from_list_any (λ (bit : Bool). bit) v one in
    (any.0, any.2, ap (λ d. get_or v any.0 d) (sym any.4) ∙ any.3 ∙ any.4)

not_twice : (b : Bool) → not b ≡ true → b ≡ false
not_twice true e = sym e
not_twice false e = refl

not_false : (b : Bool) → not b ≡ false → b ≡ true
not_false true e = refl
not_false false e = sym e

pub zeros-is_quiet : (steps : List MaskStep) (s : ℕ) → is_quiet steps s ≡ true → (mask_step steps s).change ≡ replicate (length (mask_step steps s).change) false
zeros-is_quiet steps s quiet = no_ones (mask_step steps s).change (not_twice _ quiet)

pub one-is_quiet : (steps : List MaskStep) (s : ℕ) → is_quiet steps s ≡ false → Contains (mask_step steps s).change true
one-is_quiet steps s changes = some_one (mask_step steps s).change (not_false _ changes)
