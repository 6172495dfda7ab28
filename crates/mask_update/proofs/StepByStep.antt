-- Histories step by step: moves of the places, new-mask steps, and the standard's recurrences.
use Rattle.std.specs.List.{enumerate_from, range_with_len, list_any}
use Rattle.std.specs.Prelude.{All, ◌||◌, reverse, find, unwrap_or, ◌&&◌, ◌==◌, if◌then◌else◌, not}
use Rattle.std.proofs.Common.{◌≡◌, ℕ, ◌+◌, ◌<◌, ◌≤◌, Bool, List, [], ◌∷◌, ◌++◌, length, map, get_or, ap, ◌∙◌, arith, zero, suc, ◌-◌, true, false, cond, Some, Option, refl, inl, inr, ◌⊎◌, replicate, sym, ne_eqb, ◌≢◌, eqb}
use Rattle.std.proofs.lemmas.Bool.{cond-true, le-leb, both_ways, cases_eq, cases_lt, and_parts, eqb-true, eq-eqb, false≢true, or_cases, or_left, or_right, and_from}
use Rattle.std.proofs.lemmas.List.{get_or-map, length-map, map_push, reverse-append, length-replicate}
use Rattle.std.proofs.lemmas.List.Folds.{list_any-append, Any-from_list_any, list_any_at}
use Rattle.std.proofs.lemmas.List.FromFn.{get_or-enumerate_from, length-enumerate_from, length-map-range_with_len, fill_by_all, get_or-map-range_with_len, get_or-range_with_len, length-range_with_len}
use Rattle.std.proofs.lemmas.Simd.{zip2-map, length-zip2}
use Rattle.bit_vectors.specs.Vectors.{IsVector, xor_bits, IsOne}
use Rattle.bit_vectors.specs.declared.flags.Flags.{Flags}
use Rattle.bit_vectors.proofs.Places.{get_or-zip2}
use Rattle.mask_update.specs.Histories.{History, IsValid, Step, forced_flags, history_of, no_step, step_at, step_of, with_step, input_at, latest_step}
use Rattle.mask_update.specs.Masks.{NoNewMask, has_moved, has_moved_between, latest_new_mask, new_mask_at, second_latest_new_mask, steps_between, build_at, change_at, mask_at, next_build, next_mask, vector_by, Moved, MovedBetween, input_bit}

-- ---- the history of inputs, step by step

pub length-history_of : (inputs : List (List Bool)) (flags : ℕ → Flags) (robust : ℕ → ℕ) (f : ℕ) (first_mask : List Bool) → length (history_of inputs flags robust f first_mask).steps ≡ length inputs
length-history_of inputs flags robust f first_mask = length-map (enumerate_from 0 inputs) (step_of flags robust) ∙ length-enumerate_from 0 inputs

pub step_at-history_of : (inputs : List (List Bool)) (flags : ℕ → Flags) (robust : ℕ → ℕ) (f : ℕ) (first_mask : List Bool) (t : ℕ) → t < length inputs → step_at (history_of inputs flags robust f first_mask) t ≡ step_of flags robust (t, get_or inputs t [])
step_at-history_of inputs flags robust f first_mask t lt =
    let within : t < length (enumerate_from 0 inputs) = omega (arith, length-enumerate_from 0 inputs) in
    let number : 0 + t ≡ t = omega arith in
    get_or-map (step_of flags robust) (enumerate_from 0 inputs) t (0, []) no_step within
    ∙ ap (step_of flags robust) (get_or-enumerate_from 0 inputs t (0, []) lt)
    ∙ ap (λ n. step_of flags robust (n, get_or inputs t [])) number

pub IsValid-history_of : (inputs : List (List Bool)) (flags : ℕ → Flags) (robust : ℕ → ℕ) (f : ℕ) (first_mask : List Bool) → IsVector first_mask → length first_mask ≡ f → length inputs ≤ 4294967296 → All (λ input. length input ≡ f) inputs → ((t : ℕ) → robust t ≤ 7) → IsValid (history_of inputs flags robust f first_mask)
IsValid-history_of inputs flags robust f first_mask vector len most inputs_len robust_most =
    record {
      vector = vector;
      places = len;
      most = omega (arith, length-history_of inputs flags robust f first_mask);
      inputs = λ t lt. ap (λ (s : Step). length s.input) (at t lt) ∙ inputs_len t [] (within t lt);
      robust = λ t lt. omega (arith, ap (λ (s : Step). s.robust) (at t lt), robust_most t);
      forced = λ t lt le.
          let up_to : t ≤ robust t = omega (arith, ap (λ (s : Step). s.robust) (at t lt)) in
          ap (λ (s : Step). s.flags) (at t lt) ∙ cond-true _ forced_flags (flags t) (le-leb t (robust t) up_to);
    }
  where
    within : (t : ℕ) → t < length (history_of inputs flags robust f first_mask).steps → t < length inputs
    within t lt = omega (arith, length-history_of inputs flags robust f first_mask)

    at : (t : ℕ) → t < length (history_of inputs flags robust f first_mask).steps → step_at (history_of inputs flags robust f first_mask) t ≡ step_of flags robust (t, get_or inputs t [])
    at t lt = step_at-history_of inputs flags robust f first_mask t (within t lt)

enumerate_push : (n m : ℕ) (inputs : List (List Bool)) (input : List Bool) → n + length inputs ≡ m → enumerate_from n (inputs ++ input ∷ []) ≡ enumerate_from n inputs ++ (m, input) ∷ []
enumerate_push n m [] input at = let same : n ≡ m = omega arith in ap (λ k. (k, input) ∷ []) same
enumerate_push n m (x ∷ inputs) input at = ap (λ rest. (n, x) ∷ rest) (enumerate_push (n + 1) m inputs input (omega arith))

pub history_of-push : (inputs : List (List Bool)) (flags : ℕ → Flags) (robust : ℕ → ℕ) (f : ℕ) (first_mask input : List Bool) → history_of (inputs ++ input ∷ []) flags robust f first_mask ≡ with_step (history_of inputs flags robust f first_mask) (step_of flags robust (length inputs, input))
history_of-push inputs flags robust f first_mask input =
    let with_steps : List Step → History = λ steps. record { places = f; first_mask = first_mask; steps = steps } in
    ap (λ numbered. with_steps (map (step_of flags robust) numbered)) (enumerate_push 0 (length inputs) inputs input (omega arith))
    ∙ ap with_steps (map_push (step_of flags robust) (enumerate_from 0 inputs) (length inputs, input))

-- ---- new-mask steps, and the steps between two numbers

pub range_push : (a n j : ℕ) → a + n ≡ j → range_with_len a (suc n) ≡ range_with_len a n ++ j ∷ []
range_push a zero j e = let same : a ≡ j = omega arith in ap (λ x. x ∷ []) same
range_push a (suc n) j e = ap (λ xs. a ∷ xs) (range_push (a + 1) n j (omega arith))

pub steps_between_more : (from to : ℕ) → from ≤ to → steps_between from (suc to) ≡ steps_between from to ++ suc to ∷ []
steps_between_more from to le =
    let more : suc to - from ≡ suc (to - from) = omega arith in rw more (range_push (from + 1) (to - from) (suc to) (omega arith))

none_between : (t : ℕ) → steps_between t t ≡ []
none_between t = let none : t - t ≡ 0 = omega arith in rw none

first_of : (b : Bool) (x : ℕ) (o : Option ℕ) → unwrap_or (cond b (Some x) o) 0 ≡ cond b x (unwrap_or o 0)
first_of true x o = refl
first_of false x o = refl

or_false : (b : Bool) → (b || false) ≡ b
or_false true = refl
or_false false = refl

pub latest_new_mask-zero : (h : History) → latest_new_mask h 0 ≡ 0
unfolding latest_new_mask
latest_new_mask-zero h = refl

-- the added step is the latest new-mask step if it is a new-mask step
pub latest_new_mask-suc : (h : History) (t : ℕ) → latest_new_mask h (suc t) ≡ cond (new_mask_at h (suc t)) (suc t) (latest_new_mask h t)
unfolding latest_new_mask
latest_new_mask-suc h t =
    ap (λ steps. unwrap_or (find (new_mask_at h) (reverse steps)) 0) (steps_between_more 0 t (omega arith))
    ∙ ap (λ steps. unwrap_or (find (new_mask_at h) steps) 0) (reverse-append (steps_between 0 t) (suc t ∷ []))
    ∙ first_of (new_mask_at h (suc t)) (suc t) (find (new_mask_at h) (reverse (steps_between 0 t)))

pub latest_new_mask-le : (h : History) (t : ℕ) → latest_new_mask h t ≤ t
latest_new_mask-le h zero = omega (arith, latest_new_mask-zero h)
latest_new_mask-le h (suc t) = latest_in (new_mask_at h (suc t)) (latest_new_mask h t) (latest_new_mask-le h t) (latest_new_mask-suc h t)
  where
    latest_in : (b : Bool) (before : ℕ) → before ≤ t → latest_new_mask h (suc t) ≡ cond b (suc t) before → latest_new_mask h (suc t) ≤ suc t
    latest_in true before le e = omega arith
    latest_in false before le e = omega arith

pub second_latest_new_mask-le : (h : History) (t : ℕ) → second_latest_new_mask h t ≤ t
unfolding second_latest_new_mask
second_latest_new_mask-le h t = omega (arith, latest_new_mask-le h (latest_new_mask h t - 1), latest_new_mask-le h t)

pub second_latest_new_mask-at_new : (h : History) (t : ℕ) → new_mask_at h (suc t) ≡ true → second_latest_new_mask h (suc t) ≡ latest_new_mask h t
unfolding second_latest_new_mask
second_latest_new_mask-at_new h t e =
    let at : latest_new_mask h (suc t) ≡ suc t = latest_new_mask-suc h t ∙ ap (λ b. cond b (suc t) (latest_new_mask h t)) e in
    let before : latest_new_mask h (suc t) - 1 ≡ t = omega arith in
    ap (latest_new_mask h) before

pub second_latest_new_mask-at_other : (h : History) (t : ℕ) → new_mask_at h (suc t) ≡ false → second_latest_new_mask h (suc t) ≡ second_latest_new_mask h t
unfolding second_latest_new_mask
second_latest_new_mask-at_other h t e =
    let at : latest_new_mask h (suc t) ≡ latest_new_mask h t = latest_new_mask-suc h t ∙ ap (λ b. cond b (suc t) (latest_new_mask h t)) e in
    ap (λ s. latest_new_mask h (s - 1)) at

pub has_moved_between-none : (h : History) (t place : ℕ) → has_moved_between h t t place ≡ false
has_moved_between-none h t place = ap (λ steps. list_any (λ step. has_moved h step place) steps) (none_between t)

pub has_moved_between-suc : (h : History) (from to place : ℕ) → from ≤ to → has_moved_between h from (suc to) place ≡ (has_moved_between h from to place || has_moved h (suc to) place)
has_moved_between-suc h from to place le =
    ap (λ steps. list_any (λ step. has_moved h step place) steps) (steps_between_more from to le)
    ∙ list_any-append (λ step. has_moved h step place) (steps_between from to) (suc to ∷ [])
    ∙ ap (λ b. has_moved_between h from to place || b) (or_false (has_moved h (suc to) place))

-- the latest new-mask step is a new-mask step, and no later step is
pub new_mask_at-latest : (h : History) (t : ℕ) → 0 < latest_new_mask h t → new_mask_at h (latest_new_mask h t) ≡ true
new_mask_at-latest h zero some = absurd (omega (arith, latest_new_mask-zero h))
new_mask_at-latest h (suc t) some = latest_in (new_mask_at h (suc t)) refl (new_mask_at-latest h t)
  where
    latest_in : (b : Bool) → new_mask_at h (suc t) ≡ b → (0 < latest_new_mask h t → new_mask_at h (latest_new_mask h t) ≡ true) → new_mask_at h (latest_new_mask h (suc t)) ≡ true
    latest_in true new before = ap (new_mask_at h) (latest_new_mask-suc h t ∙ ap (λ b. cond b (suc t) (latest_new_mask h t)) new) ∙ new
    latest_in false new before =
        let same : latest_new_mask h (suc t) ≡ latest_new_mask h t = latest_new_mask-suc h t ∙ ap (λ b. cond b (suc t) (latest_new_mask h t)) new in
        ap (new_mask_at h) same ∙ before (omega arith)

pub new_mask_at-after_latest : (h : History) (t step : ℕ) → latest_new_mask h t < step → step ≤ t → new_mask_at h step ≡ false
new_mask_at-after_latest h zero step above le = absurd (omega arith)
new_mask_at-after_latest h (suc t) step above le = after_in (new_mask_at h (suc t)) refl (cases_eq step (suc t)) (new_mask_at-after_latest h t step)
  where
    after_in : (b : Bool) → new_mask_at h (suc t) ≡ b → (step ≡ suc t) ⊎ (step ≡ suc t → ⊥) → (latest_new_mask h t < step → step ≤ t → new_mask_at h step ≡ false) → new_mask_at h step ≡ false
    after_in true new at before =
        let last : latest_new_mask h (suc t) ≡ suc t = latest_new_mask-suc h t ∙ ap (λ b. cond b (suc t) (latest_new_mask h t)) new in
        absurd (omega arith)
    after_in false new (inl at) before = ap (new_mask_at h) at ∙ new
    after_in false new (inr other) before =
        let same : latest_new_mask h (suc t) ≡ latest_new_mask h t = latest_new_mask-suc h t ∙ ap (λ b. cond b (suc t) (latest_new_mask h t)) new in
        before (omega arith) (omega arith)

pub NoNewMask-from : (h : History) (t : ℕ) → latest_new_mask h t ≡ 0 → NoNewMask h t
NoNewMask-from h t none = λ step some le. new_mask_at-after_latest h t step (omega arith) le

pub latest_new_mask-none : (h : History) (t : ℕ) → NoNewMask h t → latest_new_mask h t ≡ 0
latest_new_mask-none h t none = none_in (cases_lt 0 (latest_new_mask h t))
  where
    none_in : (0 < latest_new_mask h t) ⊎ (latest_new_mask h t ≤ 0) → latest_new_mask h t ≡ 0
    none_in (inl some) =
        absurd (both_ways (new_mask_at h (latest_new_mask h t)) (none (latest_new_mask h t) some (latest_new_mask-le h t)) (new_mask_at-latest h t some))
    none_in (inr le) = omega arith

-- ---- the standard's recurrences hold for the definitions

map_same : (p q : ℕ → Bool) → ((k : ℕ) → p k ≡ q k) → (ks : List ℕ) → map p ks ≡ map q ks
map_same p q same [] = refl
map_same p q same (k ∷ ks) = ap (λ b. b ∷ map p ks) (same k) ∙ ap (λ bs. q k ∷ bs) (map_same p q same ks)

pub vector_of_same : (f : ℕ) (p q : ℕ → Bool) → ((k : ℕ) → p k ≡ q k) → vector_by f p ≡ vector_by f q
vector_of_same f p q same = map_same p q same (range_with_len 0 f)

vector_by-false : (a f : ℕ) → map (λ k. false) (range_with_len a f) ≡ replicate f false
vector_by-false a zero = refl
vector_by-false a (suc f) = ap (λ bs. false ∷ bs) (vector_by-false (a + 1) f)

pub length-mask_at : (h : History) (t : ℕ) → length (mask_at h t) ≡ h.places
unfolding mask_at
length-mask_at h t = length-map-range_with_len _ 0 h.places

pub length-build_at : (h : History) (t : ℕ) → length (build_at h t) ≡ h.places
unfolding build_at
length-build_at h t = length-map-range_with_len _ 0 h.places

pub length-change_at : (h : History) (t : ℕ) → length (change_at h t) ≡ h.places
unfolding change_at
length-change_at h zero = length-replicate h.places false
length-change_at h (suc t) = length-zip2 _ (mask_at h t) (mask_at h (suc t)) (length-mask_at h t ∙ sym (length-mask_at h (suc t))) ∙ length-mask_at h t

-- the places that moved at a step
abbrev pub moved_at : History → ℕ → List Bool
moved_at h t = vector_by h.places (has_moved h t)

pub moved_is : (h : History) (t : ℕ) → length (input_at h t) ≡ h.places → length (input_at h (suc t)) ≡ h.places → xor_bits (input_at h t) (input_at h (suc t)) ≡ moved_at h (suc t)
moved_is h t len next_len =
    let same : length (input_at h t) ≡ length (input_at h (suc t)) = len ∙ sym next_len in
    fill_by_all (has_moved h (suc t)) _ h.places false (length-zip2 _ _ _ same ∙ len)
    (λ k lt. let within : k < length (input_at h t) = omega arith in get_or-zip2 _ _ _ k same within)

pub build_at-zero : (h : History) → build_at h 0 ≡ replicate h.places false
unfolding build_at
build_at-zero h = ap (λ s. vector_by h.places (has_moved_between h s 0)) (latest_new_mask-zero h) ∙ vector_by-false 0 h.places

pub build_at-suc : (h : History) (t : ℕ) → build_at h (suc t) ≡ next_build (new_mask_at h (suc t)) (moved_at h (suc t)) (build_at h t)
unfolding build_at
build_at-suc h t =
    ap (λ s. vector_by h.places (has_moved_between h s (suc t))) (latest_new_mask-suc h t) ∙ build_in (new_mask_at h (suc t))
  where
    build_in : (b : Bool) → vector_by h.places (has_moved_between h (cond b (suc t) (latest_new_mask h t)) (suc t)) ≡ next_build b (moved_at h (suc t)) (build_at h t)
    build_in true =
        vector_of_same h.places _ (λ k. false) (λ k. has_moved_between-none h (suc t) k)
        ∙ vector_by-false 0 h.places ∙ ap (λ n. replicate n false) (sym (length-build_at h t))
    build_in false =
        vector_of_same h.places _ _ (λ k. has_moved_between-suc h (latest_new_mask h t) t k (latest_new_mask-le h t))
        ∙ sym (zip2-map (λ a b. a || b) (has_moved_between h (latest_new_mask h t) t) (has_moved h (suc t)) (range_with_len 0 h.places))

pub mask_at-zero : (h : History) → length h.first_mask ≡ h.places → mask_at h 0 ≡ h.first_mask
unfolding mask_at latest_new_mask second_latest_new_mask
mask_at-zero h len = sym (fill_by_all (λ k. get_or h.first_mask k false) h.first_mask h.places false len (λ k lt. refl))

last_to_end : (a m c : Bool) → ((a || m) || c) ≡ ((a || c) || m)
last_to_end true m c = refl
last_to_end false true true = refl
last_to_end false true false = refl
last_to_end false false true = refl
last_to_end false false false = refl

or_none : (a x b : Bool) → b ≡ false → (a || (b && x)) ≡ a
or_none true x b e = refl
or_none false x b e = ap (λ c. c && x) e

-- the place of the mask at a step, in terms of the latest new-mask step
mask_bit : History → ℕ → ℕ → ℕ → ℕ → Bool
mask_bit h from latest t place = has_moved_between h from t place || ((latest == 0) && get_or h.first_mask place false)

mask_bit-new : (h : History) (t place : ℕ) → mask_bit h (latest_new_mask h t) (suc t) (suc t) place ≡ (has_moved_between h (latest_new_mask h t) t place || has_moved h (suc t) place)
unfolding mask_bit
mask_bit-new h t place =
    or_none _ (get_or h.first_mask place false) (suc t == 0) (ne_eqb (suc t) 0 (λ e. omega arith))
    ∙ has_moved_between-suc h (latest_new_mask h t) t place (latest_new_mask-le h t)

mask_bit-other : (h : History) (latest t place : ℕ) → mask_bit h (second_latest_new_mask h t) latest (suc t) place ≡ (mask_bit h (second_latest_new_mask h t) latest t place || has_moved h (suc t) place)
unfolding mask_bit
mask_bit-other h latest t place =
    let known = (latest == 0) && get_or h.first_mask place false in
    ap (λ b. b || known) (has_moved_between-suc h (second_latest_new_mask h t) t place (second_latest_new_mask-le h t))
    ∙ last_to_end (has_moved_between h (second_latest_new_mask h t) t place) (has_moved h (suc t) place) known

mask_of : History → ℕ → ℕ → ℕ → List Bool
mask_of h from latest t = vector_by h.places (mask_bit h from latest t)

pub mask_at-suc : (h : History) (t : ℕ) → mask_at h (suc t) ≡ next_mask (new_mask_at h (suc t)) (moved_at h (suc t)) (build_at h t) (mask_at h t)
unfolding build_at mask_at mask_bit mask_of
mask_at-suc h t = mask_in (new_mask_at h (suc t)) refl
  where
    mask_in : (b : Bool) → new_mask_at h (suc t) ≡ b → mask_at h (suc t) ≡ next_mask b (moved_at h (suc t)) (build_at h t) (mask_at h t)
    mask_in true new =
        ap (λ from. mask_of h from (latest_new_mask h (suc t)) (suc t)) (second_latest_new_mask-at_new h t new)
        ∙ ap (λ latest. mask_of h (latest_new_mask h t) latest (suc t)) (latest_new_mask-suc h t ∙ ap (λ b. cond b (suc t) (latest_new_mask h t)) new)
        ∙ vector_of_same h.places _ _ (mask_bit-new h t)
        ∙ sym (zip2-map (λ a b. a || b) (has_moved_between h (latest_new_mask h t) t) (has_moved h (suc t)) (range_with_len 0 h.places))
    mask_in false new =
        ap (λ from. mask_of h from (latest_new_mask h (suc t)) (suc t)) (second_latest_new_mask-at_other h t new)
        ∙ ap (λ latest. mask_of h (second_latest_new_mask h t) latest (suc t)) (latest_new_mask-suc h t ∙ ap (λ b. cond b (suc t) (latest_new_mask h t)) new)
        ∙ vector_of_same h.places _ _ (mask_bit-other h (latest_new_mask h t) t)
        ∙ sym (zip2-map (λ a b. a || b) (mask_bit h (second_latest_new_mask h t) (latest_new_mask h t) t) (has_moved h (suc t)) (range_with_len 0 h.places))

-- ---- the places of mask and build, in terms of the moves of a place

pub place_of : (f : ℕ) (p : ℕ → Bool) (k : ℕ) → k < f → get_or (vector_by f p) k false ≡ p k
place_of f p k lt = get_or-map-range_with_len p 0 f k k false lt (omega arith)

differ_true : (a b : Bool) → (if a then not b else b) ≡ true → b ≢ a
differ_true true true e same = false≢true e
differ_true true false e same = false≢true same
differ_true false true e same = false≢true (sym same)
differ_true false false e same = false≢true e

differ_from : (a b : Bool) → (a ≢ b) → (if a then not b else b) ≡ true
differ_from true true other = absurd (other refl)
differ_from true false other = refl
differ_from false true other = refl
differ_from false false other = absurd (other refl)

Moved-from : (h : History) (step place : ℕ) → step ≤ latest_step h → has_moved h step place ≡ true → Moved h step place
Moved-from h zero place le e = absurd (false≢true e)
Moved-from h (suc t) place le e =
    let before : t ≡ suc t - 1 = omega arith in
    (omega arith, omega arith, λ same. differ_true (input_bit h t place) (input_bit h (suc t) place) e (same ∙ ap (λ s. input_bit h s place) (sym before)))

has_moved-from : (h : History) (step place : ℕ) → Moved h step place → has_moved h step place ≡ true
has_moved-from h zero place moved = absurd (omega (arith, moved.0))
has_moved-from h (suc t) place moved =
    let before : t ≡ suc t - 1 = omega arith in
    differ_from (input_bit h t place) (input_bit h (suc t) place) (λ same. moved.2 (sym same ∙ ap (λ s. input_bit h s place) before))

pub MovedBetween-from : (h : History) (from to place : ℕ) → to ≤ latest_step h → has_moved_between h from to place ≡ true → MovedBetween h from to place
MovedBetween-from h from to place le e =
    let any = Any-from_list_any (λ step. has_moved h step place) (steps_between from to) e in
    let within : any.0 < to - from = omega (arith, any.2, length-range_with_len (from + 1) (to - from)) in
    let step : any.1 ≡ (from + 1) + any.0 = sym any.3 ∙ get_or-range_with_len (from + 1) (to - from) any.0 any.1 within in
    (any.1, omega arith, omega arith, Moved-from h any.1 place (omega arith) any.4)

pub has_moved_between-from : (h : History) (from to place : ℕ) → MovedBetween h from to place → has_moved_between h from to place ≡ true
has_moved_between-from h from to place moved =
    let k : ℕ = moved.0 - (from + 1) in
    let within : k < to - from = omega (arith, moved.1, moved.2) in
    let at : (from + 1) + k ≡ moved.0 = omega (arith, moved.1) in
    list_any_at (λ step. has_moved h step place) (steps_between from to) k 0 (omega (arith, length-range_with_len (from + 1) (to - from)))
    (ap (λ step. has_moved h step place) (get_or-range_with_len (from + 1) (to - from) k 0 within ∙ at) ∙ has_moved-from h moved.0 place moved.3)

pub build_at-places : (h : History) (t place : ℕ) → t ≤ latest_step h → place < h.places → (IsOne (build_at h t) place → MovedBetween h (latest_new_mask h t) t place) × (MovedBetween h (latest_new_mask h t) t place → IsOne (build_at h t) place)
unfolding build_at
build_at-places h t place le lt =
    let at = place_of h.places (has_moved_between h (latest_new_mask h t) t) place lt in
    (λ one. MovedBetween-from h (latest_new_mask h t) t place le (sym at ∙ one), λ moved. at ∙ has_moved_between-from h (latest_new_mask h t) t place moved)

pub mask_at-places : (h : History) (t place : ℕ) → t ≤ latest_step h → place < h.places → (IsOne (mask_at h t) place → MovedBetween h (second_latest_new_mask h t) t place ⊎ (NoNewMask h t × IsOne h.first_mask place)) × (MovedBetween h (second_latest_new_mask h t) t place ⊎ (NoNewMask h t × IsOne h.first_mask place) → IsOne (mask_at h t) place)
unfolding mask_at
mask_at-places h t place le lt = (λ one. forth (or_cases moves known (sym at ∙ one)), back)
  where
    moves : Bool
    moves = has_moved_between h (second_latest_new_mask h t) t place

    known : Bool
    known = eqb (latest_new_mask h t) 0 && get_or h.first_mask place false

    at : get_or (mask_at h t) place false ≡ (moves || known)
    at = place_of h.places (λ k. has_moved_between h (second_latest_new_mask h t) t k || (eqb (latest_new_mask h t) 0 && get_or h.first_mask k false)) place lt

    forth : (moves ≡ true) ⊎ (known ≡ true) → MovedBetween h (second_latest_new_mask h t) t place ⊎ (NoNewMask h t × IsOne h.first_mask place)
    forth (inl moved) = inl (MovedBetween-from h (second_latest_new_mask h t) t place le moved)
    forth (inr first) =
        let parts = and_parts (eqb (latest_new_mask h t) 0) (get_or h.first_mask place false) first in
        inr (NoNewMask-from h t (eqb-true (latest_new_mask h t) 0 parts.0), parts.1)

    back : MovedBetween h (second_latest_new_mask h t) t place ⊎ (NoNewMask h t × IsOne h.first_mask place) → IsOne (mask_at h t) place
    back (inl moved) = at ∙ or_left moves known (has_moved_between-from h (second_latest_new_mask h t) t place moved)
    back (inr first) =
        at ∙ or_right moves known (and_from (eqb (latest_new_mask h t) 0) (get_or h.first_mask place false) (eq-eqb (latest_new_mask h t) 0 (latest_new_mask-none h t first.0)) first.1)

pub change_at-places : (h : History) (t place : ℕ) → place < h.places → (IsOne (change_at h (suc t)) place → get_or (mask_at h t) place false ≢ get_or (mask_at h (suc t)) place false) × (get_or (mask_at h t) place false ≢ get_or (mask_at h (suc t)) place false → IsOne (change_at h (suc t)) place)
unfolding change_at
change_at-places h t place lt =
    let at = get_or-zip2 (λ a b. if a then not b else b) (mask_at h t) (mask_at h (suc t)) place (length-mask_at h t ∙ sym (length-mask_at h (suc t))) (omega (arith, length-mask_at h t)) in
    (λ one same. differ_true (get_or (mask_at h t) place false) (get_or (mask_at h (suc t)) place false) (sym at ∙ one) (sym same), λ other. at ∙ differ_from _ _ other)
