-- Extracted bits: what they determine, and reading a set of ones that is not empty.
use Rattle.std.specs.List.{list_any}
use Rattle.std.specs.List.Sorted.{IsStrictlyIncreasing}
use Rattle.std.specs.Prelude.{◌↔◌, Contains, count_by, OnOk, not, ◌&&◌}
use Rattle.std.proofs.Common.{◌≡◌, ℕ, zero, suc, ◌+◌, ◌-◌, ◌<◌, ◌≤◌, Bool, true, false, cond, List, [], ◌∷◌, ◌++◌, length, get_or, set, take, replicate, Result, Ok, Err, refl, sym, ap, ◌∙◌, arith, ◌⊎◌, inl, inr, append_assoc}
use Rattle.std.proofs.lemmas.Bool.{true≢false, cases_lt}
use Rattle.std.proofs.lemmas.List.{length-map, length-append, length-replicate, length-drop, length-take, get_or-map, get_or_default, get_or_past, get_or_at, ext_get_or, take_at, nil_from_length, append-nil}
use Rattle.std.proofs.lemmas.List.Elements.{Contains-get_or}
use Rattle.std.proofs.lemmas.List.Folds.{list_any_at}
use Rattle.bit_vectors.specs.Reading.{EyeState, bits_left, Parsed, Read, WrongBit, TooShort, ◌>>=◌, MovesOn, Gives, CanBegin, IsWrongBefore, IsExact}
use Rattle.bit_vectors.specs.Vectors.{without_bits}
use Rattle.bit_vectors.specs.declared.fault.BitFault.{BitFault}
use Rattle.bit_vectors.specs.declared.fault.BitFault.TheVariants.{Wrong, EndsEarly}
use Rattle.bit_vectors.proofs.ExactReading.{Gives-then_err}
use Rattle.bit_vectors.proofs.Places.{get_or-zip2_all}
use Rattle.run_code.specs.Extraction.{places_up, bits_at, bits_up, IsInverseWord, parse_filled, parse_inverse, ones_from, places_down, extract, inverse_up, SameOutside}
use Rattle.run_code.proofs.Filling.{IsFilling, IsExact-filled_at, parse_filled-short, parse_filled-read, parse_filled-no_wrong}
use Rattle.run_code.proofs.Ones.{one_or_zero, zeros_at, one_within, places_up_apart, in_places_up, places_up_has, length-ones_from, in_ones_from, places_down_has, length-places_down}

-- ---- ones of a list

abbrev has_one : List Bool → Bool
has_one v = list_any (λ (bit : Bool). bit) v

zero_at : (v : List Bool) → has_one v ≡ false → (k : ℕ) → get_or v k false ≡ false
zero_at [] none k = refl
zero_at (true ∷ v) none k = absurd cc
zero_at (false ∷ v) none zero = refl
zero_at (false ∷ v) none (suc k) = zero_at v none k

one_at : (v : List Bool) → has_one v ≡ true → (k : ℕ) × (get_or v k false ≡ true)
one_at [] some = absurd cc
one_at (true ∷ v) some = (0, refl)
one_at (false ∷ v) some = let h = one_at v some in (suc h.0, h.1)

has_one_by : (v : List Bool) (k : ℕ) → get_or v k false ≡ true → has_one v ≡ true
has_one_by v k one = list_any_at (λ (bit : Bool). bit) v k false (one_within v k one) one

one_of : (v : List Bool) → Contains v true → (k : ℕ) × (get_or v k false ≡ true)
one_of v c = (c.0, get_or_default v c.0 false true c.1 ∙ c.2)

contains_by : (v : List Bool) (k : ℕ) → get_or v k false ≡ true → Contains v true
contains_by v k one = (k, one_within v k one, get_or_default v k true false (one_within v k one) ∙ one)

no_one_in_zeros : (n : ℕ) → has_one (replicate n false) ≡ false
no_one_in_zeros zero = refl
no_one_in_zeros (suc n) = no_one_in_zeros n

-- ---- sets of ones

abbrev zeros_like : List Bool → List Bool
zeros_like x = replicate (length x) false

inverse_filling : (x y word : List Bool) → IsInverseWord x y word → IsFilling (places_up x) (zeros_like x) y word
inverse_filling x y word h = (
  record {
    same_length = h.places ∙ sym (length-replicate (length x) false);
    others = λ k out.
        elim (one_or_zero (get_or y k false)) [
          | inl one ↦ absurd (out (places_up_has x k (h.within k one)))
          | inr none ↦ none ∙ sym (zeros_at (length x) k)
        ];
  },
  h.bits,
)

-- a vector filled below a place that is after the end, and zero wherever x is
pub zeros_filling : (x y : List Bool) (n : ℕ) → length y ≡ length x → length x ≤ n → ((k : ℕ) → k < n → get_or x k false ≡ false → get_or y k false ≡ false) → IsFilling (places_up x) (zeros_like x) y (bits_up y x)
zeros_filling x y n len all zeros = (
  record {
    same_length = len ∙ sym (length-replicate (length x) false);
    others = λ k out.
        elim (one_or_zero (get_or x k false)) [
          | inl one ↦ absurd (out (places_up_has x k one))
          | inr none ↦ elim (cases_lt k n) [
            | inl lt ↦ zeros k lt none
            | inr past ↦ get_or_past y k false (omega arith)
          ] ∙ sym (zeros_at (length x) k)
        ];
  },
  refl,
)

filling_inverse : (x y word : List Bool) → IsFilling (places_up x) (zeros_like x) y word → Contains y true → IsInverseWord x y word
filling_inverse x y word h some = record {
  places = h.0.same_length ∙ length-replicate (length x) false;
  within = λ k one.
      elim (one_or_zero (get_or x k false)) [
        | inl in_x ↦ in_x
        | inr out_x ↦ absurd (true≢false (sym one ∙ h.0.others k (λ c. true≢false (sym (in_places_up x k c) ∙ out_x)) ∙ zeros_at (length x) k))
      ];
  some = some;
  bits = h.1;
}

pub length-bits_at : (v : List Bool) (places : List ℕ) → length (bits_at v places) ≡ length places
length-bits_at v places = length-map places _

-- a bit of a word is the one at its place
pub bit_of : (v : List Bool) (places : List ℕ) (i : ℕ) → i < length places → get_or (bits_at v places) i false ≡ get_or v (get_or places i 0) false
bit_of v places i lt = get_or-map (λ (place : ℕ). get_or v place false) places i 0 false lt

-- the word of a set that is not empty has a 1
word_has_one : (x y word : List Bool) → IsInverseWord x y word → has_one word ≡ true
word_has_one x y word h =
    let k = one_of y h.some in
    let c = places_up_has x k.0 (h.within k.0 k.1) in
    has_one_by word c.0 (rw h.bits (bit_of y (places_up x) c.0 c.1 ∙ ap (λ (p : ℕ). get_or y p false) (get_or_default (places_up x) c.0 0 k.0 c.1 ∙ c.2) ∙ k.1))

-- ---- each word that ends in a 1 is read

filled_any : (places : List ℕ) (v word : List Bool) → length word ≡ length places → (u : List Bool) × (parse_filled places v word ≡ Read u [])
unfolding parse_filled
filled_any [] v [] len = (v, refl)
filled_any [] v (bit ∷ word) len = absurd (omega arith)
filled_any (place ∷ places) v [] len = absurd (omega arith)
filled_any (place ∷ places) v (bit ∷ word) len = filled_any places (set v place bit) word (omega arith)

pub filling_exact : (x : List Bool) → IsExact (IsFilling (places_up x) (zeros_like x)) (parse_filled (places_up x) (zeros_like x))
filling_exact x = IsExact-filled_at (places_up x) (zeros_like x) (rw (length-replicate (length x) false) (places_up_apart x))

pub a_word : (x front : List Bool) → length front + 1 ≡ length (places_up x) → (y : List Bool) × IsInverseWord x y (front ++ true ∷ [])
a_word x front len =
    let word = front ++ true ∷ [] in
    let u = filled_any (places_up x) (zeros_like x) word (omega (arith, length-append front (true ∷ []))) in
    let r = (filling_exact x).read_is word u.0 [] u.1 in
    let is : word ≡ bits_at u.0 (places_up x) = r.2 ∙ append-nil r.0 ∙ r.1.1 in
    let last : get_or word (length front) false ≡ true = get_or_at front true [] false (length front) refl in
    let one : get_or u.0 (get_or (places_up x) (length front) 0) false ≡ true = sym (bit_of u.0 (places_up x) (length front) (omega arith)) ∙ sym (ap (λ (w : List Bool). get_or w (length front) false) is) ∙ last in
    let filling : IsFilling (places_up x) (zeros_like x) u.0 word = (r.1.0, is) in
    (u.0, filling_inverse x u.0 word filling (contains_by u.0 (get_or (places_up x) (length front) 0) one))

-- ---- the reader is exact

abbrev tested : List Bool → List Bool → Parsed (List Bool)
tested y rest = cond (has_one y) (Read y rest) (WrongBit rest)

tested_read : (r : Parsed (List Bool)) (y rest : List Bool) → (r >>= tested) ≡ Read y rest → (r ≡ Read y rest) × (has_one y ≡ true)
tested_read (Read v mid) y rest e =
    elim (one_or_zero (has_one v)) [
      | inl some ↦ let read : Read v mid ≡ Read y rest = rw some at e in let same : v ≡ y = cc in (read, rw (← same) some)
      | inr none ↦ let wrong : WrongBit mid ≡ Read y rest = rw none at e in absurd cc
    ]
tested_read (WrongBit mid) y rest e = absurd cc
tested_read TooShort y rest e = absurd cc

tested_wrong : (r : Parsed (List Bool)) (rest : List Bool) → (r >>= tested) ≡ WrongBit rest → (r ≡ WrongBit rest) ⊎ ((y : List Bool) × (r ≡ Read y rest) × (has_one y ≡ false))
tested_wrong (Read v mid) rest e =
    elim (one_or_zero (has_one v)) [
      | inl some ↦ let read : Read v mid ≡ WrongBit rest = rw some at e in absurd cc
      | inr none ↦ let wrong : ◌≡◌ {A = Parsed (List Bool)} (WrongBit mid) (WrongBit rest) = rw none at e in let same : mid ≡ rest = cc in inr (v, rw same refl, none)
    ]
tested_wrong (WrongBit mid) rest e = inl e
tested_wrong TooShort rest e = absurd cc

tested_short : (r : Parsed (List Bool)) → (r >>= tested) ≡ TooShort → r ≡ TooShort
tested_short (Read v mid) e =
    elim (one_or_zero (has_one v)) [
      | inl some ↦ let read : Read v mid ≡ TooShort = rw some at e in absurd cc
      | inr none ↦ let wrong : WrongBit mid ≡ TooShort = rw none at e in absurd cc
    ]
tested_short (WrongBit mid) e = absurd cc
tested_short TooShort e = refl

zeros_word : (x y word : List Bool) → IsFilling (places_up x) (zeros_like x) y word → has_one y ≡ false → word ≡ replicate (length (places_up x)) false
zeros_word x y word h none =
    let len : length word ≡ length (places_up x) = rw h.1 (length-bits_at y (places_up x)) in
    ext_get_or false word (replicate (length (places_up x)) false) (len ∙ sym (length-replicate (length (places_up x)) false))
    (λ k lt. rw h.1 (bit_of y (places_up x) k (omega arith) ∙ zero_at y none (get_or (places_up x) k 0)) ∙ sym (zeros_at (length (places_up x)) k))

replicate_last : (m : ℕ) → replicate (suc m) false ≡ replicate m false ++ false ∷ []
replicate_last zero = refl
replicate_last (suc m) = ap (λ (bits : List Bool). false ∷ bits) (replicate_last m)

some_places : (x : List Bool) → Contains x true → 0 < length (places_up x)
some_places x some =
    let k = one_of x some in
    let c = places_up_has x k.0 k.1 in
    omega (arith, c.1)

-- all zeros: the last of them is the first wrong bit
last_is_wrong : (x : List Bool) (n m : ℕ) → length (places_up x) ≡ n → n ≡ suc m → (bits rest : List Bool) → bits ≡ replicate n false ++ rest → IsWrongBefore (λ word. (y : List Bool) × IsInverseWord x y word) bits rest
last_is_wrong x n m all count bits rest parts =
    let last : replicate n false ≡ replicate m false ++ false ∷ [] = rw count (replicate_last m) in
    record {
      front = replicate m false;
      bit = false;
      parts = parts ∙ rw last (append_assoc (replicate m false) (false ∷ []) rest);
      hopeful = (true ∷ [], a_word x (replicate m false) (omega (arith, length-replicate m false)));
      hopeless = λ h.
          let word_is : replicate n false ++ h.0 ≡ bits_up h.1.0 x = rw last h.1.1.bits in
          let len = ap (λ (w : List Bool). length w) word_is in
          let end : h.0 ≡ [] = nil_from_length h.0 (omega (arith, length-append (replicate n false) h.0, length-replicate n false, length-bits_at h.1.0 (places_up x))) in
          let word : (replicate m false ++ false ∷ []) ++ h.0 ≡ replicate n false = rw (end, last) (append-nil (replicate m false ++ false ∷ [])) in
          true≢false (sym (word_has_one x h.1.0 ((replicate m false ++ false ∷ []) ++ h.0) h.1.1) ∙ ap has_one word ∙ no_one_in_zeros n);
    }

zeros_before : (x : List Bool) → Contains x true → (bits rest : List Bool) → bits ≡ replicate (length (places_up x)) false ++ rest → IsWrongBefore (λ word. (y : List Bool) × IsInverseWord x y word) bits rest
zeros_before x some = last_is_wrong x (length (places_up x)) (length (places_up x) - 1) refl (omega (arith, some_places x some))

short_can_begin : (x bits : List Bool) → length bits < length (places_up x) → CanBegin (λ word. (y : List Bool) × IsInverseWord x y word) bits
short_can_begin x bits lt =
    let more = length (places_up x) - length bits - 1 in
    let w = a_word x (bits ++ replicate more false) (omega (arith, length-append bits (replicate more false), length-replicate more false)) in
    (replicate more false ++ true ∷ [], (w.0, rw append_assoc at w.1))

pub IsExact-inverse_at : (x : List Bool) → Contains x true → IsExact (IsInverseWord x) (parse_inverse x)
unfolding parse_inverse
IsExact-inverse_at x some = record {
  reads = λ y word rest h. let one = one_of y h.some in rw ((filling_exact x).reads y word rest (inverse_filling x y word h), has_one_by y one.0 one.1) refl;
  read_is = λ bits y rest e.
      let t = tested_read (parse_filled (places_up x) (zeros_like x) bits) y rest e in
      let r = (filling_exact x).read_is bits y rest t.0 in
      let one = one_at y t.1 in
      (r.0, filling_inverse x y r.0 r.1 (contains_by y one.0 one.1), r.2);
  wrong_is = λ bits rest e.
      elim (tested_wrong (parse_filled (places_up x) (zeros_like x) bits) rest e) [
        | inl wrong ↦ absurd (parse_filled-no_wrong (places_up x) (zeros_like x) bits rest wrong)
        | inr none ↦
            let r = (filling_exact x).read_is bits none.0 rest none.1 in
            zeros_before x some bits rest (r.2 ∙ ap (λ (w : List Bool). w ++ rest) (zeros_word x none.0 r.0 r.1 none.2))
      ];
  short_is = λ bits e. short_can_begin x bits (parse_filled-short (places_up x) (zeros_like x) bits (tested_short (parse_filled (places_up x) (zeros_like x) bits) e));
}

-- ---- what follows from a reading

pub inverse_err : {A : Type 0} (x : List Bool) (view : A → List Bool) (old new : EyeState) (fault : BitFault) → Gives view (Err fault) new (parse_filled (places_up x) (zeros_like x) (bits_left old)) → Gives view (Err fault) new (parse_inverse x (bits_left old))
unfolding parse_inverse
inverse_err x view old new fault given = Gives-then_err view view fault new (parse_filled (places_up x) (zeros_like x) (bits_left old)) tested given

pub inverse_zero : (x bits y rest : List Bool) → parse_filled (places_up x) (zeros_like x) bits ≡ Read y rest → y ≡ replicate (length y) false → parse_inverse x bits ≡ WrongBit rest
unfolding parse_inverse
inverse_zero x bits y rest read zeros =
    let none : has_one y ≡ false = ap has_one zeros ∙ no_one_in_zeros (length y) in
    rw (read, none) refl

pub inverse_some : (x bits y rest : List Bool) → parse_filled (places_up x) (zeros_like x) bits ≡ Read y rest → Contains y true → parse_inverse x bits ≡ Read y rest
unfolding parse_inverse
inverse_some x bits y rest read some =
    let one = one_of y some in
    rw (read, has_one_by y one.0 one.1) refl

-- the eye moves past a word that is not empty
pub place_moved : (old new : EyeState) (word : List Bool) → MovesOn old new → 0 < length word → bits_left old ≡ word ++ bits_left new → old.place < new.place
place_moved old new word moves some parts =
    let len = ap (λ (bits : List Bool). length bits) parts in
    omega (arith, length-append word (bits_left new), length-drop old.place old.bits, length-drop new.place new.bits, ap (λ (bits : List Bool). length bits) moves.bits)

pub filled_word : (x bits y rest : List Bool) → parse_filled (places_up x) (zeros_like x) bits ≡ Read y rest → (word : List Bool) × (length word ≡ length (places_up x)) × (bits ≡ word ++ rest)
filled_word x bits y rest read =
    let r = (filling_exact x).read_is bits y rest read in
    (r.0, rw r.1.1 (length-bits_at y (places_up x)), r.2)

pub some_at_start : (x : List Bool) → Contains x true → 0 < length (places_up x)
some_at_start = some_places

all_zeros : (x bits rest : List Bool) → parse_inverse x bits ≡ WrongBit rest → bits ≡ replicate (length (places_up x)) false ++ rest
unfolding parse_inverse
all_zeros x bits rest e =
    elim (tested_wrong (parse_filled (places_up x) (zeros_like x) bits) rest e) [
      | inl wrong ↦ absurd (parse_filled-no_wrong (places_up x) (zeros_like x) bits rest wrong)
      | inr none ↦
          let r = (filling_exact x).read_is bits none.0 rest none.1 in
          r.2 ∙ ap (λ (w : List Bool). w ++ rest) (zeros_word x none.0 r.0 r.1 none.2)
    ]

too_few : (x bits : List Bool) → parse_inverse x bits ≡ TooShort → length bits < length (places_up x)
unfolding parse_inverse
too_few x bits e = parse_filled-short (places_up x) (zeros_like x) bits (tested_short (parse_filled (places_up x) (zeros_like x) bits) e)

enough : (x bits y rest : List Bool) → parse_inverse x bits ≡ Read y rest → length (places_up x) ≤ length bits
unfolding parse_inverse
enough x bits y rest e = parse_filled-read (places_up x) (zeros_like x) bits y rest (tested_read (parse_filled (places_up x) (zeros_like x) bits) y rest e).0

module _ (x y : List Bool) (some : Contains x true) (old new : EyeState) where
  pub inverse_taken : (result : Result (Unit {0}) BitFault) → Gives (λ (u : Unit {0}). y) result new (parse_inverse x (bits_left old)) → OnOk result (bits_left old ≡ bits_up y x ++ bits_left new)
  inverse_taken (Ok u) given =
      let r = (IsExact-inverse_at x some).read_is (bits_left old) y (bits_left new) given in
      r.2 ∙ ap (λ (w : List Bool). w ++ bits_left new) r.1.bits
  inverse_taken (Err fault) given = tt

  pub inverse_within : (result : Result (Unit {0}) BitFault) → Gives (λ (u : Unit {0}). y) result new (parse_inverse x (bits_left old)) → OnOk result ((place : ℕ) → get_or y place false ≡ true → get_or x place false ≡ true)
  inverse_within (Ok u) given = ((IsExact-inverse_at x some).read_is (bits_left old) y (bits_left new) given).1.within
  inverse_within (Err fault) given = tt

  pub inverse_one : (result : Result (Unit {0}) BitFault) → Gives (λ (u : Unit {0}). y) result new (parse_inverse x (bits_left old)) → OnOk result (Contains y true)
  inverse_one (Ok u) given = ((IsExact-inverse_at x some).read_is (bits_left old) y (bits_left new) given).1.some
  inverse_one (Err fault) given = tt

  pub inverse_early : MovesOn old new → (result : Result (Unit {0}) BitFault) → Gives (λ (u : Unit {0}). y) result new (parse_inverse x (bits_left old))
      → (result ≡ Err (EndsEarly (length old.bits))) ↔ (length (bits_left old) < count_by (λ bit. bit) x)
  inverse_early moves (Ok u) given =
      (λ e. absurd cc, λ lt. absurd (omega (arith, enough x (bits_left old) y (bits_left new) given, length-ones_from 0 x)))
  inverse_early moves (Err (Wrong bit)) given =
      let len = ap (λ (bits : List Bool). length bits) (all_zeros x (bits_left old) (bits_left new) given.0) in
      (λ e. absurd cc, λ lt. absurd (omega (arith, len, length-append (replicate (length (places_up x)) false) (bits_left new), length-replicate (length (places_up x)) false, length-ones_from 0 x)))
  inverse_early moves (Err (EndsEarly bit)) given =
      let same : bit ≡ length old.bits = given.1 ∙ ap (λ (bits : List Bool). length bits) moves.bits in
      (λ e. omega (arith, too_few x (bits_left old) given.0, length-ones_from 0 x), λ lt. ap (λ (n : ℕ). Err (EndsEarly n)) same)

  pub inverse_wrong : MovesOn old new → (result : Result (Unit {0}) BitFault) → Gives (λ (u : Unit {0}). y) result new (parse_inverse x (bits_left old))
      → (result ≡ Err (Wrong (old.place + count_by (λ bit. bit) x - 1))) ↔ (take (count_by (λ bit. bit) x) (bits_left old) ≡ replicate (count_by (λ bit. bit) x) false)
  inverse_wrong moves (Ok u) given =
      let r = (IsExact-inverse_at x some).read_is (bits_left old) y (bits_left new) given in
      let len : length r.0 ≡ count_by (λ bit. bit) x = rw r.1.bits (length-bits_at y (places_up x) ∙ length-ones_from 0 x) in
      let front : take (count_by (λ bit. bit) x) (bits_left old) ≡ r.0 = ap (take (count_by (λ bit. bit) x)) r.2 ∙ take_at r.0 (bits_left new) (count_by (λ bit. bit) x) len in
      (λ e. absurd cc, λ zeros. absurd (true≢false (sym (word_has_one x y r.0 r.1) ∙ ap has_one (sym front ∙ zeros) ∙ no_one_in_zeros (count_by (λ bit. bit) x))))
  inverse_wrong moves (Err (Wrong bit)) given =
      let count = length-ones_from 0 x in
      let parts : bits_left old ≡ replicate (count_by (λ bit. bit) x) false ++ bits_left new = rw count at (all_zeros x (bits_left old) (bits_left new) given.0) in
      let len = ap (λ (bits : List Bool). length bits) parts in
      let place : bit ≡ old.place + count_by (λ bit. bit) x - 1 =
      omega (arith, len, some_places x some, count, given.1, given.2, length-append (replicate (count_by (λ bit. bit) x) false) (bits_left new), length-replicate (count_by (λ bit. bit) x) false, length-drop old.place old.bits, length-drop new.place new.bits, ap (λ (bits : List Bool). length bits) moves.bits) in (
        λ e. ap (take (count_by (λ bit. bit) x)) parts ∙ take_at (replicate (count_by (λ bit. bit) x) false) (bits_left new) (count_by (λ bit. bit) x) (length-replicate (count_by (λ bit. bit) x) false),
        λ zeros. ap (λ (n : ℕ). Err (Wrong n)) place,
      )
  inverse_wrong moves (Err (EndsEarly bit)) given =
      (λ e. absurd cc, λ zeros. absurd (omega (arith, too_few x (bits_left old) given.0, length-ones_from 0 x, length-take (count_by (λ bit. bit) x) (bits_left old), length-replicate (count_by (λ bit. bit) x) false, ap (λ (bits : List Bool). length bits) zeros)))

-- ---- what extracted bits determine

pub ones_from_rise : (n : ℕ) (bits : List Bool) → IsStrictlyIncreasing (ones_from n bits)
unfolding ones_from
ones_from_rise n [] k lt = absurd (omega arith)
ones_from_rise n (true ∷ bits) zero lt =
    let first = in_ones_from (n + 1) bits (get_or (ones_from (n + 1) bits) 0 0) (Contains-get_or (ones_from (n + 1) bits) 0 0 (omega arith)) in
    omega (arith, first.0)
ones_from_rise n (true ∷ bits) (suc k) lt =
    let next : suc k + 1 ≡ suc (k + 1) = omega arith in
    rw next (ones_from_rise (n + 1) bits k (omega arith))
ones_from_rise n (false ∷ bits) k lt = ones_from_rise (n + 1) bits k lt

pub length-extract : (a b : List Bool) → length (extract a b) ≡ count_by (λ bit. bit) b
length-extract a b = length-bits_at a (places_down b) ∙ length-places_down b

-- the extracted bit of a 1
extracted : (a b : List Bool) (k : ℕ) (c : Contains (places_down b) k) → get_or (extract a b) c.0 false ≡ get_or a k false
extracted a b k c = bit_of a (places_down b) c.0 c.1 ∙ ap (λ (p : ℕ). get_or a p false) (get_or_default (places_down b) c.0 0 k c.1 ∙ c.2)

pub extract_tells : (a b other : List Bool) → length a ≡ length other → extract a b ≡ extract other b → SameOutside b a other → a ≡ other
extract_tells a b other len same outside =
    ext_get_or false a other len (λ k lt. elim (one_or_zero (get_or b k false)) [
      | inl one ↦
          let c = places_down_has b k one in
          sym (extracted a b k c) ∙ ap (λ (bits : List Bool). get_or bits c.0 false) same ∙ extracted other b k c
      | inr none ↦ sym (outside k none)
    ])

both : (x m : Bool) → x ≡ true → (x && not m) ≡ not m
both true m e = refl
both false m e = absurd cc

pub inverse_is : (mask x : List Bool) → length mask ≡ length x → bits_up (without_bits x mask) x ≡ inverse_up mask x
inverse_is mask x len =
    ext_get_or false (bits_up (without_bits x mask) x) (inverse_up mask x) (length-bits_at (without_bits x mask) (places_up x) ∙ sym (length-map (bits_up mask x) not ∙ length-bits_at mask (places_up x)))
    (λ i lt.
    let within : i < length (places_up x) = omega (arith, length-bits_at (without_bits x mask) (places_up x)) in
    let one = in_places_up x (get_or (places_up x) i 0) (Contains-get_or (places_up x) i 0 within) in
    bit_of (without_bits x mask) (places_up x) i within
    ∙ get_or-zip2_all (λ a b. a && not b) refl x mask (get_or (places_up x) i 0) (sym len)
    ∙ both (get_or x (get_or (places_up x) i 0) false) (get_or mask (get_or (places_up x) i 0) false) one
    ∙ sym (get_or-map not (bits_up mask x) i false false (omega (arith, length-bits_at mask (places_up x))) ∙ ap not (bit_of mask (places_up x) i within)))
