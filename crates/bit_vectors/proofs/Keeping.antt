-- What the calls of a vector do, in terms of the words that keep it.
use Rattle.std.proofs.Common.{bit_and, ◌≡◌, ◌≢◌, ℕ, zero, suc, ◌+◌, ◌-◌, ◌*◌, ◌/◌, ◌%◌, ◌^◌, ◌<◌, ◌≤◌, ◌⊎◌, ◌↔◌, Bool, true, false, cond, eqb, List, [], ◌∷◌, ◌++◌, length, get_or, set, take, drop, replicate, count_by, Option, Some, None, IfSome, IfNone, IsNone, refl, sym, ap, subst, ◌∙◌, arith, inl, inr}
use Rattle.std.specs.Int.{bit_at, bit_not, w64}
use Rattle.std.specs.Prelude.{Contains, not, ◌&&◌}
use Rattle.std.specs.Simd.Lanes.{zip2}
use Rattle.std.proofs.lemmas.Bool.{cases_lt, cases_eq, true≢false}
use Rattle.std.proofs.lemmas.List.{take_at, length-take-le, length-set, length-replicate, get_or-take, get_or-drop, get_or_past, get_or-set_same, get_or-set_other, ext_get_or}
use Rattle.std.proofs.lemmas.List.Sums.{sum_by-cons, sum_by-take-drop}
use Rattle.std.proofs.lemmas.Simd.{get_or-zip2, length-zip2}
use Rattle.std.proofs.lemmas.Nat.Bits.{bit_at-zero, same_from_bits_below}
use Rattle.bit_vectors.specs.Vectors.{IsOne, NoneIsOne, bits_of, byte_count, padded, vector_bytes, without_bits}
use Rattle.bit_vectors.specs.Words.{word_count, word_bits, bit_of, vector_of, AreWords, NoBitIsOne, IsWord, HasNoSpareBit}
use Rattle.bit_vectors.proofs.Lists.{get_or-replicate_same}
use Rattle.bit_vectors.proofs.NumberBits.{same_bit, length-bits_of, length-padded, get_or-padded, zeros_is, zero_from_none, vector_bytes_is}
use Rattle.bit_vectors.proofs.Places.{get_or-zip2_all}
use Rattle.bit_vectors.proofs.WordBits.{Bitwise-drop, Zips, zipped_bits, zipped_numbers, get_or-word_bits, length-vector_of, get_or-vector_of, vector_of_is, bit_of-set_in, bit_of-set_out, numbers-set}

-- a vector and the words that keep it
pub record Holds (words : List ℕ) (places : ℕ) (v : List Bool) : Type 0 where
  pub are : AreWords words places
  pub len : length v ≡ places
  pub bits : (k : ℕ) → get_or v k false ≡ bit_of words k

pub holds : (words : List ℕ) (places : ℕ) (v : List Bool) → AreWords words places → vector_of words places ≡ v → Holds words places v
holds words places v are view_is = record {
  are = are;
  len = sym (ap (λ (bits : List Bool). length bits) view_is) ∙ length-vector_of words places are;
  bits = λ k. sym (ap (λ (bits : List Bool). get_or bits k false) view_is) ∙ get_or-vector_of words places are k;
}

-- the same for words that were read
pub holds_read : (kept words : List ℕ) (places : ℕ) (v : List Bool) → words ≡ kept → AreWords kept places → vector_of kept places ≡ v → Holds words places v
holds_read kept words places v same are view_is = subst (λ (ws : List ℕ). Holds ws places v) (sym same) (holds kept places v are view_is)

-- vectors with the same number of places are kept in the same number of words
pub same_count : (words others : List ℕ) (places count : ℕ) (v w : List Bool) → Holds words places v → Holds others count w → length v ≡ length w → length words ≡ length others
same_count words others places count v w h g len = omega (arith, h.len, h.are.count, g.len, g.are.count)

-- ---- a new vector

-- the words that now keep another vector, which has the same number of places
pub record Becomes (old new : List ℕ) (places : ℕ) (v : List Bool) : Type 0 where
  pub same_len : length new ≡ length old
  pub numbers : (i : ℕ) → get_or new i 0 < 2 ^ 64
  pub len : length v ≡ places
  pub bits : (k : ℕ) → bit_of new k ≡ get_or v k false

pub AreWords-becomes : (old new : List ℕ) (places : ℕ) (v : List Bool) → AreWords old places → Becomes old new places v → AreWords new places
AreWords-becomes old new places v h b = record {
  some = h.some;
  most = h.most;
  count = b.same_len ∙ h.count;
  numbers = b.numbers;
  spare = λ k le. b.bits k ∙ get_or_past v k false (omega (arith, b.len));
}

pub vector_of-becomes : (old new : List ℕ) (places : ℕ) (v : List Bool) → AreWords old places → Becomes old new places v → vector_of new places ≡ v
vector_of-becomes old new places v h b = vector_of_is new places v (AreWords-becomes old new places v h b) b.len b.bits

-- a list of the given number of words after it was borrowed as a whole
refilled : (old new : List ℕ) (n : ℕ) → n ≡ length old → length new ≡ length old → take n (new ++ drop (length new) old) ≡ new
refilled old new n n_is len = take_at new (drop (length new) old) n (len ∙ sym n_is)

pub words_become : (old new : List ℕ) (n places : ℕ) (v : List Bool) → AreWords old places → n ≡ length old → Becomes old new places v → AreWords (take n (new ++ drop (length new) old)) places
words_become old new n places v h n_is b = rw (refilled old new n n_is b.same_len) (AreWords-becomes old new places v h b)

pub vector_becomes : (old new : List ℕ) (n places : ℕ) (v : List Bool) → AreWords old places → n ≡ length old → Becomes old new places v → vector_of (take n (new ++ drop (length new) old)) places ≡ v
vector_becomes old new n places v h n_is b =
    ap (λ (words : List ℕ). vector_of words places) (refilled old new n n_is b.same_len) ∙ vector_of-becomes old new places v h b

pub Becomes-set : (old new : List ℕ) (places place : ℕ) (bit : Bool) (v : List Bool) → Holds old places v → place < length v → length new ≡ length old → bit_of new place ≡ bit → ((k : ℕ) → k ≢ place → bit_of new k ≡ bit_of old k) → ((i : ℕ) → get_or new i 0 < 2 ^ 64)
    → Becomes old new places (set v place bit)
Becomes-set old new places place bit v h lt same_len here others numbers = record {
  same_len = same_len;
  numbers = numbers;
  len = length-set v place bit ∙ h.len;
  bits = λ k. elim (cases_eq k place) [
    | inl same ↦ rw (same, here) (sym (get_or-set_same v place bit false lt))
    | inr other ↦ others k other ∙ sym (get_or-set_other v place k bit false other ∙ h.bits k)
  ];
}

bit_of-zeros : (n k : ℕ) → bit_of (replicate n 0) k ≡ false
unfolding bit_of
bit_of-zeros n k = rw (get_or-replicate_same {A = ℕ} n (k / 64) 0, bit_at-zero (63 - k % 64)) refl

pub Becomes-clear : (old new : List ℕ) (places : ℕ) (v : List Bool) → Holds old places v → new ≡ replicate (length old) 0 → Becomes old new places (replicate (length v) false)
Becomes-clear old new places v h new_is = rw new_is (record {
  same_len = length-replicate {A = ℕ} (length old) 0;
  numbers = λ i. rw (get_or-replicate_same {A = ℕ} (length old) i 0) (omega arith);
  len = length-replicate {A = Bool} (length v) false ∙ h.len;
  bits = λ k. bit_of-zeros (length old) k ∙ sym (get_or-replicate_same (length v) k false);
})

pub Becomes-copy : (old new : List ℕ) (places others : ℕ) (v w : List Bool) → Holds old places v → Holds new others w → length v ≡ length w → Becomes old new places w
Becomes-copy old new places others v w h g len = record {
  same_len = let same : places ≡ others = omega (arith, h.len, g.len) in g.are.count ∙ rw (← same) (sym h.are.count);
  numbers = g.are.numbers;
  len = sym len ∙ h.len;
  bits = λ k. sym (g.bits k);
}

pub Becomes-zip : (f : Bool → Bool → Bool) → f false false ≡ false → (old new others : List ℕ) (places count : ℕ) (v w : List Bool) → Holds old places v → Holds others count w → length v ≡ length w → length new ≡ length old → ((k : ℕ) → bit_of new k ≡ f (bit_of old k) (bit_of others k)) → ((i : ℕ) → get_or new i 0 < 2 ^ 64)
    → Becomes old new places (zip2 f v w)
Becomes-zip f none old new others places count v w h g len same_len bits numbers = record {
  same_len = same_len;
  numbers = numbers;
  len = length-zip2 f v w len ∙ h.len;
  bits = λ k. bits k ∙ rw (← h.bits k, ← g.bits k) (sym (get_or-zip2_all f none v w k len));
}

pub Becomes-load : (old new bytes : List ℕ) (places : ℕ) (v : List Bool) → Holds old places v → length bytes ≡ byte_count (length v) → length new ≡ length old → ((k : ℕ) → bit_of new k ≡ get_or (bits_of bytes) k false) → ((i : ℕ) → get_or new i 0 < 2 ^ 64) → (Contains (drop places (bits_of bytes)) true → ⊥)
    → Becomes old new places (take (length v) (bits_of bytes))
Becomes-load old new bytes places v h count same_len bits numbers no_spare = record {
  same_len = same_len;
  numbers = numbers;
  len = length-take-le (length v) (bits_of bytes) (omega (arith, length-bits_of bytes)) ∙ h.len;
  bits = λ k. elim (cases_lt k (length v)) [
    | inl lt ↦ bits k ∙ sym (get_or-take (length v) (bits_of bytes) k false lt)
    | inr le ↦
        let back : places + (k - places) ≡ k = omega (arith, h.len) in
        let none : get_or (bits_of bytes) k false ≡ false = ap (λ (n : ℕ). get_or (bits_of bytes) n false) (sym back) ∙ sym (get_or-drop places (bits_of bytes) (k - places) false) ∙ zero_from_none (drop places (bits_of bytes)) no_spare (k - places) in
        bits k ∙ none ∙ sym (get_or_past (take (length v) (bits_of bytes)) k false (omega (arith, length-take-le (length v) (bits_of bytes) (omega (arith, length-bits_of bytes)))))
  ];
}

-- zeros
pub AreWords-zeros : (words : List ℕ) (count places : ℕ) → words ≡ replicate count 0 → count ≡ word_count places → 1 ≤ places → places ≤ 49152 → AreWords words places
AreWords-zeros words count places words_is count_is some most = rw words_is (record {
  some = some;
  most = most;
  count = length-replicate {A = ℕ} count 0 ∙ count_is;
  numbers = λ i. rw (get_or-replicate_same {A = ℕ} count i 0) (omega arith);
  spare = λ k le. bit_of-zeros count k;
})

pub vector_of-zeros : (words : List ℕ) (count places : ℕ) → words ≡ replicate count 0 → AreWords words places → vector_of words places ≡ replicate places false
vector_of-zeros words count places words_is are =
    vector_of_is words places (replicate places false) are (length-replicate {A = Bool} places false) (λ k. rw words_is (bit_of-zeros count k ∙ sym (get_or-replicate_same places k false)))

-- ---- one word

bit_in_place : (words : List ℕ) (index k : ℕ) → k < 64 → bit_of words (64 * index + k) ≡ eqb (bit_at (get_or words index 0) (63 - k)) 1
unfolding bit_of
bit_in_place words index k lt =
    let word : (64 * index + k) / 64 ≡ index = omega arith in
    let place : (64 * index + k) % 64 ≡ k = omega arith in
    rw (word, place) refl

pub IsWord-kept : (words : List ℕ) (places : ℕ) (v : List Bool) (index w : ℕ) → Holds words places v → w ≡ get_or words index 0 → IsWord v index w
IsWord-kept words places v index w h w_is k lt = rw w_is (sym (h.bits (64 * index + k) ∙ bit_in_place words index k lt))

pub AreWords-set_word : (words : List ℕ) (places index w : ℕ) → AreWords words places → index < length words → w < 2 ^ 64 → HasNoSpareBit places index w → AreWords (set words index w) places
AreWords-set_word words places index w h lt below no_spare = record {
  some = h.some;
  most = h.most;
  count = length-set words index w ∙ h.count;
  numbers = numbers-set words index w h.numbers below;
  spare = λ k le. elim (cases_eq (k / 64) index) [
    | inl here ↦ bit_of-set_in words index w k lt here ∙ rw (no_spare (k % 64) (omega arith) (omega arith)) refl
    | inr other ↦ bit_of-set_out words index w k other ∙ h.spare k le
  ];
}

pub IsWord-set_word : (words : List ℕ) (places index w : ℕ) → AreWords (set words index w) places → index < length words → IsWord (vector_of (set words index w) places) index w
IsWord-set_word words places index w are lt =
    IsWord-kept (set words index w) places (vector_of (set words index w) places) index w (holds (set words index w) places (vector_of (set words index w) places) are refl) (sym (get_or-set_same words index w 0 lt))

pub others-set_word : (words : List ℕ) (places index w : ℕ) (v : List Bool) → AreWords (set words index w) places → Holds words places v → (k : ℕ) → k / 64 ≢ index → get_or (vector_of (set words index w) places) k false ≡ get_or v k false
others-set_word words places index w v are h k other =
    get_or-vector_of (set words index w) places are k ∙ bit_of-set_out words index w k other ∙ sym (h.bits k)

-- ---- ones

count_by-zeros : (n : ℕ) → count_by (λ bit. bit) (replicate n false) ≡ 0
count_by-zeros zero = refl
count_by-zeros (suc n) = sum_by-cons (λ (bit : Bool). cond bit 1 0) false (replicate n false) ∙ omega (arith, count_by-zeros n)

pub ones_kept : (words : List ℕ) (places : ℕ) (v : List Bool) → AreWords words places → vector_of words places ≡ v → count_by (λ bit. bit) (word_bits words) ≡ count_by (λ bit. bit) v
unfolding vector_of
ones_kept words places v h view_is =
    let spare : drop places (word_bits words) ≡ replicate (length (drop places (word_bits words))) false =
    zeros_is (drop places (word_bits words)) (λ i. get_or-drop places (word_bits words) i false ∙ get_or-word_bits words (places + i) ∙ h.spare (places + i) (omega arith)) in
    let none : count_by (λ (bit : Bool). bit) (drop places (word_bits words)) ≡ 0 = ap (λ (bits : List Bool). count_by (λ (bit : Bool). bit) bits) spare ∙ count_by-zeros (length (drop places (word_bits words))) in
    let all = sum_by-take-drop (λ (bit : Bool). cond bit 1 0) (word_bits words) places in
    let front = ap (λ (bits : List Bool). count_by (λ (bit : Bool). bit) bits) view_is in
    omega (arith, all, none, front)

zero_or_one : (v : List Bool) → (v ≡ replicate (length v) false) ⊎ Contains v true
zero_or_one [] = inl refl
zero_or_one (true ∷ v) = inr (0, omega arith, refl)
zero_or_one (false ∷ v) =
    elim (zero_or_one v) [
      | inl none ↦ inl (ap (λ (bits : List Bool). false ∷ bits) none)
      | inr some ↦ inr (suc some.0, omega (arith, some.1), some.2)
    ]

zero_bit : (words : List ℕ) (k : ℕ) → get_or words (k / 64) 0 ≡ 0 → bit_of words k ≡ false
unfolding bit_of
zero_bit words k none = rw (none, bit_at-zero (63 - k % 64)) refl

pub zero_vector : (words : List ℕ) (places : ℕ) (v : List Bool) → Holds words places v → ((i : ℕ) → i < length words → get_or words i 0 ≡ 0) → v ≡ replicate (length v) false
zero_vector words places v h none =
    zeros_is v (λ k. h.bits k ∙ elim (cases_lt (k / 64) (length words)) [
      | inl lt ↦ zero_bit words k (none (k / 64) lt)
      | inr le ↦ zero_bit words k (get_or_past words (k / 64) 0 le)
    ])

-- words are determined by their bits
same_word : (a b : List ℕ) (i : ℕ) → get_or a i 0 < 2 ^ 64 → get_or b i 0 < 2 ^ 64 → ((k : ℕ) → bit_of a k ≡ bit_of b k) → get_or a i 0 ≡ get_or b i 0
same_word a b i a_below b_below same =
    same_from_bits_below 64 (get_or a i 0) (get_or b i 0) a_below b_below (λ j lt.
    let back : 63 - (63 - j) ≡ j = omega arith in
    same_bit (get_or a i 0) j (get_or b i 0) j (subst (λ (n : ℕ). eqb (bit_at (get_or a i 0) n) 1 ≡ eqb (bit_at (get_or b i 0) n) 1) back
    (sym (bit_in_place a i (63 - j) (omega arith)) ∙ same (64 * i + (63 - j)) ∙ bit_in_place b i (63 - j) (omega arith))))

pub zero_words_of : (words : List ℕ) (places : ℕ) (v : List Bool) → Holds words places v → v ≡ replicate (length v) false → (i : ℕ) → i < length words → get_or words i 0 ≡ 0
zero_words_of words places v h zero_is i lt =
    same_word words (replicate (length words) 0) i (h.are.numbers i) (rw (get_or-replicate_same {A = ℕ} (length words) i 0) (omega arith)) (λ k. sym (h.bits k) ∙ ap (λ (bits : List Bool). get_or bits k false) zero_is ∙ get_or-replicate_same (length v) k false ∙ sym (bit_of-zeros (length words) k)) ∙ get_or-replicate_same {A = ℕ} (length words) i 0

pub some_one : (words : List ℕ) (places : ℕ) (v : List Bool) → Holds words places v → (((i : ℕ) → i < length words → get_or words i 0 ≡ 0) → ⊥) → Contains v true
some_one words places v h some =
    elim (zero_or_one v) [
      | inl none ↦ absurd (some (zero_words_of words places v h none))
      | inr one ↦ one
    ]

-- ---- the ones of a vector that another doesn't have

abbrev dropped : List ℕ → List ℕ → List ℕ
dropped words others = zip2 (λ a b. bit_and a (bit_not w64 b)) words others

module _ (words others : List ℕ) (places count : ℕ) (v w : List Bool) (h : Holds words places v) (g : Holds others count w) (len : length v ≡ length w) where
  dropped_at : (i : ℕ) → i < length words → get_or (dropped words others) i 0 ≡ bit_and (get_or words i 0) (bit_not w64 (get_or others i 0))
  dropped_at i lt = get_or-zip2 (λ a b. bit_and a (bit_not w64 b)) words others i 0 0 0 lt (omega (arith, lt, same_count words others places count v w h g len))

  dropped_len : length (dropped words others) ≡ length words
  dropped_len = length-zip2 (λ a b. bit_and a (bit_not w64 b)) words others (same_count words others places count v w h g len)

  dropped_zips : Zips (λ a b. bit_and a (bit_not w64 b)) words others (dropped words others)
  dropped_zips = record {
    len = same_count words others places count v w h g len;
    same_len = dropped_len;
    old_numbers = h.are.numbers;
    other_numbers = g.are.numbers;
    words = dropped_at;
  }

  dropped_becomes : Becomes words (dropped words others) places (without_bits v w)
  dropped_becomes =
      Becomes-zip (λ a b. a && not b) refl words (dropped words others) others places count v w h g len dropped_len
      (zipped_bits (λ a b. bit_and a (bit_not w64 b)) (λ a b. a && not b) words others (dropped words others) Bitwise-drop dropped_zips)
      (zipped_numbers (λ a b. bit_and a (bit_not w64 b)) (λ a b. a && not b) words others (dropped words others) Bitwise-drop dropped_zips)

  dropped_holds : Holds (dropped words others) places (without_bits v w)
  dropped_holds = record {
    are = AreWords-becomes words (dropped words others) places (without_bits v w) h.are dropped_becomes;
    len = dropped_becomes.len;
    bits = λ k. sym (dropped_becomes.bits k);
  }

  without_len : length (without_bits v w) ≡ length v
  without_len = length-zip2 (λ a b. a && not b) v w len

  pub none_dropped : ((i : ℕ) → i < length words → bit_and (get_or words i 0) (bit_not w64 (get_or others i 0)) ≡ 0) → without_bits v w ≡ replicate (length v) false
  none_dropped none =
      zero_vector (dropped words others) places (without_bits v w) dropped_holds (λ i lt. dropped_at i (omega (arith, lt, dropped_len)) ∙ none i (omega (arith, lt, dropped_len)))
      ∙ ap (λ (n : ℕ). replicate n false) without_len

  pub dropped_none : without_bits v w ≡ replicate (length v) false → (i : ℕ) → i < length words → bit_and (get_or words i 0) (bit_not w64 (get_or others i 0)) ≡ 0
  dropped_none zeros i lt =
      sym (dropped_at i lt)
      ∙ zero_words_of (dropped words others) places (without_bits v w) dropped_holds (zeros ∙ ap (λ (n : ℕ). replicate n false) (sym without_len)) i (omega (arith, lt, dropped_len))

  pub some_dropped : (((i : ℕ) → i < length words → bit_and (get_or words i 0) (bit_not w64 (get_or others i 0)) ≡ 0) → ⊥) → Contains (without_bits v w) true
  some_dropped some =
      some_one (dropped words others) places (without_bits v w) dropped_holds (λ zeros. some (λ i lt. sym (dropped_at i lt) ∙ zeros i (omega (arith, lt, dropped_len))))

pub same_words : (a b : List ℕ) (places count : ℕ) (v w : List Bool) → Holds a places v → Holds b count w → v ≡ w → a ≡ b
same_words a b places count v w h g same =
    let counts : places ≡ count = omega (arith, h.len, g.len, ap (λ (bits : List Bool). length bits) same) in
    ext_get_or 0 a b (h.are.count ∙ ap (λ (n : ℕ). word_count n) counts ∙ sym g.are.count) (λ i lt.
    same_word a b i (h.are.numbers i) (g.are.numbers i) (λ k. sym (h.bits k) ∙ ap (λ (bits : List Bool). get_or bits k false) same ∙ g.bits k))

pub same_vectors : (a b : List ℕ) (places count : ℕ) (v w : List Bool) → Holds a places v → Holds b count w → length v ≡ length w → a ≡ b → v ≡ w
same_vectors a b places count v w h g len same =
    ext_get_or false v w len (λ k lt. h.bits k ∙ ap (λ (words : List ℕ). bit_of words k) same ∙ sym (g.bits k))

-- ---- the nearest 1

pub record IsNextDown (v : List Bool) (below : ℕ) (r : Option ℕ) : Type 0 where
  pub one : IfSome r (λ place. IsOne v place)
  pub greatest : IfSome r (λ place. NoneIsOne v (place + 1) below)
  pub none : IsNone r ↔ NoneIsOne v 0 below

pub next_down : (words : List ℕ) (places : ℕ) (v : List Bool) (below : ℕ) (r : Option ℕ) → Holds words places v → IfSome r (λ place. bit_of words place ≡ true) → IfSome r (λ place. place < below) → IfSome r (λ place. NoBitIsOne words (place + 1) below) → IfNone r (NoBitIsOne words 0 below) → IsNextDown v below r
next_down words places v below (Some place) h one lt greatest none = record {
  one = h.bits place ∙ one;
  greatest = λ k from to. h.bits k ∙ greatest k from to;
  none = (λ e. absurd cc, λ zero_is. absurd (true≢false (sym one ∙ sym (h.bits place) ∙ zero_is place (omega arith) lt)));
}
next_down words places v below None h one lt greatest none = record {
  one = tt;
  greatest = tt;
  none = (λ e k from to. h.bits k ∙ none k from to, λ zero_is. refl);
}

pub record IsNextUp (v : List Bool) (from : ℕ) (r : Option ℕ) : Type 0 where
  pub one : IfSome r (λ place. IsOne v place)
  pub least : IfSome r (λ place. NoneIsOne v from place)
  pub none : IsNone r ↔ NoneIsOne v from (length v)

pub next_up : (words : List ℕ) (places : ℕ) (v : List Bool) (from : ℕ) (r : Option ℕ) → Holds words places v → IfSome r (λ place. bit_of words place ≡ true) → IfSome r (λ place. from ≤ place) → IfSome r (λ place. NoBitIsOne words from place) → IfNone r (NoBitIsOne words from (64 * length words)) → IsNextUp v from r
next_up words places v from (Some place) h one le least none = record {
  one = h.bits place ∙ one;
  least = λ k low to. h.bits k ∙ least k low to;
  none = (
    λ e. absurd cc,
    λ zero_is. absurd (true≢false (sym one ∙ elim (cases_lt place (length v)) [
      | inl lt ↦ sym (h.bits place) ∙ zero_is place le lt
      | inr past ↦ h.are.spare place (omega (arith, h.len))
    ])),
  );
}
next_up words places v from None h one le least none = record {
  one = tt;
  least = tt;
  none = (λ e k low to. h.bits k ∙ none k low (omega (arith, h.len, h.are.count)), λ zero_is. refl);
}

-- ---- the bytes

pub stored_vector : (words bytes : List ℕ) (places : ℕ) (v : List Bool) → Holds words places v → length bytes ≡ byte_count (length v) → ((i : ℕ) → get_or bytes i 0 < 256) → ((k : ℕ) → k < 8 * length bytes → get_or (bits_of bytes) k false ≡ bit_of words k) → bytes ≡ vector_bytes v
stored_vector words bytes places v h count below bits =
    vector_bytes_is bytes v below (ext_get_or false (bits_of bytes) (padded v) (omega (arith, length-bits_of bytes, length-padded v)) (λ k lt.
    let within : k < 8 * length bytes = omega (arith, length-bits_of bytes) in
    bits k within ∙ sym (get_or-padded v k ∙ h.bits k)))
