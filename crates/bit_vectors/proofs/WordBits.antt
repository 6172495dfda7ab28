-- How the bits of a vector lie in words.
use Rattle.std.proofs.Common.{◌≡◌, ◌≢◌, ℕ, zero, suc, ◌+◌, ◌-◌, ◌*◌, ◌/◌, ◌%◌, ◌^◌, ◌<◌, ◌≤◌, min, max, Bool, true, false, cond, not, ◌&&◌, ◌||◌, eqb, List, [], ◌∷◌, ◌++◌, length, get_or, set, take, bit_and, bit_or, bit_xor, count_ones, count_by, w64, refl, sym, ap, subst, ◌∙◌, arith, inl, inr}
use Rattle.std.specs.Int.{bit_at, bit_not, trailing_zeros, leading_zeros}
use Rattle.std.proofs.lemmas.Bool.{cases_lt, cases_eq}
use Rattle.std.proofs.lemmas.List.{append-nil, length-append, length-take, length-take-le, get_or_append_left, get_or-append-add, get_or-take, get_or_past, get_or-set_same, get_or-set_other, set_past, take_more, ext_get_or}
use Rattle.std.proofs.lemmas.List.Sums.{count_by-le-length, sum_by-cons, sum_by-append}
use Rattle.std.proofs.lemmas.Grind.{flat_map-append}
use Rattle.std.proofs.lemmas.Nat.{xor_lt, or_lt, and_le_l, shr_le, shr_below, ones_cat, mod-pow-add, mod_below, pow_pos}
use Rattle.std.proofs.lemmas.Nat.Bits.{bit_at-zero, bit_at-lt, bit_at_above, bit_at_xor, bit_at_or, bit_at_and, bit_at_not, bit_at-trailing_zeros}
use Rattle.bit_vectors.specs.Vectors.{number_bits}
use Rattle.bit_vectors.specs.Words.{word_bits, bit_of, vector_of, AreWords, NoBitIsOne}
use Rattle.bit_vectors.proofs.NumberBits.{length-number_bits, get_or-number_bits, by_digits, bit_at_mod, bit_at_shr, bit_at_shl, bit_at_shl_low, leading_is_one}

pub length-word_bits : (words : List ℕ) → length (word_bits words) ≡ 64 * length words
length-word_bits [] = refl
length-word_bits (w ∷ words) =
    omega (arith, length-append (number_bits 64 w) (word_bits words), length-number_bits 64 w, length-word_bits words)

-- the bit with a number is a bit of the word that contains it
pub get_or-word_bits : (words : List ℕ) (k : ℕ) → get_or (word_bits words) k false ≡ bit_of words k
unfolding bit_of
get_or-word_bits [] k = rw (bit_at-zero (63 - k % 64)) refl
get_or-word_bits (w ∷ words) k =
    elim (cases_lt k 64) [
      | inl below ↦
          let here : k < length (number_bits 64 w) = omega (arith, length-number_bits 64 w) in
          let first : k / 64 ≡ 0 = omega arith in
          let same : 64 - 1 - k ≡ 63 - k % 64 = omega arith in
          rw (get_or_append_left (number_bits 64 w) (word_bits words) false k here, get_or-number_bits 64 w k below, first, same) refl
      | inr above ↦
          let next : k ≡ length (number_bits 64 w) + (k - 64) = omega (arith, length-number_bits 64 w) in
          let word : k / 64 ≡ suc ((k - 64) / 64) = omega arith in
          let same : k % 64 ≡ (k - 64) % 64 = omega arith in
          ap (λ (n : ℕ). get_or (number_bits 64 w ++ word_bits words) n false) next ∙ get_or-append-add (number_bits 64 w) (word_bits words) (k - 64) false ∙ get_or-word_bits words (k - 64) ∙ rw (word, same) refl
    ]

-- ---- the vector

pub length-vector_of : (words : List ℕ) (places : ℕ) → AreWords words places → length (vector_of words places) ≡ places
unfolding vector_of
length-vector_of words places h = length-take-le places (word_bits words) (omega (arith, length-word_bits words, h.count))

-- at every number, also after the end
pub get_or-vector_of : (words : List ℕ) (places : ℕ) → AreWords words places → (k : ℕ) → get_or (vector_of words places) k false ≡ bit_of words k
unfolding vector_of
get_or-vector_of words places h k =
    elim (cases_lt k places) [
      | inl below ↦ get_or-take places (word_bits words) k false below ∙ get_or-word_bits words k
      | inr above ↦ get_or_past (take places (word_bits words)) k false (omega (arith, length-take-le places (word_bits words) (omega (arith, length-word_bits words, h.count)))) ∙ sym (h.spare k above)
    ]

-- the vector is the list that has the same bits
pub vector_of_is : (words : List ℕ) (places : ℕ) (v : List Bool) → AreWords words places → length v ≡ places → ((k : ℕ) → bit_of words k ≡ get_or v k false) → vector_of words places ≡ v
vector_of_is words places v h len same =
    ext_get_or false (vector_of words places) v (length-vector_of words places h ∙ sym len) (λ k lt. get_or-vector_of words places h k ∙ same k)

-- ---- one word or one bit changed

pub bit_of-set_in : (words : List ℕ) (i w k : ℕ) → i < length words → k / 64 ≡ i → bit_of (set words i w) k ≡ eqb (bit_at w (63 - k % 64)) 1
unfolding bit_of
bit_of-set_in words i w k lt here = rw (here, get_or-set_same words i w 0 lt) refl

pub bit_of-set_out : (words : List ℕ) (i w k : ℕ) → k / 64 ≢ i → bit_of (set words i w) k ≡ bit_of words k
unfolding bit_of
bit_of-set_out words i w k other = rw (get_or-set_other words i (k / 64) w 0 other) refl

pub numbers-set : (words : List ℕ) (j w : ℕ) → ((i : ℕ) → get_or words i 0 < 2 ^ 64) → w < 2 ^ 64 → (i : ℕ) → get_or (set words j w) i 0 < 2 ^ 64
numbers-set words j w numbers below i =
    elim (cases_eq i j) [
      | inl same ↦ elim (cases_lt j (length words)) [
        | inl within ↦ rw (same, get_or-set_same words j w 0 within) below
        | inr past ↦ rw (set_past words j w past) (numbers i)
      ]
      | inr other ↦ rw (get_or-set_other words j i w 0 other) (numbers i)
    ]

-- a word in which one bit was written
pub record WritesBit (old new at : ℕ) (value : Bool) : Type 0 where
  pub bit : eqb (bit_at new at) 1 ≡ value
  pub others : (i : ℕ) → i < 64 → i ≢ at → bit_at new i ≡ bit_at old i

pub bit_of-written : (words : List ℕ) (p w : ℕ) (value : Bool) → p / 64 < length words → WritesBit (get_or words (p / 64) 0) w (63 - p % 64) value → bit_of (set words (p / 64) w) p ≡ value
bit_of-written words p w value lt h = bit_of-set_in words (p / 64) w p lt refl ∙ h.bit

pub bit_of-unwritten : (words : List ℕ) (p w : ℕ) (value : Bool) → p / 64 < length words → WritesBit (get_or words (p / 64) 0) w (63 - p % 64) value → (k : ℕ) → k ≢ p → bit_of (set words (p / 64) w) k ≡ bit_of words k
unfolding bit_of
bit_of-unwritten words p w value lt h k other =
    elim (cases_eq (k / 64) (p / 64)) [
      | inl same ↦ rw (same, get_or-set_same words (p / 64) w 0 lt, h.others (63 - k % 64) (omega arith) (omega arith)) refl
      | inr apart ↦ rw (get_or-set_other words (p / 64) (k / 64) w 0 apart) refl
    ]

-- ---- two lists of words combined word by word

-- an operation on words that is an operation on each pair of bits
pub record Bitwise (op : ℕ → ℕ → ℕ) (f : Bool → Bool → Bool) : Type 0 where
  pub none : f false false ≡ false
  pub fits : (a b : ℕ) → a < 2 ^ 64 → b < 2 ^ 64 → op a b < 2 ^ 64
  pub bits : (a b i : ℕ) → b < 2 ^ 64 → i < 64 → eqb (bit_at (op a b) i) 1 ≡ f (eqb (bit_at a i) 1) (eqb (bit_at b i) 1)

pub record Zips (op : ℕ → ℕ → ℕ) (old others new : List ℕ) : Type 0 where
  pub len : length old ≡ length others
  pub same_len : length new ≡ length old
  pub old_numbers : (i : ℕ) → get_or old i 0 < 2 ^ 64
  pub other_numbers : (i : ℕ) → get_or others i 0 < 2 ^ 64
  pub words : (i : ℕ) → i < length old → get_or new i 0 ≡ op (get_or old i 0) (get_or others i 0)

pub bit_of-past : (words : List ℕ) (k : ℕ) → length words ≤ k / 64 → bit_of words k ≡ false
unfolding bit_of
bit_of-past words k le = rw (get_or_past words (k / 64) 0 le, bit_at-zero (63 - k % 64)) refl

bit_within : (op : ℕ → ℕ → ℕ) (f : Bool → Bool → Bool) (old others new : List ℕ) → Bitwise op f → Zips op old others new → (k : ℕ) → k / 64 < length old → bit_of new k ≡ f (bit_of old k) (bit_of others k)
unfolding bit_of
bit_within op f old others new b z k lt =
    rw (z.words (k / 64) lt) (b.bits (get_or old (k / 64) 0) (get_or others (k / 64) 0) (63 - k % 64) (z.other_numbers (k / 64)) (omega arith))

pub zipped_bits : (op : ℕ → ℕ → ℕ) (f : Bool → Bool → Bool) (old others new : List ℕ) → Bitwise op f → Zips op old others new → (k : ℕ) → bit_of new k ≡ f (bit_of old k) (bit_of others k)
zipped_bits op f old others new b z k =
    elim (cases_lt (k / 64) (length old)) [
      | inl lt ↦ bit_within op f old others new b z k lt
      | inr le ↦ rw (bit_of-past new k (omega (arith, z.same_len)), bit_of-past old k le, bit_of-past others k (omega (arith, z.len))) (sym b.none)
    ]

pub zipped_numbers : (op : ℕ → ℕ → ℕ) (f : Bool → Bool → Bool) (old others new : List ℕ) → Bitwise op f → Zips op old others new → (i : ℕ) → get_or new i 0 < 2 ^ 64
zipped_numbers op f old others new b z i =
    elim (cases_lt i (length old)) [
      | inl lt ↦ rw (z.words i lt) (b.fits (get_or old i 0) (get_or others i 0) (z.old_numbers i) (z.other_numbers i))
      | inr le ↦ rw (get_or_past new i 0 (omega (arith, z.same_len))) (omega arith)
    ]

-- the operations on two bits
pub xor_digits : (x y : ℕ) → x < 2 → y < 2 → eqb ((x + y) % 2) 1 ≡ cond (eqb x 1) (not (eqb y 1)) (eqb y 1)
xor_digits = by_digits (λ x y. eqb ((x + y) % 2) 1 ≡ cond (eqb x 1) (not (eqb y 1)) (eqb y 1)) refl refl refl refl

or_digits : (x y : ℕ) → x < 2 → y < 2 → eqb (max x y) 1 ≡ (eqb x 1 || eqb y 1)
or_digits = by_digits (λ x y. eqb (max x y) 1 ≡ (eqb x 1 || eqb y 1)) refl refl refl refl

drop_digits : (x y : ℕ) → x < 2 → y < 2 → eqb (min x (1 - y)) 1 ≡ (eqb x 1 && not (eqb y 1))
drop_digits = by_digits (λ x y. eqb (min x (1 - y)) 1 ≡ (eqb x 1 && not (eqb y 1))) refl refl refl refl

pub Bitwise-xor : Bitwise bit_xor (λ a b. cond a (not b) b)
Bitwise-xor = record {
  none = refl;
  fits = λ a b a_lt b_lt. xor_lt 64 a b a_lt b_lt;
  bits = λ a b i b_lt i_lt. rw (bit_at_xor a b i) (xor_digits (bit_at a i) (bit_at b i) (bit_at-lt a i) (bit_at-lt b i));
}

pub Bitwise-or : Bitwise bit_or (λ a b. a || b)
Bitwise-or = record {
  none = refl;
  fits = λ a b a_lt b_lt. or_lt 64 a b a_lt b_lt;
  bits = λ a b i b_lt i_lt. rw (bit_at_or a b i) (or_digits (bit_at a i) (bit_at b i) (bit_at-lt a i) (bit_at-lt b i));
}

pub Bitwise-drop : Bitwise (λ a b. bit_and a (bit_not w64 b)) (λ a b. a && not b)
Bitwise-drop = record {
  none = refl;
  fits = λ a b a_lt b_lt. omega (arith, and_le_l a (bit_not w64 b));
  bits = λ a b i b_lt i_lt. rw (bit_at_and a (bit_not w64 b) i, bit_at_not w64 b i b_lt i_lt) (drop_digits (bit_at a i) (bit_at b i) (bit_at-lt a i) (bit_at-lt b i));
}

-- ---- the ones in words

-- a bit counts as its value
ones_of_digit : (bit : ℕ) → bit < 2 → (cond (eqb bit 1) 1 0 ≡ bit) × (count_ones bit ≡ bit)
unfolding lib.Count.ones
ones_of_digit zero lt = (refl, refl)
ones_of_digit (suc zero) lt = (refl, refl)
ones_of_digit (suc (suc bit)) lt = absurd (omega arith)

ones_none : count_ones 0 ≡ 0
unfolding lib.Count.ones
ones_none = refl

pub count_by-number_bits : (width n : ℕ) → count_by (λ bit. bit) (number_bits width n) ≡ count_ones (n % 2 ^ width)
unfolding number_bits
count_by-number_bits zero n = let none : n % 2 ^ 0 ≡ 0 = omega arith in rw (none, ones_none) refl
count_by-number_bits (suc w) n =
    let one : 1 + w ≡ suc w = omega arith in
    let split : n % 2 ^ (1 + w) ≡ bit_at n w * 2 ^ w + n % 2 ^ w = mod-pow-add n 1 w in
    let parts : n % 2 ^ suc w ≡ bit_at n w * 2 ^ w + n % 2 ^ w = ap (λ (k : ℕ). n % 2 ^ k) (sym one) ∙ split in
    let digit = ones_of_digit (bit_at n w) (bit_at-lt n w) in
    sum_by-cons (λ (bit : Bool). cond bit 1 0) (eqb (bit_at n w) 1) (number_bits w n)
    ∙ rw (parts, ones_cat w (bit_at n w) (n % 2 ^ w) (mod_below n (2 ^ w) (pow_pos w)), digit.0, digit.1, count_by-number_bits w n) refl

pub ones_more : (words : List ℕ) (i : ℕ) → i < length words → get_or words i 0 < 2 ^ 64 → count_by (λ bit. bit) (word_bits (take (i + 1) words)) ≡ count_by (λ bit. bit) (word_bits (take i words)) + count_ones (get_or words i 0)
ones_more words i lt below =
    let whole : get_or words i 0 % 2 ^ 64 ≡ get_or words i 0 = omega arith in
    let next : word_bits (take (i + 1) words) ≡ word_bits (take i words) ++ number_bits 64 (get_or words i 0) =
    ap (λ (ws : List ℕ). word_bits ws) (take_more words i 0 lt) ∙ flat_map-append (number_bits 64) (take i words) (get_or words i 0 ∷ []) ∙ ap (λ (bits : List Bool). word_bits (take i words) ++ bits) (append-nil (number_bits 64 (get_or words i 0))) in
    ap (λ (bits : List Bool). count_by (λ (bit : Bool). bit) bits) next
    ∙ sum_by-append (λ (bit : Bool). cond bit 1 0) (word_bits (take i words)) (number_bits 64 (get_or words i 0))
    ∙ ap (λ (n : ℕ). count_by (λ (bit : Bool). bit) (word_bits (take i words)) + n) (count_by-number_bits 64 (get_or words i 0) ∙ ap (λ (n : ℕ). count_ones n) whole)

pub ones_most : (words : List ℕ) (i : ℕ) → count_by (λ bit. bit) (word_bits (take i words)) ≤ 64 * i
ones_most words i =
    omega (arith, count_by-le-length (λ (bit : Bool). bit) (word_bits (take i words)), length-word_bits (take i words), length-take i words)

-- ---- the nearest 1, in a word that was shifted

-- the bits of a word up to the one with this number, and from it on
abbrev pub up_to : List ℕ → ℕ → ℕ
up_to words last = get_or words (last / 64) 0 / 2 ^ (63 - last % 64)

abbrev pub on_from : List ℕ → ℕ → ℕ
on_from words first = get_or words (first / 64) 0 * 2 ^ (first % 64) % 2 ^ 64

bit_of-up_to : (words : List ℕ) (last k : ℕ) → last / 64 * 64 ≤ k → k < last + 1 → bit_of words k ≡ eqb (bit_at (up_to words last) (last - k)) 1
unfolding bit_of
bit_of-up_to words last k from to =
    let word : k / 64 ≡ last / 64 = omega arith in
    let place : 63 - last % 64 + (last - k) ≡ 63 - k % 64 = omega arith in
    rw (bit_at_shr (get_or words (last / 64) 0) (63 - last % 64) (last - k), word, place) refl

bit_of-on_from : (words : List ℕ) (first k : ℕ) → first ≤ k → k < first / 64 * 64 + 64 → bit_of words k ≡ eqb (bit_at (on_from words first) (63 - (k - first))) 1
unfolding bit_of
bit_of-on_from words first k from to =
    let word : k / 64 ≡ first / 64 = omega arith in
    let place : 63 - (k - first) - first % 64 ≡ 63 - k % 64 = omega arith in
    rw (bit_at_mod (get_or words (first / 64) 0 * 2 ^ (first % 64)) 64 (63 - (k - first)) (omega arith), bit_at_shl (get_or words (first / 64) 0) (first % 64) (63 - (k - first)) (omega arith), word, place) refl

-- the last 1 is before the low zeros
pub record IsLast (words : List ℕ) (last zeros : ℕ) : Type 0 where
  pub within : zeros ≤ last % 64
  pub one : bit_of words (last - zeros) ≡ true
  pub none : NoBitIsOne words (last - zeros + 1) (last + 1)

up_to_small : (words : List ℕ) (last : ℕ) → get_or words (last / 64) 0 < 2 ^ 64 → up_to words last < 2 ^ (last % 64 + 1)
up_to_small words last below =
    let parts : 64 ≡ last % 64 + 1 + (63 - last % 64) = omega arith in
    shr_below (get_or words (last / 64) 0) (last % 64 + 1) (63 - last % 64) (subst (λ (k : ℕ). get_or words (last / 64) 0 < 2 ^ k) parts below)

within_word : (n low t : ℕ) → n < 2 ^ (low + 1) → bit_at n t ≡ 1 → t ≤ low
within_word n low t small one =
    elim (cases_lt low t) [
      | inl past ↦ let none = bit_at_above n (low + 1) t small (omega arith) in absurd (omega arith)
      | inr le ↦ le
    ]

pub last_is : (words : List ℕ) (last : ℕ) → get_or words (last / 64) 0 < 2 ^ 64 → 0 < up_to words last → IsLast words last (trailing_zeros w64 (up_to words last))
last_is words last below some =
    let lowest = bit_at-trailing_zeros w64 (up_to words last) some (omega (arith, shr_le (get_or words (last / 64) 0) (63 - last % 64))) in
    let t : ℕ = trailing_zeros w64 (up_to words last) in
    let within : trailing_zeros w64 (up_to words last) ≤ last % 64 = within_word (up_to words last) (last % 64) (trailing_zeros w64 (up_to words last)) (up_to_small words last below) lowest.1 in
    let back : last - (last - trailing_zeros w64 (up_to words last)) ≡ trailing_zeros w64 (up_to words last) = omega arith in
    record {
      within = within;
      one = bit_of-up_to words last (last - trailing_zeros w64 (up_to words last)) (omega arith) (omega arith) ∙ rw (back, lowest.1) refl;
      none = λ k from to. bit_of-up_to words last k (omega arith) to ∙ rw (lowest.2 (last - k) (omega arith)) refl;
    }

pub none_up_to : (words : List ℕ) (last : ℕ) → up_to words last ≡ 0 → NoBitIsOne words (last / 64 * 64) (last + 1)
none_up_to words last zero_is k from to = bit_of-up_to words last k from to ∙ rw (zero_is, bit_at-zero (last - k)) refl

-- the first 1 is after the high zeros
pub record IsFirst (words : List ℕ) (first zeros : ℕ) : Type 0 where
  pub within : first % 64 + zeros < 64
  pub one : bit_of words (first + zeros) ≡ true
  pub none : NoBitIsOne words first (first + zeros)

on_from_low : (words : List ℕ) (first i : ℕ) → i < first % 64 → bit_at (on_from words first) i ≡ 0
on_from_low words first i lt =
    bit_at_mod (get_or words (first / 64) 0 * 2 ^ (first % 64)) 64 i (omega arith) ∙ bit_at_shl_low (get_or words (first / 64) 0) (first % 64) i lt

pub first_is : (words : List ℕ) (first : ℕ) → 0 < on_from words first → IsFirst words first (leading_zeros w64 (on_from words first))
first_is words first some =
    let highest = leading_is_one 64 (on_from words first) some (mod_below (get_or words (first / 64) 0 * 2 ^ (first % 64)) (2 ^ 64) (pow_pos 64)) in
    let within : first % 64 + leading_zeros w64 (on_from words first) < 64 =
    elim (cases_lt (63 - leading_zeros w64 (on_from words first)) (first % 64)) [
      | inl low ↦ let none = on_from_low words first (63 - leading_zeros w64 (on_from words first)) low in absurd (omega (arith, highest.1))
      | inr le ↦ omega (arith, highest.0)
    ] in
    let back : first + leading_zeros w64 (on_from words first) - first ≡ leading_zeros w64 (on_from words first) = omega arith in
    record {
      within = within;
      one = bit_of-on_from words first (first + leading_zeros w64 (on_from words first)) (omega arith) (omega arith) ∙ rw (back, highest.1) refl;
      none = λ k from to. bit_of-on_from words first k from (omega arith) ∙ rw (highest.2 (63 - (k - first)) (omega arith)) refl;
    }

pub none_on_from : (words : List ℕ) (first : ℕ) → on_from words first ≡ 0 → NoBitIsOne words first (first / 64 * 64 + 64)
none_on_from words first zero_is k from to = bit_of-on_from words first k from to ∙ rw (zero_is, bit_at-zero (63 - (k - first))) refl
