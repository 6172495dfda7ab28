-- The bits of a word at the ones of another, one after another, and the ones that are left.
use Rattle.std.specs.Int.{bit_at, trailing_zeros}
use Rattle.std.specs.Int.RustNames.{count_ones}
use Rattle.std.proofs.Common.{◌≡◌, ℕ, zero, suc, ◌+◌, ◌-◌, ◌*◌, ◌/◌, ◌%◌, ◌^◌, ◌<◌, ◌≤◌, Bool, true, false, cond, eqb, List, [], ◌∷◌, ◌++◌, length, get_or, bit_and, w64, refl, sym, ap, ◌∙◌, arith, inl, inr, map}
use Rattle.std.proofs.Math.Nat.{pow-succ', le-mul_of_pos_right, mul-le-mul_right, mod-eq_of_lt}
use Rattle.std.proofs.lemmas.Bool.{cases_eq, cases_lt}
use Rattle.std.proofs.lemmas.List.{get_or_past, length-append, take_all}
use Rattle.std.proofs.lemmas.Nat.{pow_pos, mod_below, shr_split, pow-add, and_le_l}
use Rattle.std.proofs.lemmas.Nat.Bits.{shr_and_one, bit_at_and, bit_at_cat_high, bit_at_cat_low, bit_at_ones_above, bit_at-trailing_zeros, same_from_bits, same_from_bits_below, bit_at-zero, bit_at-lt}
use Rattle.bit_vectors.specs.Vectors.{number_bits, bits_number, NoneIsOne}
use Rattle.bit_vectors.specs.Words.{IsWord}
use Rattle.bit_vectors.proofs.NumberBits.{length-number_bits, get_or-number_bits, bits_number_below, number_bits-bits_number, number_bits-cat, bit_at_mod}
use Rattle.bit_vectors.proofs.WordBits.{count_by-number_bits}
use Rattle.run_code.specs.Extraction.{places_before, places_down, bits_at, extract, ones_left}
use Rattle.run_code.proofs.InverseBits.{length-bits_at}
use Rattle.run_code.proofs.Ones.{ones_below, below_is, ones_below-one, ones_below-none, places_down_is, length-places_down}

-- ---- a number without its lowest 1

no_low_bits : (n t : ℕ) → ((i : ℕ) → i < t → bit_at n i ≡ 0) → n % 2 ^ t ≡ 0
no_low_bits n t none =
    same_from_bits_below t (n % 2 ^ t) 0 (mod_below n (2 ^ t) (pow_pos t)) (pow_pos t) (λ i lt. bit_at_mod n t i lt ∙ none i lt ∙ sym (bit_at-zero i))

module _ (n t : ℕ) (one : bit_at n t ≡ 1) (none : (i : ℕ) → i < t → bit_at n i ≡ 0) where
  -- the bits above the lowest 1
  abbrev above : ℕ
  above = n / 2 ^ t / 2

  twice : 2 ^ (t + 1) ≡ 2 ^ t * 2
  twice = pow-add 2 t 1

  number_is : n ≡ above * 2 ^ (t + 1) + 2 ^ t
  number_is =
      let odd : n / 2 ^ t ≡ 2 * (n / 2 ^ t / 2) + 1 = omega (arith, one) in
      let whole : n / 2 ^ t * 2 ^ t ≡ n = omega (arith, shr_split n (2 ^ t), shr_split n t, no_low_bits n t none) in
      rw twice (sym whole ∙ ap (λ (q : ℕ). q * 2 ^ t) odd ∙ omega arith)

  less_is : n - 1 ≡ above * 2 ^ (t + 1) + (2 ^ t - 1)
  less_is = omega (arith, number_is, pow_pos t)

  small : 2 ^ t < 2 ^ (t + 1)
  small = rw twice (omega (arith, pow_pos t))

  pub without_above : (i : ℕ) → t < i → bit_at (bit_and n (n - 1)) i ≡ bit_at n i
  without_above i lt =
      let high : bit_at n i ≡ bit_at above (i - (t + 1)) = ap (λ (m : ℕ). bit_at m i) number_is ∙ bit_at_cat_high above (t + 1) (2 ^ t) i small (omega arith) in
      let less : bit_at (n - 1) i ≡ bit_at above (i - (t + 1)) = ap (λ (m : ℕ). bit_at m i) less_is ∙ bit_at_cat_high above (t + 1) (2 ^ t - 1) i (omega (arith, small)) (omega arith) in
      bit_at_and n (n - 1) i ∙ omega (arith, high, less)

  pub without_below : (i : ℕ) → i ≤ t → bit_at (bit_and n (n - 1)) i ≡ 0
  without_below i le =
      elim (cases_eq i t) [
        | inl here ↦
            let less : bit_at (n - 1) t ≡ 0 = ap (λ (m : ℕ). bit_at m t) less_is ∙ bit_at_cat_low above (t + 1) (2 ^ t - 1) t (omega arith) ∙ bit_at_ones_above t t (omega arith) in
            rw here (bit_at_and n (n - 1) t ∙ omega (arith, less))
        | inr other ↦ bit_at_and n (n - 1) i ∙ omega (arith, none i (omega arith))
      ]

  without_is : bit_and n (n - 1) ≡ above * 2 ^ (t + 1)
  without_is = same_from_bits (bit_and n (n - 1)) (above * 2 ^ (t + 1)) (λ i. elim (cases_lt t i) [
    | inl lt ↦
        let end : above * 2 ^ (t + 1) + 0 ≡ above * 2 ^ (t + 1) = omega arith in
        without_above i lt ∙ ap (λ (m : ℕ). bit_at m i) number_is ∙ bit_at_cat_high above (t + 1) (2 ^ t) i small (omega arith)
        ∙ sym (bit_at_cat_high above (t + 1) 0 i (pow_pos (t + 1)) (omega arith)) ∙ ap (λ (m : ℕ). bit_at m i) end
    | inr le ↦
        let end : above * 2 ^ (t + 1) + 0 ≡ above * 2 ^ (t + 1) = omega arith in
        without_below i le ∙ sym (bit_at-zero i) ∙ sym (bit_at_cat_low above (t + 1) 0 i (omega arith)) ∙ ap (λ (m : ℕ). bit_at m i) end
  ])

  -- its weight is what is subtracted
  pub lowest_weight : n - bit_and n (n - 1) ≡ 2 ^ t
  lowest_weight = omega (arith, without_is, number_is)

-- ---- ones below a place

pub ones_below-skip : (v : List Bool) (p n : ℕ) → p ≤ n → NoneIsOne v p n → ones_below n v ≡ ones_below p v
unfolding ones_below
ones_below-skip v p zero le none = let same : p ≡ 0 = omega arith in rw same refl
ones_below-skip v p (suc n) le none =
    elim (cases_eq p (suc n)) [
      | inl here ↦ rw here refl
      | inr other ↦ rw (none n (omega arith) (omega arith)) (ones_below-skip v p n (omega arith) (λ k from to. none k from (omega arith)))
    ]

ones_below-same : (v w : List Bool) (n : ℕ) → ((k : ℕ) → k < n → get_or v k false ≡ get_or w k false) → ones_below n v ≡ ones_below n w
unfolding ones_below
ones_below-same v w zero same = refl
ones_below-same v w (suc n) same = rw (same n (omega arith), ones_below-same v w n (λ k lt. same k (omega arith))) refl

pub places_of_word : (n : ℕ) → places_down (number_bits 64 n) ≡ ones_below 64 (number_bits 64 n)
places_of_word n = places_down_is (number_bits 64 n) ∙ ap (λ (len : ℕ). ones_below len (number_bits 64 n)) (length-number_bits 64 n)

pub bit_is : (n k : ℕ) → k < 64 → get_or (number_bits 64 n) k false ≡ eqb (bit_at n (63 - k)) 1
bit_is n k lt = get_or-number_bits 64 n k lt

-- the place of the lowest 1, and those of the others
pub places-lowest : (n : ℕ) → 0 < n → n < 2 ^ 64 → places_down (number_bits 64 n) ≡ (63 - trailing_zeros w64 n) ∷ places_down (number_bits 64 (bit_and n (n - 1)))
places-lowest n some below =
    let t = trailing_zeros w64 n in
    let lowest = bit_at-trailing_zeros w64 n some below in
    let p = 63 - trailing_zeros w64 n in
    let place : 63 - (63 - trailing_zeros w64 n) ≡ trailing_zeros w64 n = omega (arith, lowest.0) in
    let one : get_or (number_bits 64 n) (63 - trailing_zeros w64 n) false ≡ true = bit_is n (63 - trailing_zeros w64 n) (omega arith) ∙ rw (place, lowest.1) refl in
    let none : NoneIsOne (number_bits 64 n) (63 - trailing_zeros w64 n + 1) 64 = λ k from to. bit_is n k to ∙ rw (lowest.2 (63 - k) (omega arith)) refl in
    let gone : NoneIsOne (number_bits 64 (bit_and n (n - 1))) (63 - trailing_zeros w64 n) 64 =
    λ k from to. bit_is (bit_and n (n - 1)) k to ∙ rw (without_below n (trailing_zeros w64 n) lowest.1 lowest.2 (63 - k) (omega arith)) refl in
    places_of_word n ∙ ones_below-one (number_bits 64 n) (63 - trailing_zeros w64 n) 64 (omega arith) one none
    ∙ ap (λ (rest : List ℕ). (63 - trailing_zeros w64 n) ∷ rest)
    (ones_below-same (number_bits 64 n) (number_bits 64 (bit_and n (n - 1))) (63 - trailing_zeros w64 n)
    (λ k lt. bit_is n k (omega arith) ∙ rw (sym (without_above n (trailing_zeros w64 n) lowest.1 lowest.2 (63 - k) (omega arith))) (sym (bit_is (bit_and n (n - 1)) k (omega arith))))
    ∙ sym (places_of_word (bit_and n (n - 1)) ∙ ones_below-skip (number_bits 64 (bit_and n (n - 1))) (63 - trailing_zeros w64 n) 64 (omega arith) gone))

-- the bits of a word at the ones of another
abbrev pub word_extract : ℕ → ℕ → List Bool
word_extract bits at = extract (number_bits 64 bits) (number_bits 64 at)

pub word_extract-lowest : (bits n : ℕ) → 0 < n → n < 2 ^ 64 → word_extract bits n ≡ eqb (bit_at bits (trailing_zeros w64 n)) 1 ∷ word_extract bits (bit_and n (n - 1))
word_extract-lowest bits n some below =
    let lowest = bit_at-trailing_zeros w64 n some below in
    let place : 63 - (63 - trailing_zeros w64 n) ≡ trailing_zeros w64 n = omega (arith, lowest.0) in
    let bit : get_or (number_bits 64 bits) (63 - trailing_zeros w64 n) false ≡ eqb (bit_at bits (trailing_zeros w64 n)) 1 = bit_is bits (63 - trailing_zeros w64 n) (omega arith) ∙ rw place refl in
    rw (places-lowest n some below, bit) refl

pub no_places : places_down (number_bits 64 0) ≡ []
no_places =
    places_of_word 0 ∙ ones_below-none (number_bits 64 0) 64 (λ k from to. bit_is 0 k to ∙ rw (bit_at-zero (63 - k)) refl)

pub word_extract-none : (bits : ℕ) → word_extract bits 0 ≡ []
word_extract-none bits = rw no_places refl

-- ---- one bit more of the number

bits_number-first : (bit : ℕ) (bits : List Bool) → bit < 2 → bits_number (eqb bit 1 ∷ bits) ≡ bit * 2 ^ length bits + bits_number bits
unfolding bits_number
bits_number-first zero bits lt = omega arith
bits_number-first (suc zero) bits lt = omega arith
bits_number-first (suc (suc bit)) bits lt = absurd (omega arith)

pub gathered_more : (bits n gathered total : ℕ) → 0 < n → n < 2 ^ 64 → gathered * 2 ^ length (word_extract bits n) + bits_number (word_extract bits n) ≡ total
    → (2 * gathered + bit_and (bits / 2 ^ trailing_zeros w64 n) 1) * 2 ^ length (word_extract bits (bit_and n (n - 1))) + bits_number (word_extract bits (bit_and n (n - 1))) ≡ total
gathered_more bits n gathered total some below so_far =
    let lowest = word_extract-lowest bits n some below in
    let bit = eqb (bit_at bits (trailing_zeros w64 n)) 1 in
    let later = word_extract bits (bit_and n (n - 1)) in
    let len : length (word_extract bits n) ≡ suc (length (word_extract bits (bit_and n (n - 1)))) = ap (λ (b : List Bool). length b) lowest in
    let number : bits_number (word_extract bits n) ≡ bit_at bits (trailing_zeros w64 n) * 2 ^ length (word_extract bits (bit_and n (n - 1))) + bits_number (word_extract bits (bit_and n (n - 1))) =
    ap bits_number lowest ∙ bits_number-first (bit_at bits (trailing_zeros w64 n)) (word_extract bits (bit_and n (n - 1))) (bit_at-lt bits (trailing_zeros w64 n)) in
    let power : 2 ^ length (word_extract bits n) ≡ 2 * 2 ^ length (word_extract bits (bit_and n (n - 1))) = ap (λ (k : ℕ). 2 ^ k) len ∙ pow-succ' 2 (length (word_extract bits (bit_and n (n - 1)))) in
    let last : bit_and (bits / 2 ^ trailing_zeros w64 n) 1 ≡ bit_at bits (trailing_zeros w64 n) = shr_and_one bits (trailing_zeros w64 n) in
    let parts : gathered * (2 * 2 ^ length (word_extract bits (bit_and n (n - 1)))) + (bit_at bits (trailing_zeros w64 n) * 2 ^ length (word_extract bits (bit_and n (n - 1))) + bits_number (word_extract bits (bit_and n (n - 1)))) ≡ total = rw (power, number) at so_far in
    rw last (omega (arith, parts))

pub length-word_extract : (bits at : ℕ) → at < 2 ^ 64 → length (word_extract bits at) ≡ count_ones at
length-word_extract bits at below =
    length-bits_at (number_bits 64 bits) (places_down (number_bits 64 at)) ∙ length-places_down (number_bits 64 at) ∙ count_by-number_bits 64 at ∙ ap (λ (n : ℕ). count_ones n) (mod-eq_of_lt below)

pub ones-lowest : (n : ℕ) → 0 < n → n < 2 ^ 64 → count_ones n ≡ suc (count_ones (bit_and n (n - 1)))
ones-lowest n some below =
    let fewer : bit_and n (n - 1) < 2 ^ 64 = omega (arith, and_le_l n (n - 1)) in
    sym (length-word_extract 0 n below) ∙ ap (λ (bits : List Bool). length bits) (word_extract-lowest 0 n some below) ∙ ap suc (length-word_extract 0 (bit_and n (n - 1)) fewer)

pub word_number_below : (bits at : ℕ) → at < 2 ^ 64 → bits_number (word_extract bits at) < 2 ^ count_ones at
word_number_below bits at below = rw (← length-word_extract bits at below) (bits_number_below (word_extract bits at))

-- the numbers so far are small
pub gathered_small : (bits n gathered total : ℕ) → 0 < n → n < 2 ^ 64 → total < 2 ^ 64 → gathered * 2 ^ length (word_extract bits n) + bits_number (word_extract bits n) ≡ total
    → 2 * gathered + bit_and (bits / 2 ^ trailing_zeros w64 n) 1 < 2 ^ 64
gathered_small bits n gathered total some below fits so_far =
    let more = gathered_more bits n gathered total some below so_far in
    let one : 1 ≤ 2 ^ length (word_extract bits (bit_and n (n - 1))) = pow_pos (length (word_extract bits (bit_and n (n - 1)))) in
    omega (arith, more, le-mul_of_pos_right (2 * gathered + bit_and (bits / 2 ^ trailing_zeros w64 n) 1) one, fits)

-- if no 1 is left, the number is that of all bits
pub gathered_all : (bits n gathered total : ℕ) → n ≡ 0 → gathered * 2 ^ length (word_extract bits n) + bits_number (word_extract bits n) ≡ total → gathered ≡ total
unfolding bits_number
gathered_all bits n gathered total zero_is so_far =
    let none = word_extract-none bits in
    let last : gathered * 2 ^ 0 + 0 ≡ total = rw (zero_is, none) at so_far in
    omega (arith, last)

-- the held number and the bits after it fit
pub gathered_fits : (held bits at : ℕ) → at < 2 ^ 64 → (held + 1) * 2 ^ count_ones at ≤ 2 ^ 64 → held * 2 ^ count_ones at + bits_number (word_extract bits at) < 2 ^ 64
gathered_fits held bits at below room = omega (arith, room, word_number_below bits at below)

-- the bits of the held number, and then those at the ones
pub gathered_bits : (count held bits at : ℕ) → at < 2 ^ 64 → number_bits (count + count_ones at) (held * 2 ^ count_ones at + bits_number (word_extract bits at)) ≡ number_bits count held ++ word_extract bits at
gathered_bits count held bits at below =
    number_bits-cat count (count_ones at) held (bits_number (word_extract bits at)) (word_number_below bits at below)
    ∙ ap (λ (more : List Bool). number_bits count held ++ more) (rw (← length-word_extract bits at below) (number_bits-bits_number (word_extract bits at)))

-- ---- words of vectors

by_bit : (bit : Bool) (a x : List Bool) (p q : ℕ) (ps qs : List ℕ) (rest : List Bool) → get_or x q false ≡ get_or a p false → bits_at a ps ≡ bits_at x qs ++ rest → bits_at a (cond bit (p ∷ ps) ps) ≡ bits_at x (cond bit (q ∷ qs) qs) ++ rest
by_bit true a x p q ps qs rest same later = rw (same, later) refl
by_bit false a x p q ps qs rest same later = later

-- the ones of a vector below a place in a word: those of the word's front, and those of the words before it
word_below : (a b x y : List Bool) (start m : ℕ) → ((k : ℕ) → k < m → get_or x k false ≡ get_or a (start + k) false) → ((k : ℕ) → k < m → get_or y k false ≡ get_or b (start + k) false)
    → bits_at a (ones_below (start + m) b) ≡ bits_at x (ones_below m y) ++ bits_at a (ones_below start b)
unfolding ones_below
word_below a b x y start zero same_a same_b = let none : start + 0 ≡ start = omega arith in rw none refl
word_below a b x y start (suc m) same_a same_b =
    let next : start + suc m ≡ suc (start + m) = omega arith in
    let rest = word_below a b x y start m (λ k lt. same_a k (omega arith)) (λ k lt. same_b k (omega arith)) in
    rw (next, same_b m (omega arith)) (by_bit (get_or b (start + m) false) a x (start + m) m (ones_below (start + m) b) (ones_below m y) (bits_at a (ones_below start b)) (same_a m (omega arith)) rest)

pub word_extract-below : (a b : List Bool) (index bits at : ℕ) → IsWord a index bits → IsWord b index at → bits_at a (ones_below (64 * (index + 1)) b) ≡ word_extract bits at ++ bits_at a (ones_below (64 * index) b)
word_extract-below a b index bits at is_a is_b =
    let end : 64 * (index + 1) ≡ 64 * index + 64 = omega arith in
    rw (end, places_of_word at) (word_below a b (number_bits 64 bits) (number_bits 64 at) (64 * index) 64 (λ k lt. bit_is bits k lt ∙ is_a k lt) (λ k lt. bit_is at k lt ∙ is_b k lt))

-- no place after the end has a 1
pub ones_below-past : (v : List Bool) (n : ℕ) → length v ≤ n → ones_below n v ≡ places_down v
ones_below-past v n le = ones_below-skip v (length v) n le (λ k from to. get_or_past v k false from) ∙ sym (places_down_is v)

-- the ones of the first words are those below a place
pub places_before_is : (words : ℕ) (v : List Bool) → places_before words v ≡ ones_below (64 * words) v
places_before_is words v =
    elim (cases_lt (64 * words) (length v)) [
      | inl lt ↦ below_is (64 * words) v (omega arith)
      | inr le ↦ rw (take_all (64 * words) v (omega arith)) (sym (ones_below-past v (64 * words) (omega arith)))
    ]

pub places_before_all : (words : ℕ) (v : List Bool) → length v ≤ 64 * words → places_before words v ≡ places_down v
places_before_all words v le = ap places_down (take_all (64 * words) v le)

-- the bits at the ones of a word, and those of the words before it
module _ (a b : List Bool) (index bits at : ℕ) (below : at < 2 ^ 64) (is_a : IsWord a index bits) (is_b : IsWord b index at) where
  pub before_step : bits_at a (places_before (index + 1) b) ≡ word_extract bits at ++ bits_at a (places_before index b)
  before_step = rw (places_before_is (index + 1) b, places_before_is index b) (word_extract-below a b index bits at is_a is_b)

  pub before_ones : length (places_before (index + 1) b) ≡ count_ones at + length (places_before index b)
  before_ones =
      omega (arith, length-bits_at a (places_before (index + 1) b), length-bits_at a (places_before index b), length-word_extract bits at below, length-append (word_extract bits at) (bits_at a (places_before index b)), ap (λ (xs : List Bool). length xs) before_step)

-- as many bits, written and left
pub same_lengths : (a new old : List Bool) (rest all : List ℕ) → new ++ bits_at a rest ≡ old ++ bits_at a all → length new + length rest ≡ length old + length all
same_lengths a new old rest all same =
    omega (arith, ap (λ (xs : List Bool). length xs) same, length-append new (bits_at a rest), length-append old (bits_at a all), length-bits_at a rest, length-bits_at a all)

-- a word that isn't zero has a 1
pub some_one : (at : ℕ) → 0 < at → at < 2 ^ 64 → 1 ≤ count_ones at
some_one at some below = omega (arith, ones-lowest at some below)

-- the bits at the ones of a word, and those of the words before it
pub extract_step : (a b : List Bool) (index bits at : ℕ) → 0 < index → IsWord a (index - 1) bits → IsWord b (index - 1) at → bits_at a (ones_below (64 * index) b) ≡ word_extract bits at ++ bits_at a (ones_below (64 * (index - 1)) b)
extract_step a b index bits at some is_a is_b =
    let same : index ≡ index - 1 + 1 = omega arith in
    ap (λ (i : ℕ). bits_at a (ones_below (64 * i) b)) same ∙ word_extract-below a b (index - 1) bits at is_a is_b

pub ones_step : (a b : List Bool) (index bits at : ℕ) → 0 < index → at < 2 ^ 64 → IsWord a (index - 1) bits → IsWord b (index - 1) at → length (ones_below (64 * index) b) ≡ count_ones at + length (ones_below (64 * (index - 1)) b)
ones_step a b index bits at some below is_a is_b =
    omega (arith, length-bits_at a (ones_below (64 * index) b), length-bits_at a (ones_below (64 * (index - 1)) b), length-word_extract bits at below, length-append (word_extract bits at) (bits_at a (ones_below (64 * (index - 1)) b)), ap (λ (xs : List Bool). length xs) (extract_step a b index bits at some is_a is_b))

-- ---- bits that are held

pub no_number : (n : ℕ) → number_bits 0 n ≡ []
unfolding number_bits
no_number n = refl

-- there is room above a number for as many bits more
pub fits_word : (held count more : ℕ) → held < 2 ^ count → (held + 1) * 2 ^ more ≤ 2 ^ (count + more)
fits_word held count more small =
    let next : held + 1 ≤ 2 ^ count = omega (arith, small) in
    rw (pow-add 2 count more) (mul-le-mul_right (2 ^ more) next)

-- ---- the ones that are left of a word and of the words before it

by_place : (bit : Bool) (start m : ℕ) (ps qs rest : List ℕ) → rest ≡ map (λ place. start + place) ps ++ qs → cond bit ((start + m) ∷ rest) rest ≡ map (λ place. start + place) (cond bit (m ∷ ps) ps) ++ qs
by_place true start m ps qs rest later = rw later refl
by_place false start m ps qs rest later = later

-- the ones below a place that is after another: those between them, and those below the other
ones_below_joined : (v y : List Bool) (start m : ℕ) → ((k : ℕ) → k < m → get_or y k false ≡ get_or v (start + k) false) → ones_below (start + m) v ≡ map (λ place. start + place) (ones_below m y) ++ ones_below start v
unfolding ones_below
ones_below_joined v y start zero same = let none : start + 0 ≡ start = omega arith in rw none refl
ones_below_joined v y start (suc m) same =
    let next : start + suc m ≡ suc (start + m) = omega arith in
    rw (next, same m (omega arith)) (by_place (get_or v (start + m) false) start m (ones_below m y) (ones_below start v) (ones_below (start + m) v) (ones_below_joined v y start m (λ k lt. same k (omega arith))))

-- those of a whole word
whole_word : (v : List Bool) (index ones : ℕ) → 64 * index ≤ length v → IsWord v index ones → ones_left v (record { index = index; ones = ones }) ≡ ones_below (64 * index + 64) v
unfolding ones_left
whole_word v index ones le is =
    rw (places_of_word ones, below_is (64 * index) v le) (sym (ones_below_joined v (number_bits 64 ones) (64 * index) 64 (λ k lt. bit_is ones k lt ∙ is k lt)))

no_ones_left : (v : List Bool) (index : ℕ) → 64 * index ≤ length v → ones_left v (record { index = index; ones = 0 }) ≡ ones_below (64 * index) v
unfolding ones_left
no_ones_left v index le = rw (no_places, below_is (64 * index) v le) refl

-- from the last word on
pub all_left : (v : List Bool) (index ones : ℕ) → 64 * index ≤ length v → length v ≤ 64 * index + 64 → IsWord v index ones → ones_left v (record { index = index; ones = ones }) ≡ places_down v
all_left v index ones le all is = whole_word v index ones le is ∙ ones_below-past v (64 * index + 64) all

pub none_left : (v : List Bool) (index ones : ℕ) → ones ≡ 0 → 64 * index ≤ length v → NoneIsOne v 0 (64 * index) → ones_left v (record { index = index; ones = ones }) ≡ []
none_left v index ones zero_is le none = rw zero_is (no_ones_left v index le ∙ ones_below-none v (64 * index) none)

-- from a word with none left to the greatest word before it that has one
pub same_left : (v : List Bool) (index ones place word : ℕ) → ones ≡ 0 → 64 * index ≤ length v → place < 64 * index → NoneIsOne v (place + 1) (64 * index) → IsWord v (place / 64) word
    → ones_left v (record { index = place / 64; ones = word }) ≡ ones_left v (record { index = index; ones = ones })
same_left v index ones place word zero_is le lt none is =
    whole_word v (place / 64) word (omega arith) is
    ∙ sym (rw zero_is (no_ones_left v index le ∙ ones_below-skip v (64 * (place / 64) + 64) (64 * index) (omega arith) (λ k from to. none k (omega arith) to)))

pub next_left : (v : List Bool) (index ones : ℕ) → 0 < ones → ones < 2 ^ 64
    → ones_left v (record { index = index; ones = ones }) ≡ (64 * index + (63 - trailing_zeros w64 ones)) ∷ ones_left v (record { index = index; ones = bit_and ones (ones - 1) })
unfolding ones_left
next_left v index ones some small = rw (places-lowest ones some small) refl
