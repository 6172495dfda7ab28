-- The bits at the ones of a word or a vector, by their ranks and from the lowest place up, and moved at once.
use Rattle.std.specs.Int.{bit_at, bit_not, trailing_zeros}
use Rattle.std.specs.Int.RustNames.{count_ones}
use Rattle.std.specs.Prelude.{reverse, count_by}
use Rattle.std.proofs.Common.{◌≡◌, ◌≢◌, ℕ, zero, suc, ◌+◌, ◌-◌, ◌*◌, ◌/◌, ◌%◌, ◌^◌, ◌<◌, ◌≤◌, Bool, true, false, cond, eqb, List, [], ◌∷◌, ◌++◌, length, get_or, map, not, ◌&&◌, append_assoc, bit_and, w64, refl, sym, ap, ◌∙◌, arith, inl, inr, take, bit_or}
use Rattle.std.proofs.Math.Nat.{mod-eq_of_lt, div-lt_iff_lt-mul}
use Rattle.std.proofs.lemmas.Bool.{cases_eq, cases_lt}
use Rattle.std.proofs.lemmas.List.{map-append, reverse-append, reverse-reverse, length-append, ext_get_or, get_or-take, get_or-reverse, length-take-le, length-reverse}
use Rattle.std.proofs.lemmas.List.Sums.{sum_by-cons}
use Rattle.std.proofs.lemmas.Nat.{one_shl, pow-add, ones-le, pow_pos}
use Rattle.std.proofs.lemmas.Nat.Bits.{shr_and_one, bit_at_lowest, bit_at-lt, bit_at_ones, bit_at_and, bit_at_or}
use Rattle.bit_vectors.specs.Vectors.{number_bits, without_bits, bits_number}
use Rattle.bit_vectors.specs.Words.{IsWord}
use Rattle.bit_vectors.proofs.NumberBits.{number_bits-cat, number_bits-split, length-number_bits, get_or-number_bits, bits_number-number_bits, bit_at_shr}
use Rattle.bit_vectors.proofs.Places.{get_or-zip2_all}
use Rattle.bit_vectors.proofs.WordBits.{Bitwise-drop, count_by-number_bits}
use Rattle.run_code.specs.Extraction.{places_up, bits_at, extract, bits_up, ones_under}
use Rattle.run_code.proofs.EdgeWords.{zero_of}
use Rattle.run_code.proofs.Gathering.{word_extract, word_extract-lowest, word_extract-none, word_extract-below, length-word_extract, ones-lowest, ones_below-past, places_of_word, bit_is}
use Rattle.run_code.proofs.InverseBits.{length-bits_at}
use Rattle.run_code.proofs.Ones.{ones_below, length-places_down}
use Rattle.run_code.proofs.Spreading.{span_bit, without_ones, without_others}

-- ---- the other order

map-reverse : (f : ℕ → Bool) (xs : List ℕ) → map f (reverse xs) ≡ reverse (map f xs)
map-reverse f [] = refl
map-reverse f (x ∷ xs) =
    ap (map f) (reverse-append (x ∷ []) xs) ∙ map-append f (reverse xs) (x ∷ []) ∙ ap (λ (bits : List Bool). bits ++ f x ∷ []) (map-reverse f xs) ∙ sym (reverse-append (f x ∷ []) (map f xs))

pub bits_up_is : (a b : List Bool) → reverse (extract a b) ≡ bits_up a b
bits_up_is a b = ap reverse (map-reverse (λ place. get_or a place false) (places_up b)) ∙ reverse-reverse (bits_up a b)

-- ---- one bit more, above those so far

lowest_digit : (n : ℕ) → number_bits 1 n ≡ eqb (n % 2) 1 ∷ []
unfolding number_bits
lowest_digit n = rw (bit_at_lowest n) refl

module _ (bit t n : ℕ) (digit : bit < 2) (within : t < 64) (below : n < 2 ^ t) where
  placed : bit * 2 ^ t % 2 ^ 64 ≡ bit * 2 ^ t
  placed =
      elim (cases_eq bit 0) [
        | inl none ↦ rw none (omega arith)
        | inr some ↦ let one : bit ≡ 1 = omega arith in rw (one, one_shl t 64 within) (omega arith)
      ]

  pub above_small : n + bit * 2 ^ t % 2 ^ 64 < 2 ^ (t + 1)
  above_small =
      elim (cases_eq bit 0) [
        | inl none ↦ rw none (omega (arith, pow-add 2 t 1))
        | inr some ↦ let one : bit ≡ 1 = omega arith in rw (one, one_shl t 64 within) (omega (arith, pow-add 2 t 1))
      ]

  pub above_bits : number_bits (t + 1) (n + bit * 2 ^ t % 2 ^ 64) ≡ eqb bit 1 ∷ number_bits t n
  above_bits =
      let width : t + 1 ≡ 1 + t = omega arith in
      let number : n + bit * 2 ^ t % 2 ^ 64 ≡ bit * 2 ^ t + n = omega (arith, placed) in
      let whole : bit % 2 ≡ bit = omega arith in
      rw (width, number) (number_bits-cat 1 t bit n below ∙ ap (λ (bits : List Bool). bits ++ number_bits t n) (rw whole at (lowest_digit bit)))

-- the last of the bits, reversed
turned : (bit : Bool) (bits later : List Bool) → bits ≡ bit ∷ later → reverse bits ≡ reverse later ++ bit ∷ []
turned bit bits later first = ap reverse first ∙ reverse-append (bit ∷ []) later

-- the bits at the ones that are left, and those so far
pub gathered_up_more : (bits n gathered taken : ℕ) → 0 < n → n < 2 ^ 64 → taken < 64 → gathered < 2 ^ taken
    → reverse (word_extract bits (bit_and n (n - 1))) ++ number_bits (taken + 1) (gathered + bit_and (bits / 2 ^ trailing_zeros w64 n) 1 * 2 ^ taken % 2 ^ 64) ≡ reverse (word_extract bits n) ++ number_bits taken gathered
gathered_up_more bits n gathered taken some below within small =
    let later = reverse (word_extract bits (bit_and n (n - 1))) in
    let bit = bit_at bits (trailing_zeros w64 n) in
    rw (shr_and_one bits (trailing_zeros w64 n), above_bits (bit_at bits (trailing_zeros w64 n)) taken gathered (bit_at-lt bits (trailing_zeros w64 n)) within small, turned (eqb (bit_at bits (trailing_zeros w64 n)) 1) (word_extract bits n) (word_extract bits (bit_and n (n - 1))) (word_extract-lowest bits n some below))
    (sym (append_assoc (reverse (word_extract bits (bit_and n (n - 1)))) (eqb (bit_at bits (trailing_zeros w64 n)) 1 ∷ []) (number_bits taken gathered)))

-- the bits of a number, with the last of them apart
pub spread_up_bits : (next rest : ℕ) (bits later : List Bool) → 0 < rest → rest < 2 ^ 64 → bits ≡ eqb (next % 2) 1 ∷ later → reverse later ≡ number_bits (count_ones (bit_and rest (rest - 1))) (next / 2) → reverse bits ≡ number_bits (count_ones rest) next
spread_up_bits next rest bits later some small lowest rest_is =
    let width : count_ones rest ≡ count_ones (bit_and rest (rest - 1)) + 1 = omega (arith, ones-lowest rest some small) in
    let parts : number_bits (count_ones (bit_and rest (rest - 1)) + 1) next ≡ number_bits (count_ones (bit_and rest (rest - 1))) (next / 2) ++ eqb (next % 2) 1 ∷ [] =
    number_bits-split (count_ones (bit_and rest (rest - 1))) 1 next ∙ ap (λ (last : List Bool). number_bits (count_ones (bit_and rest (rest - 1))) (next / 2) ++ last) (lowest_digit next) in
    turned (eqb (next % 2) 1) bits later lowest ∙ rw (rest_is, width) (sym parts)

-- ---- words of vectors

-- the word of the places of one vector without those of another
pub without_word : (x mask : List Bool) (index at word : ℕ) → length mask ≡ length x → word < 2 ^ 64 → IsWord x index at → IsWord mask index word → IsWord (without_bits x mask) index (bit_and at (bit_not w64 word))
without_word x mask index at word len small is_x is_mask k lt =
    Bitwise-drop.bits at word (63 - k) small (omega arith) ∙ rw (is_x k lt, is_mask k lt) (sym (get_or-zip2_all (λ a b. a && not b) refl x mask (64 * index + k) (sym len)))

-- no more ones are below a place than below any later place
ones_below-rise : (v : List Bool) (n d : ℕ) → length (ones_below n v) ≤ length (ones_below (n + d) v)
unfolding ones_below
ones_below-rise v n zero = let same : n + zero ≡ n = omega arith in rw same (omega arith)
ones_below-rise v n (suc d) =
    let next : n + suc d ≡ suc (n + d) = omega arith in
    rw next (longer (get_or v (n + d) false) (n + d) (ones_below n v) (ones_below (n + d) v) (ones_below-rise v n d))
  where
    longer : (bit : Bool) (place : ℕ) (few many : List ℕ) → length few ≤ length many → length few ≤ length (cond bit (place ∷ many) many)
    longer true place few many le = omega arith
    longer false place few many le = le

pub ones_below-most : (v : List Bool) (n : ℕ) → length (ones_below n v) ≤ count_by (λ bit. bit) v
ones_below-most v n =
    omega (arith, ones_below-rise v n (length v), ap (λ (places : List ℕ). length places) (ones_below-past v (n + length v) (omega arith)), length-places_down v)

-- one word more
pub upward_step : (a b : List Bool) (index bits at : ℕ) → IsWord a index bits → IsWord b index at
    → reverse (bits_at a (ones_below (64 * (index + 1)) b)) ≡ reverse (bits_at a (ones_below (64 * index) b)) ++ bits_up (number_bits 64 bits) (number_bits 64 at)
upward_step a b index bits at is_a is_b =
    ap reverse (word_extract-below a b index bits at is_a is_b) ∙ reverse-append (word_extract bits at) (bits_at a (ones_below (64 * index) b)) ∙ ap (λ (last : List Bool). reverse (bits_at a (ones_below (64 * index) b)) ++ last) (bits_up_is (number_bits 64 bits) (number_bits 64 at))

pub ones_step_up : (b : List Bool) (index at : ℕ) → at < 2 ^ 64 → IsWord b index at → length (ones_below (64 * (index + 1)) b) ≡ length (ones_below (64 * index) b) + count_ones at
ones_step_up b index at small is_b =
    omega (arith, length-bits_at b (ones_below (64 * (index + 1)) b), length-bits_at b (ones_below (64 * index) b), length-word_extract at at small, length-append (word_extract at at) (bits_at b (ones_below (64 * index) b)), ap (λ (xs : List Bool). length xs) (word_extract-below b b index at at is_b is_b))

-- if no 1 is left
no_ones : (rest : ℕ) → rest ≡ 0 → count_ones rest ≡ 0
no_ones rest zero_is =
    rw zero_is (sym (length-word_extract 0 0 (omega arith)) ∙ ap (λ (bits : List Bool). length bits) (word_extract-none 0))

pub none_left_up : (new number rest : ℕ) → rest ≡ 0 → reverse (word_extract new rest) ≡ number_bits (count_ones rest) number
unfolding number_bits
none_left_up new number rest zero_is =
    rw (no_ones rest zero_is) (rw zero_is (ap reverse (word_extract-none new)))

-- where a word has no one, nothing is taken
pub no_bits_up : (at : ℕ) → at ≡ 0 → bits_up (number_bits 64 0) (number_bits 64 at) ≡ number_bits (count_ones at) 0
no_bits_up at zero_is = sym (bits_up_is (number_bits 64 0) (number_bits 64 at)) ∙ none_left_up 0 0 at zero_is

pub nothing_taken : (at : ℕ) (left : List Bool) → at ≡ 0 → left ≡ number_bits (count_ones at) 0 ++ left
unfolding number_bits
nothing_taken at left zero_is = ap (λ (n : ℕ). number_bits n 0 ++ left) (sym (no_ones at zero_is))

pub gathered_up_all : (bits rest taken gathered at : ℕ) → rest ≡ 0 → taken + count_ones rest ≡ count_ones at → reverse (word_extract bits rest) ++ number_bits taken gathered ≡ reverse (word_extract bits at)
    → number_bits (count_ones at) gathered ≡ bits_up (number_bits 64 bits) (number_bits 64 at)
gathered_up_all bits rest taken gathered at zero_is count so_far =
    let all : count_ones at ≡ taken = omega (arith, no_ones rest zero_is) in
    let none : word_extract bits rest ≡ [] = rw zero_is (word_extract-none bits) in
    rw all (rw none at so_far) ∙ bits_up_is (number_bits 64 bits) (number_bits 64 at)

pub no_ones_below : (v : List Bool) → ones_below 0 v ≡ []
unfolding ones_below
no_ones_below v = refl

-- all words
pub upward_all : (a b : List Bool) (index : ℕ) → length b ≤ 64 * index → reverse (bits_at a (ones_below (64 * index) b)) ≡ bits_up a b
upward_all a b index all = ap (λ (places : List ℕ). reverse (bits_at a places)) (ones_below-past b (64 * index) all) ∙ bits_up_is a b

-- bits below a place
pub below_same : (a new v : List Bool) (n : ℕ) → ((k : ℕ) → k < n → get_or new k false ≡ get_or a k false) → bits_at a (ones_below n v) ≡ bits_at new (ones_below n v)
unfolding ones_below
below_same a new v zero same = refl
below_same a new v (suc n) same =
    span_bit (get_or v n false) a new n n (ones_below n v) (ones_below n v) (sym (same n (omega arith))) (below_same a new v n (λ k lt. same k (omega arith)))

-- a word set after those that are done
pub taken_step : (old left rest a new x : List Bool) (index word at number : ℕ) → IsWord x index at → IsWord new index word → ((k : ℕ) → k / 64 ≢ index → get_or new k false ≡ get_or a k false)
    → bits_up (number_bits 64 word) (number_bits 64 at) ≡ number_bits (count_ones at) number → left ≡ number_bits (count_ones at) number ++ rest
    → old ≡ reverse (bits_at a (ones_below (64 * index) x)) ++ left → old ≡ reverse (bits_at new (ones_below (64 * (index + 1)) x)) ++ rest
taken_step old left rest a new x index word at number is_x is_new others bits next so_far =
    let before = reverse (bits_at new (ones_below (64 * index) x)) in
    let kept : bits_at a (ones_below (64 * index) x) ≡ bits_at new (ones_below (64 * index) x) = below_same a new x (64 * index) (λ k lt. others k (λ same. absurd (omega arith))) in
    let here : reverse (bits_at new (ones_below (64 * (index + 1)) x)) ≡ reverse (bits_at new (ones_below (64 * index) x)) ++ number_bits (count_ones at) number =
    upward_step new x index word at is_new is_x ∙ ap (λ (last : List Bool). reverse (bits_at new (ones_below (64 * index) x)) ++ last) bits in
    so_far ∙ rw (kept, next, here) (sym (append_assoc (reverse (bits_at new (ones_below (64 * index) x))) (number_bits (count_ones at) number) rest))

-- the new word is zero wherever the vector is zero
pub zeros_step : (a new x : List Bool) (index word at : ℕ) → IsWord x index at → IsWord new index word → ((k : ℕ) → k / 64 ≢ index → get_or new k false ≡ get_or a k false) → ((i : ℕ) → bit_at at i ≡ 0 → bit_at word i ≡ 0)
    → ((k : ℕ) → k < 64 * index → get_or x k false ≡ false → get_or a k false ≡ false) → (k : ℕ) → k < 64 * (index + 1) → get_or x k false ≡ false → get_or new k false ≡ false
zeros_step a new x index word at is_x is_new others zeros before k lt none =
    elim (cases_eq (k / 64) index) [
      | inl here ↦
          let place : 64 * index + k % 64 ≡ k = omega arith in
          let at_zero : bit_at at (63 - k % 64) ≡ 0 = zero_of (bit_at at (63 - k % 64)) (bit_at-lt at (63 - k % 64)) (is_x (k % 64) (omega arith) ∙ ap (λ (p : ℕ). get_or x p false) place ∙ none) in
          ap (λ (p : ℕ). get_or new p false) (sym place) ∙ sym (is_new (k % 64) (omega arith)) ∙ rw (zeros (63 - k % 64) at_zero) refl
      | inr other ↦ others k other ∙ before k (omega arith) none
    ]

-- ---- how many ones are below a weight

under_is : (n i : ℕ) → ones_under n i ≡ count_by (λ bit. bit) (number_bits i n)
unfolding ones_under
under_is n i = sym (count_by-number_bits i n)

digit : (bit : ℕ) → bit < 2 → cond (eqb bit 1) 1 0 ≡ bit
digit zero lt = refl
digit (suc zero) lt = refl
digit (suc (suc bit)) lt = absurd (omega arith)

pub under_zero : (n : ℕ) → ones_under n 0 ≡ 0
unfolding number_bits
under_zero n = under_is n 0

pub under_more : (n i : ℕ) → ones_under n (suc i) ≡ ones_under n i + bit_at n i
unfolding number_bits
under_more n i =
    omega (arith, under_is n (suc i), under_is n i, sum_by-cons (λ (bit : Bool). cond bit 1 0) (eqb (bit_at n i) 1) (number_bits i n), digit (bit_at n i) (bit_at-lt n i))

pub under_all : (n : ℕ) → n < 2 ^ 64 → ones_under n 64 ≡ count_ones n
unfolding ones_under
under_all n lt = ap (λ (m : ℕ). count_ones m) (mod-eq_of_lt lt)

pub under_rises : (n i d : ℕ) → ones_under n i ≤ ones_under n (i + d)
under_rises n i zero = let same : i + zero ≡ i = omega arith in rw same (omega arith)
under_rises n i (suc d) = let next : i + suc d ≡ suc (i + d) = omega arith in rw next (omega (arith, under_rises n i d, under_more n (i + d)))

pub under_le : (n i j : ℕ) → i ≤ j → ones_under n i ≤ ones_under n j
under_le n i j le = let parts : i + (j - i) ≡ j = omega arith in rw parts at (under_rises n i (j - i))

-- each number below the count is that of the ones below some 1
has_rank : (n top k : ℕ) → k < ones_under n top → (i : ℕ) × (i < top) × (bit_at n i ≡ 1) × (ones_under n i ≡ k)
has_rank n zero k lt = absurd (omega (arith, lt, under_zero n))
has_rank n (suc top) k lt =
    elim (cases_lt k (ones_under n top)) [
      | inl before ↦ let h = has_rank n top k before in (h.0, omega (arith, h.1), h.2, h.3)
      | inr here ↦ (top, omega arith, omega (arith, lt, here, under_more n top, bit_at-lt n top), omega (arith, lt, here, under_more n top, bit_at-lt n top))
    ]

-- ---- the bits at the ones

module _ (bits at : ℕ) where
  -- at the ones from a weight up
  abbrev from_weight : ℕ → List Bool
  from_weight n = bits_at (number_bits 64 bits) (ones_below n (number_bits 64 at))

  more_one : (n : ℕ) → n < 64 → bit_at at (63 - n) ≡ 1 → from_weight (suc n) ≡ eqb (bit_at bits (63 - n)) 1 ∷ from_weight n
  unfolding ones_below
  more_one n lt one = rw (bit_is at n lt, one, sym (bit_is bits n lt)) refl

  more_none : (n : ℕ) → n < 64 → bit_at at (63 - n) ≡ 0 → from_weight (suc n) ≡ from_weight n
  unfolding ones_below
  more_none n lt none = rw (bit_is at n lt, none) refl

  there : (n i : ℕ) → n ≤ 64 → 64 - n ≤ i → i < 64 → bit_at at i ≡ 1 → get_or (from_weight n) (ones_under at i - ones_under at (64 - n)) false ≡ eqb (bit_at bits i) 1
  there zero i le from lt one = absurd (omega arith)
  there (suc n) i le from lt one =
      let next : 64 - n ≡ suc (63 - n) = omega arith in
      let here : 64 - suc n ≡ 63 - n = omega arith in
      let count : ones_under at (64 - n) ≡ ones_under at (63 - n) + bit_at at (63 - n) = ap (ones_under at) next ∙ under_more at (63 - n) in
      elim (cases_eq (bit_at at (63 - n)) 1) [
        | inl first ↦ elim (cases_eq i (63 - n)) [
          | inl same ↦
              let none : ones_under at i - ones_under at (64 - suc n) ≡ 0 = rw (here, same) (omega arith) in
              rw (more_one n (omega arith) first, none, same) refl
          | inr other ↦
              let later : ones_under at i - ones_under at (64 - suc n) ≡ suc (ones_under at i - ones_under at (64 - n)) = rw here (omega (arith, count, first, under_le at (64 - n) i (omega arith))) in
              rw (more_one n (omega arith) first, later) (there n i (omega arith) (omega arith) lt one)
        ]
        | inr zero_there ↦
            let none : bit_at at (63 - n) ≡ 0 = omega (arith, zero_there, bit_at-lt at (63 - n)) in
            let other : 64 - n ≤ i = elim (cases_eq i (63 - n)) [ inl same ↦ absurd (omega (arith, sym (ap (bit_at at) same) ∙ one, none)) | inr other ↦ omega arith ] in
            let same : ones_under at i - ones_under at (64 - suc n) ≡ ones_under at i - ones_under at (64 - n) = rw here (omega (arith, count, none)) in
            rw (more_none n (omega arith) none, same) (there n i (omega arith) other lt one)
      ]

  at_rank : (i k : ℕ) → i < 64 → bit_at at i ≡ 1 → ones_under at i ≡ k → get_or (word_extract bits at) k false ≡ eqb (bit_at bits i) 1
  at_rank i k lt one rank =
      let first : 64 - 64 ≡ 0 = omega arith in
      let count : ones_under at i - ones_under at (64 - 64) ≡ k = rw first (omega (arith, rank, under_zero at)) in
      rw (places_of_word at) (rw count at (there 64 i (omega arith) (omega arith) lt one))

  -- the bits of a word at the ones of another are those that stand where each 1 is counted
  pub word_extract_is : (xs : List Bool) → at < 2 ^ 64 → length xs ≡ count_ones at → ((i : ℕ) → i < 64 → bit_at at i ≡ 1 → get_or xs (ones_under at i) false ≡ eqb (bit_at bits i) 1) → word_extract bits at ≡ xs
  word_extract_is xs below len same =
      ext_get_or false (word_extract bits at) xs (length-word_extract bits at below ∙ sym len) (λ k lt.
      let h = has_rank at 64 k (omega (arith, lt, length-word_extract bits at below, under_all at below)) in
      at_rank h.0 k h.1 h.2 h.3 ∙ sym (same h.0 h.1 h.2) ∙ ap (λ (j : ℕ). get_or xs j false) h.3)

-- fewer ones are below a 1 than there are
pub under_few : (n i : ℕ) → n < 2 ^ 64 → i < 64 → bit_at n i ≡ 1 → ones_under n i < count_ones n
under_few n i below lt one = omega (arith, one, under_more n i, under_le n (suc i) 64 (omega arith), under_all n below)

-- ---- a word that has the bits where each 1 is counted

-- the number of the bits at the ones
pub number_is : (bits at n : ℕ) → at < 2 ^ 64 → n < 2 ^ count_ones at → ((i : ℕ) → i < 64 → bit_at at i ≡ 1 → bit_at n (count_ones at - 1 - ones_under at i) ≡ bit_at bits i) → bits_number (word_extract bits at) ≡ n
number_is bits at n below small same =
    let extracted : word_extract bits at ≡ number_bits (count_ones at) n =
    word_extract_is bits at (number_bits (count_ones at) n) below (length-number_bits (count_ones at) n) (λ i lt one. get_or-number_bits (count_ones at) n (ones_under at i) (under_few at i below lt one) ∙ rw (same i lt one) refl) in
    ap bits_number extracted ∙ bits_number-number_bits (count_ones at) n ∙ mod-eq_of_lt small

-- the first bits of another word, at the ones
pub first_bits_at : (new at ahead : ℕ) → at < 2 ^ 64 → ((i : ℕ) → i < 64 → bit_at at i ≡ 1 → bit_at new i ≡ bit_at ahead (63 - ones_under at i)) → word_extract new at ≡ take (count_ones at) (number_bits 64 ahead)
first_bits_at new at ahead below same =
    word_extract_is new at (take (count_ones at) (number_bits 64 ahead)) below
    (length-take-le (count_ones at) (number_bits 64 ahead) (omega (arith, length-number_bits 64 ahead, ones-le 64 at below)))
    (λ i lt one.
    let few = under_few at i below lt one in
    get_or-take (count_ones at) (number_bits 64 ahead) (ones_under at i) false few ∙ bit_is ahead (ones_under at i) (omega (arith, few, ones-le 64 at below)) ∙ rw (same i lt one) refl)

-- the bits from the lowest weight up are those of a number
pub number_up : (bits at n : ℕ) → at < 2 ^ 64 → ((i : ℕ) → i < 64 → bit_at at i ≡ 1 → bit_at n (ones_under at i) ≡ bit_at bits i) → bits_up (number_bits 64 bits) (number_bits 64 at) ≡ number_bits (count_ones at) n
number_up bits at n below same =
    let len = length-number_bits (count_ones at) n in
    let extracted : word_extract bits at ≡ reverse (number_bits (count_ones at) n) =
    word_extract_is bits at (reverse (number_bits (count_ones at) n)) below (length-reverse (number_bits (count_ones at) n) ∙ len) (λ i lt one.
    let few = under_few at i below lt one in
    let place : length (number_bits (count_ones at) n) - 1 - ones_under at i ≡ count_ones at - 1 - ones_under at i = omega (arith, len) in
    let weight : count_ones at - 1 - (count_ones at - 1 - ones_under at i) ≡ ones_under at i = omega (arith, few) in
    get_or-reverse (number_bits (count_ones at) n) (ones_under at i) false (omega (arith, len, few)) ∙ ap (λ (k : ℕ). get_or (number_bits (count_ones at) n) k false) place
    ∙ get_or-number_bits (count_ones at) n (count_ones at - 1 - ones_under at i) (omega (arith, few)) ∙ ap (λ (k : ℕ). eqb (bit_at n k) 1) weight ∙ ap (λ (b : ℕ). eqb b 1) (same i lt one)) in
    sym (bits_up_is (number_bits 64 bits) (number_bits 64 at)) ∙ ap reverse extracted ∙ reverse-reverse (number_bits (count_ones at) n)

-- ---- a word of ones

pub full_under : (i : ℕ) → i ≤ 64 → ones_under 18446744073709551615 i ≡ i
full_under zero le = under_zero 18446744073709551615
full_under (suc i) le = omega (arith, full_under i (omega arith), under_more 18446744073709551615 i, bit_at_ones 64 i (omega arith))

pub full_bit : (word at i : ℕ) → at ≡ 18446744073709551615 → i < 64 → bit_at word (ones_under at i) ≡ bit_at word i
full_bit word at i full lt = ap (bit_at word) (rw full (full_under i (omega arith)))

pub full_count : (at : ℕ) → at ≡ 18446744073709551615 → count_ones at ≡ 64
full_count at full = rw full (sym (under_all 18446744073709551615 (omega arith)) ∙ full_under 64 (omega arith))

-- ---- all bits of a word moved at once, to the ones of another or from there

module _ (bits at ones packed turned : ℕ) (below : at < 2 ^ 64) (count : ones ≡ count_ones at) (small : turned < 2 ^ 64)
    (moved : (i : ℕ) → i < 64 → bit_at at i ≡ 1 → bit_at packed (ones_under at i) ≡ bit_at bits i) (turns : (i : ℕ) → i < 64 → bit_at turned i ≡ bit_at packed (63 - i)) where
  most : ones ≤ 64
  most = omega (arith, count, ones-le 64 at below)

  turned_fits : turned / 2 ^ (64 - ones) < 2 ^ count_ones at
  turned_fits =
      let parts : 64 ≡ count_ones at + (64 - ones) = omega (arith, count, most) in
      let whole : 2 ^ 64 ≡ 2 ^ count_ones at * 2 ^ (64 - ones) = ap (λ (n : ℕ). 2 ^ n) parts ∙ pow-add 2 (count_ones at) (64 - ones) in
      (div-lt_iff_lt-mul (pow_pos (64 - ones))).1 (omega (arith, small, whole))

  pub moved_is : turned / 2 ^ (64 - ones) ≡ bits_number (word_extract bits at)
  moved_is =
      sym (number_is bits at (turned / 2 ^ (64 - ones)) below turned_fits (λ i lt one.
      let few = under_few at i below lt one in
      let place : 64 - ones + (count_ones at - 1 - ones_under at i) ≡ 63 - ones_under at i = omega (arith, few, count, most) in
      let back : 63 - (63 - ones_under at i) ≡ ones_under at i = omega (arith, few, count, most) in
      bit_at_shr turned (64 - ones) (count_ones at - 1 - ones_under at i) ∙ ap (bit_at turned) place ∙ turns (63 - ones_under at i) (omega arith) ∙ ap (bit_at packed) back ∙ moved i lt one))

-- a word with the bits of another at the ones
abbrev merged : ℕ → ℕ → ℕ → ℕ
merged word at made = bit_or (bit_and word (bit_not w64 at)) (bit_and made at)

pub merged_there : (word at made i : ℕ) → at < 2 ^ 64 → bit_at at i ≡ 1 → bit_at (merged word at made) i ≡ bit_at made i
merged_there word at made i below one =
    bit_at_or (bit_and word (bit_not w64 at)) (bit_and made at) i ∙ omega (arith, without_ones word at i below one, bit_at_and made at i, one, bit_at-lt made i)

pub merged_others : (word at made i : ℕ) → word < 2 ^ 64 → at < 2 ^ 64 → bit_at at i ≡ 0 → bit_at (merged word at made) i ≡ bit_at word i
merged_others word at made i small below none =
    bit_at_or (bit_and word (bit_not w64 at)) (bit_and made at) i ∙ omega (arith, without_others word at i small below none, bit_at_and made at i, none)

pub spread_is : (word at ahead turned made : ℕ) → at < 2 ^ 64 → ((i : ℕ) → i < 64 → bit_at turned i ≡ bit_at ahead (63 - i)) → ((i : ℕ) → i < 64 → bit_at at i ≡ 1 → bit_at made i ≡ bit_at turned (ones_under at i))
    → word_extract (merged word at made) at ≡ take (count_ones at) (number_bits 64 ahead)
spread_is word at ahead turned made below turns laid =
    first_bits_at (merged word at made) at ahead below (λ i lt one.
    let within : ones_under at i < 64 = omega (arith, under_few at i below lt one, ones-le 64 at below) in
    merged_there word at made i below one ∙ laid i lt one ∙ turns (ones_under at i) within)
