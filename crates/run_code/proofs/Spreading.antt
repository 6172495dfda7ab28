-- Bits spread over the ones of a word, one after another.
use Rattle.std.proofs.Common.{◌≡◌, ◌≢◌, ℕ, zero, suc, ◌+◌, ◌-◌, ◌*◌, ◌/◌, ◌%◌, ◌^◌, ◌<◌, ◌≤◌, Bool, true, false, cond, eqb, List, [], ◌∷◌, ◌++◌, length, get_or, take, drop, append_assoc, bit_and, bit_or, w64, refl, sym, ap, ◌∙◌, arith, inl, inr}
use Rattle.std.specs.Int.{bit_at, bit_not, trailing_zeros}
use Rattle.std.specs.Int.Bits.{or_zero_r}
use Rattle.std.specs.Int.RustNames.{count_ones}
use Rattle.std.proofs.lemmas.Bool.{cases_lt, cases_eq}
use Rattle.std.proofs.lemmas.List.{ext_get_or, get_or-take, length-take, length-take-le, take-append-le, take-append-drop, map-append, append-nil, length-append}
use Rattle.std.proofs.lemmas.Nat.{and_le_l, and_le_r, one_shl, ones-le}
use Rattle.std.proofs.lemmas.Nat.Bits.{bit_at_and, bit_at_or, bit_at_not, bit_at_above, bit_at-lt, bit_at-zero, bit_at-pow_same, bit_at-pow_other, bit_at-trailing_zeros}
use Rattle.bit_vectors.specs.Reading.{ShowsFirst}
use Rattle.bit_vectors.specs.Vectors.{number_bits}
use Rattle.bit_vectors.proofs.NumberBits.{length-number_bits, number_bits-more, number_bits-cat, number_bits-mod}
use Rattle.bit_vectors.proofs.WordBytes.{shl_word}
use Rattle.run_code.proofs.Gathering.{ones_below-past, word_extract, word_extract-lowest, word_extract-none, length-word_extract, ones-lowest, without_below, lowest_weight, places_of_word, bit_is}
use Rattle.run_code.specs.Extraction.{places_down, bits_at}
use Rattle.run_code.proofs.Ones.{ones_below}
use Rattle.run_code.proofs.EdgeWords.{zero_of}
use Rattle.bit_vectors.specs.Words.{IsWord}

-- ---- a word without the ones of another

pub without_ones : (word at i : ℕ) → at < 2 ^ 64 → bit_at at i ≡ 1 → bit_at (bit_and word (bit_not w64 at)) i ≡ 0
without_ones word at i below one =
    elim (cases_lt i 64) [
      | inl lt ↦ bit_at_and word (bit_not w64 at) i ∙ omega (arith, bit_at_not w64 at i below lt)
      | inr le ↦ absurd (omega (arith, bit_at_above at 64 i below le))
    ]

pub without_others : (word at i : ℕ) → word < 2 ^ 64 → at < 2 ^ 64 → bit_at at i ≡ 0 → bit_at (bit_and word (bit_not w64 at)) i ≡ bit_at word i
without_others word at i small below none =
    elim (cases_lt i 64) [
      | inl lt ↦ bit_at_and word (bit_not w64 at) i ∙ omega (arith, bit_at_not w64 at i below lt, bit_at-lt word i)
      | inr le ↦ bit_at_and word (bit_not w64 at) i ∙ omega (arith, bit_at_above word 64 i small le)
    ]

-- ---- one bit more

one_bit : (bit t : ℕ) → bit < 2 → t < 64 → bit_at (bit * 2 ^ t % 2 ^ 64) t ≡ bit
one_bit zero t lt within = let none : 0 * 2 ^ t % 2 ^ 64 ≡ 0 = omega arith in rw none (bit_at-zero t)
one_bit (suc zero) t lt within = rw (one_shl t 64 within) (bit_at-pow_same t)
one_bit (suc (suc bit)) t lt within = absurd (omega arith)

no_other_bit : (bit t i : ℕ) → bit < 2 → t < 64 → i ≢ t → bit_at (bit * 2 ^ t % 2 ^ 64) i ≡ 0
no_other_bit zero t i lt within other = let none : 0 * 2 ^ t % 2 ^ 64 ≡ 0 = omega arith in rw none (bit_at-zero i)
no_other_bit (suc zero) t i lt within other = rw (one_shl t 64 within) (bit_at-pow_other t i other)
no_other_bit (suc (suc bit)) t i lt within other = absurd (omega arith)

-- the first bit of a word, and those after it
first_bits : (next m : ℕ) → next < 2 ^ 64 → m ≤ 63 → take (suc m) (number_bits 64 next) ≡ eqb (next / 2 ^ 63) 1 ∷ take m (number_bits 64 (next * 2 ^ 1 % 2 ^ 64))
first_bits next m below most =
    let first : next / 2 ^ 63 % 2 ≡ next / 2 ^ 63 = omega arith in
    let whole : (next % 2 ^ 63) * 2 ^ 1 ≡ (next % 2 ^ 63) * 2 ^ 1 + 0 = omega arith in
    let later : number_bits 64 (next * 2 ^ 1 % 2 ^ 64) ≡ number_bits 63 next ++ number_bits 1 0 =
    ap (number_bits 64) (shl_word next 1 (omega arith) ∙ whole) ∙ number_bits-cat 63 1 (next % 2 ^ 63) 0 (omega arith) ∙ ap (λ (bits : List Bool). bits ++ number_bits 1 0) (number_bits-mod 63 63 next (omega arith)) in
    ap (take (suc m)) (number_bits-more 63 next) ∙ rw (first, later, take-append-le m (number_bits 63 next) (number_bits 1 0) (omega (arith, length-number_bits 63 next))) refl

-- a bit at the lowest 1 of a word
pub lowest_bit : (bit rest : ℕ) → bit < 2 → 0 < rest → rest < 2 ^ 64 → bit * (rest - bit_and rest (rest - 1)) ≡ bit * 2 ^ trailing_zeros w64 rest % 2 ^ 64
lowest_bit bit rest lt some small =
    let lowest = bit_at-trailing_zeros w64 rest some small in
    let weight : rest - bit_and rest (rest - 1) ≡ 2 ^ trailing_zeros w64 rest = lowest_weight rest (trailing_zeros w64 rest) lowest.1 lowest.2 in
    rw weight (by_bit bit lt (one_shl (trailing_zeros w64 rest) 64 lowest.0))
  where
    by_bit : (bit : ℕ) → bit < 2 → 1 * 2 ^ trailing_zeros w64 rest % 2 ^ 64 ≡ 2 ^ trailing_zeros w64 rest → bit * 2 ^ trailing_zeros w64 rest ≡ bit * 2 ^ trailing_zeros w64 rest % 2 ^ 64
    by_bit zero lt shifted = omega arith
    by_bit (suc zero) lt shifted = omega (arith, shifted)
    by_bit (suc (suc bit)) lt shifted = absurd (omega arith)

-- ---- the step

module _ (made bit rest : ℕ) (some : 0 < rest) (small : rest < 2 ^ 64) (bit_small : bit < 2) (clear : (i : ℕ) → bit_at rest i ≡ 1 → bit_at made i ≡ 0) where
  abbrev more : ℕ
  more = bit_or made (bit * 2 ^ trailing_zeros w64 rest % 2 ^ 64)

  abbrev fewer : ℕ
  fewer = bit_and rest (rest - 1)

  lowest_within : trailing_zeros w64 rest < 64
  lowest_within = (bit_at-trailing_zeros w64 rest some small).0

  lowest_one : bit_at rest (trailing_zeros w64 rest) ≡ 1
  lowest_one = (bit_at-trailing_zeros w64 rest some small).1

  lowest_gone : bit_at fewer (trailing_zeros w64 rest) ≡ 0
  lowest_gone = without_below rest (trailing_zeros w64 rest) lowest_one (bit_at-trailing_zeros w64 rest some small).2 (trailing_zeros w64 rest) (omega arith)

  same_elsewhere : (i : ℕ) → i ≢ trailing_zeros w64 rest → bit_at more i ≡ bit_at made i
  same_elsewhere i other =
      bit_at_or made (bit * 2 ^ trailing_zeros w64 rest % 2 ^ 64) i ∙ omega (arith, no_other_bit bit (trailing_zeros w64 rest) i bit_small lowest_within other)

  bit_there : bit_at more (trailing_zeros w64 rest) ≡ bit
  bit_there =
      bit_at_or made (bit * 2 ^ trailing_zeros w64 rest % 2 ^ 64) (trailing_zeros w64 rest)
      ∙ omega (arith, clear (trailing_zeros w64 rest) lowest_one, one_bit bit (trailing_zeros w64 rest) bit_small lowest_within)

  still_zero : (i : ℕ) → bit_at rest i ≡ 0 → bit_at fewer i ≡ 0
  still_zero i none = bit_at_and rest (rest - 1) i ∙ omega (arith, none)

  pub step_inside : (at i : ℕ) → (bit_at at i ≡ 0 → bit_at rest i ≡ 0) → bit_at at i ≡ 0 → bit_at fewer i ≡ 0
  step_inside at i inside none = still_zero i (inside none)

  pub step_clear : (i : ℕ) → bit_at fewer i ≡ 1 → bit_at more i ≡ 0
  step_clear i one =
      let was : bit_at rest i ≡ 1 = omega (arith, bit_at_and rest (rest - 1) i, one, bit_at-lt rest i) in
      let other : i ≢ trailing_zeros w64 rest = λ same. absurd (omega (arith, sym (ap (bit_at (bit_and rest (rest - 1))) same) ∙ one, lowest_gone)) in
      same_elsewhere i other ∙ clear i was

  pub step_others : (word at : ℕ) → ((i : ℕ) → bit_at at i ≡ 0 → bit_at rest i ≡ 0) → ((i : ℕ) → bit_at at i ≡ 0 → bit_at made i ≡ bit_at word i) → (i : ℕ) → bit_at at i ≡ 0 → bit_at more i ≡ bit_at word i
  step_others word at inside others i none =
      let other : i ≢ trailing_zeros w64 rest = λ same. absurd (omega (arith, sym (ap (bit_at rest) same) ∙ inside i none, lowest_one)) in
      same_elsewhere i other ∙ others i none

  pub step_off : (new i : ℕ) → ((j : ℕ) → bit_at fewer j ≡ 0 → bit_at new j ≡ bit_at more j) → bit_at rest i ≡ 0 → bit_at new i ≡ bit_at made i
  step_off new i agrees none =
      let other : i ≢ trailing_zeros w64 rest = λ same. absurd (omega (arith, sym (ap (bit_at rest) same) ∙ none, lowest_one)) in
      agrees i (still_zero i none) ∙ same_elsewhere i other

  -- the bit that was put there comes first
  pub step_bit : (new : ℕ) → ((j : ℕ) → bit_at fewer j ≡ 0 → bit_at new j ≡ bit_at more j) → word_extract new rest ≡ eqb bit 1 ∷ word_extract new fewer
  step_bit new agrees =
      let there : bit_at new (trailing_zeros w64 rest) ≡ bit = agrees (trailing_zeros w64 rest) lowest_gone ∙ bit_there in
      rw there at (word_extract-lowest new rest some small)

pub step_bits : (next rest : ℕ) (bits later : List Bool) → 0 < rest → rest < 2 ^ 64 → next < 2 ^ 64 → bits ≡ eqb (next / 2 ^ 63) 1 ∷ later → later ≡ take (count_ones (bit_and rest (rest - 1))) (number_bits 64 (next * 2 ^ 1 % 2 ^ 64)) → bits ≡ take (count_ones rest) (number_bits 64 next)
step_bits next rest bits later some small next_small lowest rest_is =
    lowest ∙ rw (rest_is, ones-lowest rest some small) (sym (first_bits next (count_ones (bit_and rest (rest - 1))) next_small (omega (arith, ones-lowest rest some small, ones-le 64 rest small))))

-- if no 1 is left
pub none_left : (new bits rest : ℕ) → rest ≡ 0 → word_extract new rest ≡ take (count_ones rest) (number_bits 64 bits)
none_left new bits rest zero_is =
    let none = word_extract-none new in
    let count : count_ones 0 ≡ 0 = sym (length-word_extract new 0 (omega arith)) ∙ ap (λ (b : List Bool). length b) none in
    rw (zero_is, none, count) refl

-- A word that agrees with the one so far except at the ones that are left, and has the remaining bits there, has all
-- bits.
pub record IsSpread (word at ahead made next rest : ℕ) : Type 0 where
  pub small : rest < 2 ^ 64
  pub inside : (weight : ℕ) → bit_at at weight ≡ 0 → bit_at rest weight ≡ 0
  pub clear : (weight : ℕ) → bit_at rest weight ≡ 1 → bit_at made weight ≡ 0
  pub others : (weight : ℕ) → bit_at at weight ≡ 0 → bit_at made weight ≡ bit_at word weight
  pub right : (new : ℕ) → ((weight : ℕ) → bit_at rest weight ≡ 0 → bit_at new weight ≡ bit_at made weight) → word_extract new rest ≡ take (count_ones rest) (number_bits 64 next) → word_extract new at ≡ take (count_ones at) (number_bits 64 ahead)

-- one more
spread_one : (word at ahead made next rest : ℕ) → next < 2 ^ 64 → 0 < rest → IsSpread word at ahead made next rest
    → IsSpread word at ahead (bit_or made (next / 2 ^ 63 * (rest - bit_and rest (rest - 1)))) (next * 2 ^ 1 % 2 ^ 64) (bit_and rest (rest - 1))
spread_one word at ahead made next rest fits some i =
    let bit : next / 2 ^ 63 < 2 = omega (arith, fits) in
    rw (lowest_bit (next / 2 ^ 63) rest bit some i.small) (record {
      small = omega (arith, and_le_r rest (rest - 1), i.small);
      inside = λ w none. step_inside made (next / 2 ^ 63) rest some i.small bit i.clear at w (i.inside w) none;
      clear = step_clear made (next / 2 ^ 63) rest some i.small bit i.clear;
      others = step_others made (next / 2 ^ 63) rest some i.small bit i.clear word at i.inside i.others;
      right = λ new same bits. i.right new
          (λ w none. step_off made (next / 2 ^ 63) rest some i.small bit i.clear new w same none)
          (step_bits next rest (word_extract new rest) (word_extract new (bit_and rest (rest - 1))) some i.small fits
          (step_bit made (next / 2 ^ 63) rest some i.small bit i.clear new same) bits);
    })

-- with no 1 left nothing changes
spread_none : (word at ahead made next rest : ℕ) → rest ≡ 0 → IsSpread word at ahead made next rest
    → IsSpread word at ahead (bit_or made (next / 2 ^ 63 * (rest - bit_and rest (rest - 1)))) (next * 2 ^ 1 % 2 ^ 64) (bit_and rest (rest - 1))
spread_none word at ahead made next rest none i =
    let left : bit_and rest (rest - 1) ≡ rest = omega (arith, and_le_r rest (rest - 1), none) in
    let nothing : next / 2 ^ 63 * (rest - rest) ≡ 0 = let zero_is : rest - rest ≡ 0 = omega arith in rw zero_is (omega arith) in
    rw (left, nothing, or_zero_r made) (record {
      small = i.small;
      inside = i.inside;
      clear = i.clear;
      others = i.others;
      right = λ new same bits. i.right new same (none_left new next rest none);
    })

pub spread_more_or_none : (word at ahead made next rest : ℕ) → next < 2 ^ 64 → IsSpread word at ahead made next rest
    → IsSpread word at ahead (bit_or made (next / 2 ^ 63 * (rest - bit_and rest (rest - 1)))) (next * 2 ^ 1 % 2 ^ 64) (bit_and rest (rest - 1))
spread_more_or_none word at ahead made next rest fits i =
    elim (cases_eq rest 0) [
      | inl none ↦ spread_none word at ahead made next rest none i
      | inr some ↦ spread_one word at ahead made next rest fits (omega arith) i
    ]

-- a number less one, as the machine takes it away: of 0 it makes a number with which 0 has no 1 in common either
pub less_one : (m : ℕ) → m < 2 ^ 64 → bit_and m ((m + 18446744073709551615) % 18446744073709551616) ≡ bit_and m (m - 1)
less_one m small =
    elim (cases_eq m 0) [
      | inl none ↦ omega (arith, none, and_le_l m ((m + 18446744073709551615) % 18446744073709551616), and_le_l m (m - 1))
      | inr some ↦ let same : (m + 18446744073709551615) % 18446744073709551616 ≡ m - 1 = omega arith in ap (bit_and m) same
    ]

-- ---- whole vectors

-- the ones from a place on, of the given number of places, the greatest first
unfoldable pub ones_span : ℕ → ℕ → List Bool → List ℕ
ones_span from zero v = []
ones_span from (suc m) v = cond (get_or v (from + m) false) ((from + m) ∷ ones_span from m v) (ones_span from m v)

pub span_none : (from : ℕ) (v : List Bool) → ones_span from 0 v ≡ []
unfolding ones_span
span_none from v = refl

pub span_all : (n : ℕ) (v : List Bool) → ones_span 0 n v ≡ ones_below n v
unfolding ones_span ones_below
span_all zero v = refl
span_all (suc n) v = let place : 0 + n ≡ n = omega arith in rw (place, span_all n v) refl

cond_append : (bit : Bool) (x : ℕ) (xs ys : List ℕ) → cond bit (x ∷ (xs ++ ys)) (xs ++ ys) ≡ cond bit (x ∷ xs) xs ++ ys
cond_append true x xs ys = refl
cond_append false x xs ys = refl

span_cat : (from m n : ℕ) (v : List Bool) → ones_span from (m + n) v ≡ ones_span (from + m) n v ++ ones_span from m v
unfolding ones_span
span_cat from m zero v = let none : m + 0 ≡ m = omega arith in rw none refl
span_cat from m (suc n) v =
    let next : m + suc n ≡ suc (m + n) = omega arith in
    let place : from + (m + n) ≡ from + m + n = omega arith in
    rw (next, place, span_cat from m n v) (cond_append (get_or v (from + m + n) false) (from + m + n) (ones_span (from + m) n v) (ones_span from m v))

pub span_bit : (bit : Bool) (a x : List Bool) (p q : ℕ) (ps qs : List ℕ) → get_or a p false ≡ get_or x q false → bits_at a ps ≡ bits_at x qs → bits_at a (cond bit (p ∷ ps) ps) ≡ bits_at x (cond bit (q ∷ qs) qs)
span_bit true a x p q ps qs same later = rw (same, later) refl
span_bit false a x p q ps qs same later = later

span_same : (a x v : List Bool) (from m : ℕ) → ((k : ℕ) → from ≤ k → get_or a k false ≡ get_or x k false) → bits_at a (ones_span from m v) ≡ bits_at x (ones_span from m v)
unfolding ones_span
span_same a x v from zero same = refl
span_same a x v from (suc m) same = span_bit (get_or v (from + m) false) a x (from + m) (from + m) (ones_span from m v) (ones_span from m v) (same (from + m) (omega arith)) (span_same a x v from m same)

span_front : (a x v y : List Bool) (from m : ℕ) → ((k : ℕ) → k < m → get_or x k false ≡ get_or a (from + k) false) → ((k : ℕ) → k < m → get_or y k false ≡ get_or v (from + k) false) → bits_at a (ones_span from m v) ≡ bits_at x (ones_below m y)
unfolding ones_span ones_below
span_front a x v y from zero same_a same_v = refl
span_front a x v y from (suc m) same_a same_v =
    rw (← same_v m (omega arith)) (span_bit (get_or y m false) a x (from + m) m (ones_span from m v) (ones_below m y) (sym (same_a m (omega arith))) (span_front a x v y from m (λ k lt. same_a k (omega arith)) (λ k lt. same_v k (omega arith))))

span_word : (a b : List Bool) (index bits at : ℕ) → IsWord a index bits → IsWord b index at → bits_at a (ones_span (64 * index) 64 b) ≡ word_extract bits at
span_word a b index bits at is_a is_b =
    rw (places_of_word at) (span_front a (number_bits 64 bits) b (number_bits 64 at) (64 * index) 64 (λ k lt. bit_is bits k lt ∙ is_a k lt) (λ k lt. bit_is at k lt ∙ is_b k lt))

-- the ones before a place and those from it on are all
pub places_parts : (v : List Bool) (from all : ℕ) → from ≤ all → length v ≤ all → length (places_down v) ≡ length (ones_span from (all - from) v) + length (ones_below from v)
places_parts v from all within past =
    let parts : from + (all - from) ≡ all = omega arith in
    let here : 0 + from ≡ from = omega arith in
    let whole : places_down v ≡ ones_span from (all - from) v ++ ones_below from v =
    sym (span_all all v ∙ ones_below-past v all past) ∙ ap (λ (n : ℕ). ones_span 0 n v) (sym parts) ∙ span_cat 0 from (all - from) v ∙ rw (here, span_all from v) refl in
    ap length whole ∙ length-append (ones_span from (all - from) v) (ones_below from v)

span_empty : (v : List Bool) (from m : ℕ) → ((k : ℕ) → k < m → get_or v (from + k) false ≡ false) → ones_span from m v ≡ []
unfolding ones_span
span_empty v from zero none = refl
span_empty v from (suc m) none = rw (none m (omega arith)) (span_empty v from m (λ k lt. none k (omega arith)))

-- a word of zeros has no ones
pub span_skip : (b : List Bool) (index all : ℕ) → 0 < index → 64 * index ≤ all → IsWord b (index - 1) 0 → ones_span (64 * (index - 1)) (all - 64 * (index - 1)) b ≡ ones_span (64 * index) (all - 64 * index) b
span_skip b index all some within is_b =
    let parts : all - 64 * (index - 1) ≡ 64 + (all - 64 * index) = omega arith in
    let next : 64 * (index - 1) + 64 ≡ 64 * index = omega arith in
    let empty : ones_span (64 * (index - 1)) 64 b ≡ [] = span_empty b (64 * (index - 1)) 64 (λ k lt. sym (is_b k lt) ∙ ap (λ (n : ℕ). eqb n 1) (bit_at-zero (63 - k))) in
    rw (parts, span_cat (64 * (index - 1)) 64 (all - 64 * index) b, next, empty) (append-nil (ones_span (64 * index) (all - 64 * index) b))

-- the given number of first bits of a word are the first of these bits
pub shown_take : (bits : List Bool) (word width : ℕ) → ShowsFirst width bits word → width ≤ 64 → width ≤ length bits → take width (number_bits 64 word) ≡ take width bits
shown_take bits word width shows most enough =
    ext_get_or false (take width (number_bits 64 word)) (take width bits)
    (length-take-le width (number_bits 64 word) (omega (arith, length-number_bits 64 word)) ∙ sym (length-take-le width bits enough))
    (λ k lt.
    let below : k < width = omega (arith, length-take width (number_bits 64 word)) in
    get_or-take width (number_bits 64 word) k false below ∙ bit_is word k (omega arith) ∙ shows k below ∙ sym (get_or-take width bits k false below))

-- one word more
pub spread_more : (old left a new b : List Bool) (index all at word : ℕ) → 0 < index → 64 * index ≤ all → IsWord b (index - 1) at → IsWord new (index - 1) word → ((k : ℕ) → k / 64 ≢ index - 1 → get_or new k false ≡ get_or a k false)
    → word_extract word at ≡ take (count_ones at) left
    → old ≡ bits_at a (ones_span (64 * index) (all - 64 * index) b) ++ left → old ≡ bits_at new (ones_span (64 * (index - 1)) (all - 64 * (index - 1)) b) ++ drop (count_ones at) left
spread_more old left a new b index all at word some within is_b is_new same bits so_far =
    let parts : all - 64 * (index - 1) ≡ 64 + (all - 64 * index) = omega arith in
    let next : 64 * (index - 1) + 64 ≡ 64 * index = omega arith in
    let kept : bits_at a (ones_span (64 * index) (all - 64 * index) b) ≡ bits_at new (ones_span (64 * index) (all - 64 * index) b) =
    span_same a new b (64 * index) (all - 64 * index) (λ k le. let other : k / 64 ≢ index - 1 = omega arith in sym (same k other)) in
    let here : bits_at new (ones_span (64 * (index - 1)) 64 b) ≡ take (count_ones at) left = span_word new b (index - 1) word at is_new is_b ∙ bits in
    let split : bits_at new (ones_span (64 * (index - 1)) (all - 64 * (index - 1)) b) ≡ bits_at new (ones_span (64 * index) (all - 64 * index) b) ++ take (count_ones at) left =
    rw (parts, span_cat (64 * (index - 1)) 64 (all - 64 * index) b, next) (map-append _ (ones_span (64 * index) (all - 64 * index) b) (ones_span (64 * (index - 1)) 64 b) ∙ ap (λ (last : List Bool). bits_at new (ones_span (64 * index) (all - 64 * index) b) ++ last) here) in
    so_far ∙ rw (kept, split) (ap (λ (rest : List Bool). bits_at new (ones_span (64 * index) (all - 64 * index) b) ++ rest) (sym (take-append-drop (count_ones at) left)) ∙ sym (append_assoc (bits_at new (ones_span (64 * index) (all - 64 * index) b)) (take (count_ones at) left) (drop (count_ones at) left)))

-- the bits at the zeros are unchanged
pub spread_others : (a new b : List Bool) (index word at made : ℕ) → IsWord a index word → IsWord b index at → IsWord new index made → ((k : ℕ) → k / 64 ≢ index → get_or new k false ≡ get_or a k false) → ((i : ℕ) → bit_at at i ≡ 0 → bit_at made i ≡ bit_at word i)
    → (k : ℕ) → get_or b k false ≡ false → get_or new k false ≡ get_or a k false
spread_others a new b index word at made is_a is_b is_new same others k none =
    elim (cases_eq (k / 64) index) [
      | inl here ↦
          let place : 64 * index + k % 64 ≡ k = omega arith in
          let zero_there : bit_at at (63 - k % 64) ≡ 0 = zero_of (bit_at at (63 - k % 64)) (bit_at-lt at (63 - k % 64)) (is_b (k % 64) (omega arith) ∙ ap (λ (p : ℕ). get_or b p false) place ∙ none) in
          ap (λ (p : ℕ). get_or new p false) (sym place) ∙ sym (is_new (k % 64) (omega arith)) ∙ rw (others (63 - k % 64) zero_there) (is_a (k % 64) (omega arith) ∙ ap (λ (p : ℕ). get_or a p false) place)
      | inr other ↦ same k other
    ]
