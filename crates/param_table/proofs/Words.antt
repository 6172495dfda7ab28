-- Numbers in the words that keep a vector: sums of their bits, and the numbers of limits.
use mir.Syntax.{w128}
use mir.Val.{to_z, of_z}
use Rattle.std.specs.Int.{bit_at}
use Rattle.std.specs.List.{range_with_len, sum_by}
use Rattle.std.proofs.Common.{◌≡◌, ℕ, suc, zero, ◌^◌, ◌<◌, ℤ, pos, neg_ℤ, unsigned_abs, refl, arith, ◌+◌, ◌-◌, ◌≤◌, Bool, false, cond, List, [], ◌∷◌, length, get_or, take, drop, sym, ap, ◌∙◌, ◌≢◌, pow_mono, ◌*◌, ◌/◌, ◌%◌, true, eqb, bit_or, ◌&&◌, ◌-ℤ◌, ◌*ℤ◌, subst, inl, inr}
use Rattle.std.proofs.Math.Nat.{mod-eq_of_lt, pow-succ'}
use Rattle.std.proofs.lemmas.Bool.{cases_lt}
use Rattle.std.proofs.lemmas.Bool.Decides.{nat_tests}
use Rattle.std.proofs.lemmas.Int.{ints}
use Rattle.std.proofs.lemmas.List.{length-drop, length-take-le, get_or-take, get_or-drop, ext_get_or}
use Rattle.std.proofs.lemmas.List.Sums.{sum_by-cons}
use Rattle.std.proofs.lemmas.Nat.{pow_pos, shr_below}
use Rattle.std.proofs.lemmas.Nat.Bits.{bit_at_or, bit_at_above}
use Rattle.bit_vectors.specs.Vectors.{bits_number, number_bits}
use Rattle.bit_vectors.specs.Words.{IsWord}
use Rattle.bit_vectors.proofs.NumberBits.{length-number_bits, get_or-number_bits, bits_number-number_bits, bits_number_below, bit_at_mod, bit_at_shr, bit_at_shl, bit_at_shl_low}
use Rattle.param_table.specs.Cells.{number_in, sum_by_weight, cell_in, first_bit, signed_if}
use Rattle.param_table.specs.Rows.{IsLimit}

-- ---- the numbers of limits

pub abs-neg : (n : ℕ) → unsigned_abs (neg_ℤ (pos n)) ≡ n
abs-neg zero = refl
abs-neg (suc n) = refl

pub same-wide : (z : ℤ) → unsigned_abs z < 2 ^ 64 → to_z w128 (of_z w128 z) ≡ z
same-wide z small = omega (arith, ints)

-- a limit whose numbers a text gave
pub IsLimit-read : (low high : ℤ) → unsigned_abs low < 2 ^ 64 → unsigned_abs high < 2 ^ 64 → IsLimit (record { low = to_z w128 (of_z w128 low); high = to_z w128 (of_z w128 high) })
IsLimit-read low high low_small high_small = record { low = rw (same-wide low low_small) low_small; high = rw (same-wide high high_small) high_small }

-- ---- A number is the sum of its bits, each by its weight

-- what the bit at a place of some bits adds
abbrev part : List Bool → ℕ → ℕ → ℕ
part bits width i = cond (get_or bits i false) (2 ^ (width - 1 - i)) 0

-- sums with the same parts are the same
same_sum : (f g : ℕ → ℕ) (a b n : ℕ) → ((i : ℕ) → i < n → f (a + i) ≡ g (b + i)) → sum_by f (range_with_len a n) ≡ sum_by g (range_with_len b n)
same_sum f g a b zero same = refl
same_sum f g a b (suc n) same =
    let first_a : a + 0 ≡ a = omega arith in
    let first_b : b + 0 ≡ b = omega arith in
    let head : f a ≡ g b = ap f (sym first_a) ∙ (same 0 (omega arith) ∙ ap g first_b) in
    let rest = same_sum f g (a + 1) (b + 1) n (λ i lt.
    let at_a : a + 1 + i ≡ a + (i + 1) = omega arith in
    let at_b : b + (i + 1) ≡ b + 1 + i = omega arith in
    ap f at_a ∙ (same (i + 1) (omega arith) ∙ ap g at_b)) in
    omega (arith, sum_by-cons f a (range_with_len (a + 1) n), sum_by-cons g b (range_with_len (b + 1) n), head, rest)

bits_number-sum : (bits : List Bool) → bits_number bits ≡ sum_by (part bits (length bits)) (range_with_len 0 (length bits))
unfolding bits_number
bits_number-sum [] = refl
bits_number-sum (bit ∷ bits) =
    let n = length bits in
    let rest = bits_number-sum bits in
    let moved : sum_by (part (bit ∷ bits) (suc (length bits))) (range_with_len 1 (length bits)) ≡ sum_by (part bits (length bits)) (range_with_len 0 (length bits)) =
    same_sum (part (bit ∷ bits) (suc (length bits))) (part bits (length bits)) 1 0 (length bits) (λ i lt.
    let next : 1 + i ≡ suc i = omega arith in
    let from : 0 + i ≡ i = omega arith in
    let weight : suc (length bits) - 1 - suc i ≡ length bits - 1 - i = omega arith in
    ap (part (bit ∷ bits) (suc (length bits))) next ∙ (ap (λ (k : ℕ). cond (get_or bits i false) (2 ^ k) 0) weight ∙ ap (part bits (length bits)) (sym from))) in
    let weight : suc (length bits) - 1 - 0 ≡ length bits = omega arith in
    let head : part (bit ∷ bits) (suc (length bits)) 0 ≡ cond bit (2 ^ length bits) 0 = ap (λ (k : ℕ). cond bit (2 ^ k) 0) weight in
    let all = sum_by-cons (part (bit ∷ bits) (suc (length bits))) 0 (range_with_len 1 (length bits)) in
    sym (omega (arith, all, head, moved, rest))

pub number_in-sum : (v : List Bool) (place width : ℕ) → place + width ≤ length v → number_in v place width ≡ sum_by_weight v place width
number_in-sum v place width within =
    let bits = take width (drop place v) in
    let size : length (take width (drop place v)) ≡ width = length-take-le width (drop place v) (omega (arith, length-drop place v)) in
    bits_number-sum bits
    ∙ (ap (λ (n : ℕ). sum_by (part bits n) (range_with_len 0 n)) size
    ∙ same_sum (part bits width) (λ i. cond (get_or v (place + i) false) (2 ^ (width - 1 - i)) 0) 0 0 width (λ i lt.
    let from : 0 + i ≡ i = omega arith in
    ap (part bits width) from
    ∙ (ap (λ (b : Bool). cond b (2 ^ (width - 1 - i)) 0) (get_or-take width (drop place v) i false lt ∙ get_or-drop place v i false)
    ∙ ap (λ (k : ℕ). cond (get_or v (place + k) false) (2 ^ (width - 1 - k)) 0) (sym from))))

-- ---- A number of at most 64 bits in the words that keep a vector

-- a bit that is in the word that has the place
pub bit_of_first : (v : List Bool) (place first k : ℕ) → IsWord v (place / 64) first → place % 64 + k < 64 → bit_at (first * 2 ^ (place % 64) % 2 ^ 64) (63 - k) ≡ bit_at first (63 - (place % 64 + k))
bit_of_first v place first k is below =
    let weight : 63 - k - place % 64 ≡ 63 - (place % 64 + k) = omega arith in
    bit_at_mod (first * 2 ^ (place % 64)) 64 (63 - k) (omega arith) ∙ (bit_at_shl first (place % 64) (63 - k) (omega arith) ∙ ap (bit_at first) weight)

shows_first : (v : List Bool) (place first k : ℕ) → IsWord v (place / 64) first → place % 64 + k < 64 → eqb (bit_at first (63 - (place % 64 + k))) 1 ≡ get_or v (place + k) false
shows_first v place first k is below =
    let at : 64 * (place / 64) + (place % 64 + k) ≡ place + k = omega arith in
    is (place % 64 + k) below ∙ ap (λ (i : ℕ). get_or v i false) at

-- one word has all bits
pub shows-one : (v : List Bool) (place width first : ℕ) → IsWord v (place / 64) first → place % 64 + width ≤ 64 → (k : ℕ) → k < width → eqb (bit_at (first * 2 ^ (place % 64) % 2 ^ 64) (63 - k)) 1 ≡ get_or v (place + k) false
shows-one v place width first is within k below =
    ap (λ (b : ℕ). eqb b 1) (bit_of_first v place first k is (omega arith)) ∙ shows_first v place first k is (omega arith)

-- two words have them
pub shows-two : (v : List Bool) (place first next : ℕ) → IsWord v (place / 64) first → IsWord v (place / 64 + 1) next → next < 2 ^ 64
    → (k : ℕ) → k < 64 → eqb (bit_at (bit_or (first * 2 ^ (place % 64) % 2 ^ 64) (next / 2 ^ (64 - place % 64))) (63 - k)) 1 ≡ get_or v (place + k) false
shows-two v place first next is more fits k below =
    let parts = bit_at_or (first * 2 ^ (place % 64) % 2 ^ 64) (next / 2 ^ (64 - place % 64)) (63 - k) in
    let low = bit_at_shr next (64 - place % 64) (63 - k) in
    elim (cases_lt (place % 64 + k) 64) [
      | inl in_first ↦
          let none : bit_at next (64 - place % 64 + (63 - k)) ≡ 0 = bit_at_above next 64 (64 - place % 64 + (63 - k)) fits (omega arith) in
          let one : bit_at (bit_or (first * 2 ^ (place % 64) % 2 ^ 64) (next / 2 ^ (64 - place % 64))) (63 - k) ≡ bit_at first (63 - (place % 64 + k)) =
          omega (arith, parts, low, none, bit_of_first v place first k is in_first) in
          ap (λ (b : ℕ). eqb b 1) one ∙ shows_first v place first k is in_first
      | inr in_next ↦
          let none : bit_at (first * 2 ^ (place % 64) % 2 ^ 64) (63 - k) ≡ 0 =
          bit_at_mod (first * 2 ^ (place % 64)) 64 (63 - k) (omega arith) ∙ bit_at_shl_low first (place % 64) (63 - k) (omega arith) in
          let weight : 64 - place % 64 + (63 - k) ≡ 63 - (place % 64 + k - 64) = omega arith in
          let at : 64 * (place / 64 + 1) + (place % 64 + k - 64) ≡ place + k = omega arith in
          let same = ap (bit_at next) weight in
          let one : bit_at (bit_or (first * 2 ^ (place % 64) % 2 ^ 64) (next / 2 ^ (64 - place % 64))) (63 - k) ≡ bit_at next (63 - (place % 64 + k - 64)) =
          omega (arith, parts, low, none, same) in
          ap (λ (b : ℕ). eqb b 1) one ∙ (more (place % 64 + k - 64) (omega arith) ∙ ap (λ (i : ℕ). get_or v i false) at)
    ]

-- the bits at the head of a word are the number
pub number_in-word : (v : List Bool) (place width word : ℕ) → 1 ≤ width → width ≤ 64 → place + width ≤ length v → word < 2 ^ 64 → ((k : ℕ) → k < width → eqb (bit_at word (63 - k)) 1 ≡ get_or v (place + k) false)
    → word / 2 ^ (64 - width) ≡ number_in v place width
number_in-word v place width word some most within fits shows =
    let number = word / 2 ^ (64 - width) in
    let all : width + (64 - width) ≡ 64 = omega arith in
    let small : word / 2 ^ (64 - width) < 2 ^ width = shr_below word width (64 - width) (rw all fits) in
    let whole : word / 2 ^ (64 - width) % 2 ^ width ≡ word / 2 ^ (64 - width) = mod-eq_of_lt small in
    let bits : number_bits width number ≡ take width (drop place v) =
    ext_get_or false (number_bits width number) (take width (drop place v)) (length-number_bits width number ∙ sym (length-take-le width (drop place v) (omega (arith, length-drop place v)))) (λ k lt.
    let below : k < width = omega (arith, length-number_bits width number) in
    let weight : 64 - width + (width - 1 - k) ≡ 63 - k = omega arith in
    get_or-number_bits width number k below
    ∙ (ap (λ (b : ℕ). eqb b 1) (bit_at_shr word (64 - width) (width - 1 - k) ∙ ap (bit_at word) weight)
    ∙ (shows k below ∙ sym (get_or-take width (drop place v) k false below ∙ get_or-drop place v k false)))) in
    sym whole ∙ (sym (bits_number-number_bits width number) ∙ ap bits_number bits)

-- and the first of them is the first bit of the word
pub first-word : (v : List Bool) (place width word : ℕ) → 1 ≤ width → word < 2 ^ 64 → ((k : ℕ) → k < width → eqb (bit_at word (63 - k)) 1 ≡ get_or v (place + k) false) → first_bit v place ≡ eqb (word / 2 ^ 63) 1
first-word v place width word some fits shows =
    let at : place + 0 ≡ place = omega arith in
    let one : word / 2 ^ 63 % 2 ≡ word / 2 ^ 63 = mod-eq_of_lt (shr_below word 1 63 fits) in
    ap (λ (i : ℕ). get_or v i false) (sym at) ∙ (sym (shows 0 (omega arith)) ∙ ap (λ (b : ℕ). eqb b 1) one)

-- a number with a sign, as 128 bits
pub less-signed : (width number : ℕ) (z w : ℤ) → 1 ≤ width → width ≤ 64 → number < 2 ^ 64 → z ≡ pos number → w ≡ pos (1 * 2 ^ (width - 1) % 2 ^ 64)
    → to_z w128 (of_z w128 (to_z w128 (of_z w128 z) -ℤ to_z w128 (of_z w128 (pos 2 *ℤ to_z w128 (of_z w128 w))))) ≡ pos number -ℤ pos (2 ^ width)
less-signed width number z w some most fits z_is w_is =
    let p = 2 ^ (width - 1) in
    let next : suc (width - 1) ≡ width = omega arith in
    let double : 2 ^ width ≡ 2 * 2 ^ (width - 1) = ap (λ (n : ℕ). 2 ^ n) (sym next) ∙ pow-succ' 2 (width - 1) in
    let at_most : width - 1 ≤ 63 = omega arith in
    let most_p : 2 ^ (width - 1) ≤ 2 ^ 63 = pow_mono {i = width - 1} {j = 63} at_most in
    let one : 1 * 2 ^ (width - 1) ≡ 2 ^ (width - 1) = omega arith in
    let below : 2 ^ (width - 1) < 2 ^ 64 = omega arith in
    let half : 1 * 2 ^ (width - 1) % 2 ^ 64 ≡ 2 ^ (width - 1) = ap (λ (n : ℕ). n % 2 ^ 64) one ∙ mod-eq_of_lt below in
    rw (z_is, w_is, half, double) (omega (arith, ints))

pub not_less : (number : ℕ) (z : ℤ) → number < 2 ^ 64 → z ≡ pos number → to_z w128 (of_z w128 z) ≡ pos number
not_less number z fits z_is = rw z_is (omega (arith, ints))

pub signed_if-less : (signed first : Bool) (width n m : ℕ) → signed ≡ true → first ≡ true → n ≡ m → pos n -ℤ pos (2 ^ width) ≡ signed_if signed first width m
signed_if-less true true width n m is one same = ap (λ (k : ℕ). pos k -ℤ pos (2 ^ width)) same
signed_if-less true false width n m is one same = absurd cc
signed_if-less false first width n m is one same = absurd cc

pub signed_if-not : (signed first : Bool) (width n m : ℕ) → signed && first ≡ false → n ≡ m → pos n ≡ signed_if signed first width m
signed_if-not true true width n m is same = absurd cc
signed_if-not true false width n m is same = ap pos same
signed_if-not false first width n m is same = ap pos same

pub signed_if-first : (signed first : Bool) → signed ≡ false → signed && first ≡ false
signed_if-first true first is = absurd cc
signed_if-first false first is = refl

pub signed_if-second : (signed first : Bool) → first ≡ false → signed && first ≡ false
signed_if-second true first is = is
signed_if-second false first is = refl

pub not_one : (n : ℕ) → n ≢ 1 → eqb n 1 ≡ false
not_one n other = grind (arith, nat_tests)

abs-less : (n p : ℕ) → n < p → 0 < n → p ≤ 2 ^ 64 → unsigned_abs (pos n -ℤ pos p) < 2 ^ 64
abs-less n p small some most =
    let turned : pos n -ℤ pos p ≡ neg_ℤ (pos (p - n)) = omega (arith, ints) in
    subst (λ (z : ℤ). unsigned_abs z < 2 ^ 64) (sym turned) (omega (arith, abs-neg (p - n)))

-- a number with or without a sign has an absolute value of 64 bits
number-small : (v : List Bool) (place width : ℕ) → place + width ≤ length v → number_in v place width < 2 ^ width
number-small v place width within =
    let size : length (take width (drop place v)) ≡ width = length-take-le width (drop place v) (omega (arith, length-drop place v)) in
    subst (λ (n : ℕ). number_in v place width < 2 ^ n) size (bits_number_below (take width (drop place v)))

some-first : (bits : List Bool) → get_or bits 0 false ≡ true → 0 < bits_number bits
unfolding bits_number
some-first [] is = absurd cc
some-first (true ∷ bits) is = omega (arith, pow_pos (length bits))
some-first (false ∷ bits) is = absurd cc

signed-small : (signed first : Bool) (width n : ℕ) → (first ≡ true → 0 < n) → n < 2 ^ width → 2 ^ width ≤ 2 ^ 64 → unsigned_abs (signed_if signed first width n) < 2 ^ 64
signed-small true true width n some small most = abs-less n (2 ^ width) small (some refl) most
signed-small true false width n some small most = omega arith
signed-small false first width n some small most = omega arith

pub cell_in-small : (v : List Bool) (place width : ℕ) (signed : Bool) → 1 ≤ width → width ≤ 64 → place + width ≤ length v → unsigned_abs (cell_in v place width signed) < 2 ^ 64
cell_in-small v place width signed some most within =
    let power : 2 ^ width ≤ 2 ^ 64 = pow_mono {i = width} {j = 64} most in
    let at : place + 0 ≡ place = omega arith in
    let head : get_or (take width (drop place v)) 0 false ≡ first_bit v place = get_or-take width (drop place v) 0 false (omega arith) ∙ (get_or-drop place v 0 false ∙ ap (λ (i : ℕ). get_or v i false) at) in
    signed-small signed (first_bit v place) width (number_in v place width) (λ is. some-first (take width (drop place v)) (head ∙ is)) (number-small v place width within) power
