-- The bits at the ones of a word moved together to its low end, and back, in steps of 1, 2, 4, .. 32 places. A 1 of
-- the word at some weight has as many places to go as there are zeros below it; each step makes one bit of that number.
use Rattle.std.proofs.Common.{◌≡◌, ℕ, zero, suc, ◌+◌, ◌-◌, ◌*◌, ◌/◌, ◌%◌, ◌^◌, ◌<◌, ◌≤◌, ◌⊎◌, cond, ltb, bit_and, bit_or, bit_xor, List, [], ◌∷◌, w64, refl, sym, ap, subst, ◌∙◌, arith, inl, inr, min, max}
use Rattle.std.specs.Prelude.{slice_index}
use Rattle.std.specs.Int.{bit_at, bit_not}
use Rattle.std.specs.Int.RustNames.{count_ones}
use Rattle.std.proofs.lemmas.Bool.{cases_lt, cases_eq, lt-ltb, le-ltb}
use Rattle.std.proofs.lemmas.Nat.{and_le_r, mod-pow-add, pow-add, pow_pos, shr-shr, shr_high, shr_split, le-div}
use Rattle.std.proofs.Math.Nat.{mod-lt, mod-le, zero-div, add-div_right, div-mul-le_self}
use Rattle.std.proofs.Math.Pow.{pow-lt}
use Rattle.std.proofs.lemmas.Nat.Bits.{bit_at_and, bit_at_or, bit_at_xor, bit_at_not, bit_at_above, bit_at_ones, bit_at-lt, bit_at-zero, bit_at-pow_same, bit_at-pow_other, same_from_bits, same_from_bits_below}
use Rattle.bit_vectors.proofs.NumberBits.{bit_at_mod, bit_at_shl, bit_at_shl_low, bit_at_shr}
use Rattle.run_code.specs.Extraction.{ones_under, zeros_under}
use Rattle.run_code.proofs.EdgeWords.{plus, plus_low, plus_high}
use Rattle.run_code.proofs.Upward.{under_zero, under_more, under_le, under_few}

-- ---- zeros below a weight

under_within : (n i : ℕ) → ones_under n i ≤ i
under_within n zero = omega (arith, under_zero n)
under_within n (suc i) = omega (arith, under_within n i, under_more n i, bit_at-lt n i)

-- those below a weight are ones and zeros
under_parts : (n i : ℕ) → ones_under n i + zeros_under n i ≡ i
unfolding zeros_under
under_parts n i = omega (arith, under_within n i)

zeros_more : (n i : ℕ) → zeros_under n (suc i) + bit_at n i ≡ zeros_under n i + 1
zeros_more n i = omega (arith, under_parts n i, under_parts n (suc i), under_more n i)

zeros_rise : (n i d : ℕ) → zeros_under n i ≤ zeros_under n (i + d)
zeros_rise n i zero = let same : i + zero ≡ i = omega arith in rw same (omega arith)
zeros_rise n i (suc d) = let next : i + suc d ≡ suc (i + d) = omega arith in rw next (omega (arith, zeros_rise n i d, zeros_more n (i + d), bit_at-lt n (i + d)))

zeros_le : (n i j : ℕ) → i ≤ j → zeros_under n i ≤ zeros_under n j
zeros_le n i j le = let parts : i + (j - i) ≡ j = omega arith in rw parts at (zeros_rise n i (j - i))

quotient_rises : (a b d : ℕ) → 0 < d → a ≤ b → a / d ≤ b / d
quotient_rises a b d some le = le-div (a / d) b d some (omega (arith, div-mul-le_self a d, le))

-- of half as many zeros, at most one more is below the next weight
quotient_step : (n i s : ℕ) → (zeros_under n i / 2 ^ s ≤ zeros_under n (suc i) / 2 ^ s) × (zeros_under n (suc i) / 2 ^ s ≤ zeros_under n i / 2 ^ s + 1)
quotient_step n i s =
    elim (cases_eq (bit_at n i) 1) [
      | inl one ↦ let same : zeros_under n (suc i) ≡ zeros_under n i = omega (arith, zeros_more n i) in rw same (omega arith, omega arith)
      | inr other ↦ let next : zeros_under n (suc i) ≡ zeros_under n i + 1 = omega (arith, zeros_more n i, other, bit_at-lt n i) in rw next (by_one (zeros_under n i) (2 ^ s) (pow_pos s))
    ]
  where
    by_one : (a d : ℕ) → 0 < d → (a / d ≤ (a + 1) / d) × ((a + 1) / d ≤ a / d + 1)
    by_one a d some = (quotient_rises a (a + 1) d some (omega arith), omega (arith, quotient_rises (a + 1) (a + d) d some (omega arith), add-div_right a some))

-- ---- the bits of these numbers, weight by weight

-- the bit of each weight is the bit of this level of the number of zeros below it
abbrev pub IsCount : ℕ → ℕ → ℕ → Type 0
IsCount at level count = (i : ℕ) → i < 64 → bit_at count i ≡ bit_at (zeros_under at i) level

-- the weights at which that bit and those above it, as a number, change
abbrev pub AreMarks : ℕ → ℕ → ℕ → Type 0
AreMarks at level marks = (i : ℕ) → i < 64 → bit_at marks i ≡ (zeros_under at i / 2 ^ level + zeros_under at (i - 1) / 2 ^ level) % 2

pub first_marks : (at : ℕ) → at < 2 ^ 64 → AreMarks at 0 (bit_not w64 at * 2 ^ 1 % 2 ^ 64)
first_marks at below zero lt =
    bit_at_mod (bit_not w64 at * 2 ^ 1) 64 0 lt ∙ bit_at_shl_low (bit_not w64 at) 1 0 (omega arith) ∙ omega arith
first_marks at below (suc i) lt =
    let before : suc i - 1 ≡ i = omega arith in
    rw before
    (bit_at_mod (bit_not w64 at * 2 ^ 1) 64 (suc i) lt ∙ bit_at_shl (bit_not w64 at) 1 (suc i) (omega arith) ∙ ap (bit_at (bit_not w64 at)) before ∙ bit_at_not w64 at i below (omega arith) ∙ omega (arith, zeros_more at i, bit_at-lt at i))

pub count_of : (at level marks count : ℕ) → AreMarks at level marks → plus 1 count ≡ marks → IsCount at level count
count_of at level marks count are sums zero lt =
    let none : zeros_under at 0 / 2 ^ level ≡ 0 = let first : zeros_under at 0 ≡ 0 = omega (arith, under_parts at 0) in rw first (zero-div (2 ^ level)) in
    sym (plus_low 1 count 0 (omega arith) lt) ∙ ap (λ (n : ℕ). bit_at n 0) sums ∙ are 0 lt ∙ rw none refl
count_of at level marks count are sums (suc i) lt =
    let before : suc i - 1 ≡ i = omega arith in
    let sum : (bit_at count (suc i) + bit_at count i) % 2 ≡ bit_at marks (suc i) = rw before at (sym (plus_high 1 count (suc i) (omega arith) lt)) ∙ ap (λ (n : ℕ). bit_at n (suc i)) sums in
    let mark : bit_at marks (suc i) ≡ (zeros_under at (suc i) / 2 ^ level + zeros_under at i / 2 ^ level) % 2 = rw before at (are (suc i) lt) in
    omega (arith, sum, mark, count_of at level marks count are sums i (omega arith), bit_at-lt count (suc i))

pub next_marks : (at level marks count : ℕ) → count < 2 ^ 64 → AreMarks at level marks → IsCount at level count → AreMarks at (level + 1) (bit_and marks (bit_not w64 count))
next_marks at level marks count small are is i lt =
    let here : zeros_under at i / 2 ^ (level + 1) ≡ zeros_under at i / 2 ^ level / 2 = sym (shr-shr (zeros_under at i) level 1) in
    let there : zeros_under at (i - 1) / 2 ^ (level + 1) ≡ zeros_under at (i - 1) / 2 ^ level / 2 = sym (shr-shr (zeros_under at (i - 1)) level 1) in
    let steps = step i in
    bit_at_and marks (bit_not w64 count) i
    ∙ rw (here, there) (omega (arith, are i lt, is i lt, bit_at_not w64 count i small lt, steps.0, steps.1))
  where
    step : (i : ℕ) → (zeros_under at (i - 1) / 2 ^ level ≤ zeros_under at i / 2 ^ level) × (zeros_under at i / 2 ^ level ≤ zeros_under at (i - 1) / 2 ^ level + 1)
    step zero = (omega arith, omega arith)
    step (suc i) = let before : suc i - 1 ≡ i = omega arith in rw before (quotient_step at i level)

pub marks_below : (marks count : ℕ) → bit_and marks (bit_not w64 count) < 2 ^ 64
marks_below marks count = omega (arith, and_le_r marks (bit_not w64 count))

-- ---- the last bit of the numbers, which is 1 from some weight on

quotient_mono : (at i j : ℕ) → i ≤ j → zeros_under at i / 2 ^ 5 ≤ zeros_under at j / 2 ^ 5
quotient_mono at i j le = quotient_rises (zeros_under at i) (zeros_under at j) (2 ^ 5) (pow_pos 5) (zeros_le at i j le)

quotient_most : (at i : ℕ) → i < 64 → zeros_under at i / 2 ^ 5 ≤ 1
quotient_most at i lt = omega (arith, under_parts at i)

-- the weight from which it is 1
turn_of : (at n : ℕ) → n ≤ 64 → (zeros_under at n / 2 ^ 5 ≡ 0) ⊎ ((k : ℕ) × (k < n) × (zeros_under at k / 2 ^ 5 ≡ 0) × (1 ≤ zeros_under at (suc k) / 2 ^ 5))
turn_of at zero le = inl (omega (arith, under_parts at 0))
turn_of at (suc n) le =
    elim (turn_of at n (omega arith)) [
      | inl none ↦ elim (cases_eq (zeros_under at (suc n) / 2 ^ 5) 0) [
        | inl still ↦ inl still
        | inr some ↦ inr (n, omega arith, none, omega (arith, some))
      ]
      | inr h ↦ inr (h.0, omega (arith, h.1), h.2, h.3)
    ]

no_mark : (at marks : ℕ) → marks < 2 ^ 64 → AreMarks at 5 marks → zeros_under at 63 / 2 ^ 5 ≡ 0 → marks ≡ 0
no_mark at marks small are none =
    same_from_bits_below 64 marks 0 small (pow_pos 64) (λ i lt. are i lt ∙ omega (arith, none, quotient_mono at i 63 (omega arith), quotient_mono at (i - 1) 63 (omega arith)) ∙ sym (bit_at-zero i))

one_mark : (at marks k : ℕ) → marks < 2 ^ 64 → AreMarks at 5 marks → suc k < 64 → zeros_under at k / 2 ^ 5 ≡ 0 → 1 ≤ zeros_under at (suc k) / 2 ^ 5 → marks ≡ 2 ^ suc k
one_mark at marks k small are within none one =
    same_from_bits_below 64 marks (2 ^ suc k) small (pow_lt k within) (λ i lt. are i lt ∙ elim (cases_eq i (suc k)) [
      | inl here ↦
          let before : suc k - 1 ≡ k = omega arith in
          rw (here, before) (omega (arith, none, one, quotient_most at (suc k) within) ∙ sym (bit_at-pow_same (suc k)))
      | inr other ↦ elim (cases_lt i (suc k)) [
        | inl below ↦ omega (arith, none, quotient_mono at i k (omega arith), quotient_mono at (i - 1) k (omega arith)) ∙ sym (bit_at-pow_other (suc k) i other)
        | inr above ↦ omega (arith, one, quotient_mono at (suc k) i above, quotient_mono at (suc k) (i - 1) (omega arith), quotient_most at i lt, quotient_most at (i - 1) (omega arith)) ∙ sym (bit_at-pow_other (suc k) i other)
      ]
    ])
  where
    pow_lt : (k : ℕ) → suc k < 64 → 2 ^ suc k < 2 ^ 64
    pow_lt k lt = pow-lt lt

one_time_less : (a m : ℕ) → 0 < a → a * m ≡ (a - 1) * m + m
one_time_less zero m some = absurd (omega arith)
one_time_less (suc a) m some = let before : suc a - 1 ≡ a = omega arith in rw before (omega arith)

-- all bits from a weight on
all_from : (k : ℕ) → k < 64 → (i : ℕ) → i < 64 → bit_at (18446744073709551616 - 2 ^ k) i ≡ cond (ltb i k) 0 1
all_from k within i lt =
    let parts : 64 ≡ 64 - k + k = omega arith in
    let whole : 2 ^ 64 ≡ 2 ^ (64 - k) * 2 ^ k = ap (λ (n : ℕ). 2 ^ n) parts ∙ pow-add 2 (64 - k) k in
    let shifted : 18446744073709551616 - 2 ^ k ≡ (2 ^ (64 - k) - 1) * 2 ^ k = omega (arith, whole, one_time_less (2 ^ (64 - k)) (2 ^ k) (pow_pos (64 - k))) in
    ap (λ (n : ℕ). bit_at n i) shifted ∙ elim (cases_lt i k) [
      | inl below ↦ rw (lt-ltb i k below) (bit_at_shl_low (2 ^ (64 - k) - 1) k i below)
      | inr above ↦ rw (le-ltb i k above) (bit_at_shl (2 ^ (64 - k) - 1) k i above ∙ bit_at_ones (64 - k) (i - k) (omega arith))
    ]

pub last_count : (at marks count : ℕ) → marks < 2 ^ 64 → AreMarks at 5 marks → count < 2 ^ 64 → (count + marks) % 2 ^ 64 ≡ 0 → IsCount at 5 count
last_count at marks count small are fits negated =
    elim (turn_of at 63 (omega arith)) [
      | inl none ↦ λ i lt.
          let zero_is : count ≡ 0 = let empty = no_mark at marks small are none in omega (arith, fits, negated, empty) in
          rw zero_is (bit_at-zero i ∙ omega (arith, none, quotient_mono at i 63 (omega arith)))
      | inr h ↦ λ i lt.
          let mark = one_mark at marks h.0 small are (omega (arith, h.1)) h.2 h.3 in
          let less : count ≡ 18446744073709551616 - 2 ^ suc h.0 = omega (arith, fits, small, negated, mark, pow_pos (suc h.0)) in
          ap (λ (n : ℕ). bit_at n i) less ∙ all_from (suc h.0) (omega (arith, h.1)) i lt ∙ elim (cases_lt i (suc h.0)) [
            | inl below ↦ rw (lt-ltb i (suc h.0) below) (omega (arith, h.2, quotient_mono at i h.0 (omega arith)))
            | inr above ↦ rw (le-ltb i (suc h.0) above) (omega (arith, h.3, quotient_mono at (suc h.0) i above, quotient_most at i lt))
          ]
    ]

-- ---- where a bit stands after some steps

-- the bit of the 1 of a weight
abbrev pub stand : ℕ → ℕ → ℕ → ℕ
stand at level i = i - zeros_under at i % 2 ^ level

moved_within : (at level i : ℕ) → zeros_under at i % 2 ^ level ≤ i
moved_within at level i = omega (arith, mod-le (zeros_under at i) (2 ^ level), under_parts at i)

-- there the bit of the level is that of the 1's own number of zeros
stand_count : (at level i : ℕ) → bit_at (zeros_under at (stand at level i)) level ≡ bit_at (zeros_under at i) level
stand_count at level i =
    let less = zeros_under at i % 2 ^ level in
    let whole = zeros_under at i / 2 ^ level in
    let parts : zeros_under at i / 2 ^ level * 2 ^ level + zeros_under at i % 2 ^ level ≡ zeros_under at i = shr_split (zeros_under at i) level in
    let small : zeros_under at i % 2 ^ level < 2 ^ level = mod-lt (zeros_under at i) (pow_pos level) in
    let most = under_le at (stand at level i) i (omega arith) in
    let rest : zeros_under at (stand at level i) ≡ zeros_under at i / 2 ^ level * 2 ^ level + (zeros_under at (stand at level i) - zeros_under at i / 2 ^ level * 2 ^ level) =
    omega (arith, parts, most, under_parts at i, under_parts at (stand at level i), moved_within at level i) in
    let zeros_less : zeros_under at (stand at level i) ≤ zeros_under at i = zeros_le at (stand at level i) i (omega arith) in
    let few : zeros_under at (stand at level i) - zeros_under at i / 2 ^ level * 2 ^ level < 2 ^ level =
    omega (arith, parts, small, zeros_less) in
    ap (λ (n : ℕ). n / 2 ^ level % 2) rest ∙ ap (λ (n : ℕ). n % 2) (shr_high (zeros_under at i / 2 ^ level) level (zeros_under at (stand at level i) - zeros_under at i / 2 ^ level * 2 ^ level) few)

-- one step more
stand_next : (at level i : ℕ) → stand at level i ≡ stand at (level + 1) i + 2 ^ level * bit_at (zeros_under at i) level
stand_next at level i =
    let turned : 1 + level ≡ level + 1 = omega arith in
    let split : zeros_under at i % 2 ^ (level + 1) ≡ bit_at (zeros_under at i) level * 2 ^ level + zeros_under at i % 2 ^ level = rw turned at (mod-pow-add (zeros_under at i) 1 level) in
    omega (arith, split, moved_within at level i, moved_within at (level + 1) i)

stand_stays : (at level i : ℕ) → bit_at (zeros_under at i) level ≡ 0 → stand at level i ≡ stand at (level + 1) i
stand_stays at level i none = let next : stand at level i ≡ stand at (level + 1) i + 2 ^ level * 0 = rw none at (stand_next at level i) in omega (arith, next)

stand_moves : (at level i : ℕ) → bit_at (zeros_under at i) level ≡ 1 → stand at level i ≡ 2 ^ level + stand at (level + 1) i
stand_moves at level i one = let next : stand at level i ≡ stand at (level + 1) i + 2 ^ level * 1 = rw one at (stand_next at level i) in omega (arith, next)

stand_first : (at i : ℕ) → stand at 0 i ≡ i
stand_first at i = omega arith

-- after all steps
stand_last : (at i : ℕ) → i < 64 → stand at 6 i ≡ ones_under at i
stand_last at i lt = omega (arith, under_parts at i)

count_there : (at level count i p : ℕ) → IsCount at level count → i < 64 → stand at level i ≡ p → bit_at count p ≡ bit_at (zeros_under at i) level
count_there at level count i p is lt here =
    ap (bit_at count) (sym here) ∙ is (stand at level i) (omega arith) ∙ stand_count at level i

-- ---- together

-- the ones of a word are the bits at the ones of another that are 1, where they stand before the step of a level
pub record ArePacked (bits at level made : ℕ) : Type 0 where
  pub has : (i : ℕ) → i < 64 → bit_at at i ≡ 1 → bit_at bits i ≡ 1 → bit_at made (stand at level i) ≡ 1
  pub only : (p : ℕ) → bit_at made p ≡ 1 → (i : ℕ) × (i < 64) × (bit_at at i ≡ 1) × (bit_at bits i ≡ 1) × (stand at level i ≡ p)

pub packed_first : (bits at : ℕ) → at < 2 ^ 64 → ArePacked bits at 0 (bit_and bits at)
packed_first bits at below = record {
  has = λ i lt one bit. ap (bit_at (bit_and bits at)) (stand_first at i) ∙ bit_at_and bits at i ∙ omega (arith, one, bit);
  only = λ p one.
      let both : min (bit_at bits p) (bit_at at p) ≡ 1 = sym (bit_at_and bits at p) ∙ one in
      let there : bit_at at p ≡ 1 = omega (arith, both, bit_at-lt at p, bit_at-lt bits p) in
      let within : p < 64 = elim (cases_lt p 64) [ inl lt ↦ lt | inr above ↦ absurd (omega (arith, there, bit_at_above at 64 p below above)) ] in
      (p, within, there, omega (arith, both, bit_at-lt at p, bit_at-lt bits p), stand_first at p);
}

-- the bits at the ones of a word lowered
abbrev pub lower : ℕ → ℕ → ℕ → ℕ
lower word moving by = bit_or (bit_xor word (bit_and word moving)) (bit_and word moving / 2 ^ by)

lower_bit : (word moving by p : ℕ) → bit_at (lower word moving by) p ≡ max ((bit_at word p + min (bit_at word p) (bit_at moving p)) % 2) (min (bit_at word (by + p)) (bit_at moving (by + p)))
lower_bit word moving by p =
    bit_at_or (bit_xor word (bit_and word moving)) (bit_and word moving / 2 ^ by) p
    ∙ rw (bit_at_xor word (bit_and word moving) p, bit_at_shr (bit_and word moving) by p, bit_at_and word moving p, bit_at_and word moving (by + p)) refl

pub packed_more : (bits at level count made : ℕ) → IsCount at level count → ArePacked bits at level made → ArePacked bits at (level + 1) (lower made count (2 ^ level))
packed_more bits at level count made is packed = record {
  has = λ i lt one bit.
      let here = packed.has i lt one bit in
      let moves = count_there at level count i (stand at level i) is lt refl in
      elim (cases_eq (bit_at (zeros_under at i) level) 1) [
        | inl goes ↦
            let place = stand_moves at level i goes in
            let word_there : bit_at made (2 ^ level + stand at (level + 1) i) ≡ 1 = ap (bit_at made) (sym place) ∙ here in
            let count_here : bit_at count (2 ^ level + stand at (level + 1) i) ≡ 1 = ap (bit_at count) (sym place) ∙ moves ∙ goes in
            lower_bit made count (2 ^ level) (stand at (level + 1) i)
            ∙ omega (arith, word_there, count_here, bit_at-lt made (stand at (level + 1) i), bit_at-lt count (stand at (level + 1) i))
        | inr other ↦
            let stays : bit_at (zeros_under at i) level ≡ 0 = omega (arith, other, bit_at-lt (zeros_under at i) level) in
            ap (bit_at (lower made count (2 ^ level))) (sym (stand_stays at level i stays)) ∙ lower_bit made count (2 ^ level) (stand at level i)
            ∙ omega (arith, here, moves, stays, bit_at-lt made (2 ^ level + stand at level i), bit_at-lt count (2 ^ level + stand at level i))
      ];
  only = λ p one.
      let parts : max ((bit_at made p + min (bit_at made p) (bit_at count p)) % 2) (min (bit_at made (2 ^ level + p)) (bit_at count (2 ^ level + p))) ≡ 1 = sym (lower_bit made count (2 ^ level) p) ∙ one in
      elim (cases_eq (min (bit_at made (2 ^ level + p)) (bit_at count (2 ^ level + p))) 1) [
        | inl moved ↦
            let h = packed.only (2 ^ level + p) (omega (arith, moved, bit_at-lt made (2 ^ level + p), bit_at-lt count (2 ^ level + p))) in
            let goes : bit_at (zeros_under at h.0) level ≡ 1 = sym (count_there at level count h.0 (2 ^ level + p) is h.1 h.4) ∙ omega (arith, moved, bit_at-lt made (2 ^ level + p), bit_at-lt count (2 ^ level + p)) in
            (h.0, h.1, h.2, h.3, omega (arith, stand_moves at level h.0 goes, h.4))
        | inr not_moved ↦
            let kept : (bit_at made p ≡ 1) × (bit_at count p ≡ 0) = (omega (arith, parts, not_moved, bit_at-lt made p, bit_at-lt count p, bit_at-lt made (2 ^ level + p), bit_at-lt count (2 ^ level + p)), omega (arith, parts, not_moved, bit_at-lt made p, bit_at-lt count p, bit_at-lt made (2 ^ level + p), bit_at-lt count (2 ^ level + p))) in
            let h = packed.only p kept.0 in
            let stays : bit_at (zeros_under at h.0) level ≡ 0 = sym (count_there at level count h.0 p is h.1 h.4) ∙ kept.1 in
            (h.0, h.1, h.2, h.3, sym (stand_stays at level h.0 stays) ∙ h.4)
      ];
}

rank_same : (n i j : ℕ) → bit_at n i ≡ 1 → bit_at n j ≡ 1 → ones_under n i ≡ ones_under n j → i ≡ j
rank_same n i j one_i one_j same =
    elim (cases_eq i j) [
      | inl here ↦ here
      | inr other ↦ elim (cases_lt i j) [
        | inl lt ↦ absurd (omega (arith, same, one_i, under_more n i, under_le n (suc i) j (omega arith)))
        | inr le ↦ absurd (omega (arith, same, one_j, under_more n j, under_le n (suc j) i (omega arith)))
      ]
    ]

pub packed_bits : (bits at made : ℕ) → ArePacked bits at 6 made → (i : ℕ) → i < 64 → bit_at at i ≡ 1 → bit_at made (ones_under at i) ≡ bit_at bits i
packed_bits bits at made packed i lt one =
    elim (cases_eq (bit_at bits i) 1) [
      | inl bit ↦ ap (bit_at made) (sym (stand_last at i lt)) ∙ packed.has i lt one bit ∙ sym bit
      | inr other ↦ elim (cases_eq (bit_at made (ones_under at i)) 1) [
        | inl there ↦
            let h = packed.only (ones_under at i) there in
            let same : h.0 ≡ i = rank_same at h.0 i h.2 one (sym (stand_last at h.0 h.1) ∙ h.4) in
            absurd (other (ap (bit_at bits) (sym same) ∙ h.3))
        | inr none ↦ omega (arith, other, none, bit_at-lt bits i, bit_at-lt made (ones_under at i))
      ]
    ]

pub packed_below : (bits at made : ℕ) → at < 2 ^ 64 → ArePacked bits at 6 made → made < 2 ^ count_ones at
packed_below bits at made below packed =
    let same : made % 2 ^ count_ones at ≡ made = same_from_bits (made % 2 ^ count_ones at) made (λ p. elim (cases_lt p (count_ones at)) [
      | inl lt ↦ bit_at_mod made (count_ones at) p lt
      | inr le ↦ bit_at_above (made % 2 ^ count_ones at) (count_ones at) p (mod-lt made (pow_pos (count_ones at))) le ∙ sym (none p le)
    ]) in
    subst (λ (n : ℕ). n < 2 ^ count_ones at) same (mod-lt made (pow_pos (count_ones at)))
  where
    none : (p : ℕ) → count_ones at ≤ p → bit_at made p ≡ 0
    none p le =
        elim (cases_eq (bit_at made p) 1) [
          | inl one ↦ let h = packed.only p one in absurd (omega (arith, le, h.4, stand_last at h.0 h.1, under_few at h.0 below h.1 h.2))
          | inr other ↦ omega (arith, other, bit_at-lt made p)
        ]

-- ---- and back

-- the bits of a number stand where the ones of a word do before the step of a level
abbrev pub AreLaid : ℕ → ℕ → ℕ → ℕ → Type 0
AreLaid number at level made = (i : ℕ) → i < 64 → bit_at at i ≡ 1 → bit_at made (stand at level i) ≡ bit_at number (ones_under at i)

pub laid_first : (number at : ℕ) → AreLaid number at 6 number
laid_first number at i lt one = ap (bit_at number) (stand_last at i lt)

pub laid_all : (number at made : ℕ) → AreLaid number at 0 made → (i : ℕ) → i < 64 → bit_at at i ≡ 1 → bit_at made i ≡ bit_at number (ones_under at i)
laid_all number at made laid i lt one = ap (bit_at made) (sym (stand_first at i)) ∙ laid i lt one

-- at the ones of a word, the bits from below
abbrev pub lift : ℕ → ℕ → ℕ → ℕ
lift word moving by = bit_or (bit_and word (bit_not w64 moving)) (bit_and (word * 2 ^ by % 2 ^ 64) moving)

pub laid_more : (number at level count made : ℕ) → count < 2 ^ 64 → IsCount at level count → AreLaid number at (level + 1) made → AreLaid number at level (lift made count (2 ^ level))
laid_more number at level count made small is laid i lt one =
    let within : stand at level i < 64 = omega arith in
    let moves = count_there at level count i (stand at level i) is lt refl in
    let parts : bit_at (lift made count (2 ^ level)) (stand at level i) ≡ max (min (bit_at made (stand at level i)) (1 - bit_at count (stand at level i))) (min (bit_at (made * 2 ^ (2 ^ level)) (stand at level i)) (bit_at count (stand at level i))) =
    bit_at_or (bit_and made (bit_not w64 count)) (bit_and (made * 2 ^ (2 ^ level) % 2 ^ 64) count) (stand at level i)
    ∙ rw (bit_at_and made (bit_not w64 count) (stand at level i), bit_at_and (made * 2 ^ (2 ^ level) % 2 ^ 64) count (stand at level i), bit_at_not w64 count (stand at level i) small within, bit_at_mod (made * 2 ^ (2 ^ level)) 64 (stand at level i) within) refl in
    elim (cases_eq (bit_at (zeros_under at i) level) 1) [
      | inl goes ↦
          let place = stand_moves at level i goes in
          let back : stand at level i - 2 ^ level ≡ stand at (level + 1) i = omega (arith, place) in
          let from : bit_at (made * 2 ^ (2 ^ level)) (stand at level i) ≡ bit_at made (stand at (level + 1) i) = bit_at_shl made (2 ^ level) (stand at level i) (omega (arith, place)) ∙ ap (bit_at made) back in
          parts ∙ omega (arith, moves, goes, from, bit_at-lt made (stand at (level + 1) i)) ∙ laid i lt one
      | inr other ↦
          let stays : bit_at (zeros_under at i) level ≡ 0 = omega (arith, other, bit_at-lt (zeros_under at i) level) in
          parts ∙ omega (arith, moves, stays, bit_at-lt made (stand at level i)) ∙ ap (bit_at made) (stand_stays at level i stays) ∙ laid i lt one
    ]

-- ---- all six steps

pub each_level : (at a b c d e f : ℕ) → IsCount at 0 a → IsCount at 1 b → IsCount at 2 c → IsCount at 3 d → IsCount at 4 e → IsCount at 5 f
    → (level i : ℕ) → level < 6 → i < 64 → bit_at (slice_index (a ∷ b ∷ c ∷ d ∷ e ∷ f ∷ []) level) i ≡ bit_at (zeros_under at i) level
each_level at a b c d e f is_a is_b is_c is_d is_e is_f zero i lt = is_a i
each_level at a b c d e f is_a is_b is_c is_d is_e is_f (suc zero) i lt = is_b i
each_level at a b c d e f is_a is_b is_c is_d is_e is_f (suc (suc zero)) i lt = is_c i
each_level at a b c d e f is_a is_b is_c is_d is_e is_f (suc (suc (suc zero))) i lt = is_d i
each_level at a b c d e f is_a is_b is_c is_d is_e is_f (suc (suc (suc (suc zero)))) i lt = is_e i
each_level at a b c d e f is_a is_b is_c is_d is_e is_f (suc (suc (suc (suc (suc zero))))) i lt = is_f i
each_level at a b c d e f is_a is_b is_c is_d is_e is_f (suc (suc (suc (suc (suc (suc level)))))) i lt = absurd (omega arith)

pub each_fits : (a b c d e f : ℕ) → a < 2 ^ 64 → b < 2 ^ 64 → c < 2 ^ 64 → d < 2 ^ 64 → e < 2 ^ 64 → f < 2 ^ 64 → (level : ℕ) → level < 6 → slice_index (a ∷ b ∷ c ∷ d ∷ e ∷ f ∷ []) level < 2 ^ 64
each_fits a b c d e f a_lt b_lt c_lt d_lt e_lt f_lt zero lt = a_lt
each_fits a b c d e f a_lt b_lt c_lt d_lt e_lt f_lt (suc zero) lt = b_lt
each_fits a b c d e f a_lt b_lt c_lt d_lt e_lt f_lt (suc (suc zero)) lt = c_lt
each_fits a b c d e f a_lt b_lt c_lt d_lt e_lt f_lt (suc (suc (suc zero))) lt = d_lt
each_fits a b c d e f a_lt b_lt c_lt d_lt e_lt f_lt (suc (suc (suc (suc zero)))) lt = e_lt
each_fits a b c d e f a_lt b_lt c_lt d_lt e_lt f_lt (suc (suc (suc (suc (suc zero))))) lt = f_lt
each_fits a b c d e f a_lt b_lt c_lt d_lt e_lt f_lt (suc (suc (suc (suc (suc (suc level)))))) lt = absurd (omega arith)

-- six words of counts
abbrev pub AreCounts : ℕ → List ℕ → Type 0
AreCounts at counts = (level i : ℕ) → level < 6 → i < 64 → bit_at (slice_index counts level) i ≡ bit_at (zeros_under at i) level

module _ (at : ℕ) (counts : List ℕ) (are : AreCounts at counts) where
  of_level : (level : ℕ) → level < 6 → IsCount at level (slice_index counts level)
  of_level level lt i = are level i lt

  step : (bits level word new : ℕ) → level < 6 → ArePacked bits at level word → new ≡ lower word (slice_index counts level) (2 ^ level) → ArePacked bits at (level + 1) new
  step bits level word new lt packed is = rw is (packed_more bits at level (slice_index counts level) word (of_level level lt) packed)

  pub packed_six : (bits a b c d e f : ℕ) → at < 2 ^ 64 → a ≡ lower (bit_and bits at) (slice_index counts 0) 1 → b ≡ lower a (slice_index counts 1) 2 → c ≡ lower b (slice_index counts 2) 4 → d ≡ lower c (slice_index counts 3) 8 → e ≡ lower d (slice_index counts 4) 16 → f ≡ lower e (slice_index counts 5) 32 → ArePacked bits at 6 f
  packed_six bits a b c d e f below a_is b_is c_is d_is e_is f_is =
      let first = step bits 0 (bit_and bits at) a (omega arith) (packed_first bits at below) a_is in
      let second = step bits 1 a b (omega arith) first b_is in
      let third = step bits 2 b c (omega arith) second c_is in
      let fourth = step bits 3 c d (omega arith) third d_is in
      let fifth = step bits 4 d e (omega arith) fourth e_is in
      step bits 5 e f (omega arith) fifth f_is

  back : (number level word new : ℕ) → level < 6 → slice_index counts level < 2 ^ 64 → AreLaid number at (level + 1) word → new ≡ lift word (slice_index counts level) (2 ^ level) → AreLaid number at level new
  back number level word new lt small laid is = rw is (laid_more number at level (slice_index counts level) word small (of_level level lt) laid)

  pub laid_six : (number a b c d e f : ℕ) → ((level : ℕ) → level < 6 → slice_index counts level < 2 ^ 64) → a ≡ lift number (slice_index counts 5) 32 → b ≡ lift a (slice_index counts 4) 16 → c ≡ lift b (slice_index counts 3) 8 → d ≡ lift c (slice_index counts 2) 4 → e ≡ lift d (slice_index counts 1) 2 → f ≡ lift e (slice_index counts 0) 1 → AreLaid number at 0 f
  laid_six number a b c d e f small a_is b_is c_is d_is e_is f_is =
      let first = back number 5 number a (omega arith) (small 5 (omega arith)) (laid_first number at) a_is in
      let second = back number 4 a b (omega arith) (small 4 (omega arith)) first b_is in
      let third = back number 3 b c (omega arith) (small 3 (omega arith)) second c_is in
      let fourth = back number 2 c d (omega arith) (small 2 (omega arith)) third d_is in
      let fifth = back number 1 d e (omega arith) (small 1 (omega arith)) fourth e_is in
      back number 0 e f (omega arith) (small 0 (omega arith)) fifth f_is
