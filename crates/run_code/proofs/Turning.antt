-- A word's bits swapped with their neighbours, and a word turned round by six swaps.
use Rattle.std.proofs.Common.{◌≡◌, ℕ, zero, suc, ◌+◌, ◌-◌, ◌*◌, ◌/◌, ◌%◌, ◌^◌, ◌<◌, Bool, true, false, cond, eqb, ltb, ◌&&◌, min, max, bit_and, bit_or, refl, ap, ◌∙◌, arith, inl, inr}
use Rattle.std.specs.Int.{bit_at}
use Rattle.std.proofs.lemmas.Bool.{cases_lt, cases_eq, eqb-true, eq-eqb, ne_eqb, lt-ltb, le-ltb, ltb-true}
use Rattle.std.proofs.lemmas.Nat.Bits.{bit_at_and, bit_at_or, bit_at-lt}
use Rattle.bit_vectors.proofs.NumberBits.{bit_at_mod, bit_at_shl, bit_at_shl_low, bit_at_shr}

-- ---- what holds of every weight below a number, by trying each

tried : ℕ → (ℕ → Bool) → Bool
tried zero p = true
tried (suc n) p = p n && tried n p

and_first : (a b : Bool) → (a && b) ≡ true → a ≡ true
and_first true b e = refl
and_first false b e = absurd cc

and_second : (a b : Bool) → (a && b) ≡ true → b ≡ true
and_second true b e = e
and_second false b e = absurd cc

each : (n : ℕ) (p : ℕ → Bool) → tried n p ≡ true → (i : ℕ) → i < n → p i ≡ true
unfolding tried
each zero p all i lt = absurd (omega arith)
each (suc n) p all i lt =
    elim (cases_eq i n) [
      | inl here ↦ rw here (and_first (p n) (tried n p) all)
      | inr other ↦ each n p (and_second (p n) (tried n p) all) i (omega arith)
    ]

-- ---- one swap

-- the bits at the ones of `low` and those so many places above them, swapped
abbrev pub swap : ℕ → ℕ → ℕ → ℕ
swap low by word = bit_or (bit_and (word / 2 ^ by) low) (bit_and word low * 2 ^ by % 2 ^ 64)

-- where the bit of a weight comes from
abbrev source : ℕ → ℕ → ℕ → ℕ
source low by i = cond (eqb (bit_at low i) 1) (i + by) (i - by)

-- the bit of `low` so many places below a weight
abbrev lower : ℕ → ℕ → ℕ → ℕ
lower low by i = cond (ltb i by) 0 (bit_at low (i - by))

-- of a weight and the weight so many places below it exactly one has a 1, and its bit comes from a word
abbrev is_swapped : ℕ → ℕ → ℕ → Bool
is_swapped low by i = eqb (bit_at low i + lower low by i) 1 && ltb (source low by i) 64

module _ (low by word i : ℕ) (lt : i < 64) where
  first_part : bit_at (bit_and (word / 2 ^ by) low) i ≡ min (bit_at word (i + by)) (bit_at low i)
  first_part =
      let place : by + i ≡ i + by = omega arith in
      bit_at_and (word / 2 ^ by) low i ∙ rw (bit_at_shr word by i, place) refl

  second_part : bit_at (bit_and word low * 2 ^ by % 2 ^ 64) i ≡ min (bit_at word (i - by)) (lower low by i)
  second_part =
      bit_at_mod (bit_and word low * 2 ^ by) 64 i lt ∙ elim (cases_lt i by) [
        | inl below ↦ rw (lt-ltb i by below) (bit_at_shl_low (bit_and word low) by i below ∙ omega arith)
        | inr above ↦ rw (le-ltb i by above) (bit_at_shl (bit_and word low) by i above ∙ bit_at_and word low (i - by))
      ]

  parts : bit_at (swap low by word) i ≡ max (min (bit_at word (i + by)) (bit_at low i)) (min (bit_at word (i - by)) (lower low by i))
  parts = bit_at_or (bit_and (word / 2 ^ by) low) (bit_and word low * 2 ^ by % 2 ^ 64) i ∙ rw (first_part, second_part) refl

  swap_bit : is_swapped low by i ≡ true → bit_at (swap low by word) i ≡ bit_at word (source low by i)
  swap_bit half =
      let one : bit_at low i + lower low by i ≡ 1 = eqb-true (bit_at low i + lower low by i) 1 (and_first _ _ half) in
      parts ∙ elim (cases_eq (bit_at low i) 1) [
        | inl here ↦ rw (eq-eqb (bit_at low i) 1 here) (omega (arith, here, one, bit_at-lt word (i + by), bit_at-lt word (i - by)))
        | inr there ↦ rw (ne_eqb (bit_at low i) 1 there) (omega (arith, there, one, bit_at-lt low i, bit_at-lt word (i + by), bit_at-lt word (i - by)))
      ]

-- ---- six swaps

abbrev low_1 : ℕ
low_1 = 6148914691236517205

abbrev low_2 : ℕ
low_2 = 3689348814741910323

abbrev low_4 : ℕ
low_4 = 1085102592571150095

abbrev low_8 : ℕ
low_8 = 71777214294589695

abbrev low_16 : ℕ
low_16 = 281470681808895

abbrev low_32 : ℕ
low_32 = 4294967295

swap_each : (low by : ℕ) → tried 64 (is_swapped low by) ≡ true → (word new i : ℕ) → new ≡ swap low by word → i < 64 → bit_at new i ≡ bit_at word (source low by i)
swap_each low by all word new i is lt = ap (λ (n : ℕ). bit_at n i) is ∙ swap_bit low by word i lt (each 64 (is_swapped low by) all i lt)

source_lt : (low by : ℕ) → tried 64 (is_swapped low by) ≡ true → (i : ℕ) → i < 64 → source low by i < 64
source_lt low by all i lt = ltb-true (source low by i) 64 (and_second _ _ (each 64 (is_swapped low by) all i lt))

all_1 : tried 64 (is_swapped low_1 1) ≡ true
unfolding tried
all_1 = refl

all_2 : tried 64 (is_swapped low_2 2) ≡ true
unfolding tried
all_2 = refl

all_4 : tried 64 (is_swapped low_4 4) ≡ true
unfolding tried
all_4 = refl

all_8 : tried 64 (is_swapped low_8 8) ≡ true
unfolding tried
all_8 = refl

all_16 : tried 64 (is_swapped low_16 16) ≡ true
unfolding tried
all_16 = refl

all_32 : tried 64 (is_swapped low_32 32) ≡ true
unfolding tried
all_32 = refl

abbrev six_sources : ℕ → ℕ
six_sources i = source low_1 1 (source low_2 2 (source low_4 4 (source low_8 8 (source low_16 16 (source low_32 32 i)))))

all_six : tried 64 (λ i. eqb (six_sources i) (63 - i)) ≡ true
unfolding tried
all_six = refl

-- after the six swaps the bits are in the reverse order
pub turned_by : (word a b c d e f : ℕ) → a ≡ swap low_1 1 word → b ≡ swap low_2 2 a → c ≡ swap low_4 4 b → d ≡ swap low_8 8 c → e ≡ swap low_16 16 d → f ≡ swap low_32 32 e → (i : ℕ) → i < 64 → bit_at f i ≡ bit_at word (63 - i)
turned_by word a b c d e f a_is b_is c_is d_is e_is f_is i lt =
    let lt_e = source_lt low_32 32 all_32 i lt in
    let lt_d = source_lt low_16 16 all_16 (source low_32 32 i) lt_e in
    let lt_c = source_lt low_8 8 all_8 (source low_16 16 (source low_32 32 i)) lt_d in
    let lt_b = source_lt low_4 4 all_4 (source low_8 8 (source low_16 16 (source low_32 32 i))) lt_c in
    let lt_a = source_lt low_2 2 all_2 (source low_4 4 (source low_8 8 (source low_16 16 (source low_32 32 i)))) lt_b in
    swap_each low_32 32 all_32 e f i f_is lt
    ∙ swap_each low_16 16 all_16 d e (source low_32 32 i) e_is lt_e
    ∙ swap_each low_8 8 all_8 c d (source low_16 16 (source low_32 32 i)) d_is lt_d
    ∙ swap_each low_4 4 all_4 b c (source low_8 8 (source low_16 16 (source low_32 32 i))) c_is lt_c
    ∙ swap_each low_2 2 all_2 a b (source low_4 4 (source low_8 8 (source low_16 16 (source low_32 32 i)))) b_is lt_b
    ∙ swap_each low_1 1 all_1 word a (source low_2 2 (source low_4 4 (source low_8 8 (source low_16 16 (source low_32 32 i))))) a_is lt_a
    ∙ ap (bit_at word) (eqb-true (six_sources i) (63 - i) (each 64 (λ (j : ℕ). eqb (six_sources j) (63 - j)) all_six i lt))
