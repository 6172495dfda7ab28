-- Reading counts is exact for the code.
use Rattle.std.proofs.Common.{◌≡◌, ℕ, zero, suc, ◌+◌, ◌-◌, ◌*◌, ◌^◌, ◌<◌, ◌≤◌, Bool, true, false, cond, eqb, leb, List, [], ◌∷◌, ◌++◌, replicate, Result, Ok, Err, refl, sym, ap, ◌∙◌, arith, inl, inr}
use Rattle.std.specs.Int.{bit_at}
use Rattle.std.proofs.lemmas.List.{append-nil}
use Rattle.std.proofs.lemmas.Bool.{cases_lt, false≢true, leb-true, le-leb, lt-leb}
use Rattle.std.proofs.lemmas.Nat.{pow_pos}
use Rattle.std.proofs.lemmas.Nat.Bits.{bit_at_above}
use Rattle.bit_vectors.specs.Vectors.{number_bits}
use Rattle.std.specs.Prelude.{IfOk}
use Rattle.bit_vectors.specs.declared.fault.BitFault.{BitFault}
use Rattle.bit_vectors.specs.Reading.{EyeState, bits_left, Gives, Parsed, Read, ◌>>=◌, bit_where, allowed, IsExact}
use Rattle.bit_vectors.proofs.ExactReading.{IsBitWhere, IsWordThen, IsExact-give, IsExact-bit_where, IsExact-same, IsExact-then}
use Rattle.count_code.specs.declared.count.Count.{Count}
use Rattle.count_code.specs.declared.count.Count.TheVariants.{Value, End}
use Rattle.count_code.specs.Code.{digits, count_bits}
use Rattle.count_code.specs.Counts.{word_of, IsCount, IsWithin, IsCodeOf, parse_bounded, parse_long, parse_above_one, parse_after_one, parse_count}
use Rattle.count_code.proofs.CountWords.{power_le, power_more, HasDigits, digits_is, digits_of, digits_long, count_bits-one, count_bits-short, count_bits-long, IsNumberOf, next_bit, number_bits-suc, first_number, too_high, below_power, below_most, IsExact-bounded_at}

-- ---- numbers after zeros

-- a number of six digits or more, after the given number of the zeros before it
pub record IsLongOf (most seen n : ℕ) (word : List Bool) : Type 0 where
  pub low : 2 ^ (seen + 5) ≤ n
  pub fits : n ≤ most
  pub is : word ≡ number_bits (2 * digits n - 6 - seen) n

-- if no more zeros are allowed, the digits follow
digits_follow : (seen n : ℕ) → 2 ^ (seen + 5) ≤ n → n < 2 ^ (seen + 6) → number_bits (2 * digits n - 6 - seen) n ≡ true ∷ number_bits (seen + 5) n
digits_follow seen n low high =
    let same_power : seen + 5 + 1 ≡ seen + 6 = omega arith in
    let h : HasDigits n (seen + 5) = record { low = low; high = rw same_power high } in
    let width : 2 * digits n - 6 - seen ≡ suc (seen + 5) = omega (arith, digits_is n (seen + 5) h) in
    let first : eqb (bit_at n (seen + 5)) 1 ≡ true = next_bit 0 (seen + 5) n true (omega arith) (omega (arith, power_more (seen + 5), ap (λ (k : ℕ). 2 ^ k) same_power)) in
    rw (width, number_bits-suc (seen + 5) n, first) refl

-- otherwise a zero follows
zero_follows : (seen n : ℕ) → 2 ^ (seen + 6) ≤ n → number_bits (2 * digits n - 6 - seen) n ≡ false ∷ number_bits (2 * digits n - 6 - (seen + 1)) n
zero_follows seen n low =
    let d = digits_of n (omega (arith, pow_pos (seen + 6), low)) in
    let more : seen + 6 ≤ d.0 = elim (cases_lt d.0 (seen + 6)) [
      | inl lt ↦ absurd (omega (arith, d.2.high, power_le (d.0 + 1) (seen + 6) (omega arith)))
      | inr le ↦ le
    ] in
    let width : 2 * digits n - 6 - seen ≡ suc (2 * digits n - 6 - (seen + 1)) = omega (arith, d.1) in
    let below : n < 2 ^ (d.0 + 1) = d.2.high in
    let first : eqb (bit_at n (2 * digits n - 6 - (seen + 1))) 1 ≡ false = rw (bit_at_above n (d.0 + 1) (2 * digits n - 6 - (seen + 1)) below (omega (arith, d.1))) refl in
    rw (width, number_bits-suc (2 * digits n - 6 - (seen + 1)) n, first) refl

-- what follows a bit after zeros
abbrev IsAfterZeros : ℕ → ℕ → Bool → ℕ → List Bool → Type 0
IsAfterZeros most seen true = IsNumberOf most 1 (seen + 5)
IsAfterZeros most seen false = IsLongOf most (seen + 1)

two_powers : (seen : ℕ) → (1 + 1) * 2 ^ (seen + 5) ≡ 2 ^ (seen + 6)
two_powers seen = let same_power : seen + 5 + 1 ≡ seen + 6 = omega arith in omega (arith, power_more (seen + 5), ap (λ (k : ℕ). 2 ^ k) same_power)

next_zeros : (seen : ℕ) → 2 ^ (seen + 1 + 5) ≡ 2 ^ (seen + 6)
next_zeros seen = let same_power : seen + 1 + 5 ≡ seen + 6 = omega arith in ap (λ (k : ℕ). 2 ^ k) same_power

long_joined : (most seen n : ℕ) (word : List Bool) (bit : Bool) (front back : List Bool) → front ≡ bit ∷ [] → IsAfterZeros most seen bit n back → word ≡ front ++ back → IsLongOf most seen n word
long_joined most seen n word true front back f b w =
    let low : 2 ^ (seen + 5) ≤ n = omega (arith, b.low) in
    record { low = low; fits = b.fits; is = rw (w, f, b.is, digits_follow seen n low (omega (arith, b.high, two_powers seen))) refl }
long_joined most seen n word false front back f b w =
    let low : 2 ^ (seen + 6) ≤ n = omega (arith, b.low, next_zeros seen) in
    record { low = omega (arith, power_le (seen + 5) (seen + 6) (omega arith)); fits = b.fits; is = rw (w, f, b.is, zero_follows seen n low) refl }

-- a word after zeros, by its first bit
long_apart : (most seen n : ℕ) (word : List Bool) (may_be_zero : Bool) → IsLongOf most seen n word → (2 ^ (seen + 6) ≤ n → may_be_zero ≡ true) → IsWordThen (IsBitWhere (allowed may_be_zero true)) (IsAfterZeros most seen) n word
long_apart most seen n word may_be_zero l may =
    elim (cases_lt n (2 ^ (seen + 6))) [
      | inl lt ↦ (true, true ∷ [], number_bits (seen + 5) n, (refl, refl), record { low = omega (arith, l.low); high = omega (arith, two_powers seen); fits = l.fits; is = refl }, l.is ∙ digits_follow seen n l.low lt)
      | inr ge ↦ (false, false ∷ [], number_bits (2 * digits n - 6 - (seen + 1)) n, (may ge, refl), record { low = omega (arith, next_zeros seen); fits = l.fits; is = refl }, l.is ∙ zero_follows seen n ge)
    ]

last_exact : (most seen : ℕ) → 2 ^ (seen + 5) ≤ most → (bit : Bool) → allowed false true bit ≡ true → IsExact (IsAfterZeros most seen bit) (parse_bounded most 1 (seen + 5))
last_exact most seen low true ok = IsExact-bounded_at most (seen + 5) 1 (omega arith)
last_exact most seen low false ok = absurd (false≢true ok)

after_exact : (most more seen : ℕ) → 2 ^ (seen + 5) ≤ most → (2 ^ (seen + 1 + 5) ≤ most → IsExact (IsLongOf most (seen + 1)) (parse_long most (seen + 1) more)) → (bit : Bool) → allowed (leb (2 ^ (seen + 6)) most) true bit ≡ true
    → IsExact (IsAfterZeros most seen bit) (λ rest. cond bit (parse_bounded most 1 (seen + 5) rest) (parse_long most (seen + 1) more rest))
after_exact most more seen low others true ok = IsExact-bounded_at most (seen + 5) 1 (omega arith)
after_exact most more seen low others false ok = others (omega (arith, next_zeros seen, leb-true (2 ^ (seen + 6)) most ok))

some_after : (most seen : ℕ) (may_be_zero : Bool) → 2 ^ (seen + 5) ≤ most → (may_be_zero ≡ true → 2 ^ (seen + 6) ≤ most) → (bit : Bool) → allowed may_be_zero true bit ≡ true → (n : ℕ) × (word : List Bool) × IsAfterZeros most seen bit n word
some_after most seen may_be_zero low may true ok =
    (1 * 2 ^ (seen + 5), number_bits (seen + 5) (1 * 2 ^ (seen + 5)), first_number most 1 (seen + 5) (omega arith))
some_after most seen may_be_zero low may false ok =
    (2 ^ (seen + 1 + 5), number_bits (2 * digits (2 ^ (seen + 1 + 5)) - 6 - (seen + 1)) (2 ^ (seen + 1 + 5)), record { low = omega arith; fits = omega (arith, may ok, next_zeros seen); is = refl })

pub IsExact-long_at : (most more seen : ℕ) → 2 ^ (seen + 5) ≤ most → most < 2 ^ (seen + 6 + more) → IsExact (IsLongOf most seen) (parse_long most seen more)
unfolding parse_long
IsExact-long_at most zero seen low high =
    let last : most < 2 ^ (seen + 6) = let e : seen + 6 + 0 ≡ seen + 6 = omega arith in rw e at high in
    IsExact-same (IsWordThen (IsBitWhere (allowed false true)) (IsAfterZeros most seen)) (IsLongOf most seen)
    (λ bits. bit_where (allowed false true) bits >>= λ bit rest. parse_bounded most 1 (seen + 5) rest)
    (λ n word w. long_joined most seen n word w.0 w.1 w.2 w.3.1 w.4 w.5)
    (λ n word w. long_apart most seen n word false w (λ ge. absurd (too_high (2 ^ (seen + 6)) n most ge w.fits last)))
    (IsExact-then (IsBitWhere (allowed false true)) (IsAfterZeros most seen)
    (bit_where (allowed false true)) (λ bit. parse_bounded most 1 (seen + 5))
    (IsExact-bit_where (allowed false true) true refl)
    (λ bit word w. last_exact most seen low bit w.0)
    (λ bit word w. some_after most seen false low (λ e. absurd (false≢true e)) bit w.0))
IsExact-long_at most (suc more) seen low high =
    let later : most < 2 ^ (seen + 1 + 6 + more) = let e : seen + 6 + suc more ≡ seen + 1 + 6 + more = omega arith in rw e at high in
    IsExact-same (IsWordThen (IsBitWhere (allowed (leb (2 ^ (seen + 6)) most) true)) (IsAfterZeros most seen)) (IsLongOf most seen)
    (λ bits. bit_where (allowed (leb (2 ^ (seen + 6)) most) true) bits >>= λ bit rest. cond bit (parse_bounded most 1 (seen + 5) rest) (parse_long most (seen + 1) more rest))
    (λ n word w. long_joined most seen n word w.0 w.1 w.2 w.3.1 w.4 w.5)
    (λ n word w. long_apart most seen n word (leb (2 ^ (seen + 6)) most) w (λ ge. le-leb _ _ (below_most (2 ^ (seen + 6)) n most ge w.fits)))
    (IsExact-then (IsBitWhere (allowed (leb (2 ^ (seen + 6)) most) true)) (IsAfterZeros most seen)
    (bit_where (allowed (leb (2 ^ (seen + 6)) most) true)) (λ bit rest. cond bit (parse_bounded most 1 (seen + 5) rest) (parse_long most (seen + 1) more rest))
    (IsExact-bit_where (allowed (leb (2 ^ (seen + 6)) most) true) true refl)
    (λ bit word w. after_exact most more seen low (λ fits. IsExact-long_at most more (seen + 1) fits later) bit w.0)
    (λ bit word w. some_after most seen (leb (2 ^ (seen + 6)) most) low (λ e. leb-true _ _ e) bit w.0))

-- ---- what follows two ones

-- a count of two or more, less 2, after its first two bits
abbrev above_one_bits : ℕ → List Bool
above_one_bits n = cond (leb n 31) (false ∷ number_bits 5 n) (true ∷ number_bits (2 * digits n - 6) n)

abbrev pub IsAboveOne : ℕ → ℕ → List Bool → Type 0
IsAboveOne limit n word = (n + 2 ≤ limit) × (word ≡ above_one_bits n)

abbrev IsAboveOneTail : ℕ → Bool → ℕ → List Bool → Type 0
IsAboveOneTail limit true = IsLongOf (limit - 2) 0
IsAboveOneTail limit false = IsNumberOf (limit - 2) 0 5

above_joined : (limit n : ℕ) (word : List Bool) (bit : Bool) (front back : List Bool) → 2 ≤ limit → front ≡ bit ∷ [] → IsAboveOneTail limit bit n back → word ≡ front ++ back → IsAboveOne limit n word
above_joined limit n word true front back two f b w =
    let fits = b.fits in
    let low = b.low in
    let none : 2 * digits n - 6 - 0 ≡ 2 * digits n - 6 = omega arith in
    (omega arith, rw (w, f, b.is, lt-leb n 31 (omega arith), none) refl)
above_joined limit n word false front back two f b w =
    let fits = b.fits in
    let high = b.high in
    (omega arith, rw (w, f, b.is, le-leb n 31 (omega arith)) refl)

above_apart : (limit n : ℕ) (word : List Bool) → IsAboveOne limit n word → IsWordThen (IsBitWhere (allowed true (leb 34 limit))) (IsAboveOneTail limit) n word
above_apart limit n word a =
    let fits = a.0 in
    elim (cases_lt 31 n) [
      | inl long ↦
          let none : 2 * digits n - 6 - 0 ≡ 2 * digits n - 6 = omega arith in
          (true, true ∷ [], number_bits (2 * digits n - 6) n, (le-leb 34 limit (omega arith), refl), record { low = omega arith; fits = omega arith; is = rw none refl }, a.1 ∙ rw (lt-leb n 31 long) refl)
      | inr short ↦ (false, false ∷ [], number_bits 5 n, (refl, refl), record { low = omega arith; high = omega arith; fits = omega arith; is = refl }, a.1 ∙ rw (le-leb n 31 short) refl)
    ]

tail_exact : (limit : ℕ) → (bit : Bool) → allowed true (leb 34 limit) bit ≡ true → IsExact (IsAboveOneTail limit bit) (λ rest. cond bit (parse_long (limit - 2) 0 (limit - 2) rest) (parse_bounded (limit - 2) 0 5 rest))
tail_exact limit true ok =
    let long = leb-true 34 limit ok in
    IsExact-long_at (limit - 2) (limit - 2) 0 (omega arith) (below_power (limit - 2))
tail_exact limit false ok = IsExact-bounded_at (limit - 2) 5 0 (omega arith)

some_tail : (limit : ℕ) (bit : Bool) → allowed true (leb 34 limit) bit ≡ true → (n : ℕ) × (word : List Bool) × IsAboveOneTail limit bit n word
some_tail limit true ok =
    let long = leb-true 34 limit ok in
    (32, number_bits (2 * digits 32 - 6 - 0) 32, record { low = omega arith; fits = omega arith; is = refl })
some_tail limit false ok = (0 * 2 ^ 5, number_bits 5 (0 * 2 ^ 5), first_number (limit - 2) 0 5 (omega arith))

pub IsExact-above_one_at : (limit : ℕ) → 2 ≤ limit → IsExact (IsAboveOne limit) (parse_above_one limit)
unfolding parse_above_one
IsExact-above_one_at limit two =
    IsExact-same (IsWordThen (IsBitWhere (allowed true (leb 34 limit))) (IsAboveOneTail limit)) (IsAboveOne limit)
    (λ bits. bit_where (allowed true (leb 34 limit)) bits >>= λ bit rest. cond bit (parse_long (limit - 2) 0 (limit - 2) rest) (parse_bounded (limit - 2) 0 5 rest))
    (λ n word w. above_joined limit n word w.0 w.1 w.2 two w.3.1 w.4 w.5)
    (above_apart limit)
    (IsExact-then (IsBitWhere (allowed true (leb 34 limit))) (IsAboveOneTail limit)
    (bit_where (allowed true (leb 34 limit))) (λ bit rest. cond bit (parse_long (limit - 2) 0 (limit - 2) rest) (parse_bounded (limit - 2) 0 5 rest))
    (IsExact-bit_where (allowed true (leb 34 limit)) false refl)
    (λ bit word w. tail_exact limit bit w.0)
    (λ bit word w. some_tail limit bit w.0))

-- ---- what follows a one

abbrev pub IsAfterOne : ℕ → Count → List Bool → Type 0
IsAfterOne limit (Value a) word = (2 ≤ a) × (a ≤ limit) × (word ≡ true ∷ above_one_bits (a - 2))
IsAfterOne limit End word = word ≡ false ∷ []

-- a count, from the number that is read
abbrev IsCountOf : ℕ → Count → List Bool → Type 0
IsCountOf n count word = (count ≡ Value (n + 2)) × (word ≡ [])

abbrev IsAfterOneTail : ℕ → Bool → Count → List Bool → Type 0
IsAfterOneTail limit true count word = IsWordThen (IsAboveOne limit) IsCountOf count word
IsAfterOneTail limit false count word = (count ≡ End) × (word ≡ [])

value_joined : (limit n : ℕ) (word front back : List Bool) → n + 2 ≤ limit → front ≡ above_one_bits n → back ≡ [] → word ≡ (true ∷ []) ++ (front ++ back) → IsAfterOne limit (Value (n + 2)) word
value_joined limit n word front back fits f b w =
    let same : n + 2 - 2 ≡ n = omega arith in
    (omega arith, fits, rw (w, f, b, same) (ap (λ (x : List Bool). true ∷ x) (append-nil (above_one_bits n))))

after_joined : (limit : ℕ) (count : Count) (word : List Bool) (bit : Bool) (front back : List Bool) → front ≡ bit ∷ [] → IsAfterOneTail limit bit count back → word ≡ front ++ back → IsAfterOne limit count word
after_joined limit count word true front back f b w =
    rw b.4.0 (value_joined limit b.0 word b.1 b.2 b.3.0 b.3.1 b.4.1 (rw (w, f, b.5) refl))
after_joined limit count word false front back f b w = rw b.0 (rw (w, f, b.1) refl)

after_apart : (limit : ℕ) (count : Count) (word : List Bool) → IsAfterOne limit count word → IsWordThen (IsBitWhere (allowed true (leb 2 limit))) (IsAfterOneTail limit) count word
after_apart limit (Value a) word w =
    let least = w.0 in
    let most = w.1 in
    let same : a - 2 + 2 ≡ a = omega arith in
    (true, true ∷ [], above_one_bits (a - 2), (le-leb 2 limit (omega arith), refl), (a - 2, above_one_bits (a - 2), [], (rw same most, refl), (rw same refl, refl), sym (append-nil (above_one_bits (a - 2)))), w.2)
after_apart limit End word w = (false, false ∷ [], [], (refl, refl), (refl, refl), w)

after_exact_tail : (limit : ℕ) (bit : Bool) → allowed true (leb 2 limit) bit ≡ true → IsExact (IsAfterOneTail limit bit) (λ rest. cond bit (parse_above_one limit rest >>= λ n last. Read (Value (n + 2)) last) (Read End rest))
after_exact_tail limit true ok =
    IsExact-then (IsAboveOne limit) IsCountOf (parse_above_one limit) (λ n last. Read (Value (n + 2)) last)
    (IsExact-above_one_at limit (leb-true 2 limit ok))
    (λ n word w. IsExact-give (Value (n + 2)))
    (λ n word w. (Value (n + 2), [], (refl, refl)))
after_exact_tail limit false ok = IsExact-give End

some_after_one : (limit : ℕ) (bit : Bool) → allowed true (leb 2 limit) bit ≡ true → (count : Count) × (word : List Bool) × IsAfterOneTail limit bit count word
some_after_one limit true ok = (Value 2, above_one_bits 0 ++ [], (0, above_one_bits 0, [], (leb-true 2 limit ok, refl), (refl, refl), refl))
some_after_one limit false ok = (End, [], (refl, refl))

pub IsExact-after_one_at : (limit : ℕ) → IsExact (IsAfterOne limit) (parse_after_one limit)
unfolding parse_after_one
IsExact-after_one_at limit =
    IsExact-same (IsWordThen (IsBitWhere (allowed true (leb 2 limit))) (IsAfterOneTail limit)) (IsAfterOne limit)
    (λ bits. bit_where (allowed true (leb 2 limit)) bits >>= λ bit rest. cond bit (parse_above_one limit rest >>= λ n last. Read (Value (n + 2)) last) (Read End rest))
    (λ count word w. after_joined limit count word w.0 w.1 w.2 w.3.1 w.4 w.5)
    (after_apart limit)
    (IsExact-then (IsBitWhere (allowed true (leb 2 limit))) (IsAfterOneTail limit)
    (bit_where (allowed true (leb 2 limit))) (λ bit rest. cond bit (parse_above_one limit rest >>= λ n last. Read (Value (n + 2)) last) (Read End rest))
    (IsExact-bit_where (allowed true (leb 2 limit)) false refl)
    (λ bit word w. after_exact_tail limit bit w.0)
    (λ bit word w. some_after_one limit bit w.0))

-- ---- counts

abbrev IsCountTail : ℕ → Bool → Count → List Bool → Type 0
IsCountTail limit true count word = IsAfterOne limit count word
IsCountTail limit false count word = (count ≡ Value 1) × (word ≡ [])

-- the word of a count of two or more
count_bits-above_one : (a : ℕ) → 2 ≤ a → count_bits a ≡ true ∷ true ∷ above_one_bits (a - 2)
count_bits-above_one a least =
    elim (cases_lt 33 a) [
      | inl long ↦ count_bits-long a long ∙ rw (lt-leb (a - 2) 31 (omega arith)) refl
      | inr short ↦ count_bits-short a least short ∙ rw (le-leb (a - 2) 31 (omega arith)) refl
    ]

count_joined : (limit : ℕ) (count : Count) (word : List Bool) (bit : Bool) (front back : List Bool) → allowed (leb 1 limit) true bit ≡ true → front ≡ bit ∷ [] → IsCountTail limit bit count back → word ≡ front ++ back → IsCodeOf limit count word
count_joined limit (Value a) word true front back ok f b w =
    let least = b.0 in
    ((omega arith, b.1), rw (w, f, b.2, count_bits-above_one a least) refl)
count_joined limit End word true front back ok f b w = (tt, rw (w, f, b) refl)
count_joined limit count word false front back ok f b w =
    rw b.0 ((omega arith, leb-true 1 limit ok), rw (w, f, b.1, count_bits-one) refl)

count_apart : (limit : ℕ) (count : Count) (word : List Bool) → IsCodeOf limit count word → IsWordThen (IsBitWhere (allowed (leb 1 limit) true)) (IsCountTail limit) count word
count_apart limit (Value a) word w =
    let least = w.0.0 in
    let most = w.0.1 in
    elim (cases_lt 1 a) [
      | inl more ↦ (true, true ∷ [], true ∷ above_one_bits (a - 2), (refl, refl), (more, most, refl), w.1 ∙ count_bits-above_one a more)
      | inr one ↦ let is_one : a ≡ 1 = omega arith in (false, false ∷ [], [], (le-leb 1 limit (omega arith), refl), (rw is_one refl, refl), w.1 ∙ rw (is_one, count_bits-one) refl)
    ]
count_apart limit End word w = (true, true ∷ [], false ∷ [], (refl, refl), refl, w.1)

count_tail_exact : (limit : ℕ) (bit : Bool) → IsExact (IsCountTail limit bit) (λ rest. cond bit (parse_after_one limit rest) (Read (Value 1) rest))
count_tail_exact limit true = IsExact-after_one_at limit
count_tail_exact limit false = IsExact-give (Value 1)

some_count : (limit : ℕ) (bit : Bool) → (count : Count) × (word : List Bool) × IsCountTail limit bit count word
some_count limit true = (End, false ∷ [], refl)
some_count limit false = (Value 1, [], (refl, refl))

pub IsExact-count_at : (limit : ℕ) → IsExact (IsCodeOf limit) (parse_count limit)
unfolding parse_count
IsExact-count_at limit =
    IsExact-same (IsWordThen (IsBitWhere (allowed (leb 1 limit) true)) (IsCountTail limit)) (IsCodeOf limit)
    (λ bits. bit_where (allowed (leb 1 limit) true) bits >>= λ bit rest. cond bit (parse_after_one limit rest) (Read (Value 1) rest))
    (λ count word w. count_joined limit count word w.0 w.1 w.2 w.3.0 w.3.1 w.4 w.5)
    (count_apart limit)
    (IsExact-then (IsBitWhere (allowed (leb 1 limit) true)) (IsCountTail limit)
    (bit_where (allowed (leb 1 limit) true)) (λ bit rest. cond bit (parse_after_one limit rest) (Read (Value 1) rest))
    (IsExact-bit_where (allowed (leb 1 limit) true) true refl)
    (λ bit word w. count_tail_exact limit bit)
    (λ bit word w. some_count limit bit))

-- what follows from a reading about the bits
pub counted : (limit : ℕ) (old new : EyeState) (result : Result Count BitFault) → Gives (λ (count : Count). count) result new (parse_count limit (bits_left old))
    → IfOk result (λ count. IsWithin limit count × (bits_left old ≡ word_of count ++ bits_left new))
counted limit old new (Ok count) given =
    let r = (IsExact-count_at limit).read_is (bits_left old) count (bits_left new) given in
    (r.1.0, r.2 ∙ ap (λ (word : List Bool). word ++ bits_left new) r.1.1)
counted limit old new (Err fault) given = tt

-- a count is within a limit
top_of : Count → ℕ
top_of (Value a) = a
top_of End = 0

within_top : (count : Count) (limit : ℕ) → IsCount count → top_of count ≤ limit → IsWithin limit count
unfolding top_of
within_top (Value a) limit is le = (is, le)
within_top End limit is le = tt

values_same : (a b : Count) (r s : List Bool) → ◌≡◌ {A = Parsed Count} (Read a r) (Read b s) → a ≡ b
values_same a b r s e = cc

-- no word is a prefix of another
pub prefix_free : (a b : Count) (rest others : List Bool) → IsCount a → IsCount b → word_of a ++ rest ≡ word_of b ++ others → a ≡ b
prefix_free a b rest others a_is b_is same =
    let limit = top_of a + top_of b in
    let read_a = (IsExact-count_at (top_of a + top_of b)).reads a (word_of a) rest (within_top a (top_of a + top_of b) a_is (omega arith), refl) in
    let read_b = (IsExact-count_at (top_of a + top_of b)).reads b (word_of b) others (within_top b (top_of a + top_of b) b_is (omega arith), refl) in
    values_same a b rest others (sym read_a ∙ ap (parse_count (top_of a + top_of b)) same ∙ read_b)

-- a small number in a large width
zeros_before : (z width n : ℕ) → n < 2 ^ width → number_bits (z + width) n ≡ replicate z false ++ number_bits width n
zeros_before zero width n lt = let e : 0 + width ≡ width = omega arith in rw e refl
zeros_before (suc z) width n lt =
    let e : suc z + width ≡ suc (z + width) = omega arith in
    let first : eqb (bit_at n (z + width)) 1 ≡ false = rw (bit_at_above n width (z + width) lt (omega arith)) refl in
    rw (e, number_bits-suc (z + width) n, first, zeros_before z width n lt) refl

-- the zeros of a long word determine the number of its digits
pub zeros_tell : (a : ℕ) → 34 ≤ a → (z : ℕ) × (2 ^ (z + 5) ≤ a - 2) × (a - 2 < 2 ^ (z + 6)) × (count_bits a ≡ (true ∷ true ∷ true ∷ []) ++ replicate z false ++ true ∷ number_bits (z + 5) (a - 2))
zeros_tell a least =
    let d = digits_of (a - 2) (omega arith) in
    let z = d.0 - 5 in
    let some : 5 ≤ d.0 = digits_long (a - 2) d.0 d.2 (omega arith) in
    let low : 2 ^ (d.0 - 5 + 5) ≤ a - 2 = let e : d.0 - 5 + 5 ≡ d.0 = omega arith in rw e d.2.low in
    let high : a - 2 < 2 ^ (d.0 - 5 + 6) = let e : d.0 - 5 + 6 ≡ d.0 + 1 = omega arith in rw e d.2.high in
    let width : 2 * digits (a - 2) - 6 ≡ d.0 - 5 + (2 * digits (a - 2) - 6 - (d.0 - 5)) = omega (arith, d.1) in
    let others : 2 * digits (a - 2) - 6 - (d.0 - 5) ≡ d.0 - 5 + 6 = omega (arith, d.1) in
    let below : a - 2 < 2 ^ (2 * digits (a - 2) - 6 - (d.0 - 5)) = rw others high in
    let word : number_bits (2 * digits (a - 2) - 6) (a - 2) ≡ replicate (d.0 - 5) false ++ true ∷ number_bits (d.0 - 5 + 5) (a - 2) =
    ap (λ (w : ℕ). number_bits w (a - 2)) width ∙ zeros_before (d.0 - 5) (2 * digits (a - 2) - 6 - (d.0 - 5)) (a - 2) below ∙ ap (λ (x : List Bool). replicate (d.0 - 5) false ++ x) (digits_follow (d.0 - 5) (a - 2) low high) in
    (d.0 - 5, low, high, count_bits-long a least ∙ ap (λ (x : List Bool). true ∷ true ∷ true ∷ x) word)
