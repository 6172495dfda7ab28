-- The words of counts: their binary digits, how a number of a given width is read, and what the loops of the reader maintain.
use Rattle.std.specs.Int.{bit_at}
use Rattle.std.proofs.Common.{◌≡◌, ℕ, zero, suc, ◌+◌, ◌*◌, ◌/◌, ◌^◌, ◌<◌, ◌≤◌, false, eqb, refl, ap, ◌∙◌, arith, inl, inr, add-one, ◌-◌, true, [], ◌∷◌, ◌++◌, length, ◌%◌, Bool, cond, leb, List, Result, Err, sym}
use Rattle.std.proofs.Math.Nat.{pow-succ', pow-le-pow_right, mod-eq_of_lt, div-eq_of_lt-le, mul-le-mul_right}
use Rattle.std.proofs.lemmas.Bool.{cases_lt, cases_eq, cases_order, ne_eqb, le-leb, lt-leb, leb-true, eq-eqb}
use Rattle.std.proofs.lemmas.Nat.{div-add-mod', mod_below, pow_pos}
use Rattle.bit_vectors.specs.Reading.{EyeState, bits_left, Read, ◌>>=◌, bit_where, allowed, MovesOn, Gives, IsExact}
use Rattle.bit_vectors.specs.Vectors.{number_bits}
use Rattle.bit_vectors.specs.declared.fault.BitFault.{BitFault}
use Rattle.bit_vectors.proofs.ExactReading.{MovesOn-then, Gives-then_err, IsBitWhere, IsWordThen, IsExact-give, IsExact-bit_where, IsExact-same, IsExact-then}
use Rattle.bit_vectors.proofs.NumberBits.{length-number_bits}
use Rattle.count_code.specs.Code.{halvings, digits, count_bits, end_bits}
use Rattle.count_code.specs.Counts.{parse_bounded, parse_long}

-- ---- binary digits by powers of 2

-- powers of 2 increase
pub power_le : (j k : ℕ) → j ≤ k → 2 ^ j ≤ 2 ^ k
power_le j k le = pow-le-pow_right {n = 2} (omega arith) {i = j} {j = k} le

pub power_more : (k : ℕ) → 2 ^ (k + 1) ≡ 2 * 2 ^ k
power_more k = rw add-one (pow-succ' 2 k)

-- a number lies between two powers
pub record HasDigits (n k : ℕ) : Type 0 where
  pub low : 2 ^ k ≤ n
  pub high : n < 2 ^ (k + 1)

same_digits : (n j k : ℕ) → HasDigits n j → HasDigits n k → j ≡ k
same_digits n j k p q =
    elim (cases_order j k) [
      | inl e ↦ e
      | inr o ↦ elim o [
        | inl lt ↦ absurd (omega (arith, p.high, q.low, power_le (j + 1) k (omega arith)))
        | inr lt ↦ absurd (omega (arith, q.high, p.low, power_le (k + 1) j (omega arith)))
      ]
    ]

halvings-zero : (most : ℕ) → halvings most 0 ≡ 0
unfolding halvings
halvings-zero zero = refl
halvings-zero (suc most) = refl

halvings_bounds : (most n : ℕ) → 0 < n → n ≤ most → (k : ℕ) × (halvings most n ≡ k + 1) × HasDigits n k
unfolding halvings
halvings_bounds zero n some le = absurd (omega arith)
halvings_bounds (suc most) n some le =
    let not_zero : eqb n 0 ≡ false = ne_eqb n 0 (omega arith) in
    elim (cases_eq (n / 2) 0) [
      | inl none ↦
          let one : n ≡ 1 = omega arith in
          (0, rw (not_zero, none, halvings-zero most) refl, record { low = omega arith; high = omega arith })
      | inr more ↦
          let half = halvings_bounds most (n / 2) (omega arith) (omega arith) in
          let low = half.2.low in
          let high = half.2.high in
          (half.0 + 1, rw (not_zero, half.1) (omega arith), record { low = omega (arith, power_more half.0); high = omega (arith, power_more half.0, power_more (half.0 + 1)) })
    ]

pub digits_is : (n k : ℕ) → HasDigits n k → digits n ≡ k + 1
unfolding digits
digits_is n k h =
    let b = halvings_bounds n n (omega (arith, h.low, power_le 0 k (omega arith))) (omega arith) in
    b.1 ∙ ap (λ (j : ℕ). j + 1) (same_digits n b.0 k b.2 h)

-- the digits of a number that is not 0
pub digits_of : (n : ℕ) → 0 < n → (k : ℕ) × (digits n ≡ k + 1) × HasDigits n k
unfolding digits
digits_of n some = halvings_bounds n n some (omega arith)

-- a greater number has no fewer digits
pub digits_grow : (m n j k : ℕ) → HasDigits m j → HasDigits n k → m ≤ n → j ≤ k
digits_grow m n j k p q le =
    elim (cases_lt k j) [ inl lt ↦ absurd (omega (arith, p.low, q.high, power_le (k + 1) j (omega arith))) | inr ge ↦ ge ]

-- the numbers of long words
pub digits_long : (n k : ℕ) → HasDigits n k → 32 ≤ n → 5 ≤ k
digits_long n k h le =
    elim (cases_lt k 5) [ inl lt ↦ absurd (omega (arith, h.high, power_le (k + 1) 5 (omega arith))) | inr ge ↦ ge ]

pub digits_most : (n k : ℕ) → HasDigits n k → n < 65536 → k ≤ 15
digits_most n k h lt =
    elim (cases_lt 15 k) [ inl gt ↦ absurd (omega (arith, h.low, power_le 16 k (omega arith))) | inr le ↦ le ]

-- ---- the words of counts, by their three kinds

pub count_bits-one : count_bits 1 ≡ false ∷ []
unfolding count_bits
count_bits-one = refl

pub count_bits-short : (a : ℕ) → 2 ≤ a → a ≤ 33 → count_bits a ≡ (true ∷ true ∷ false ∷ []) ++ number_bits 5 (a - 2)
unfolding count_bits
count_bits-short a least most = rw (ne_eqb a 1 (omega arith), le-leb a 33 most) refl

pub count_bits-long : (a : ℕ) → 34 ≤ a → count_bits a ≡ (true ∷ true ∷ true ∷ []) ++ number_bits (2 * digits (a - 2) - 6) (a - 2)
unfolding count_bits
count_bits-long a least = rw (ne_eqb a 1 (omega arith), lt-leb a 33 (omega arith)) refl

pub length-count_bits-short : (a : ℕ) → 2 ≤ a → a ≤ 33 → length (count_bits a) ≡ 8
length-count_bits-short a least most = rw (count_bits-short a least most) (omega (arith, length-number_bits 5 (a - 2)))

pub length-count_bits-long : (a : ℕ) → 34 ≤ a → length (count_bits a) ≡ 3 + (2 * digits (a - 2) - 6)
length-count_bits-long a least = rw (count_bits-long a least) (omega (arith, length-number_bits (2 * digits (a - 2) - 6) (a - 2)))

some_bit : (a : ℕ) → 1 ≤ a → 1 ≤ length (count_bits a)
some_bit a some =
    elim (cases_eq a 1) [
      | inl one ↦ rw (one, count_bits-one) (omega arith)
      | inr more ↦ elim (cases_lt a 34) [
        | inl short ↦ omega (arith, length-count_bits-short a (omega arith) (omega arith))
        | inr long ↦ omega (arith, length-count_bits-long a long)
      ]
    ]

-- a greater count has no shorter word
pub length-count_bits-grow : (a b : ℕ) → 1 ≤ a → a ≤ b → length (count_bits a) ≤ length (count_bits b)
length-count_bits-grow a b some le =
    elim (cases_lt b 34) [
      | inl short ↦ elim (cases_eq a 1) [
        | inl one ↦ rw (one, count_bits-one) (some_bit b (omega arith))
        | inr more ↦ omega (arith, length-count_bits-short a (omega arith) (omega arith), length-count_bits-short b (omega arith) (omega arith))
      ]
      | inr long ↦
          let d = digits_of (b - 2) (omega arith) in
          let many : 5 ≤ d.0 = digits_long (b - 2) d.0 d.2 (omega arith) in
          elim (cases_lt a 34) [
            | inl less ↦ elim (cases_eq a 1) [
              | inl one ↦ rw (one, count_bits-one) (some_bit b (omega arith))
              | inr more ↦ omega (arith, length-count_bits-short a (omega arith) (omega arith), length-count_bits-long b long, d.1)
            ]
            | inr both ↦
                let e = digits_of (a - 2) (omega arith) in
                let grow : e.0 ≤ d.0 = digits_grow (a - 2) (b - 2) e.0 d.0 e.2 d.2 (omega arith) in
                omega (arith, length-count_bits-long a both, length-count_bits-long b long, d.1, e.1)
          ]
    ]

-- ---- short words, as numbers

pub zero_in_one : number_bits 1 0 ≡ false ∷ []
unfolding number_bits
zero_in_one = refl

pub two_in_two : number_bits 2 2 ≡ end_bits
unfolding number_bits
two_in_two = refl

pub six_in_three : number_bits 3 6 ≡ true ∷ true ∷ false ∷ []
unfolding number_bits
six_in_three = refl

pub seven_in_three : number_bits 3 7 ≡ true ∷ true ∷ true ∷ []
unfolding number_bits
seven_in_three = refl

-- ---- what the loops of the reader maintain

-- a number so far, with the given number of bits to come, stands for what is read from the start
pub record IsNumberSoFar (old eye : EyeState) (most so_far width number weight : ℕ) : Type 0 where
  pub moves : MovesOn old eye
  pub fits : number * 2 ^ weight ≤ most
  pub short : weight ≤ 15
  pub same : parse_bounded most so_far width (bits_left old) ≡ parse_bounded most number weight (bits_left eye)

-- the test for a zero, and the test for a 1, after a number so far
abbrev pub zero_fits : ℕ → ℕ → ℕ → Bool
zero_fits most number weight = leb (2 * number * 2 ^ weight) most

abbrev pub one_fits : ℕ → ℕ → ℕ → Bool
one_fits most number weight = leb ((2 * number + 1) * 2 ^ weight) most

-- the code's tests lose no bit
pub zero_fits_is : (most number weight : ℕ) → 0 < weight → number * 2 ^ weight ≤ most → most ≤ 49150 → leb (2 * number * 2 ^ (weight - 1) % 4294967296) most ≡ zero_fits most number (weight - 1)
zero_fits_is most number weight some fits least =
    let twice : 2 ^ weight ≡ 2 * 2 ^ (weight - 1) = let e : weight ≡ weight - 1 + 1 = omega arith in ap (λ (k : ℕ). 2 ^ k) e ∙ power_more (weight - 1) in
    let product : number * 2 ^ weight ≡ 2 * number * 2 ^ (weight - 1) = rw twice (omega arith) in
    let small : 2 * number * 2 ^ (weight - 1) < 4294967296 = omega arith in
    rw (mod-eq_of_lt small) refl

pub one_fits_is : (most number weight : ℕ) → 0 < weight → weight ≤ 15 → number * 2 ^ weight ≤ most → most ≤ 49150 → leb ((2 * number + 1) * 2 ^ (weight - 1) % 4294967296) most ≡ one_fits most number (weight - 1)
one_fits_is most number weight some short fits least =
    let twice : 2 ^ weight ≡ 2 * 2 ^ (weight - 1) = let e : weight ≡ weight - 1 + 1 = omega arith in ap (λ (k : ℕ). 2 ^ k) e ∙ power_more (weight - 1) in
    let product : number * 2 ^ weight ≡ 2 * number * 2 ^ (weight - 1) = rw twice (omega arith) in
    let small : (2 * number + 1) * 2 ^ (weight - 1) < 4294967296 = omega (arith, power_le (weight - 1) 15 (omega arith)) in
    rw (mod-eq_of_lt small) refl

parse_bounded-more : (most number weight : ℕ) (bits : List Bool) → 0 < weight
    → parse_bounded most number weight bits ≡ (bit_where (allowed (zero_fits most number (weight - 1)) (one_fits most number (weight - 1))) bits >>= λ bit rest. parse_bounded most (2 * number + cond bit 1 0) (weight - 1) rest)
unfolding parse_bounded
parse_bounded-more most number zero bits some = absurd (omega arith)
parse_bounded-more most number (suc weight) bits some = let e : suc weight - 1 ≡ weight = omega arith in rw e refl

pub bit_fits : (most number weight : ℕ) (bit : Bool) → allowed (zero_fits most number weight) (one_fits most number weight) bit ≡ true → (2 * number + cond bit 1 0) * 2 ^ weight ≤ most
bit_fits most number weight true right = leb-true _ _ right
bit_fits most number weight false right = let h = leb-true (2 * number * 2 ^ weight) most right in omega arith

pub number_more : (old eye new : EyeState) (most so_far width number weight : ℕ) (bit : Bool) (value : ℕ) → 0 < weight → IsNumberSoFar old eye most so_far width number weight → MovesOn eye new
    → allowed (zero_fits most number (weight - 1)) (one_fits most number (weight - 1)) bit ≡ true
    → bit_where (allowed (zero_fits most number (weight - 1)) (one_fits most number (weight - 1))) (bits_left eye) ≡ Read bit (bits_left new)
    → value ≡ cond bit 1 0 → IsNumberSoFar old new most so_far width (2 * number + value) (weight - 1)
number_more old eye new most so_far width number weight bit value some h moves right read value-is = record {
  moves = MovesOn-then old eye new h.moves moves;
  fits = rw value-is (bit_fits most number (weight - 1) bit right);
  short = omega (arith, h.short);
  same = h.same ∙ parse_bounded-more most number weight (bits_left eye) some ∙ rw (read, value-is) refl;
}

pub number_fault : (old eye new : EyeState) (most so_far width number weight : ℕ) (fault : BitFault) → 0 < weight → IsNumberSoFar old eye most so_far width number weight
    → Gives (λ (bit : Bool). bit) (Err fault) new (bit_where (allowed (zero_fits most number (weight - 1)) (one_fits most number (weight - 1))) (bits_left eye))
    → Gives (λ (n : ℕ). n) (Err fault) new (parse_bounded most so_far width (bits_left old))
number_fault old eye new most so_far width number weight fault some h given =
    rw (h.same, parse_bounded-more most number weight (bits_left eye) some) (Gives-then_err (λ (bit : Bool). bit) (λ (n : ℕ). n) fault new _ (λ bit rest. parse_bounded most (2 * number + cond bit 1 0) (weight - 1) rest) given)

-- zeros so far, after which at least this many digits are left, stand for what is read from the start
pub record IsLongSoFar (old eye : EyeState) (most digits : ℕ) : Type 0 where
  pub moves : MovesOn old eye
  pub least : 6 ≤ digits
  pub fits : 2 ^ (digits - 1) ≤ most
  pub short : digits ≤ 16
  pub same : parse_long most 0 most (bits_left old) ≡ parse_long most (digits - 6) (most - (digits - 6)) (bits_left eye)

parse_long-more : (most digits : ℕ) (bits : List Bool) → 6 ≤ digits → digits - 6 < most
    → parse_long most (digits - 6) (most - (digits - 6)) bits ≡ (bit_where (allowed (leb (2 ^ digits) most) true) bits >>= λ bit rest. cond bit (parse_bounded most 1 (digits - 1) rest) (parse_long most (digits + 1 - 6) (most - (digits + 1 - 6)) rest))
unfolding parse_long
parse_long-more most digits bits least lt =
    let next : most - (digits - 6) ≡ suc (most - (digits + 1 - 6)) = omega arith in
    let all : digits - 6 + 6 ≡ digits = omega arith in
    let others : digits - 6 + 5 ≡ digits - 1 = omega arith in
    let one_more : digits - 6 + 1 ≡ digits + 1 - 6 = omega arith in
    rw (next, all, others, one_more) refl

pub power_fits_is : (most digits : ℕ) → digits ≤ 16 → leb (1 * 2 ^ digits % 4294967296) most ≡ leb (2 ^ digits) most
power_fits_is most digits short =
    let small : 1 * 2 ^ digits < 4294967296 = omega (arith, power_le digits 16 short) in
    let one : 1 * 2 ^ digits ≡ 2 ^ digits = omega arith in
    rw (mod-eq_of_lt small, one) refl

pub long_more : (old eye new : EyeState) (most digits : ℕ) → 32 ≤ most → most ≤ 49150 → IsLongSoFar old eye most digits → MovesOn eye new
    → allowed (leb (2 ^ digits) most) true false ≡ true → bit_where (allowed (leb (2 ^ digits) most) true) (bits_left eye) ≡ Read false (bits_left new) → IsLongSoFar old new most (digits + 1)
long_more old eye new most digits least limit h moves right read =
    let fits = leb-true (2 ^ digits) most right in
    let same_power : digits + 1 - 1 ≡ digits = omega arith in
    record {
      moves = MovesOn-then old eye new h.moves moves;
      least = omega (arith, h.least);
      fits = rw same_power fits;
      short = elim (cases_lt digits 16) [ inl lt ↦ omega arith | inr ge ↦ absurd (omega (arith, power_le 16 digits ge)) ];
      same = h.same ∙ parse_long-more most digits (bits_left eye) h.least (omega (arith, h.short)) ∙ rw read refl;
    }

pub long_fault : (old eye new : EyeState) (most digits : ℕ) (fault : BitFault) → 32 ≤ most → IsLongSoFar old eye most digits
    → Gives (λ (bit : Bool). bit) (Err fault) new (bit_where (allowed (leb (2 ^ digits) most) true) (bits_left eye)) → Gives (λ (n : ℕ). n) (Err fault) new (parse_long most 0 most (bits_left old))
long_fault old eye new most digits fault least h given =
    rw (h.same, parse_long-more most digits (bits_left eye) h.least (omega (arith, h.short))) (Gives-then_err (λ (bit : Bool). bit) (λ (n : ℕ). n) fault new _ (λ bit rest. cond bit (parse_bounded most 1 (digits - 1) rest) (parse_long most (digits + 1 - 6) (most - (digits + 1 - 6)) rest)) given)

pub long_end : (old eye mid new : EyeState) (most digits : ℕ) (result : Result ℕ BitFault) → 32 ≤ most → IsLongSoFar old eye most digits
    → bit_where (allowed (leb (2 ^ digits) most) true) (bits_left eye) ≡ Read true (bits_left mid) → Gives (λ (n : ℕ). n) result new (parse_bounded most 1 (digits - 1) (bits_left mid)) → Gives (λ (n : ℕ). n) result new (parse_long most 0 most (bits_left old))
long_end old eye mid new most digits result least h read given =
    rw (h.same, parse_long-more most digits (bits_left eye) h.least (omega (arith, h.short)), read) given

-- ---- reading a number of a given width is exact

-- a number that begins with so_far has these last bits
pub record IsNumberOf (most so_far width n : ℕ) (word : List Bool) : Type 0 where
  pub low : so_far * 2 ^ width ≤ n
  pub high : n < (so_far + 1) * 2 ^ width
  pub fits : n ≤ most
  pub is : word ≡ number_bits width n

-- the number with one bit more
abbrev next_of : ℕ → Bool → ℕ
next_of so_far bit = 2 * so_far + cond bit 1 0

power_suc : (k : ℕ) → 2 ^ suc k ≡ 2 * 2 ^ k
power_suc k = pow-succ' 2 k

bit_of_next : (so_far : ℕ) (bit : Bool) → eqb (next_of so_far bit % 2) 1 ≡ bit
bit_of_next so_far true = eq-eqb _ _ (omega arith)
bit_of_next so_far false = ne_eqb _ _ (omega arith)

double : (a width : ℕ) → a * 2 ^ suc width ≡ 2 * a * 2 ^ width
double a width = rw (power_suc width) (omega arith)

-- a number that begins like this, and then with this bit
next_in : (so_far width n : ℕ) (bit : Bool) → next_of so_far bit * 2 ^ width ≤ n → n < (next_of so_far bit + 1) * 2 ^ width → (so_far * 2 ^ suc width ≤ n) × (n < (so_far + 1) * 2 ^ suc width)
next_in so_far width n true low high = (omega (arith, double so_far width), omega (arith, double (so_far + 1) width))
next_in so_far width n false low high =
    let same : 2 * so_far + 0 ≡ 2 * so_far = omega arith in
    let from : 2 * so_far * 2 ^ width ≤ n = rw same at low in
    let to : n < (2 * so_far + 1) * 2 ^ width = rw same at high in
    (omega (arith, double so_far width), omega (arith, double (so_far + 1) width))

pub next_bit : (so_far width n : ℕ) (bit : Bool) → next_of so_far bit * 2 ^ width ≤ n → n < (next_of so_far bit + 1) * 2 ^ width → eqb (bit_at n width) 1 ≡ bit
next_bit so_far width n bit low high =
    rw (div-eq_of_lt-le (2 ^ width) low high) (bit_of_next so_far bit)

quotient_in : (q so_far : ℕ) → 2 * so_far ≤ q → q < 2 * so_far + 2 → next_of so_far (eqb (q % 2) 1) ≡ q
quotient_in q so_far low high =
    elim (cases_eq q (2 * so_far)) [
      | inl e ↦ let even : eqb (q % 2) 1 ≡ false = ne_eqb _ _ (omega arith) in rw even (omega arith)
      | inr ne ↦ let odd : eqb (q % 2) 1 ≡ true = eq-eqb _ _ (omega arith) in rw odd (omega arith)
    ]

next_out : (so_far width n : ℕ) → so_far * 2 ^ suc width ≤ n → n < (so_far + 1) * 2 ^ suc width → (next_of so_far (eqb (bit_at n width) 1) * 2 ^ width ≤ n) × (n < (next_of so_far (eqb (bit_at n width) 1) + 1) * 2 ^ width)
next_out so_far width n low high =
    let parts = div-add-mod' n (2 ^ width) in
    let rest : n % 2 ^ width < 2 ^ width = mod_below n (2 ^ width) (pow_pos width) in
    let q = n / 2 ^ width in
    let below : 2 * so_far ≤ n / 2 ^ width = elim (cases_lt (n / 2 ^ width) (2 * so_far)) [
      | inl lt ↦ (let step : n / 2 ^ width + 1 ≤ 2 * so_far = omega arith in absurd (omega (arith, double so_far width, mul-le-mul_right (2 ^ width) step)))
      | inr le ↦ le
    ] in
    let above : n / 2 ^ width < 2 * so_far + 2 = elim (cases_lt (n / 2 ^ width) (2 * so_far + 2)) [
      | inl lt ↦ lt
      | inr le ↦ absurd (omega (arith, double (so_far + 1) width, mul-le-mul_right (2 ^ width) le))
    ] in
    let same = quotient_in (n / 2 ^ width) so_far below above in
    (rw same (omega arith), rw same (omega arith))

allowed_next : (most so_far width : ℕ) (bit : Bool) → next_of so_far bit * 2 ^ width ≤ most → allowed (zero_fits most so_far width) (one_fits most so_far width) bit ≡ true
allowed_next most so_far width true fits = le-leb _ _ fits
allowed_next most so_far width false fits =
    let same : 2 * so_far + 0 ≡ 2 * so_far = omega arith in
    le-leb _ _ (rw same at fits)

half_fits : (most so_far width : ℕ) → so_far * 2 ^ suc width ≤ most → next_of so_far false * 2 ^ width ≤ most
half_fits most so_far width fits =
    let same : 2 * so_far + 0 ≡ 2 * so_far = omega arith in rw same (omega (arith, double so_far width))

pub number_bits-suc : (width n : ℕ) → number_bits (suc width) n ≡ eqb (bit_at n width) 1 ∷ number_bits width n
unfolding number_bits
number_bits-suc width n = refl

number_bits-zero : (n : ℕ) → number_bits 0 n ≡ []
unfolding number_bits
number_bits-zero n = refl

no_width_from : (most so_far n : ℕ) (word : List Bool) → so_far * 2 ^ 0 ≤ most → n ≡ so_far → word ≡ [] → IsNumberOf most so_far 0 n word
no_width_from most so_far n word fits e w = record { low = omega arith; high = omega arith; fits = omega arith; is = w ∙ sym (number_bits-zero n) }

pub first_number : (most so_far width : ℕ) → so_far * 2 ^ width ≤ most → IsNumberOf most so_far width (so_far * 2 ^ width) (number_bits width (so_far * 2 ^ width))
first_number most so_far width fits = record { low = omega arith; high = omega (arith, pow_pos width); fits = fits; is = refl }

pub too_high : (a b c : ℕ) → a ≤ b → b ≤ c → c < a → ⊥
too_high a b c p q r = omega arith

pub below_power : (n : ℕ) → n < 2 ^ (6 + n)
below_power zero = omega arith
below_power (suc n) = let h = below_power n in let e : 6 + suc n ≡ 6 + n + 1 = omega arith in omega (arith, power_more (6 + n), ap (λ (k : ℕ). 2 ^ k) e)

pub below_most : (a b c : ℕ) → a ≤ b → b ≤ c → a ≤ c
below_most a b c p q = omega arith

joined : (most so_far width n : ℕ) (word : List Bool) (bit : Bool) (front back : List Bool) → front ≡ bit ∷ [] → IsNumberOf most (next_of so_far bit) width n back → word ≡ front ++ back → IsNumberOf most so_far (suc width) n word
joined most so_far width n word bit front back f b w =
    let range = next_in so_far width n bit b.low b.high in
    record { low = range.0; high = range.1; fits = b.fits; is = rw (w, f, b.is, number_bits-suc width n, next_bit so_far width n bit b.low b.high) refl }

pub IsExact-bounded_at : (most width so_far : ℕ) → so_far * 2 ^ width ≤ most → IsExact (IsNumberOf most so_far width) (parse_bounded most so_far width)
unfolding parse_bounded
IsExact-bounded_at most zero so_far fits =
    IsExact-same (λ (u : ℕ) (word : List Bool). (u ≡ so_far) × (word ≡ [])) (IsNumberOf most so_far 0) (λ bits. Read so_far bits)
    (λ v word w. no_width_from most so_far v word fits w.0 w.1)
    (λ v word w. (omega (arith, w.low, w.high), w.is ∙ number_bits-zero v))
    (IsExact-give so_far)
IsExact-bounded_at most (suc width) so_far fits =
    let test = allowed (zero_fits most so_far width) (one_fits most so_far width) in
    IsExact-same (IsWordThen (IsBitWhere (allowed (zero_fits most so_far width) (one_fits most so_far width))) (λ bit. IsNumberOf most (next_of so_far bit) width)) (IsNumberOf most so_far (suc width))
    (λ bits. bit_where (allowed (zero_fits most so_far width) (one_fits most so_far width)) bits >>= λ bit rest. parse_bounded most (next_of so_far bit) width rest)
    (λ n word w. joined most so_far width n word w.0 w.1 w.2 w.3.1 w.4 w.5)
    (λ n word w.
    let parts = next_out so_far width n w.low w.high in
    let bit = eqb (bit_at n width) 1 in
    (eqb (bit_at n width) 1, eqb (bit_at n width) 1 ∷ [], number_bits width n, (allowed_next most so_far width (eqb (bit_at n width) 1) (below_most (next_of so_far (eqb (bit_at n width) 1) * 2 ^ width) n most parts.0 w.fits), refl), record { low = parts.0; high = parts.1; fits = w.fits; is = refl }, w.is ∙ number_bits-suc width n))
    (IsExact-then (IsBitWhere (allowed (zero_fits most so_far width) (one_fits most so_far width))) (λ bit. IsNumberOf most (next_of so_far bit) width)
    (bit_where (allowed (zero_fits most so_far width) (one_fits most so_far width))) (λ bit. parse_bounded most (next_of so_far bit) width)
    (IsExact-bit_where (allowed (zero_fits most so_far width) (one_fits most so_far width)) false (allowed_next most so_far width false (half_fits most so_far width fits)))
    (λ bit word w. IsExact-bounded_at most width (next_of so_far bit) (bit_fits most so_far width bit w.0))
    (λ bit word w. (next_of so_far bit * 2 ^ width, number_bits width (next_of so_far bit * 2 ^ width), first_number most (next_of so_far bit) width (bit_fits most so_far width bit w.0))))
