-- Numbers as bits: written and read, whole, in two pieces and by a fixed width, and how bits are placed in bytes.
use lib.Count.{count_leading_zeros}
use mir.Val.{bool_byte}
use Rattle.std.specs.Int.{bit_at}
use Rattle.std.specs.Prelude.{Contains}
use Rattle.std.proofs.Common.{◌≡◌, ℕ, zero, suc, ◌+◌, ◌-◌, ◌*◌, ◌/◌, ◌%◌, ◌^◌, ◌<◌, ◌≤◌, Bool, true, false, cond, eqb, List, [], ◌∷◌, length, get_or, refl, ap, ◌∙◌, arith, add-one, take, drop, sym, ◌++◌, replicate, inl, inr, append_assoc}
use Rattle.std.proofs.Math.Nat.{pow-succ', mod-eq_of_lt, pow-le-pow_right}
use Rattle.std.proofs.Math.Seq.{take-append-add}
use Rattle.std.proofs.lemmas.Bool.{cases_lt, true≢false, false_from_ne_true}
use Rattle.std.proofs.lemmas.List.{append-nil, length-append, length-take, length-drop, length-replicate, get_or_append_left, get_or-append-add, take_at, drop_at, take-append-drop, get_or-drop, get_or_default, get_or_past, length-take-le}
use Rattle.std.proofs.lemmas.Nat.{mod-pow-add, shr-shr, shr_split, shr_high, leading_top, pow_pos}
use Rattle.std.proofs.lemmas.Nat.Bits.{bit_at_cat_low, bit_at_cat_high, bit_at-lt, bit_at-zero, bit_at_above}
use Rattle.bit_vectors.specs.Reading.{Read, TooShort, IsExact, parse_front, parse_number}
use Rattle.bit_vectors.specs.Vectors.{number_bits, bits_number, bits_of, AreBytes, byte_count, padded, bytes_from, vector_bytes}
use Rattle.bit_vectors.proofs.ExactReading.{IsWordThen, IsExact-give, IsExact-same, IsExact-then}
use Rattle.bit_vectors.proofs.FrontReading.{IsFront, IsExact-front_at, parse_front-short, parse_front-enough}
use Rattle.bit_vectors.proofs.Lists.{get_or-replicate_same}

-- ---- writing a number as bits and reading bits as a number undo each other

pub length-number_bits : (width n : ℕ) → length (number_bits width n) ≡ width
unfolding number_bits
length-number_bits zero n = refl
length-number_bits (suc w) n = ap suc (length-number_bits w n)

pub get_or-number_bits : (width n i : ℕ) → i < width → get_or (number_bits width n) i false ≡ eqb (bit_at n (width - 1 - i)) 1
unfolding number_bits
get_or-number_bits zero n i lt = absurd (omega arith)
get_or-number_bits (suc w) n zero lt = let same : suc w - 1 - 0 ≡ w = omega arith in rw same refl
get_or-number_bits (suc w) n (suc i) lt =
    let same : suc w - 1 - suc i ≡ w - 1 - i = omega arith in rw same (get_or-number_bits w n i (omega arith))

-- the low bits of a number are those of its low part
pub number_bits_low : (width a k b : ℕ) → width ≤ k → number_bits width (a * 2 ^ k + b) ≡ number_bits width b
unfolding number_bits
number_bits_low zero a k b le = refl
number_bits_low (suc w) a k b le =
    rw (bit_at_cat_low a k b w (omega arith), number_bits_low w a k b (omega arith)) refl

weight : (bit : ℕ) (p : ℕ) → bit < 2 → cond (eqb bit 1) p 0 ≡ bit * p
weight zero p lt = omega arith
weight (suc zero) p lt = omega arith
weight (suc (suc b)) p lt = absurd (omega arith)

pub bits_number-number_bits : (width n : ℕ) → bits_number (number_bits width n) ≡ n % 2 ^ width
unfolding number_bits bits_number
bits_number-number_bits zero n = omega arith
bits_number-number_bits (suc w) n =
    let rest = bits_number-number_bits w n in
    let split : n % 2 ^ (1 + w) ≡ (n / 2 ^ w % 2 ^ 1) * 2 ^ w + n % 2 ^ w = mod-pow-add n 1 w in
    let one : 1 + w ≡ suc w = omega arith in
    rw (length-number_bits w n, rest, weight (bit_at n w) (2 ^ w) (bit_at-lt n w), ← one, split) refl

pub bits_number_below : (bits : List Bool) → bits_number bits < 2 ^ length bits
unfolding bits_number
bits_number_below [] = omega arith
bits_number_below (true ∷ bits) = let h = bits_number_below bits in omega (arith, pow-succ' 2 (length bits))
bits_number_below (false ∷ bits) = let h = bits_number_below bits in omega (arith, pow-succ' 2 (length bits))

pub number_bits-bits_number : (bits : List Bool) → number_bits (length bits) (bits_number bits) ≡ bits
unfolding number_bits bits_number
number_bits-bits_number [] = refl
number_bits-bits_number (true ∷ bits) =
    let one : 2 ^ length bits + bits_number bits ≡ 1 * 2 ^ length bits + bits_number bits = omega arith in
    let below = bits_number_below bits in
    let none : length bits - length bits ≡ 0 = omega arith in
    let rest = number_bits_low (length bits) 1 (length bits) (bits_number bits) (omega arith) ∙ number_bits-bits_number bits in
    rw (one, bit_at_cat_high 1 (length bits) (bits_number bits) (length bits) below (omega arith), none, rest) refl
number_bits-bits_number (false ∷ bits) =
    let one : 0 + bits_number bits ≡ 0 * 2 ^ length bits + bits_number bits = omega arith in
    let below = bits_number_below bits in
    let none : length bits - length bits ≡ 0 = omega arith in
    let rest = number_bits_low (length bits) 0 (length bits) (bits_number bits) (omega arith) ∙ number_bits-bits_number bits in
    rw (one, bit_at_cat_high 0 (length bits) (bits_number bits) (length bits) below (omega arith), none, rest) refl

pub number_bits-more : (width n : ℕ) → number_bits (width + 1) n ≡ eqb (bit_at n width) 1 ∷ number_bits width n
unfolding number_bits
number_bits-more width n = rw add-one refl

-- a bit as a number
pub bool_byte_is : (bit : Bool) → bool_byte bit ≡ cond bit 1 0
bool_byte_is true = refl
bool_byte_is false = refl

-- ---- reading a number of a fixed width

pub parse_number-short : (width : ℕ) (bits : List Bool) → length bits < width → parse_number width bits ≡ TooShort
unfolding parse_number
parse_number-short width bits short = rw (parse_front-short width bits short) refl

-- the number whose bits come first
pub parse_number-enough : (width n : ℕ) (bits : List Bool) → n < 2 ^ width → width ≤ length bits → number_bits width n ≡ take width bits → parse_number width bits ≡ Read n (drop width bits)
unfolding parse_number
parse_number-enough width n bits below enough same =
    let number : bits_number (take width bits) ≡ n = rw (← same, bits_number-number_bits width n) (mod-eq_of_lt below) in
    rw (parse_front-enough width bits enough, number) refl

-- ---- exact

-- the word of a number of this width
abbrev pub IsNumberOfWidth : ℕ → ℕ → List Bool → Type 0
IsNumberOfWidth width n word = (n < 2 ^ width) × (word ≡ number_bits width n)

-- the number that these bits spell, and no further bits
abbrev IsFrontNumber : List Bool → ℕ → List Bool → Type 0
IsFrontNumber front n word = (n ≡ bits_number front) × (word ≡ [])

number_of_front : (width n : ℕ) (front : List Bool) → length front ≡ width → n ≡ bits_number front → IsNumberOfWidth width n front
number_of_front width n front len is =
    (rw (is, ← len) (bits_number_below front), rw (is, ← len) (sym (number_bits-bits_number front)))

pub IsExact-number_at : (width : ℕ) → IsExact (IsNumberOfWidth width) (parse_number width)
unfolding parse_number
IsExact-number_at width =
    IsExact-same (IsWordThen (IsFront width) IsFrontNumber) (IsNumberOfWidth width) (parse_number width)
    (λ n word w.
    let all : word ≡ w.0 = w.5 ∙ rw (w.3.1, w.4.1) (append-nil w.0) in
    rw all (number_of_front width n w.0 w.3.0 w.4.0))
    (λ n word w.
    let number : n ≡ bits_number (number_bits width n) = sym (bits_number-number_bits width n ∙ mod-eq_of_lt w.0) in
    (number_bits width n, number_bits width n, [], (length-number_bits width n, refl), (number, refl), w.1 ∙ sym (append-nil (number_bits width n))))
    (IsExact-then (IsFront width) IsFrontNumber (parse_front width) (λ (front rest : List Bool). Read (bits_number front) rest) (IsExact-front_at width)
    (λ front word w. IsExact-give (bits_number front))
    (λ front word w. (bits_number front, [], (refl, refl))))

-- ---- one bit

-- what holds for every two bits
pub by_digits : (P : ℕ → ℕ → Type 0) → P 0 0 → P 0 1 → P 1 0 → P 1 1 → (x y : ℕ) → x < 2 → y < 2 → P x y
by_digits P neither second first both zero zero x_lt y_lt = neither
by_digits P neither second first both zero (suc zero) x_lt y_lt = second
by_digits P neither second first both (suc zero) zero x_lt y_lt = first
by_digits P neither second first both (suc zero) (suc zero) x_lt y_lt = both
by_digits P neither second first both (suc (suc x)) y x_lt y_lt = absurd (omega arith)
by_digits P neither second first both zero (suc (suc y)) x_lt y_lt = absurd (omega arith)
by_digits P neither second first both (suc zero) (suc (suc y)) x_lt y_lt = absurd (omega arith)

same_digit : (a b : ℕ) → a < 2 → b < 2 → eqb a 1 ≡ eqb b 1 → a ≡ b
same_digit = by_digits (λ a b. eqb a 1 ≡ eqb b 1 → a ≡ b) (λ same. refl) (λ same. absurd cc) (λ same. absurd cc) (λ same. refl)

pub bit_at_mod : (n k i : ℕ) → i < k → bit_at (n % 2 ^ k) i ≡ bit_at n i
bit_at_mod n k i lt =
    sym (bit_at_cat_low (n / 2 ^ k) k (n % 2 ^ k) i lt) ∙ ap (λ (m : ℕ). bit_at m i) (shr_split n k)

pub bit_at_shr : (n s i : ℕ) → bit_at (n / 2 ^ s) i ≡ bit_at n (s + i)
bit_at_shr n s i = ap (λ (m : ℕ). m % 2) (shr-shr n s i)

pub bit_at_shl : (n s i : ℕ) → s ≤ i → bit_at (n * 2 ^ s) i ≡ bit_at n (i - s)
bit_at_shl n s i le =
    let whole : n * 2 ^ s ≡ n * 2 ^ s + 0 = omega arith in
    ap (λ (m : ℕ). bit_at m i) whole ∙ bit_at_cat_high n s 0 i (pow_pos s) le

pub bit_at_shl_low : (n s i : ℕ) → i < s → bit_at (n * 2 ^ s) i ≡ 0
bit_at_shl_low n s i lt =
    let whole : n * 2 ^ s ≡ n * 2 ^ s + 0 = omega arith in
    ap (λ (m : ℕ). bit_at m i) whole ∙ bit_at_cat_low n s 0 i lt ∙ bit_at-zero i

-- the highest 1 of a number of k bits comes after its leading zeros
pub leading_is_one : (k n : ℕ) → 0 < n → n < 2 ^ k → (count_leading_zeros k n < k) × (bit_at n (k - 1 - count_leading_zeros k n) ≡ 1) × ((i : ℕ) → k - 1 - count_leading_zeros k n < i → bit_at n i ≡ 0)
leading_is_one k n some below =
    let top = leading_top k n some below in
    let lt : count_leading_zeros k n < k = omega (arith, top.1) in
    let j_is : k - 1 - count_leading_zeros k n ≡ top.0 = omega (arith, top.1) in
    let double : 2 ^ suc top.0 ≡ 2 * 2 ^ top.0 = pow-succ' 2 top.0 in
    let parts : n ≡ 1 * 2 ^ top.0 + (n - 2 ^ top.0) = omega (arith, top.2) in
    let rest : n - 2 ^ top.0 < 2 ^ top.0 = omega (arith, top.3) in
    let none : top.0 - top.0 ≡ 0 = omega arith in
    let one : bit_at n top.0 ≡ 1 = ap (λ (m : ℕ). bit_at m top.0) parts ∙ bit_at_cat_high 1 top.0 (n - 2 ^ top.0) top.0 rest (omega arith) ∙ rw none refl in
    (lt, rw j_is one, λ i above. bit_at_above n (suc top.0) i top.3 (omega arith))

-- ---- the bits of a number in two pieces

pub number_bits-split : (i j n : ℕ) → number_bits (i + j) n ≡ number_bits i (n / 2 ^ j) ++ number_bits j n
unfolding number_bits
number_bits-split zero j n = let none : 0 + j ≡ j = omega arith in rw none refl
number_bits-split (suc i) j n =
    let next : suc i + j ≡ suc (i + j) = omega arith in
    let turned : j + i ≡ i + j = omega arith in
    rw (next, number_bits-split i j n, bit_at_shr n j i, turned) refl

-- a number in the places above another number, which has j bits
pub number_bits-cat : (i j a b : ℕ) → b < 2 ^ j → number_bits (i + j) (a * 2 ^ j + b) ≡ number_bits i a ++ number_bits j b
number_bits-cat i j a b below =
    rw (number_bits-split i j (a * 2 ^ j + b), shr_high a j b below, number_bits_low j a j b (omega arith)) refl

pub number_bits-mod : (width k n : ℕ) → width ≤ k → number_bits width (n % 2 ^ k) ≡ number_bits width n
number_bits-mod width k n le =
    sym (number_bits_low width (n / 2 ^ k) k (n % 2 ^ k) le) ∙ ap (number_bits width) (shr_split n k)

pub number_bits-zero : (width : ℕ) → number_bits width 0 ≡ replicate width false
unfolding number_bits
number_bits-zero zero = refl
number_bits-zero (suc width) = rw (bit_at-zero width, number_bits-zero width) refl

-- if the low bits are zeros, a word is its high bits and zeros
pub high_bits : (width all n : ℕ) → width ≤ all → n % 2 ^ (all - width) ≡ 0 → number_bits all n ≡ number_bits width (n / 2 ^ (all - width)) ++ replicate (all - width) false
high_bits width all n le none =
    let parts : all ≡ width + (all - width) = omega arith in
    let low : number_bits (all - width) n ≡ replicate (all - width) false =
    sym (number_bits-mod (all - width) (all - width) n (omega arith)) ∙ rw none (number_bits-zero (all - width)) in
    ap (λ (w : ℕ). number_bits w n) parts ∙ number_bits-split width (all - width) n ∙ ap (λ (bits : List Bool). number_bits width (n / 2 ^ (all - width)) ++ bits) low

-- ---- numbers and bits, place by place

-- two bits are equal if their truth values are
pub same_bit : (a i b j : ℕ) → eqb (bit_at a i) 1 ≡ eqb (bit_at b j) 1 → bit_at a i ≡ bit_at b j
same_bit a i b j same = same_digit (bit_at a i) (bit_at b j) (bit_at-lt a i) (bit_at-lt b j) same

-- ---- the bits of bytes

pub length-bits_of : (bytes : List ℕ) → length (bits_of bytes) ≡ 8 * length bytes
length-bits_of [] = refl
length-bits_of (b ∷ bytes) =
    omega (arith, length-append (number_bits 8 b) (bits_of bytes), length-number_bits 8 b, length-bits_of bytes)

pub bits_of-take : (n : ℕ) (bytes : List ℕ) → bits_of (take n bytes) ≡ take (8 * n) (bits_of bytes)
bits_of-take zero bytes = refl
bits_of-take (suc n) [] = let none : 8 * suc n ≡ suc (8 * n + 7) = omega arith in rw none refl
bits_of-take (suc n) (b ∷ bytes) =
    let next : 8 * suc n ≡ length (number_bits 8 b) + 8 * n = omega (arith, length-number_bits 8 b) in
    rw (next, take-append-add (number_bits 8 b) (bits_of bytes) (8 * n), bits_of-take n bytes) refl

-- the bit with a number is a bit of the byte that contains it
pub get_or-bits_of : (bytes : List ℕ) (i : ℕ) → i < 8 * length bytes → get_or (bits_of bytes) i false ≡ eqb (bit_at (get_or bytes (i / 8) 0) (7 - i % 8)) 1
get_or-bits_of [] i lt = absurd (omega arith)
get_or-bits_of (b ∷ bytes) i lt =
    elim (cases_lt i 8) [
      | inl below ↦
          let here : i < length (number_bits 8 b) = omega (arith, length-number_bits 8 b) in
          let first : i / 8 ≡ 0 = omega arith in
          let same : 8 - 1 - i ≡ 7 - i % 8 = omega arith in
          rw (get_or_append_left (number_bits 8 b) (bits_of bytes) false i here, get_or-number_bits 8 b i below, first, same) refl
      | inr above ↦
          let q = i - 8 in
          let next : i ≡ length (number_bits 8 b) + (i - 8) = omega (arith, length-number_bits 8 b) in
          let byte : i / 8 ≡ suc ((i - 8) / 8) = omega arith in
          let same : i % 8 ≡ (i - 8) % 8 = omega arith in
          ap (λ (n : ℕ). get_or (number_bits 8 b ++ bits_of bytes) n false) next ∙ get_or-append-add (number_bits 8 b) (bits_of bytes) (i - 8) false ∙ get_or-bits_of bytes (i - 8) (omega arith) ∙ rw (byte, same) refl
    ]

-- ---- bytes of bits

pub length-bytes_from : (n : ℕ) (bits : List Bool) → length (bytes_from n bits) ≡ n
unfolding bytes_from
length-bytes_from zero bits = refl
length-bytes_from (suc n) bits = ap suc (length-bytes_from n (drop 8 bits))

pub bits_of-bytes_from : (n : ℕ) (bits : List Bool) → length bits ≡ 8 * n → bits_of (bytes_from n bits) ≡ bits
unfolding bytes_from
bits_of-bytes_from zero [] len = refl
bits_of-bytes_from zero (b ∷ bits) len = absurd (omega arith)
bits_of-bytes_from (suc n) bits len =
    let eight : length (take 8 bits) ≡ 8 = omega (arith, length-take 8 bits) in
    let first : number_bits 8 (bits_number (take 8 bits)) ≡ take 8 bits = ap (λ (w : ℕ). number_bits w (bits_number (take 8 bits))) (sym eight) ∙ number_bits-bits_number (take 8 bits) in
    let rest = bits_of-bytes_from n (drop 8 bits) (omega (arith, length-drop 8 bits)) in
    rw (first, rest) (take-append-drop 8 bits)

AreBytes-rest : (b : ℕ) (bytes : List ℕ) → AreBytes (b ∷ bytes) → AreBytes bytes
AreBytes-rest b bytes below i = below (suc i)

pub bytes_from-bits_of : (bytes : List ℕ) (rest : List Bool) → AreBytes bytes → bytes_from (length bytes) (bits_of bytes ++ rest) ≡ bytes
unfolding bytes_from
bytes_from-bits_of [] rest below = refl
bytes_from-bits_of (b ∷ bytes) rest below =
    let regrouped : (number_bits 8 b ++ bits_of bytes) ++ rest ≡ number_bits 8 b ++ (bits_of bytes ++ rest) = append_assoc (number_bits 8 b) (bits_of bytes) rest in
    let first : take 8 (number_bits 8 b ++ (bits_of bytes ++ rest)) ≡ number_bits 8 b = take_at (number_bits 8 b) (bits_of bytes ++ rest) 8 (length-number_bits 8 b) in
    let others : drop 8 (number_bits 8 b ++ (bits_of bytes ++ rest)) ≡ bits_of bytes ++ rest = drop_at (number_bits 8 b) (bits_of bytes ++ rest) 8 (length-number_bits 8 b) in
    let b_below = below 0 in
    let number : bits_number (number_bits 8 b) ≡ b = bits_number-number_bits 8 b ∙ omega arith in
    ap (bytes_from (suc (length bytes))) regrouped ∙ rw (first, others, number, bytes_from-bits_of bytes rest (AreBytes-rest b bytes below)) refl

-- bytes are determined by their bits
pub bits_of_injective : (a b : List ℕ) → AreBytes a → AreBytes b → bits_of a ≡ bits_of b → a ≡ b
bits_of_injective a b a_below b_below same =
    let lengths : length a ≡ length b = omega (arith, length-bits_of a, length-bits_of b, ap length same) in
    sym (bytes_from-bits_of a [] a_below) ∙ rw (lengths, same) (bytes_from-bits_of b [] b_below)

pub AreBytes-bytes_from : (n : ℕ) (bits : List Bool) → AreBytes (bytes_from n bits)
unfolding bytes_from
AreBytes-bytes_from zero bits i = omega arith
AreBytes-bytes_from (suc n) bits zero =
    omega (arith, bits_number_below (take 8 bits), pow-le-pow_right {n = 2} (omega arith) {i = length (take 8 bits)} {j = 8} (omega (arith, length-take 8 bits)))
AreBytes-bytes_from (suc n) bits (suc i) = AreBytes-bytes_from n (drop 8 bits) i

-- ---- bits that are all zero

pub get_or-append-zeros : (bits : List Bool) (n i : ℕ) → get_or (bits ++ replicate n false) i false ≡ get_or bits i false
get_or-append-zeros [] n i = get_or-replicate_same n i false
get_or-append-zeros (b ∷ bits) n zero = refl
get_or-append-zeros (b ∷ bits) n (suc i) = get_or-append-zeros bits n i

pub zeros_is : (bits : List Bool) → ((i : ℕ) → get_or bits i false ≡ false) → bits ≡ replicate (length bits) false
zeros_is [] none = refl
zeros_is (true ∷ bits) none = absurd (true≢false (none 0))
zeros_is (false ∷ bits) none = ap (λ (rest : List Bool). false ∷ rest) (zeros_is bits (λ i. none (suc i)))

-- ---- the bytes of a vector

pub length-padded : (bits : List Bool) → length (padded bits) ≡ 8 * byte_count (length bits)
length-padded bits =
    omega (arith, length-append bits (replicate (8 * byte_count (length bits) - length bits) false), length-replicate (8 * byte_count (length bits) - length bits) false)

pub take-padded : (bits : List Bool) → take (length bits) (padded bits) ≡ bits
take-padded bits = take_at bits (replicate (8 * byte_count (length bits) - length bits) false) (length bits) refl

pub length-vector_bytes : (bits : List Bool) → length (vector_bytes bits) ≡ byte_count (length bits)
unfolding vector_bytes
length-vector_bytes bits = length-bytes_from (byte_count (length bits)) (padded bits)

pub AreBytes-vector_bytes : (bits : List Bool) → AreBytes (vector_bytes bits)
unfolding vector_bytes
AreBytes-vector_bytes bits = AreBytes-bytes_from (byte_count (length bits)) (padded bits)

-- the bits of a vector's bytes are the vector, padded
pub bits_of-vector_bytes : (bits : List Bool) → bits_of (vector_bytes bits) ≡ padded bits
unfolding vector_bytes
bits_of-vector_bytes bits = bits_of-bytes_from (byte_count (length bits)) (padded bits) (length-padded bits)

pub take-bits_of-vector_bytes : (bits : List Bool) → take (length bits) (bits_of (vector_bytes bits)) ≡ bits
take-bits_of-vector_bytes bits = rw (bits_of-vector_bytes bits) (take-padded bits)

-- bytes whose bits are a padded vector are that vector's bytes
pub vector_bytes_is : (bytes : List ℕ) (bits : List Bool) → AreBytes bytes → bits_of bytes ≡ padded bits → bytes ≡ vector_bytes bits
vector_bytes_is bytes bits below same =
    bits_of_injective bytes (vector_bytes bits) below (AreBytes-vector_bytes bits) (same ∙ sym (bits_of-vector_bytes bits))

pub get_or-padded : (bits : List Bool) (i : ℕ) → get_or (padded bits) i false ≡ get_or bits i false
get_or-padded bits i = get_or-append-zeros bits (8 * byte_count (length bits) - length bits) i

-- bits that fill the given number of whole bytes, and are all zero after the vector, are the padded vector
pub padded_is : (bits : List Bool) (len : ℕ) → length bits ≡ 8 * byte_count len → len ≤ length bits → ((i : ℕ) → get_or (drop len bits) i false ≡ false) → bits ≡ padded (take len bits)
padded_is bits len whole le none =
    let front : length (take len bits) ≡ len = length-take-le len bits le in
    let rest : drop len bits ≡ replicate (length (drop len bits)) false = zeros_is (drop len bits) none in
    let zeros : length (drop len bits) ≡ 8 * byte_count (length (take len bits)) - length (take len bits) = omega (arith, length-drop len bits) in
    sym (take-append-drop len bits) ∙ ap (λ (r : List Bool). take len bits ++ r) (rest ∙ ap (λ (n : ℕ). replicate n false) zeros)

-- ---- whether a bit is 1 from a place on

pub one_from : (bits : List Bool) (from at : ℕ) → from ≤ at → at < length bits → get_or bits at false ≡ true → Contains (drop from bits) true
one_from bits from at le lt one =
    let back : from + (at - from) ≡ at = omega arith in
    (at - from, omega (arith, length-drop from bits), get_or-drop from bits (at - from) true ∙ rw back (get_or_default bits at true false lt ∙ one))

pub none_from : (bits : List Bool) (from : ℕ) → ((k : ℕ) → from ≤ k → k < length bits → get_or bits k false ≡ false) → Contains (drop from bits) true → ⊥
none_from bits from none one =
    let k = one.0 in
    let within : from + k < length bits = omega (arith, length-drop from bits, one.1) in
    true≢false (sym one.2 ∙ get_or-drop from bits k true ∙ get_or_default bits (from + k) true false within ∙ none (from + k) (omega arith) within)

pub zero_from_none : (bits : List Bool) → (Contains bits true → ⊥) → (i : ℕ) → get_or bits i false ≡ false
zero_from_none bits none i =
    elim (cases_lt i (length bits)) [
      | inl lt ↦ false_from_ne_true (get_or bits i false) (λ one. none (i, lt, get_or_default bits i true false lt ∙ one))
      | inr le ↦ get_or_past bits i false le
    ]

-- bytes that spell a vector of the given number of places: no bit after them is 1
pub stored_is : (bytes : List ℕ) (len : ℕ) → AreBytes bytes → length bytes ≡ byte_count len → (Contains (drop len (bits_of bytes)) true → ⊥) → bytes ≡ vector_bytes (take len (bits_of bytes))
stored_is bytes len below count none =
    vector_bytes_is bytes (take len (bits_of bytes)) below
    (padded_is (bits_of bytes) len (omega (arith, length-bits_of bytes)) (omega (arith, length-bits_of bytes)) (zero_from_none (drop len (bits_of bytes)) none))
