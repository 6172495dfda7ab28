-- Words: their first bits and their parts, and the bytes that hold the same bits.
use borrow.Rule.Slice.PartMut.{put_mid}
use Rattle.std.specs.Int.{bit_at, byte_at, bytes_high_first, to_be_bytes, from_be_bytes, trailing_zeros}
use Rattle.std.specs.Prelude.{Contains, IsTrue, not}
use Rattle.std.proofs.Common.{◌≡◌, ℕ, zero, suc, ◌+◌, ◌-◌, ◌*◌, ◌/◌, ◌%◌, ◌^◌, ◌<◌, ◌≤◌, Bool, false, eqb, List, [], ◌++◌, length, get_or, take, drop, refl, sym, ap, ◌∙◌, arith, inl, inr, w64, ◌≢◌, min, true, set, w8}
use Rattle.std.proofs.Math.Dec.{eqb-suc-zero}
use Rattle.std.proofs.Math.Nat.{pow-succ', mul-mod_left, mul-le-mul_right, pow-le-pow_right}
use Rattle.std.proofs.Math.Seq.{take-add}
use Rattle.std.proofs.lemmas.Bool.{cases_lt, cases_eq}
use Rattle.std.proofs.lemmas.List.{get_or-take, get_or-drop, get_or_append_left, get_or-append-add, get_or_past, length-drop, take_all, length-take-le, ext_get_or, length-take, get_or-set_same, get_or-set_other, length-append, get_or-append_right}
use Rattle.std.proofs.lemmas.Nat.{be_bytes_8, pow-add, mod-pow-add, shl-shr, shr_below, mod_below, pow_pos, shl_whole, one_shl}
use Rattle.std.proofs.lemmas.Nat.Bits.{bit_at-zero, bit_at_cat_low, bit_at_cat_high, bit_at_above, bit_at-trailing_zeros}
use Rattle.bit_vectors.specs.Reading.{Shows, ShowsFirst}
use Rattle.bit_vectors.specs.Vectors.{number_bits, bits_of, AreBytes, byte_count}
use Rattle.bit_vectors.specs.Words.{IsWord, bit_of}
use Rattle.bit_vectors.proofs.NumberBits.{length-number_bits, get_or-number_bits, number_bits-split, number_bits-cat, number_bits-mod, bit_at_mod, bit_at_shr, bit_at_shl, bit_at_shl_low, length-bits_of, get_or-bits_of, one_from, none_from}
use Rattle.bit_vectors.proofs.WordBits.{bit_of-past}

-- ---- the bits of a word, and those of its bytes

byte_power : (k : ℕ) → 256 ^ k ≡ 2 ^ (8 * k)
byte_power zero = refl
byte_power (suc k) =
    let next : 8 * suc k ≡ 8 * k + 8 = omega arith in
    let one_more : 256 ^ suc k ≡ 256 * 256 ^ k = pow-succ' 256 k in
    let eight : 2 ^ (8 * k + 8) ≡ 2 ^ (8 * k) * 2 ^ 8 = pow-add 2 (8 * k) 8 in
    rw next (omega (arith, byte_power k))

bits_of-byte_at : (k n : ℕ) → number_bits 8 (byte_at k n) ≡ number_bits 8 (n / 2 ^ (8 * k))
bits_of-byte_at zero n =
    let whole : n / 2 ^ (8 * 0) ≡ n = omega arith in
    let power : 256 ≡ 2 ^ 8 = refl in
    number_bits-mod 8 8 n (omega arith) ∙ ap (number_bits 8) (sym whole)
bits_of-byte_at (suc k) n = rw (byte_power (suc k)) (number_bits-mod 8 8 (n / 2 ^ (8 * suc k)) (omega arith))

no_bits : (n : ℕ) → [] ≡ number_bits 0 n
unfolding number_bits
no_bits n = refl

bits_of-bytes_high_first : (k n : ℕ) → bits_of (bytes_high_first k n) ≡ number_bits (8 * k) n
bits_of-bytes_high_first zero n = no_bits n
bits_of-bytes_high_first (suc k) n =
    let next : 8 * suc k ≡ 8 + 8 * k = omega arith in
    rw (next, number_bits-split 8 (8 * k) n, bits_of-byte_at k n, bits_of-bytes_high_first k n) refl

pub bits_of-to_be_bytes : (n : ℕ) → bits_of (to_be_bytes w64 n) ≡ number_bits 64 n
bits_of-to_be_bytes n = bits_of-bytes_high_first 8 n

pub Shows-is : (bits : List Bool) (word : ℕ) → ((k : ℕ) → k < 64 → get_or (number_bits 64 word) k false ≡ get_or bits k false) → Shows bits word
Shows-is bits word same = λ k lt. sym (get_or-number_bits 64 word k lt) ∙ same k lt

-- the bit with a number, also after the end
pub get_or-bits_of_all : (bytes : List ℕ) (i : ℕ) → get_or (bits_of bytes) i false ≡ eqb (bit_at (get_or bytes (i / 8) 0) (7 - i % 8)) 1
get_or-bits_of_all bytes i =
    elim (cases_lt i (8 * length bytes)) [
      | inl lt ↦ get_or-bits_of bytes i lt
      | inr le ↦
          let none : get_or bytes (i / 8) 0 ≡ 0 = get_or_past bytes (i / 8) 0 (omega arith) in
          get_or_past (bits_of bytes) i false (omega (arith, length-bits_of bytes)) ∙ rw (none, bit_at-zero (7 - i % 8)) refl
    ]

-- the word of eight bytes shows them, and zeros if they are zeros that fill up after an end
pub Shows-bytes : (bytes front : List ℕ) (word : ℕ) → length front ≡ 8 → AreBytes front → word ≡ from_be_bytes w64 front
    → ((i : ℕ) → i < 8 → get_or front i 0 ≡ get_or bytes i 0) → Shows (bits_of bytes) word
Shows-bytes bytes front word len below is same =
    let bits : number_bits 64 word ≡ bits_of front = sym (bits_of-to_be_bytes word) ∙ ap (λ (b : List ℕ). bits_of b) (be_bytes_8 front word len below is) in
    Shows-is (bits_of bytes) word (λ k lt. rw (bits, get_or-bits_of_all front k, same (k / 8) (omega arith)) (sym (get_or-bits_of_all bytes k)))

-- ---- a word, and the first bits of the byte after it

pub shl_word : (word s : ℕ) → s ≤ 64 → word * 2 ^ s % 2 ^ 64 ≡ (word % 2 ^ (64 - s)) * 2 ^ s
shl_word word s le =
    let all : 64 - s + s ≡ 64 = omega arith in
    let none : word * 2 ^ s % 2 ^ s ≡ 0 = mul-mod_left word (2 ^ s) in
    ap (λ (w : ℕ). word * 2 ^ s % 2 ^ w) (sym all) ∙ mod-pow-add (word * 2 ^ s) (64 - s) s ∙ rw (shl-shr word s, none) (omega arith)

number_bits-then : (word byte s : ℕ) → s < 8 → byte < 2 ^ s → number_bits 64 (word * 2 ^ s % 2 ^ 64 + byte) ≡ number_bits (64 - s) word ++ number_bits s byte
number_bits-then word byte s lt below =
    let all : 64 - s + s ≡ 64 = omega arith in
    ap (λ (w : ℕ). number_bits w (word * 2 ^ s % 2 ^ 64 + byte)) (sym all)
    ∙ rw (shl_word word s (omega arith), number_bits-cat (64 - s) s (word % 2 ^ (64 - s)) byte below, number_bits-mod (64 - s) (64 - s) word (omega arith)) refl

byte_below : (byte s : ℕ) → s < 8 → byte < 256 → byte / 2 ^ (8 - s) < 2 ^ s
byte_below byte s lt below =
    let all : s + (8 - s) ≡ 8 = omega arith in
    let power : 2 ^ (s + (8 - s)) ≡ 256 = ap (λ (k : ℕ). 2 ^ k) all in
    shr_below byte s (8 - s) (rw power below)

pub after_fits : (word byte s : ℕ) → s < 8 → byte < 256 → word * 2 ^ s % 2 ^ 64 + byte / 2 ^ (8 - s) < 2 ^ 64
after_fits word byte s lt below =
    let all : 64 - s + s ≡ 64 = omega arith in
    let power : 2 ^ (64 - s + s) ≡ 2 ^ 64 = ap (λ (k : ℕ). 2 ^ k) all in
    let product = pow-add 2 (64 - s) s in
    let high : word % 2 ^ (64 - s) + 1 ≤ 2 ^ (64 - s) = omega (arith, mod_below word (2 ^ (64 - s)) (pow_pos (64 - s))) in
    rw (shl_word word s (omega arith), ← power, product) (omega (arith, byte_below byte s lt below, mul-le-mul_right (2 ^ s) high))

pub Shows-after : (bytes : List ℕ) (word byte s : ℕ) → s < 8 → byte < 256 → byte ≡ get_or bytes 8 0 → Shows (bits_of bytes) word → Shows (drop s (bits_of bytes)) (word * 2 ^ s % 2 ^ 64 + byte / 2 ^ (8 - s))
Shows-after bytes word byte s lt below is shows =
    Shows-is (drop s (bits_of bytes)) (word * 2 ^ s % 2 ^ 64 + byte / 2 ^ (8 - s)) (λ k k_lt.
    rw (number_bits-then word (byte / 2 ^ (8 - s)) s lt (byte_below byte s lt below), get_or-drop s (bits_of bytes) k false) (elim (cases_lt k (64 - s)) [
      | inl low ↦
          let weight : 64 - s - 1 - k ≡ 63 - (s + k) = omega arith in
          get_or_append_left (number_bits (64 - s) word) (number_bits s (byte / 2 ^ (8 - s))) false k (omega (arith, length-number_bits (64 - s) word))
          ∙ get_or-number_bits (64 - s) word k low ∙ rw weight (shows (s + k) (omega arith))
      | inr high ↦
          let j = k - (64 - s) in
          let place : k ≡ length (number_bits (64 - s) word) + (k - (64 - s)) = omega (arith, length-number_bits (64 - s) word) in
          let weight : 8 - s + (s - 1 - (k - (64 - s))) ≡ 7 - (s + k) % 8 = omega arith in
          let eighth : (s + k) / 8 ≡ 8 = omega arith in
          ap (λ (i : ℕ). get_or (number_bits (64 - s) word ++ number_bits s (byte / 2 ^ (8 - s))) i false) place
          ∙ get_or-append-add (number_bits (64 - s) word) (number_bits s (byte / 2 ^ (8 - s))) (k - (64 - s)) false
          ∙ get_or-number_bits s (byte / 2 ^ (8 - s)) (k - (64 - s)) (omega arith)
          ∙ rw (bit_at_shr byte (8 - s) (s - 1 - (k - (64 - s))), weight, is) (sym (get_or-bits_of_all bytes (s + k) ∙ rw eighth refl))
    ]))

-- the word after the given number of bits, which are whole bytes and fewer than eight bits more
pub Shows-from : (bytes : List ℕ) (place word n : ℕ) → length bytes ≤ n + place / 8 → Shows (drop (place % 8) (bits_of (take n (drop (place / 8) bytes)))) word → Shows (drop place (bits_of bytes)) word
Shows-from bytes place word n all shows =
    let rest : take n (drop (place / 8) bytes) ≡ drop (place / 8) bytes = take_all n (drop (place / 8) bytes) (omega (arith, length-drop (place / 8) bytes)) in
    λ k lt.
    let byte : place / 8 + (place % 8 + k) / 8 ≡ (place + k) / 8 = omega arith in
    let weight : (place % 8 + k) % 8 ≡ (place + k) % 8 = omega arith in
    shows k lt ∙ get_or-drop (place % 8) (bits_of (take n (drop (place / 8) bytes))) k false ∙ rw (rest, get_or-bits_of_all (drop (place / 8) bytes) (place % 8 + k), get_or-drop (place / 8) bytes ((place % 8 + k) / 8) 0, byte, weight)
    (sym (get_or-drop place (bits_of bytes) k false ∙ get_or-bits_of_all bytes (place + k)))

-- the same, from the bytes after the given number of bytes
pub Shows-drop : (bytes : List ℕ) (n s place word : ℕ) → place ≡ 8 * n + s → Shows (drop s (bits_of (drop n bytes))) word → Shows (drop place (bits_of bytes)) word
Shows-drop bytes n s place word place_is shows =
    λ k lt.
    let byte : n + (s + k) / 8 ≡ (place + k) / 8 = omega (arith, place_is) in
    let weight : (s + k) % 8 ≡ (place + k) % 8 = omega (arith, place_is) in
    shows k lt ∙ get_or-drop s (bits_of (drop n bytes)) k false ∙ rw (get_or-bits_of_all (drop n bytes) (s + k), get_or-drop n bytes ((s + k) / 8) 0, byte, weight)
    (sym (get_or-drop place (bits_of bytes) k false ∙ get_or-bits_of_all bytes (place + k)))

-- ---- a word of all the bits that are left

pub Shows-none : (bits : List Bool) → length bits ≤ 64 → Shows (drop 64 bits) 0
Shows-none bits most =
    λ k lt. rw (bit_at-zero (63 - k)) (sym (get_or-drop 64 bits k false ∙ get_or_past bits (64 + k) false (omega arith)))

pub Shows-left : (bits : List Bool) (word s : ℕ) → s < 64 → length bits ≤ 64 → Shows bits word → Shows (drop s bits) (word * 2 ^ s % 2 ^ 64)
Shows-left bits word s s_lt most shows =
    λ k lt.
    ap (λ (b : ℕ). eqb b 1) (bit_at_mod (word * 2 ^ s) 64 (63 - k) (omega arith)) ∙ elim (cases_lt k (64 - s)) [
      | inl low ↦
          let weight : 63 - k - s ≡ 63 - (s + k) = omega arith in
          rw (bit_at_shl word s (63 - k) (omega arith), weight) (shows (s + k) (omega arith) ∙ sym (get_or-drop s bits k false))
      | inr high ↦ rw (bit_at_shl_low word s (63 - k) (omega arith)) (sym (get_or-drop s bits k false ∙ get_or_past bits (s + k) false (omega arith)))
    ]

-- the first bits of a word that shows them
pub shown_first : (bits : List Bool) (word width : ℕ) → ShowsFirst width bits word → width ≤ 64 → width ≤ length bits → number_bits width (word / 2 ^ (64 - width)) ≡ take width bits
shown_first bits word width shows most le =
    ext_get_or false (number_bits width (word / 2 ^ (64 - width))) (take width bits) (length-number_bits width (word / 2 ^ (64 - width)) ∙ sym (length-take-le width bits le))
    (λ k lt.
    let below : k < width = omega (arith, length-number_bits width (word / 2 ^ (64 - width))) in
    let weight : 64 - width + (width - 1 - k) ≡ 63 - k = omega arith in
    get_or-number_bits width (word / 2 ^ (64 - width)) k below ∙ rw (bit_at_shr word (64 - width) (width - 1 - k), weight) (shows k below ∙ sym (get_or-take width bits k false below)))

pub shown_front : (bits : List Bool) (word width : ℕ) → Shows bits word → width ≤ 64 → width ≤ length bits → number_bits width (word / 2 ^ (64 - width)) ≡ take width bits
shown_front bits word width shows most le = shown_first bits word width (λ k lt. shows k (omega arith)) most le

-- the bits after the given number of those that are shown
pub ShowsFirst-after : (bits : List Bool) (word shown count : ℕ) → shown ≤ 64 → count ≤ shown → ShowsFirst shown bits word → ShowsFirst (shown - count) (drop count bits) (word * 2 ^ (count % 64) % 2 ^ 64)
ShowsFirst-after bits word shown count most le shows =
    λ k lt.
    let by : count % 64 ≡ count = omega arith in
    let weight : 63 - k - count ≡ 63 - (count + k) = omega arith in
    rw by (ap (λ (b : ℕ). eqb b 1) (bit_at_mod (word * 2 ^ count) 64 (63 - k) (omega arith) ∙ bit_at_shl word count (63 - k) (omega arith)) ∙ rw weight (shows (count + k) (omega arith) ∙ sym (get_or-drop count bits k false)))

-- ---- parts of words: the first bits of one word, followed by those of another

-- a number of i bits above one of j bits
pub cat_below : (i j a b : ℕ) → a < 2 ^ i → b < 2 ^ j → a * 2 ^ j + b < 2 ^ (i + j)
cat_below i j a b a_lt b_lt =
    let next : a + 1 ≤ 2 ^ i = omega arith in
    rw (pow-add 2 i j) (omega (arith, mul-le-mul_right (2 ^ j) next))

-- the first bits of a vector's word, after the words before it
pub word_part : (v : List Bool) (index word width : ℕ) → IsWord v index word → width ≤ 64 → 64 * index + width ≤ length v → take (64 * index) v ++ number_bits width (word / 2 ^ (64 - width)) ≡ take (64 * index + width) v
word_part v index word width is most within =
    let shows : Shows (drop (64 * index) v) word = λ k lt. is k lt ∙ sym (get_or-drop (64 * index) v k false) in
    rw (shown_front (drop (64 * index) v) word width shows most (omega (arith, length-drop (64 * index) v))) (sym (take-add (64 * index) width v))

-- the number that the given number of first bits of a word spell
pub high_below : (word width : ℕ) → word < 2 ^ 64 → width ≤ 64 → word / 2 ^ (64 - width) < 2 ^ width
high_below word width small most = let all : width + (64 - width) ≡ 64 = omega arith in shr_below word width (64 - width) (rw all small)

-- ---- the first bits of one word, and the other bits of another

module _ (word front width : ℕ) (some : 1 ≤ width) (most : width < 64) (below : front < 2 ^ 64) where
  -- what the code computes
  abbrev mixed : ℕ
  mixed = front / 2 ^ (64 - width) * 2 ^ (64 - width) % 2 ^ 64 + word % (1 * 2 ^ (64 - width) % 2 ^ 64)

  mixed_is : mixed ≡ front / 2 ^ (64 - width) * 2 ^ (64 - width) + word % 2 ^ (64 - width)
  mixed_is =
      rw (shl_whole (front / 2 ^ (64 - width)) width (64 - width) 64 (high_below front width below (omega arith)) (omega arith), one_shl (64 - width) 64 (omega arith)) refl

  low_below : word % 2 ^ (64 - width) < 2 ^ (64 - width)
  low_below = mod_below word (2 ^ (64 - width)) (pow_pos (64 - width))

  pub mixed_below : mixed < 2 ^ 64
  mixed_below =
      let all : width + (64 - width) ≡ 64 = omega arith in
      rw mixed_is (rw all at (cat_below width (64 - width) (front / 2 ^ (64 - width)) (word % 2 ^ (64 - width)) (high_below front width below (omega arith)) low_below))

  pub mixed_front : (k : ℕ) → k < width → bit_at mixed (63 - k) ≡ bit_at front (63 - k)
  mixed_front k lt =
      let place : 64 - width + (63 - k - (64 - width)) ≡ 63 - k = omega arith in
      rw (mixed_is, bit_at_cat_high (front / 2 ^ (64 - width)) (64 - width) (word % 2 ^ (64 - width)) (63 - k) low_below (omega arith), bit_at_shr front (64 - width) (63 - k - (64 - width)), place) refl

  pub mixed_others : (k : ℕ) → width ≤ k → k < 64 → bit_at mixed (63 - k) ≡ bit_at word (63 - k)
  mixed_others k le lt =
      rw (mixed_is, bit_at_cat_low (front / 2 ^ (64 - width)) (64 - width) (word % 2 ^ (64 - width)) (63 - k) (omega arith)) (bit_at_mod word (64 - width) (63 - k) (omega arith))

-- a vector whose bits before one word are the first of some bits, after that word was written with the next of them
module _ (left v into new : List Bool) (index width word front mixed : ℕ) (lt : width < 64) (done : (k : ℕ) → k < 64 * index → get_or into k false ≡ get_or left k false) (others : (k : ℕ) → 64 * index ≤ k → get_or into k false ≡ get_or v k false)
    (was : IsWord into index word) (shows : Shows (drop (64 * index) left) front) (first : (k : ℕ) → k < width → bit_at mixed (63 - k) ≡ bit_at front (63 - k)) (last : (k : ℕ) → width ≤ k → k < 64 → bit_at mixed (63 - k) ≡ bit_at word (63 - k))
    (now : IsWord new index mixed) (same : (k : ℕ) → k / 64 ≢ index → get_or new k false ≡ get_or into k false) where
  pub places_front : (k : ℕ) → k < 64 * index + width → get_or new k false ≡ get_or left k false
  places_front k below =
      elim (cases_eq (k / 64) index) [
        | inl here ↦
            let place : 64 * index + k % 64 ≡ k = omega arith in
            ap (λ (p : ℕ). get_or new p false) (sym place) ∙ sym (now (k % 64) (omega arith)) ∙ rw (first (k % 64) (omega arith)) (shows (k % 64) (omega arith)) ∙ get_or-drop (64 * index) left (k % 64) false ∙ rw place refl
        | inr other ↦ same k other ∙ done k (omega arith)
      ]

  pub places_others : (k : ℕ) → 64 * index + width ≤ k → get_or new k false ≡ get_or v k false
  places_others k above =
      elim (cases_eq (k / 64) index) [
        | inl here ↦
            let place : 64 * index + k % 64 ≡ k = omega arith in
            let kept : get_or into (64 * index + k % 64) false ≡ get_or v k false = rw place (others k (omega arith)) in
            ap (λ (p : ℕ). get_or new p false) (sym place) ∙ sym (now (k % 64) (omega arith)) ∙ rw (last (k % 64) (omega arith) (omega arith)) (was (k % 64) (omega arith)) ∙ kept
        | inr other ↦ same k other ∙ others k (omega arith)
      ]

-- ---- words from bytes

-- the first bytes from a word's place on are that word
pub IsWord-front : (bytes : List ℕ) (i n : ℕ) → Shows (bits_of (drop (8 * i) bytes)) n → IsWord (bits_of bytes) i n
IsWord-front bytes i n front k lt =
    let byte : 8 * i + k / 8 ≡ (64 * i + k) / 8 = omega arith in
    let place : k % 8 ≡ (64 * i + k) % 8 = omega arith in
    front k lt ∙ get_or-bits_of_all (drop (8 * i) bytes) k ∙ rw (get_or-drop (8 * i) bytes (k / 8) 0, byte, place) (sym (get_or-bits_of_all bytes (64 * i + k)))

bit_of-IsWord : (words : List ℕ) (bits : List Bool) (k : ℕ) → IsWord bits (k / 64) (get_or words (k / 64) 0) → bit_of words k ≡ get_or bits k false
unfolding bit_of
bit_of-IsWord words bits k word =
    let whole : 64 * (k / 64) + k % 64 ≡ k = omega arith in
    word (k % 64) (omega arith) ∙ ap (λ (i : ℕ). get_or bits i false) whole

pub loaded_bits : (bytes words : List ℕ) → length bytes ≤ 8 * length words → ((i : ℕ) → i < length words → IsWord (bits_of bytes) i (get_or words i 0)) → (k : ℕ) → bit_of words k ≡ get_or (bits_of bytes) k false
loaded_bits bytes words most filled k =
    elim (cases_lt (k / 64) (length words)) [
      | inl lt ↦ bit_of-IsWord words (bits_of bytes) k (filled (k / 64) lt)
      | inr le ↦ bit_of-past words k le ∙ sym (get_or_past (bits_of bytes) k false (omega (arith, length-bits_of bytes)))
    ]

-- the first eight bytes show the same word
pub shown_eight : (bytes : List ℕ) (word : ℕ) → Shows (bits_of (take 8 bytes)) word → Shows (bits_of bytes) word
shown_eight bytes word front k lt =
    front k lt ∙ get_or-bits_of_all (take 8 bytes) k ∙ rw (get_or-take 8 bytes (k / 8) 0 (omega arith)) (sym (get_or-bits_of_all bytes k))

-- one word more
pub loaded_more : (bytes words : List ℕ) (index w : ℕ) → index < length words → w < 2 ^ 64 → Shows (bits_of (drop (8 * index) bytes)) w → ((i : ℕ) → i < index → IsWord (bits_of bytes) i (get_or words i 0) × (get_or words i 0 < 2 ^ 64))
    → (i : ℕ) → i < index + 1 → IsWord (bits_of bytes) i (get_or (set words index w) i 0) × (get_or (set words index w) i 0 < 2 ^ 64)
loaded_more bytes words index w lt below front filled i i_lt =
    elim (cases_eq i index) [
      | inl here ↦ rw (here, get_or-set_same words index w 0 lt) (IsWord-front bytes index w front, below)
      | inr other ↦ rw (get_or-set_other words index i w 0 other) (filled i (omega arith))
    ]

-- ---- bytes from words

pub stored_bit : (bytes words : List ℕ) (k : ℕ) → get_or bytes (k / 8) 0 ≡ get_or (to_be_bytes w64 (get_or words (k / 8 / 8) 0)) (k / 8 % 8) 0 → get_or (bits_of bytes) k false ≡ bit_of words k
unfolding bit_of
stored_bit bytes words k stored =
    let word : k / 8 / 8 ≡ k / 64 = omega arith in
    let byte : k / 8 % 8 ≡ k % 64 / 8 = omega arith in
    let bit : k % 8 ≡ k % 64 % 8 = omega arith in
    let place : 64 - 1 - k % 64 ≡ 63 - k % 64 = omega arith in
    get_or-bits_of_all bytes k ∙ rw (stored, word, byte, bit) (sym (get_or-bits_of_all (to_be_bytes w64 (get_or words (k / 64) 0)) (k % 64)))
    ∙ ap (λ (bits : List Bool). get_or bits (k % 64) false) (bits_of-to_be_bytes (get_or words (k / 64) 0)) ∙ get_or-number_bits 64 (get_or words (k / 64) 0) (k % 64) (omega arith) ∙ rw place refl

-- a list that was written over a part of another list
pub get_or-put_mid_before : (a k : ℕ) (xs ys : List ℕ) (i : ℕ) → a ≤ length xs → i < a → get_or (put_mid a k xs ys) i 0 ≡ get_or xs i 0
get_or-put_mid_before a k xs ys i le lt =
    get_or_append_left (take a xs) (ys ++ drop k (drop a xs)) 0 i (omega (arith, length-take a xs)) ∙ get_or-take a xs i 0 lt

pub get_or-put_mid_in : (a k : ℕ) (xs ys : List ℕ) (i : ℕ) → a ≤ length xs → a ≤ i → i < a + length ys → get_or (put_mid a k xs ys) i 0 ≡ get_or ys (i - a) 0
get_or-put_mid_in a k xs ys i le from to =
    get_or-append_right (take a xs) (ys ++ drop k (drop a xs)) a i 0 (length-take-le a xs le) from ∙ get_or_append_left ys (drop k (drop a xs)) 0 (i - a) (omega arith)

-- one word more
pub stored_more : (bytes words part : List ℕ) (index end : ℕ) → 8 * index ≤ length bytes → end ≡ min (length bytes) (8 * index + 8) → part ≡ take (end - 8 * index) (to_be_bytes w64 (get_or words index 0))
    → ((i : ℕ) → i < 8 * index → i < length bytes → get_or bytes i 0 ≡ get_or (to_be_bytes w64 (get_or words (i / 8) 0)) (i % 8) 0)
    → (i : ℕ) → i < 8 * (index + 1) → i < length (put_mid (8 * index) (end - 8 * index) bytes part) → get_or (put_mid (8 * index) (end - 8 * index) bytes part) i 0 ≡ get_or (to_be_bytes w64 (get_or words (i / 8) 0)) (i % 8) 0
stored_more bytes words part index end le end_is part_is stored i i_lt inside =
    let part_len : length part ≡ end - 8 * index = ap (λ (xs : List ℕ). length xs) part_is ∙ length-take-le (end - 8 * index) (to_be_bytes w64 (get_or words index 0)) (omega arith) in
    let within : i < length bytes = omega (arith, length-append (take (8 * index) bytes) (part ++ drop (end - 8 * index) (drop (8 * index) bytes)), length-append part (drop (end - 8 * index) (drop (8 * index) bytes)), length-drop (end - 8 * index) (drop (8 * index) bytes), length-drop (8 * index) bytes, length-take (8 * index) bytes) in
    elim (cases_lt i (8 * index)) [
      | inl lt ↦ get_or-put_mid_before (8 * index) (end - 8 * index) bytes part i le lt ∙ stored i lt within
      | inr from ↦
          let word : i / 8 ≡ index = omega arith in
          let place : i % 8 ≡ i - 8 * index = omega arith in
          get_or-put_mid_in (8 * index) (end - 8 * index) bytes part i le from (omega arith)
          ∙ rw (part_is, get_or-take (end - 8 * index) (to_be_bytes w64 (get_or words index 0)) (i - 8 * index) 0 (omega arith), word, place) refl
    ]

-- ---- the spare bits of the last byte

low_one : (n low : ℕ) → low ≤ 7 → 0 < n % 2 ^ low → (i : ℕ) × (i < low) × (bit_at n i ≡ 1)
low_one n low le some =
    let small : n % 2 ^ low < 2 ^ low = mod_below n (2 ^ low) (pow_pos low) in
    let byte : n % 2 ^ low < 2 ^ 8 = omega (arith, pow-le-pow_right {n = 2} (omega arith) {i = low} {j = 8} (omega arith)) in
    let lowest = bit_at-trailing_zeros w8 (n % 2 ^ low) some byte in
    let lt : trailing_zeros w8 (n % 2 ^ low) < low =
    elim (cases_lt (trailing_zeros w8 (n % 2 ^ low)) low) [
      | inl lt ↦ lt
      | inr ge ↦ let none = bit_at_above (n % 2 ^ low) low (trailing_zeros w8 (n % 2 ^ low)) small ge in absurd (omega (arith, lowest.1))
    ] in
    (trailing_zeros w8 (n % 2 ^ low), lt, sym (bit_at_mod n low (trailing_zeros w8 (n % 2 ^ low)) lt) ∙ lowest.1)

-- the low bits of the last byte, which are after the last place
spare_is_one : (bytes : List ℕ) (places : ℕ) → 1 ≤ places → length bytes ≡ byte_count places → 0 < get_or bytes ((places - 1) / 8) 0 % 2 ^ (7 - (places - 1) % 8) → Contains (drop places (bits_of bytes)) true
spare_is_one bytes places some len some_bit =
    let one = low_one (get_or bytes ((places - 1) / 8) 0) (7 - (places - 1) % 8) (omega arith) some_bit in
    let at : ℕ = 8 * ((places - 1) / 8) + 7 - one.0 in
    let i_lt : one.0 < 7 - (places - 1) % 8 = one.1 in
    let byte : (8 * ((places - 1) / 8) + 7 - one.0) / 8 ≡ (places - 1) / 8 = omega arith in
    let place : 7 - (8 * ((places - 1) / 8) + 7 - one.0) % 8 ≡ one.0 = omega arith in
    one_from (bits_of bytes) places (8 * ((places - 1) / 8) + 7 - one.0) (omega arith) (omega (arith, length-bits_of bytes))
    (get_or-bits_of_all bytes (8 * ((places - 1) / 8) + 7 - one.0) ∙ rw (byte, place, one.2) refl)

no_spare_is_one : (bytes : List ℕ) (places : ℕ) → 1 ≤ places → length bytes ≡ byte_count places → get_or bytes ((places - 1) / 8) 0 % 2 ^ (7 - (places - 1) % 8) ≡ 0 → Contains (drop places (bits_of bytes)) true → ⊥
no_spare_is_one bytes places some len none =
    none_from (bits_of bytes) places (λ k from to.
    let within : k < 8 * length bytes = omega (arith, length-bits_of bytes) in
    let byte : k / 8 ≡ (places - 1) / 8 = omega arith in
    let low : 7 - k % 8 < 7 - (places - 1) % 8 = omega arith in
    let zero_is : bit_at (get_or bytes ((places - 1) / 8) 0) (7 - k % 8) ≡ 0 =
    sym (bit_at_mod (get_or bytes ((places - 1) / 8) 0) (7 - (places - 1) % 8) (7 - k % 8) low) ∙ rw none (bit_at-zero (7 - k % 8)) in
    get_or-bits_of_all bytes k ∙ rw (byte, zero_is) refl)

by_zero : (n : ℕ) (P : Type 0) → (0 < n → P) → (n ≡ 0 → P → ⊥) → (IsTrue (not (eqb n 0)) → P) × (P → IsTrue (not (eqb n 0)))
by_zero zero P some none = (λ e. absurd cc, λ p. absurd (none refl p))
by_zero (suc n) P some none = (λ e. some (omega arith), λ p. rw (eqb-suc-zero n) refl)

pub spare_by_test : (bytes : List ℕ) (places weight : ℕ) → 1 ≤ places → length bytes ≡ byte_count places → weight ≡ 1 * 2 ^ (7 - (places - 1) % 8) % 2 ^ 8
    → (IsTrue (not (eqb (get_or bytes ((places - 1) / 8) 0 % weight) 0)) → Contains (drop places (bits_of bytes)) true) × (Contains (drop places (bits_of bytes)) true → IsTrue (not (eqb (get_or bytes ((places - 1) / 8) 0 % weight) 0)))
spare_by_test bytes places weight some len weight_is =
    let power : weight ≡ 2 ^ (7 - (places - 1) % 8) = weight_is ∙ one_shl (7 - (places - 1) % 8) 8 (omega arith) in
    rw power (by_zero (get_or bytes ((places - 1) / 8) 0 % 2 ^ (7 - (places - 1) % 8)) (Contains (drop places (bits_of bytes)) true) (spare_is_one bytes places some len) (no_spare_is_one bytes places some len))
