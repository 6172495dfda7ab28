-- What a pen's bytes and its word hold after each number is put.
use Rattle.std.proofs.Common.{◌≡◌, ℕ, ◌+◌, ◌-◌, ◌*◌, ◌/◌, ◌%◌, ◌^◌, ◌<◌, ◌≤◌, Bool, true, false, List, [], ◌∷◌, ◌++◌, length, take, drop, replicate, w64, refl, sym, ap, ◌∙◌, arith, inl, inr, append_assoc}
use Rattle.std.specs.Int.{to_be_bytes}
use mir.Val.{bool_byte}
use Rattle.std.proofs.lemmas.Bool.{cases_lt}
use Rattle.std.proofs.lemmas.List.{length-append, length-drop, length-take, length-take-le, append-nil, take_at, take-append-le, take-take, take-replicate}
use Rattle.std.proofs.lemmas.List.Concat.{flat_map-append}
use Rattle.std.proofs.lemmas.Nat.{pow-add, pow_pos, mod_below, shl-shr, shr_split, shr_below, shl_below, shl_whole, mul-mod_first}
use Rattle.std.proofs.Math.Nat.{mul-mod_left}
use Rattle.std.proofs.Math.Seq.{take-add, take-append-add}
use Rattle.bit_vectors.specs.Reading.{Shows}
use Rattle.bit_vectors.specs.Vectors.{number_bits, bits_of, AreBytes, byte_count, padded, vector_bytes}
use Rattle.bit_vectors.specs.Pen.{written_bits, HasRoom}
use Rattle.bit_vectors.proofs.NumberBits.{length-number_bits, number_bits-cat, number_bits-split, number_bits-mod, high_bits, length-bits_of, bits_of-take, vector_bytes_is}
use Rattle.bit_vectors.proofs.WordBytes.{bits_of-to_be_bytes, shl_word, shown_front, cat_below}

pub no_bits : (n : ℕ) → number_bits 0 n ≡ []
unfolding number_bits
no_bits n = refl

pub number_bits-bit : (bit : Bool) → number_bits 1 (bool_byte bit) ≡ bit ∷ []
unfolding number_bits
number_bits-bit true = refl
number_bits-bit false = refl

-- ---- a word with room for a number

-- the number that the held bits and the number after them spell
joined : (word value held width : ℕ) → held + width ≤ 64 → word % 2 ^ (64 - held) ≡ 0 → word + value * 2 ^ (64 - (held + width)) ≡ (word / 2 ^ (64 - held) * 2 ^ width + value) * 2 ^ (64 - (held + width))
joined word value held width within clean =
    let all : width + (64 - (held + width)) ≡ 64 - held = omega arith in
    let power : 2 ^ (64 - held) ≡ 2 ^ width * 2 ^ (64 - (held + width)) = ap (λ (k : ℕ). 2 ^ k) (sym all) ∙ pow-add 2 width (64 - (held + width)) in
    let product : word / 2 ^ (64 - held) * 2 ^ (64 - held) ≡ word / 2 ^ (64 - held) * (2 ^ width * 2 ^ (64 - (held + width))) = ap (λ (p : ℕ). word / 2 ^ (64 - held) * p) power in
    omega (arith, shr_split word (64 - held))

-- the held bits, as a number
pub low_below : (word held : ℕ) → held ≤ 64 → word < 2 ^ 64 → word / 2 ^ (64 - held) < 2 ^ held
low_below word held le small = let all : held + (64 - held) ≡ 64 = omega arith in shr_below word held (64 - held) (rw all small)

-- the word with the number after its bits
abbrev pub joined_word : ℕ → ℕ → ℕ → ℕ → ℕ
joined_word word value held width = word + value * 2 ^ (64 - (held + width)) % 2 ^ 64

module _ (word value held width : ℕ) (within : held + width ≤ 64) (small : word < 2 ^ 64) (clean : word % 2 ^ (64 - held) ≡ 0) (fits : value < 2 ^ width) where
  joined_is : joined_word word value held width ≡ (word / 2 ^ (64 - held) * 2 ^ width + value) * 2 ^ (64 - (held + width))
  joined_is = rw (shl_whole value width (64 - (held + width)) 64 fits (omega arith)) (joined word value held width within clean)

  pub joined_bits : number_bits (held + width) (joined_word word value held width / 2 ^ (64 - (held + width))) ≡ number_bits held (word / 2 ^ (64 - held)) ++ number_bits width value
  joined_bits =
      rw (joined_is, shl-shr (word / 2 ^ (64 - held) * 2 ^ width + value) (64 - (held + width))) (number_bits-cat held width (word / 2 ^ (64 - held)) value fits)

  pub joined_clean : joined_word word value held width % 2 ^ (64 - (held + width)) ≡ 0
  joined_clean = rw joined_is (mul-mod_left (word / 2 ^ (64 - held) * 2 ^ width + value) (2 ^ (64 - (held + width))))

  pub joined_small : joined_word word value held width < 2 ^ 64
  joined_small =
      let all : held + width + (64 - (held + width)) ≡ 64 = omega arith in
      let below = shl_below (word / 2 ^ (64 - held) * 2 ^ width + value) (held + width) (64 - (held + width)) (cat_below held width (word / 2 ^ (64 - held)) value (low_below word held (omega arith) small) fits) in
      rw joined_is (rw all at below)

-- ---- a word that becomes full

-- the full word, and the word after it
abbrev pub full_word : ℕ → ℕ → ℕ → ℕ → ℕ
full_word word value held width = word + value / 2 ^ (held + width - 64)

abbrev pub rest_word : ℕ → ℕ → ℕ → ℕ → ℕ
rest_word word value held width = value * 2 ^ (63 - (held + width - 64)) % 2 ^ 64 * 2 ^ 1 % 2 ^ 64

module _ (word value held width : ℕ) (short : held < 64) (full : 64 ≤ held + width) (most : width ≤ 64) (small : word < 2 ^ 64) (clean : word % 2 ^ (64 - held) ≡ 0) (fits : value < 2 ^ width) where
  first_below : value / 2 ^ (held + width - 64) < 2 ^ (64 - held)
  first_below = let all : 64 - held + (held + width - 64) ≡ width = omega arith in shr_below value (64 - held) (held + width - 64) (rw all fits)

  all : 64 ≡ held + (64 - held)
  all = omega arith

  full_is : full_word word value held width ≡ word / 2 ^ (64 - held) * 2 ^ (64 - held) + value / 2 ^ (held + width - 64)
  full_is = omega (arith, shr_split word (64 - held))

  pub full_bits : number_bits 64 (full_word word value held width) ≡ number_bits held (word / 2 ^ (64 - held)) ++ number_bits (64 - held) (value / 2 ^ (held + width - 64))
  full_bits = rw full_is (ap (λ (w : ℕ). number_bits w (word / 2 ^ (64 - held) * 2 ^ (64 - held) + value / 2 ^ (held + width - 64))) all ∙ number_bits-cat held (64 - held) (word / 2 ^ (64 - held)) (value / 2 ^ (held + width - 64)) first_below)

  pub full_small : full_word word value held width < 2 ^ 64
  full_small =
      let below = cat_below held (64 - held) (word / 2 ^ (64 - held)) (value / 2 ^ (held + width - 64)) (low_below word held (omega arith) small) first_below in
      rw full_is (rw (← all) at below)

  rest_is : rest_word word value held width ≡ (value % 2 ^ (held + width - 64)) * 2 ^ (64 - (held + width - 64))
  rest_is =
      let one_more : 63 - (held + width - 64) + 1 ≡ 64 - (held + width - 64) = omega arith in
      let back : 64 - (64 - (held + width - 64)) ≡ held + width - 64 = omega arith in
      let power : 2 ^ (64 - (held + width - 64)) ≡ 2 ^ (63 - (held + width - 64)) * 2 ^ 1 = ap (λ (k : ℕ). 2 ^ k) (sym one_more) ∙ pow-add 2 (63 - (held + width - 64)) 1 in
      let product : value * 2 ^ (63 - (held + width - 64)) * 2 ^ 1 ≡ value * 2 ^ (64 - (held + width - 64)) = rw power (omega arith) in
      let shifted : value * 2 ^ (64 - (held + width - 64)) % 2 ^ 64 ≡ (value % 2 ^ (held + width - 64)) * 2 ^ (64 - (held + width - 64)) = rw back at (shl_word value (64 - (held + width - 64)) (omega arith)) in
      mul-mod_first (value * 2 ^ (63 - (held + width - 64))) (2 ^ 1) (2 ^ 64) ∙ ap (λ (n : ℕ). n % 2 ^ 64) product ∙ shifted

  pub rest_bits : number_bits (held + width - 64) (rest_word word value held width / 2 ^ (64 - (held + width - 64))) ≡ number_bits (held + width - 64) value
  rest_bits = rw (rest_is, shl-shr (value % 2 ^ (held + width - 64)) (64 - (held + width - 64))) (number_bits-mod (held + width - 64) (held + width - 64) value (omega arith))

  pub rest_clean : rest_word word value held width % 2 ^ (64 - (held + width - 64)) ≡ 0
  rest_clean = rw rest_is (mul-mod_left (value % 2 ^ (held + width - 64)) (2 ^ (64 - (held + width - 64))))

  -- together they have the held bits and those of the number
  pub both_bits : number_bits 64 (full_word word value held width) ++ number_bits (held + width - 64) (rest_word word value held width / 2 ^ (64 - (held + width - 64))) ≡ number_bits held (word / 2 ^ (64 - held)) ++ number_bits width value
  both_bits =
      let all : width ≡ 64 - held + (held + width - 64) = omega arith in
      rw (full_bits, rest_bits) (append_assoc (number_bits held (word / 2 ^ (64 - held))) (number_bits (64 - held) (value / 2 ^ (held + width - 64))) (number_bits (held + width - 64) value)
      ∙ ap (λ (bits : List Bool). number_bits held (word / 2 ^ (64 - held)) ++ bits) (sym (number_bits-split (64 - held) (held + width - 64) value) ∙ ap (λ (w : ℕ). number_bits w value) (sym all)))

-- ---- what the bytes hold

-- bytes with a word written after the given number of bytes
abbrev pub HasWord : List ℕ → List ℕ → ℕ → ℕ → Type 0
HasWord bytes new words word = take (8 * words + 8) new ≡ take (8 * words) bytes ++ to_be_bytes w64 word

length-word : (word : ℕ) → length (to_be_bytes w64 word) ≡ 8
length-word word = refl

-- the words before it stay
pub words_before : (bytes new : List ℕ) (words word : ℕ) → 8 * words ≤ length bytes → HasWord bytes new words word → take (8 * words) new ≡ take (8 * words) bytes
words_before bytes new words word within has =
    let len : length (take (8 * words) bytes) ≡ 8 * words = length-take-le (8 * words) bytes within in
    sym (take-take (8 * words) (8 * words + 8) new (omega arith)) ∙ ap (take (8 * words)) has ∙ take_at (take (8 * words) bytes) (to_be_bytes w64 word) (8 * words) len

-- the bits of the words and of the word after them
pub bits_with : (bytes new : List ℕ) (words word : ℕ) → HasWord bytes new words word → bits_of (take (8 * words + 8) new) ≡ bits_of (take (8 * words) bytes) ++ number_bits 64 word
bits_with bytes new words word has =
    ap (λ (b : List ℕ). bits_of b) has ∙ flat_map-append (number_bits 8) (take (8 * words) bytes) (to_be_bytes w64 word) ∙ rw (bits_of-to_be_bytes word) refl

pub length-written : (bytes : List ℕ) (capacity words word held room : ℕ) → HasRoom bytes capacity words word held room → length (written_bits bytes words word held) ≡ 64 * words + held
length-written bytes capacity words word held room h =
    omega (arith, length-append (bits_of (take (8 * words) bytes)) (number_bits held (word / 2 ^ (64 - held))), length-bits_of (take (8 * words) bytes), length-take (8 * words) bytes, length-number_bits held (word / 2 ^ (64 - held)), h.within, h.bytes_fit)

-- a number after the bits of a word that doesn't become full
module _ (bytes new : List ℕ) (capacity words word held room value width : ℕ) (h : HasRoom bytes capacity words word held room) (lt : held + width < 64) (fits : value < 2 ^ width) (within : 64 * words + held + width ≤ room)
    (same : length new ≡ length bytes) (has : HasWord bytes new words (joined_word word value held width)) where
  pub HasRoom-joined : HasRoom new capacity words (joined_word word value held width) (held + width) room
  HasRoom-joined = record {
    within = omega arith;
    most = h.most;
    bytes_fit = same ∙ h.bytes_fit;
    taken = h.taken;
    short = lt;
    small = joined_small word value held width (omega arith) h.small h.clean fits;
    clean = joined_clean word value held width (omega arith) h.small h.clean fits;
    kept = λ some. rw (words_before bytes new words (joined_word word value held width) (omega (arith, h.within, h.bytes_fit)) has) has;
  }

  pub written-joined : written_bits new words (joined_word word value held width) (held + width) ≡ written_bits bytes words word held ++ number_bits width value
  written-joined =
      rw (words_before bytes new words (joined_word word value held width) (omega (arith, h.within, h.bytes_fit)) has, joined_bits word value held width (omega arith) h.small h.clean fits)
      (sym (append_assoc (bits_of (take (8 * words) bytes)) (number_bits held (word / 2 ^ (64 - held))) (number_bits width value)))

-- the words of other bytes, one more at a time
pub word_after : (bytes : List ℕ) (index word : ℕ) → 8 * index + 8 ≤ length bytes → Shows (bits_of (drop (8 * index) bytes)) word → bits_of (take (8 * (index + 1)) bytes) ≡ bits_of (take (8 * index) bytes) ++ number_bits 64 word
word_after bytes index word within shows =
    let next : 8 * (index + 1) ≡ 8 * index + 8 = omega arith in
    let whole : word / 2 ^ (64 - 64) ≡ word = omega arith in
    let is : bits_of (take 8 (drop (8 * index) bytes)) ≡ number_bits 64 word =
    bits_of-take 8 (drop (8 * index) bytes)
    ∙ sym (shown_front (bits_of (drop (8 * index) bytes)) word 64 shows (omega arith) (omega (arith, length-bits_of (drop (8 * index) bytes), length-drop (8 * index) bytes)))
    ∙ ap (number_bits 64) whole in
    ap (λ (b : List ℕ). bits_of b) (ap (λ (n : ℕ). take n bytes) next ∙ take-add (8 * index) 8 bytes)
    ∙ flat_map-append (number_bits 8) (take (8 * index) bytes) (take 8 (drop (8 * index) bytes))
    ∙ ap (λ (b : List Bool). bits_of (take (8 * index) bytes) ++ b) is

pub words_taken : (bytes : List ℕ) (capacity words word held room index : ℕ) → HasRoom bytes capacity words word held room → index ≤ words → take (64 * index) (written_bits bytes words word held) ≡ bits_of (take (8 * index) bytes)
words_taken bytes capacity words word held room index h le =
    let bits : 64 * index ≡ 8 * (8 * index) = omega arith in
    take-append-le (64 * index) (bits_of (take (8 * words) bytes)) (number_bits held (word / 2 ^ (64 - held))) (omega (arith, length-bits_of (take (8 * words) bytes), length-take (8 * words) bytes, h.within, h.bytes_fit))
    ∙ ap (λ (n : ℕ). take n (bits_of (take (8 * words) bytes))) bits
    ∙ sym (bits_of-take (8 * index) (take (8 * words) bytes))
    ∙ ap (λ (b : List ℕ). bits_of b) (take-take (8 * index) (8 * words) bytes (omega arith))

pub next_word : (bytes : List ℕ) (capacity words word held room index value : ℕ) → HasRoom bytes capacity words word held room → index < words → Shows (bits_of (drop (8 * index) bytes)) value
    → take (64 * index) (written_bits bytes words word held) ++ number_bits 64 value ≡ take (64 * (index + 1)) (written_bits bytes words word held)
next_word bytes capacity words word held room index value h lt shows =
    ap (λ (b : List Bool). b ++ number_bits 64 value) (words_taken bytes capacity words word held room index h (omega arith))
    ∙ sym (word_after bytes index value (omega (arith, h.within, h.bytes_fit)) shows)
    ∙ sym (words_taken bytes capacity words word held room (index + 1) h (omega arith))

-- bytes with two words written after the given number of bytes
abbrev pub HasWords : List ℕ → List ℕ → ℕ → ℕ → ℕ → Type 0
HasWords bytes new words first second = take (8 * words + 16) new ≡ take (8 * words) bytes ++ to_be_bytes w64 first ++ to_be_bytes w64 second

pub HasWords-both : (bytes mid new : List ℕ) (words first second : ℕ) → HasWord bytes mid words first → HasWord mid new (words + 1) second → HasWords bytes new words first second
HasWords-both bytes mid new words first second one two =
    let end : 8 * words + 16 ≡ 8 * (words + 1) + 8 = omega arith in
    let next : 8 * (words + 1) ≡ 8 * words + 8 = omega arith in
    ap (λ (n : ℕ). take n new) end ∙ two ∙ ap (λ (b : List ℕ). b ++ to_be_bytes w64 second) (ap (λ (n : ℕ). take n mid) next ∙ one)

-- a number that fills the word, and whose last bits are those of the next word
module _ (bytes new : List ℕ) (capacity words word held room value width : ℕ) (h : HasRoom bytes capacity words word held room) (full : 64 ≤ held + width) (most : width ≤ 64) (fits : value < 2 ^ width) (within : 64 * words + held + width ≤ room)
    (same : length new ≡ length bytes) (has : HasWords bytes new words (full_word word value held width) (rest_word word value held width)) where
  before : take (8 * (words + 1)) new ≡ take (8 * words) bytes ++ to_be_bytes w64 (full_word word value held width)
  before =
      let len : length (take (8 * words) bytes ++ to_be_bytes w64 (full_word word value held width)) ≡ 8 * (words + 1) =
      omega (arith, length-append (take (8 * words) bytes) (to_be_bytes w64 (full_word word value held width)), length-word (full_word word value held width), length-take (8 * words) bytes, h.within, h.bytes_fit) in
      sym (take-take (8 * (words + 1)) (8 * words + 16) new (omega arith)) ∙ ap (take (8 * (words + 1))) has
      ∙ take_at (take (8 * words) bytes ++ to_be_bytes w64 (full_word word value held width)) (to_be_bytes w64 (rest_word word value held width)) (8 * (words + 1)) len

  pub HasRoom-full : HasRoom new capacity (words + 1) (rest_word word value held width) (held + width - 64) room
  HasRoom-full =
      let end : 8 * (words + 1) + 8 ≡ 8 * words + 16 = omega arith in
      record {
        within = omega arith;
        most = h.most;
        bytes_fit = same ∙ h.bytes_fit;
        taken = h.taken;
        short = omega (arith, h.short);
        small = mod_below (value * 2 ^ (63 - (held + width - 64)) % 2 ^ 64 * 2 ^ 1) (2 ^ 64) (pow_pos 64);
        clean = rest_clean word value held width h.short full most h.small h.clean fits;
        kept = λ some. rw (before, end) has;
      }

  pub written-full : written_bits new (words + 1) (rest_word word value held width) (held + width - 64) ≡ written_bits bytes words word held ++ number_bits width value
  written-full =
      let whole : bits_of (take (8 * (words + 1)) new) ≡ bits_of (take (8 * words) bytes) ++ number_bits 64 (full_word word value held width) =
      ap (λ (b : List ℕ). bits_of b) before ∙ flat_map-append (number_bits 8) (take (8 * words) bytes) (to_be_bytes w64 (full_word word value held width)) ∙ rw (bits_of-to_be_bytes (full_word word value held width)) refl in
      rw whole (append_assoc (bits_of (take (8 * words) bytes)) (number_bits 64 (full_word word value held width)) _ ∙ rw (both_bits word value held width h.short full most h.small h.clean fits) (sym (append_assoc (bits_of (take (8 * words) bytes)) (number_bits held (word / 2 ^ (64 - held))) (number_bits width value))))

-- ---- the bytes of the bits

-- some of the bytes of the words and of the word after them
front_bits : (bytes : List ℕ) (words word held count : ℕ) → held < 64 → word % 2 ^ (64 - held) ≡ 0 → 8 * words ≤ length bytes → HasWord bytes bytes words word → count ≤ 8 * words + 8 → 64 * words + held ≤ 8 * count
    → bits_of (take count bytes) ≡ written_bits bytes words word held ++ replicate (8 * count - (64 * words + held)) false
front_bits bytes words word held count short clean within has most least =
    let bits = written_bits bytes words word held in
    let len : length (written_bits bytes words word held) ≡ 64 * words + held = omega (arith, length-append (bits_of (take (8 * words) bytes)) (number_bits held (word / 2 ^ (64 - held))), length-bits_of (take (8 * words) bytes), length-take (8 * words) bytes, length-number_bits held (word / 2 ^ (64 - held))) in
    let all : bits_of (take (8 * words + 8) bytes) ≡ written_bits bytes words word held ++ replicate (64 - held) false =
    bits_with bytes bytes words word has ∙ rw (high_bits held 64 word (omega arith) clean) (sym (append_assoc (bits_of (take (8 * words) bytes)) (number_bits held (word / 2 ^ (64 - held))) (replicate (64 - held) false))) in
    let place : 8 * count ≡ length (written_bits bytes words word held) + (8 * count - (64 * words + held)) = omega arith in
    ap (λ (b : List ℕ). bits_of b) (sym (take-take count (8 * words + 8) bytes most)) ∙ bits_of-take count (take (8 * words + 8) bytes) ∙ ap (take (8 * count)) all
    ∙ ap (λ (n : ℕ). take n (written_bits bytes words word held ++ replicate (64 - held) false)) place
    ∙ take-append-add (written_bits bytes words word held) (replicate (64 - held) false) (8 * count - (64 * words + held))
    ∙ ap (λ (zeros : List Bool). written_bits bytes words word held ++ zeros) (take-replicate (8 * count - (64 * words + held)) (64 - held) false (omega arith))

-- whole words fill their bytes
whole_bits : (bytes : List ℕ) (words word : ℕ) → 8 * words ≤ length bytes → bits_of (take (byte_count (64 * words + 0)) bytes) ≡ padded (written_bits bytes words word 0)
whole_bits bytes words word within =
    let count : byte_count (64 * words + 0) ≡ 8 * words = omega arith in
    let none : 8 * byte_count (length (bits_of (take (8 * words) bytes))) - length (bits_of (take (8 * words) bytes)) ≡ 0 = omega (arith, length-bits_of (take (8 * words) bytes)) in
    rw (count, no_bits (word / 2 ^ 64), append-nil (bits_of (take (8 * words) bytes)), none) (sym (append-nil (bits_of (take (8 * words) bytes))))

padded_bits : (bytes : List ℕ) (capacity words word held room : ℕ) → HasRoom bytes capacity words word held room → bits_of (take (byte_count (64 * words + held)) bytes) ≡ padded (written_bits bytes words word held)
padded_bits bytes capacity words word held room h =
    let len = length-written bytes capacity words word held room h in
    elim (cases_lt 0 held) [
      | inl some ↦ rw len (front_bits bytes words word held (byte_count (64 * words + held)) h.short h.clean (omega (arith, h.within, h.bytes_fit)) (h.kept some) (omega (arith, h.short)) (omega arith))
      | inr none ↦
          let nothing : held ≡ 0 = omega arith in
          rw nothing (whole_bits bytes words word (omega (arith, h.within, h.bytes_fit)))
    ]

-- the bytes that contain the bits are those of the bits
pub pen_bytes_are : (bytes : List ℕ) (capacity words word held room : ℕ) → HasRoom bytes capacity words word held room → AreBytes (take (byte_count (64 * words + held)) bytes)
    → take (byte_count (64 * words + held)) bytes ≡ vector_bytes (written_bits bytes words word held)
pen_bytes_are bytes capacity words word held room h below =
    vector_bytes_is (take (byte_count (64 * words + held)) bytes) (written_bits bytes words word held) below (padded_bits bytes capacity words word held room h)
