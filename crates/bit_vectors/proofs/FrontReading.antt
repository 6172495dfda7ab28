-- The given number of bits from the front of those that are left.
use Rattle.std.proofs.Common.{◌≡◌, ℕ, ◌+◌, ◌-◌, ◌<◌, ◌≤◌, Bool, false, List, ◌++◌, length, get_or, take, drop, replicate, refl, sym, ◌∙◌, arith, inl, inr}
use Rattle.std.proofs.lemmas.Bool.{cases_lt, le-leb, lt-leb}
use Rattle.std.proofs.lemmas.List.{ext_get_or, get_or-take, get_or-drop, get_or_append_left, get_or-append_right, length-append, length-take-le, length-drop, length-replicate, take_at, drop_at, take-append-drop}
use Rattle.bit_vectors.specs.Reading.{Parsed, Read, WrongBit, TooShort, CanBegin, IsWrongBefore, IsExact, parse_front}

-- the first of some bits, and the other places of a vector
pub front_is : (left v new : List Bool) (count : ℕ) → length new ≡ length v → count ≤ length left → count ≤ length v → ((k : ℕ) → k < count → get_or new k false ≡ get_or left k false) → ((k : ℕ) → count ≤ k → get_or new k false ≡ get_or v k false)
    → new ≡ take count left ++ drop count v
front_is left v new count len enough within front others =
    ext_get_or false new (take count left ++ drop count v) (omega (arith, length-append (take count left) (drop count v), length-take-le count left enough, length-drop count v)) (λ k lt. elim (cases_lt k count) [
      | inl below ↦ front k below ∙ sym (get_or_append_left (take count left) (drop count v) false k (omega (arith, length-take-le count left enough)) ∙ get_or-take count left k false below)
      | inr above ↦
          let place : count + (k - count) ≡ k = omega arith in
          others k above ∙ sym (get_or-append_right (take count left) (drop count v) count k false (length-take-le count left enough) above ∙ get_or-drop count v (k - count) false ∙ rw place refl)
    ])

-- ---- what reading them gives

pub parse_front-enough : (count : ℕ) (bits : List Bool) → count ≤ length bits → parse_front count bits ≡ Read (take count bits) (drop count bits)
unfolding parse_front
parse_front-enough count bits le = rw (le-leb count (length bits) le) refl

pub parse_front-short : (count : ℕ) (bits : List Bool) → length bits < count → parse_front count bits ≡ TooShort
unfolding parse_front
parse_front-short count bits lt = rw (lt-leb count (length bits) lt) refl

-- ---- exact

-- a list of the given number of bits, which is its own word
abbrev pub IsFront : ℕ → List Bool → List Bool → Type 0
IsFront count front word = (length front ≡ count) × (word ≡ front)

-- equal readings give equal bits and leave equal rests
pub same_read : (a b r s : List Bool) → ◌≡◌ {A = Parsed (List Bool)} (Read a r) (Read b s) → (a ≡ b) × (r ≡ s)
same_read a b r s e = (cc, cc)

front_read_is : (count : ℕ) (bits front rest : List Bool) → parse_front count bits ≡ Read front rest → (word : List Bool) × IsFront count front word × (bits ≡ word ++ rest)
front_read_is count bits front rest e =
    elim (cases_lt (length bits) count) [
      | inl short ↦ let none = parse_front-short count bits short in absurd cc
      | inr enough ↦
          let same = same_read (take count bits) front (drop count bits) rest (sym (parse_front-enough count bits enough) ∙ e) in
          (front, (rw (← same.0) (length-take-le count bits enough), refl), rw (← same.0, ← same.1) (sym (take-append-drop count bits)))
    ]

front_short_is : (count : ℕ) (bits : List Bool) → parse_front count bits ≡ TooShort → CanBegin (λ word. (front : List Bool) × IsFront count front word) bits
front_short_is count bits e =
    elim (cases_lt (length bits) count) [
      | inl short ↦
          let rest = replicate (count - length bits) false in
          (rest, (bits ++ rest, (omega (arith, length-append bits rest, length-replicate (count - length bits) false), refl)))
      | inr enough ↦ let read = parse_front-enough count bits enough in absurd cc
    ]

front_wrong_is : (count : ℕ) (bits rest : List Bool) → parse_front count bits ≡ WrongBit rest → IsWrongBefore (λ word. (front : List Bool) × IsFront count front word) bits rest
front_wrong_is count bits rest e =
    elim (cases_lt (length bits) count) [
      | inl short ↦ let none = parse_front-short count bits short in absurd cc
      | inr enough ↦ let read = parse_front-enough count bits enough in absurd cc
    ]

pub IsExact-front_at : (count : ℕ) → IsExact (IsFront count) (parse_front count)
IsExact-front_at count = record {
  reads = λ front word rest w.
      let len : length word ≡ count = rw w.1 w.0 in
      parse_front-enough count (word ++ rest) (omega (arith, length-append word rest)) ∙ rw (take_at word rest count len, drop_at word rest count len, w.1) refl;
  read_is = front_read_is count;
  wrong_is = front_wrong_is count;
  short_is = front_short_is count;
}
