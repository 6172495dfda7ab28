-- Reading a list of bits from its front, and what an eye sees of it.
use Rattle.std.specs.Int.{bit_at}
use Rattle.std.specs.Prelude.{◌≡◌, ℕ, ◌-◌, ◌<◌, ◌==◌, Bool, false, List, drop, slice_index_or, ◌+◌, ◌≤◌, nat_le, true, not, [], ◌∷◌, ◌++◌, length, take, Result, Ok, Err, if◌then◌else◌}
use Rattle.bit_vectors.specs.Vectors.{bits_number}
use Rattle.bit_vectors.specs.declared.fault.BitFault.{BitFault}
use Rattle.bit_vectors.specs.declared.fault.BitFault.TheVariants.{Wrong, EndsEarly}

-- ---- what an eye sees: all bits, and the number of the next one

pub record EyeState : Type 0 where
  pub bits : List Bool
  pub place : ℕ

-- the bits that are still to be read
abbrev pub bits_left : EyeState → List Bool
bits_left eye = drop eye.place eye.bits

-- as many of the first bits of a word as given are the first of these bits, and zeros after their end
abbrev pub ShowsFirst : ℕ → List Bool → ℕ → Type 0
ShowsFirst count bits word = (k : ℕ) → k < count → (bit_at word (63 - k) == 1) ≡ slice_index_or bits k false

-- all 64 bits of a word
abbrev pub Shows : List Bool → ℕ → Type 0
Shows bits word = ShowsFirst 64 bits word

-- ---- reading a list of bits from its front: the value that its first bits spell and the bits after them, or the first
-- fault. A reader is exact for words if it gives each word's value, and finds each fault at the first bit at which
-- it can be seen

-- a value and the bits after it; the bits after the first wrong one; or the bits end before a word does
pub data Parsed (A : Type 0) : Type 0 where
  Read : A → List Bool → Parsed A
  WrongBit : List Bool → Parsed A
  TooShort : Parsed A

-- one reader after another; the second may depend on the value of the first
infixl 10 ◌>>=◌
abbrev pub ◌>>=◌ : {A B : Type 0} → Parsed A → (A → List Bool → Parsed B) → Parsed B
(Read value rest) >>= next = next value rest
(WrongBit rest) >>= next = WrongBit rest
TooShort >>= next = TooShort

-- one bit, which must pass a test
abbrev pub bit_where : (Bool → Bool) → List Bool → Parsed Bool
bit_where ok [] = TooShort
bit_where ok (bit ∷ rest) = if ok bit then Read bit rest else WrongBit rest

-- a test that accepts some bits
abbrev pub allowed : Bool → Bool → Bool → Bool
allowed zero one bit = if bit then one else zero

-- one bit, whatever it is
abbrev pub any_bit : List Bool → Parsed Bool
any_bit bits = bit_where (allowed true true) bits

-- the given number of bits, whatever they are
unfoldable pub parse_front : ℕ → List Bool → Parsed (List Bool)
parse_front count bits = if nat_le count (length bits) then Read (take count bits) (drop count bits) else TooShort

-- a number of this width, whatever its bits are
unfoldable pub parse_number : ℕ → List Bool → Parsed ℕ
parse_number width bits = parse_front width bits >>= λ front rest. Read (bits_number front) rest

-- the bits of a word, and no others
unfoldable pub parse_word : List Bool → List Bool → Parsed (Unit {0})
parse_word [] bits = Read tt bits
parse_word (bit ∷ word) bits =
    bit_where (allowed (not bit) bit) bits
    >>= λ found rest. parse_word word rest

-- ---- what an eye's reading is

-- the eye has moved on within the same bits
pub record MovesOn (old new : EyeState) : Type 0 where
  pub bits : new.bits ≡ old.bits
  pub forward : old.place ≤ new.place

-- what a call answered, seen through `view`, and how it left the eye, are what reading the bits left gives
abbrev pub Gives : {A B : Type 0} → (A → B) → Result A BitFault → EyeState → Parsed B → Type 0
Gives view (Ok x) new reading = reading ≡ Read (view x) (bits_left new)
Gives view (Err (Wrong bit)) new reading = (reading ≡ WrongBit (bits_left new)) × (bit < length new.bits) × (new.place ≡ bit + 1)
Gives view (Err (EndsEarly bit)) new reading = (reading ≡ TooShort) × (bit ≡ length new.bits) × (new.place ≡ length new.bits)

-- ---- exact readers

-- some word begins with these bits
abbrev pub CanBegin : (List Bool → Type 0) → List Bool → Type 0
CanBegin IsWord front = (rest : List Bool) × IsWord (front ++ rest)

-- the bit just before `rest` is the first one after which no word can follow
pub record IsWrongBefore (IsWord : List Bool → Type 0) (bits rest : List Bool) : Type 0 where
  pub front : List Bool
  pub bit : Bool
  pub parts : bits ≡ front ++ bit ∷ rest
  pub hopeful : CanBegin IsWord front
  pub hopeless : CanBegin IsWord (front ++ bit ∷ []) → ⊥

-- a reader gives the values that the words say, and each fault at the first place
pub record IsExact {A : Type 0} (IsWordOf : A → List Bool → Type 0) (read : List Bool → Parsed A) : Type 0 where
  pub reads : (value : A) (word rest : List Bool) → IsWordOf value word → read (word ++ rest) ≡ Read value rest
  pub read_is : (bits : List Bool) (value : A) (rest : List Bool) → read bits ≡ Read value rest → (word : List Bool) × IsWordOf value word × (bits ≡ word ++ rest)
  pub wrong_is : (bits rest : List Bool) → read bits ≡ WrongBit rest → IsWrongBefore (λ word. (value : A) × IsWordOf value word) bits rest
  pub short_is : (bits : List Bool) → read bits ≡ TooShort → CanBegin (λ word. (value : A) × IsWordOf value word) bits

-- ---- the first fault of an eye's reading

-- the bit is the first one after which no word can follow, and the eye is just after it
pub record IsFirstWrong (IsWord : List Bool → Type 0) (old new : EyeState) (bit : ℕ) : Type 0 where
  pub inside : old.place ≤ bit
  pub after : new.place ≡ bit + 1
  pub hopeful : CanBegin IsWord (take (bit - old.place) (bits_left old))
  pub hopeless : CanBegin IsWord (take (bit + 1 - old.place) (bits_left old)) → ⊥

-- all bits were read, a word could still follow, and none is complete
pub record IsEarlyEnd (IsWord : List Bool → Type 0) (old new : EyeState) (bit : ℕ) : Type 0 where
  pub all : bit ≡ length old.bits
  pub at_end : new.place ≡ length old.bits
  pub hopeful : CanBegin IsWord (bits_left old)
  pub incomplete : (word rest : List Bool) → IsWord word → bits_left old ≡ word ++ rest → ⊥

abbrev pub IsFirstFault : (List Bool → Type 0) → EyeState → EyeState → BitFault → Type 0
IsFirstFault IsWord old new (Wrong bit) = IsFirstWrong IsWord old new bit
IsFirstFault IsWord old new (EndsEarly bit) = IsEarlyEnd IsWord old new bit
