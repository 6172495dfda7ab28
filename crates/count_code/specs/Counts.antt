-- Words within a limit, and reading them.
use Rattle.std.specs.Prelude.{◌≡◌, ℕ, zero, suc, ◌+◌, ◌-◌, ◌*◌, ◌^◌, ◌≤◌, nat_le, Bool, true, false, if◌then◌else◌, List, ◌++◌, length}
use Rattle.bit_vectors.specs.Reading.{ShowsFirst, Parsed, Read, ◌>>=◌, bit_where, allowed}
use Rattle.count_code.specs.declared.ahead.Ahead.{Ahead}
use Rattle.count_code.specs.declared.count.Count.{Count}
use Rattle.count_code.specs.declared.count.Count.TheVariants.{Value, End}
use Rattle.count_code.specs.Code.{count_bits, end_bits}

abbrev pub word_of : Count → List Bool
word_of (Value a) = count_bits a
word_of End = end_bits

-- a count is from 1 up
abbrev pub IsCount : Count → Type 0
IsCount (Value a) = 1 ≤ a
IsCount End = Unit {0}

-- a count is from 1 to the limit; the end is always within it
abbrev pub IsWithin : ℕ → Count → Type 0
IsWithin limit (Value a) = (1 ≤ a) × (a ≤ limit)
IsWithin limit End = Unit {0}

abbrev pub IsCodeOf : ℕ → Count → List Bool → Type 0
IsCodeOf limit count word = IsWithin limit count × (word ≡ word_of count)

-- the words within the limit
abbrev pub IsCode : ℕ → List Bool → Type 0
IsCode limit word = (count : Count) × IsCodeOf limit count word

-- the bits that are kept are the first of these bits
pub record AreAhead (bits : List Bool) (ahead : Ahead) : Type 0 where
  pub most : ahead.shown ≤ 64
  pub within : ahead.shown ≤ length bits
  pub shows : ShowsFirst ahead.shown bits ahead.word

-- ---- completions

-- the word of the count begins with these bits
abbrev pub IsBegunBy : List Bool → Count → Type 0
IsBegunBy front count = (rest : List Bool) × (word_of count ≡ front ++ rest)

-- the least count from 1 up whose word begins with these bits is within the limit
pub record IsLeastWithin (limit : ℕ) (front : List Bool) : Type 0 where
  pub least : ℕ
  pub within : IsWithin limit (Value least)
  pub begun : IsBegunBy front (Value least)
  pub lower : (a : ℕ) → 1 ≤ a → IsBegunBy front (Value a) → least ≤ a

-- ---- reading

-- the last bits of a number that is at most `most` and begins with `so_far`
unfoldable pub parse_bounded : ℕ → ℕ → ℕ → List Bool → Parsed ℕ
parse_bounded most so_far zero bits = Read so_far bits
parse_bounded most so_far (suc width) bits =
    bit_where (allowed (nat_le (2 * so_far * 2 ^ width) most) (nat_le ((2 * so_far + 1) * 2 ^ width) most)) bits
    >>= λ bit rest. parse_bounded most (2 * so_far + (if bit then 1 else 0)) width rest

-- a number that is at most `most`, after `seen` zeros and before at most as many more as given: it has six more
-- digits than there are zeros, and its first digit is the first 1
unfoldable pub parse_long : ℕ → ℕ → ℕ → List Bool → Parsed ℕ
parse_long most seen zero bits =
    bit_where (allowed false true) bits
    >>= λ bit rest. parse_bounded most 1 (seen + 5) rest
parse_long most seen (suc more) bits =
    bit_where (allowed (nat_le (2 ^ (seen + 6)) most) true) bits
    >>= λ bit rest. if bit then parse_bounded most 1 (seen + 5) rest else parse_long most (seen + 1) more rest

-- a count of two or more, less 2, after its first two bits
unfoldable pub parse_above_one : ℕ → List Bool → Parsed ℕ
parse_above_one limit bits =
    bit_where (allowed true (nat_le 34 limit)) bits
    >>= λ long rest. if long then parse_long (limit - 2) 0 (limit - 2) rest else parse_bounded (limit - 2) 0 5 rest

-- what comes after a first bit that is 1
unfoldable pub parse_after_one : ℕ → List Bool → Parsed Count
parse_after_one limit bits =
    bit_where (allowed true (nat_le 2 limit)) bits
    >>= λ second rest. if second then (parse_above_one limit rest >>= λ n rest. Read (Value (n + 2)) rest) else Read End rest

unfoldable pub parse_count : ℕ → List Bool → Parsed Count
parse_count limit bits =
    bit_where (allowed (nat_le 1 limit) true) bits
    >>= λ first rest. if first then parse_after_one limit rest else Read (Value 1) rest
