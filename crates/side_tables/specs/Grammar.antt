-- Which records are rows.
use Rattle.std.specs.Prelude.{ℕ, ◌+◌, ◌==◌, nat_le, Bool, ◌&&◌, ◌||◌, if◌then◌else◌, List, length, count_by, codes, Option, None, Some}
use Rattle.std.specs.List.{list_all}
use Rattle.std.specs.Option.{option_map}
use Rattle.std.specs.Str.{bytes_eq}
use Rattle.csv.specs.Records.{field_at}
use Rattle.bit_vectors.specs.declared.flags.Flags.{Flags}
use Rattle.side_tables.specs.declared.rows.FlagRow.{FlagRow}
use Rattle.side_tables.specs.declared.rows.RobustRow.{RobustRow}
use Rattle.side_tables.specs.declared.rows.ScheduleRow.{ScheduleRow}
use Rattle.side_tables.specs.declared.rows.ScheduleRow.TheVariants.{Flags as OfFlags, Robust as OfRobust}
use Rattle.side_tables.specs.declared.rows.CopyRow.{CopyRow}
use Rattle.side_tables.specs.declared.span.Span.{Span}
use Rattle.side_tables.specs.Numbers.{number_of}
use Rattle.side_tables.specs.Rows.{ScheduleRows, by_kind}
use Rattle.side_tables.specs.Texts.{alone, rows_of, bad_row}

infixl 10 ◌>>=◌
abbrev pub ◌>>=◌ : {A B : Type 0} → Option A → (A → Option B) → Option B
None >>= f = None
(Some x) >>= f = f x

-- the number that a field says: a plain decimal within bounds
abbrev pub field_number : List (List ℕ) → ℕ → ℕ → ℕ → Option ℕ
field_number fields place low high = field_at fields place >>= number_of low high

-- the span that three fields from a place on say: the first number, the last and the step
abbrev pub span_from : List (List ℕ) → ℕ → Option Span
span_from fields place = do
  first ← field_number fields place 0 4294967295
  last ← field_number fields (place + 1) first 4294967295
  step ← field_number fields (place + 2) 1 4294967295
  Some (record { first = first; last = last; step = step })

-- how often a letter occurs in a text
abbrev pub count_of : List ℕ → ℕ → ℕ
count_of letters letter = count_by (λ other. other == letter) letters

abbrev pub has : List ℕ → ℕ → Bool
has letters letter = nat_le 1 (count_of letters letter)

abbrev pub is_letter : ℕ → Bool
is_letter letter = (letter == 112) || ((letter == 102) || (letter == 114))

-- only the letters `p`, `f` and `r`, each at most once, and at least one
abbrev pub are_letters : List ℕ → Bool
are_letters letters =
    nat_le 1 (length letters) && (list_all is_letter letters
    && (nat_le (count_of letters 112) 1 && (nat_le (count_of letters 102) 1 && nat_le (count_of letters 114) 1)))

-- the flags that letters name, in any order
abbrev pub flags_named : List ℕ → Option Flags
flags_named letters = if are_letters letters then Some (record { p = has letters 112; f = has letters 102; r = has letters 114 }) else None

-- first, last, step and flags: a row of flags
abbrev pub flag_row_of : List (List ℕ) → Option FlagRow
flag_row_of fields =
    if length fields == 4 then (do
      span ← span_from fields 0
      flags ← field_at fields 3 >>= flags_named
      Some (record { first = span.first; last = span.last; step = span.step; flags = flags }))
    else None

-- `robust`, first, last, step, value: a row of required robustness, 0 to 7
abbrev pub robust_row_of : List (List ℕ) → Option RobustRow
robust_row_of fields =
    if length fields == 5 then (do
      span ← span_from fields 1
      value ← field_number fields 4 0 7
      Some (record { first = span.first; last = span.last; step = span.step; value = value }))
    else None

-- a row of a schedule
abbrev pub schedule_row_of : List (List ℕ) → Option ScheduleRow
schedule_row_of fields =
    field_at fields 0 >>= λ word. if bytes_eq word (codes "robust") then option_map OfRobust (robust_row_of fields) else option_map OfFlags (flag_row_of fields)

abbrev pub copy_row : Span → ℕ → CopyRow
copy_row span copies = record { first = span.first; last = span.last; step = span.step; copies = copies }

-- `drop`, first, last, step: no copies
abbrev pub drop_row_of : List (List ℕ) → Option CopyRow
drop_row_of fields = if length fields == 4 then (span_from fields 1 >>= λ span. Some (copy_row span 0)) else None

-- `repeat`, first, last, step, extra: one copy and 1 to 8 more
abbrev pub repeat_row_of : List (List ℕ) → Option CopyRow
repeat_row_of fields =
    if length fields == 5 then (do
      span ← span_from fields 1
      extra ← field_number fields 4 1 8
      Some (copy_row span (1 + extra)))
    else None

-- a row of a script
abbrev pub copy_row_of : List (List ℕ) → Option CopyRow
copy_row_of fields = field_at fields 0 >>= λ word. if bytes_eq word (codes "drop") then drop_row_of fields else if bytes_eq word (codes "repeat") then repeat_row_of fields else None

-- the rows of a schedule's and of a script's text, and the number of the first record that is not a row
abbrev pub schedule_rows_of : List ℕ → ScheduleRows
schedule_rows_of text = by_kind (rows_of (alone schedule_row_of) text)

abbrev pub copy_rows_of : List ℕ → List CopyRow
copy_rows_of text = rows_of (alone copy_row_of) text

abbrev pub bad_schedule_row : List ℕ → Option ℕ
bad_schedule_row text = bad_row (alone schedule_row_of) text

abbrev pub bad_copy_row : List ℕ → Option ℕ
bad_copy_row text = bad_row (alone copy_row_of) text
