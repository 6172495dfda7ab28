-- What rows say about a packet number, also in steps.
use Rattle.std.specs.List.{filter_map, list_any}
use Rattle.std.specs.Option.{option_map, option_map_or}
use Rattle.std.specs.Prelude.{ℕ, ◌-◌, ◌%◌, ◌≤◌, ◌==◌, nat_le, Bool, ◌&&◌, ◌≡◌, ◌<◌, false, List, find, reverse, Option, Some, None}
use Rattle.bit_vectors.specs.declared.flags.Flags.{Flags}
use Rattle.side_tables.specs.declared.rows.CopyRow.{CopyRow}
use Rattle.side_tables.specs.declared.rows.FlagRow.{FlagRow}
use Rattle.side_tables.specs.declared.rows.RobustRow.{RobustRow}
use Rattle.side_tables.specs.declared.rows.ScheduleRow.{ScheduleRow}
use Rattle.side_tables.specs.declared.rows.ScheduleRow.TheVariants as row
use Rattle.side_tables.specs.declared.span.Span.{Span}

-- ---- packet numbers in steps

-- whether the number is from the first to the last, and a whole number of steps after the first
abbrev pub names : Span → ℕ → Bool
names span t = nat_le span.first t && nat_le t span.last && ((t - span.first) % span.step == 0)

-- a span from a first number to a last one that is not smaller, in steps of one or more
pub record IsSpan (span : Span) : Type 0 where
  pub forward : span.first ≤ span.last
  pub step : 1 ≤ span.step

-- ---- what rows say about a packet number

abbrev pub flag_span : FlagRow → Span
flag_span row = record { first = row.first; last = row.last; step = row.step }

abbrev pub robust_span : RobustRow → Span
robust_span row = record { first = row.first; last = row.last; step = row.step }

abbrev pub copy_span : CopyRow → Span
copy_span row = record { first = row.first; last = row.last; step = row.step }

-- a row of flags: the numbers from its first to its last, in steps
abbrev pub IsFlagRow : FlagRow → Type 0
IsFlagRow row = IsSpan (flag_span row)

-- a row of required robustness: the same, and at most 7
pub record IsRobustRow (row : RobustRow) : Type 0 where
  pub span : IsSpan (robust_span row)
  pub value : row.value ≤ 7

abbrev pub IsScheduleRow : ScheduleRow → Type 0
IsScheduleRow (row.Flags flags) = IsFlagRow flags
IsScheduleRow (row.Robust robust) = IsRobustRow robust

-- a row of a script: the same numbers, and at most nine copies
pub record IsCopyRow (row : CopyRow) : Type 0 where
  pub span : IsSpan (copy_span row)
  pub copies : row.copies ≤ 9

-- the rows of a schedule, each kind in its order
pub record ScheduleRows : Type 0 where
  pub flags : List FlagRow
  pub robust : List RobustRow

-- the flag row that a row of a schedule is, and the row of required robustness that it is
abbrev pub flag_row : ScheduleRow → Option FlagRow
flag_row (row.Flags flags) = Some flags
flag_row (row.Robust robust) = None

abbrev pub robust_row : ScheduleRow → Option RobustRow
robust_row (row.Flags flags) = None
robust_row (row.Robust robust) = Some robust

-- these rows by their kinds
abbrev pub by_kind : List ScheduleRow → ScheduleRows
by_kind rows = record { flags = filter_map flag_row rows; robust = filter_map robust_row rows }

-- the flags that a row gives to the number: its own if it names the number
abbrev pub gives_flag : (Flags → Bool) → ℕ → FlagRow → Bool
gives_flag flag t row = names (flag_span row) t && flag row.flags

-- the flags of all rows that name the number, combined
abbrev pub flags_of : List FlagRow → ℕ → Flags
flags_of rows t = record {
  p = list_any (gives_flag (λ flags. flags.p) t) rows;
  f = list_any (gives_flag (λ flags. flags.f) t) rows;
  r = list_any (gives_flag (λ flags. flags.r) t) rows;
}

abbrev pub no_flags : Flags
no_flags = record { p = false; f = false; r = false }

-- the last row that names the number
abbrev pub last_row : {R : Type 0} → (R → Span) → List R → ℕ → Option R
last_row span_of rows t = find (λ row. names (span_of row) t) (reverse rows)

-- the required robustness that the last row that names the number gives, or none if none does
abbrev pub robust_of : List RobustRow → ℕ → Option ℕ
robust_of rows t = option_map (λ row. row.value) (last_row robust_span rows t)

-- the copies that the last row that names the number gives, or one if none does
abbrev pub copies_of : List CopyRow → ℕ → ℕ
copies_of rows t = option_map_or (λ row. row.copies) (last_row copy_span rows t) 1

-- rows that give nothing to the numbers from one up to another
pub record GiveNothing (rows : ScheduleRows) (from until : ℕ) : Type 0 where
  pub flags : (n : ℕ) → from ≤ n → n < until → flags_of rows.flags n ≡ no_flags
  pub robust : (n : ℕ) → from ≤ n → n < until → robust_of rows.robust n ≡ None
