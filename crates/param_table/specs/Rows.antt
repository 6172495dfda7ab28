-- The rows of a side text: which records are rows, and the columns that they make.
use Rattle.std.specs.Char.{is_ascii_alphabetic, is_ascii_alphanumeric}
use Rattle.std.specs.List.{filter_map, find, list_all, list_any}
use Rattle.std.specs.Option.{option_map}
use Rattle.std.specs.Prelude.{ℕ, ◌+◌, ◌^◌, ◌<◌, ◌≤◌, ◌==◌, nat_le, Bool, true, false, ◌&&◌, ◌||◌, List, [], ◌∷◌, length, map, Option, Some, None, if◌then◌else◌, unsigned_abs, All, IfSome, ◌-◌, min, nat_lt, not, count_by, codes, int_lt}
use Rattle.std.specs.Str.{bytes_eq}
use Rattle.csv.specs.Records.{field_at}
use Rattle.side_tables.specs.Grammar.{◌>>=◌}
use Rattle.side_tables.specs.Numbers.{number_of, signed_number_of}
use Rattle.side_tables.specs.Texts.{rows_of, bad_row}
use Rattle.param_table.specs.declared.rows.Column.{Column}
use Rattle.param_table.specs.declared.rows.FieldRow.{FieldRow}
use Rattle.param_table.specs.declared.rows.Limit.{Limit}
use Rattle.param_table.specs.declared.rows.LimitRow.{LimitRow}
use Rattle.param_table.specs.declared.rows.TextRow.{TextRow}
use Rattle.param_table.specs.declared.rows.TextRow.TheVariants as row

-- ---- names

abbrev pub is_name_byte : ℕ → Bool
is_name_byte byte = is_ascii_alphanumeric byte || (byte == 95)

-- 1 to 32 ASCII letters, digits or `_`, the first of them a letter
abbrev pub is_name : List ℕ → Bool
is_name [] = false
is_name (first ∷ rest) = is_ascii_alphabetic first && (nat_le (length (first ∷ rest)) 32 && list_all is_name_byte (first ∷ rest))

-- the name that a text is, if it is one
abbrev pub name_in : List ℕ → Option (List ℕ)
name_in text = if is_name text then Some text else None

abbrev pub same_name : List ℕ → List ℕ → Bool
same_name = bytes_eq

-- ---- rows

abbrev pub is_field : TextRow → Bool
is_field (row.Field field) = true
is_field (row.Limit limit) = false

-- whether a row names the field of this name, and whether it gives it a limit
abbrev pub names_field : List ℕ → TextRow → Bool
names_field name (row.Field field) = same_name field.name name
names_field name (row.Limit limit) = false

abbrev pub names_limit : List ℕ → TextRow → Bool
names_limit name (row.Field field) = false
names_limit name (row.Limit limit) = same_name limit.name name

-- the places of a field within vectors of f places: 1 to 64 of them, from the given one on
pub record IsField (f place width : ℕ) : Type 0 where
  pub some : 1 ≤ width
  pub most : width ≤ 64
  pub within : place + width ≤ f

abbrev pub IsFieldRow : ℕ → FieldRow → Type 0
IsFieldRow f field = IsField f field.place field.width

-- limits have absolute values of 64 bits
pub record IsLimit (limit : Limit) : Type 0 where
  pub low : unsigned_abs limit.low < 2 ^ 64
  pub high : unsigned_abs limit.high < 2 ^ 64

abbrev pub IsLimitRow : LimitRow → Type 0
IsLimitRow limit = IsLimit limit.limit

abbrev pub IsTextRow : ℕ → TextRow → Type 0
IsTextRow f (row.Field field) = IsFieldRow f field
IsTextRow f (row.Limit limit) = IsLimitRow limit

-- ---- columns

abbrev pub field_of : TextRow → Option FieldRow
field_of (row.Field field) = Some field
field_of (row.Limit limit) = None

abbrev pub limit_of : TextRow → Option LimitRow
limit_of (row.Field field) = None
limit_of (row.Limit limit) = Some limit

-- the limit that the first of these rows gives to the field of this name, if one does
abbrev pub limit_named : List LimitRow → List ℕ → Option Limit
limit_named limits name = option_map (λ limit. limit.limit) (find (λ limit. same_name limit.name name) limits)

abbrev pub column_of : List LimitRow → FieldRow → Column
column_of limits field = record { field = field; limit = limit_named limits field.name }

-- a column for each field, in the order of the rows
abbrev pub columns_of : List TextRow → List Column
columns_of rows = map (column_of (filter_map limit_of rows)) (filter_map field_of rows)

-- a column within vectors of f places
pub record IsColumn (f : ℕ) (column : Column) : Type 0 where
  pub field : IsFieldRow f column.field
  pub limit : IfSome column.limit IsLimit

-- columns that fit vectors of f places
pub record AreColumns (f : ℕ) (columns : List Column) : Type 0 where
  pub each : All (IsColumn f) columns
  pub few : length columns ≤ 256

-- ---- which records are rows

-- `s` for signed numbers and `u` for others
abbrev pub is_signed_kind : List ℕ → Option Bool
is_signed_kind kind = if bytes_eq kind (codes "u") then Some false else if bytes_eq kind (codes "s") then Some true else None

-- `field`, place, width, kind, name: a field within f places, whose name no row before it has; at most 256 of them
abbrev pub field_row_of : ℕ → List TextRow → List (List ℕ) → Option FieldRow
field_row_of f before fields =
    if (length fields == 5) && nat_lt (count_by is_field before) 256 then (do
      place ← field_at fields 1 >>= number_of 0 (f - 1)
      width ← field_at fields 2 >>= number_of 1 (min 64 (f - place))
      signed ← field_at fields 3 >>= is_signed_kind
      name ← field_at fields 4 >>= name_in
      if list_any (names_field name) before then None
          else Some (record { place = place; width = width; signed = signed; name = name }))
    else None

-- `limit`, name, low, high: a limit of a field that a row before it names, and that has none yet
abbrev pub limit_row_of : List TextRow → List (List ℕ) → Option LimitRow
limit_row_of before fields =
    if length fields == 4 then (do
      name ← field_at fields 1 >>= name_in
      low ← field_at fields 2 >>= signed_number_of
      high ← field_at fields 3 >>= signed_number_of
      if list_any (names_field name) before && (not (list_any (names_limit name) before) && not (int_lt high low))
          then Some (record { name = name; limit = record { low = low; high = high } })
          else None)
    else None

-- a row, by its first field
abbrev pub text_row_of : ℕ → List TextRow → List (List ℕ) → Option TextRow
text_row_of f before fields =
    field_at fields 0 >>= λ word.
    if bytes_eq word (codes "field") then option_map row.Field (field_row_of f before fields)
    else if bytes_eq word (codes "limit") then option_map row.Limit (limit_row_of before fields) else None

-- the columns of a text for vectors of f places, and the number of the first record that is not a row
abbrev pub text_columns : ℕ → List ℕ → List Column
text_columns f text = columns_of (rows_of (text_row_of f) text)

abbrev pub bad_text_row : ℕ → List ℕ → Option ℕ
bad_text_row f text = bad_row (text_row_of f) text
