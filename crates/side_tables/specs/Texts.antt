-- What a text of comma-separated values says.
use Rattle.std.specs.Prelude.{◌≡◌, ℕ, ◌+◌, ◌<◌, ◌≤◌, if◌then◌else◌, List, [], ◌∷◌, ◌++◌, length, Option, None, Some, is_none}
use Rattle.std.specs.Option.{option_to_list}
use Rattle.csv.specs.Reading.{records, default_config, strip_bom}
use Rattle.csv.specs.declared.error.ErrorKind.{ErrorKind}
use Rattle.csv.specs.declared.error.ErrorKind.TheVariants as kind
use Rattle.side_tables.specs.declared.fault.SideFault.{SideFault}
use Rattle.side_tables.specs.declared.fault.SideFault.TheVariants.{TooLong, Row, NoMemory}

-- The records of a text, each as its fields: with no header row, a comma between fields, and any number of fields, as
-- the crate `csv` reads them.
abbrev pub records_of : List ℕ → List (List (List ℕ))
records_of text = records default_config (strip_bom text)

-- which row a record is, if it is one, after the rows before it
abbrev pub Grammar : Type 0 → Type 0
Grammar R = List R → List (List ℕ) → Option R

-- a grammar in which no row hangs on the rows before it
abbrev pub alone : {R : Type 0} → (List (List ℕ) → Option R) → Grammar R
alone row_of before fields = row_of fields

-- some rows, and those of further records; a record that is not a row is left out
abbrev pub rows_from : {R : Type 0} → Grammar R → List R → List (List (List ℕ)) → List R
rows_from row_after rows [] = rows
rows_from row_after rows (fields ∷ records) = rows_from row_after (rows ++ option_to_list (row_after rows fields)) records

-- after some rows, the number of the first of further records that is not a row, if these are counted from a number
abbrev pub bad_from : {R : Type 0} → Grammar R → List R → ℕ → List (List (List ℕ)) → Option ℕ
bad_from row_after rows n [] = None
bad_from row_after rows n (fields ∷ records) =
    if is_none (row_after rows fields) then Some n else bad_from row_after (rows ++ option_to_list (row_after rows fields)) (n + 1) records

-- the rows of a text
abbrev pub rows_of : {R : Type 0} → Grammar R → List ℕ → List R
rows_of row_after text = rows_from row_after [] (records_of text)

-- the number of the first record of a text that is not a row, counted from 1
abbrev pub bad_row : {R : Type 0} → Grammar R → List ℕ → Option ℕ
bad_row row_after text = bad_from row_after [] 1 (records_of text)

-- a text within the limit whose records are these rows
pub record AreRowsOf {R : Type 0} (row_after : Grammar R) (text : List ℕ) (rows : List R) : Type 0 where
  pub within : length text ≤ 1048576
  pub right : bad_row row_after text ≡ None
  pub are : rows ≡ rows_of row_after text

-- what can go wrong while the records of a text in memory are read: nothing that is due to the records
abbrev pub CanCome : ErrorKind → Type 0
CanCome (kind.Io e) = Unit {0}
CanCome kind.OutOfMemory = Unit {0}
CanCome (kind.UnequalLengths pos expected len) = ⊥
CanCome (kind.Utf8 pos err) = ⊥
CanCome (kind.Serialize why) = ⊥
CanCome (kind.Deserialize pos err) = ⊥

-- why a text is not made of rows: its length, or, within the limit, the first record that is not a row or lack of memory
abbrev pub IsFaultOf : {R : Type 0} → Grammar R → List ℕ → SideFault → Type 0
IsFaultOf row_after text TooLong = 1048576 < length text
IsFaultOf row_after text (Row row) = (length text ≤ 1048576) × (bad_row row_after text ≡ Some row)
IsFaultOf row_after text NoMemory = length text ≤ 1048576
