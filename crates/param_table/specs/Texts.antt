-- The texts of a table: the values of the fields, and those out of their limits.
use Rattle.std.specs.Prelude.{ℕ, Bool, ◌||◌, if◌then◌else◌, List, ◌++◌, length, codes, Option, None, Some, ℤ, int_lt}
use Rattle.std.specs.Fmt.{decimal, signed_decimal}
use Rattle.std.specs.List.{filter_map, flat_map, range_with_len, zip}
use Rattle.param_table.specs.declared.rows.Limit.{Limit}
use Rattle.param_table.specs.declared.rows.Column.{Column}
use Rattle.param_table.specs.Cells.{cell_in}

-- packets with their numbers, from this one on
abbrev pub numbered_from : ℕ → List (List Bool) → List (ℕ × List Bool)
numbered_from t packets = zip (range_with_len t (length packets)) packets

-- the value of a column in a packet
abbrev pub column_value : List Bool → Column → ℤ
column_value packet column = cell_in packet column.field.place column.field.width column.field.signed

-- ---- the table

abbrev pub comma_name : Column → List ℕ
comma_name column = codes "," ++ column.field.name

abbrev pub comma_value : List Bool → Column → List ℕ
comma_value packet column = codes "," ++ signed_decimal (column_value packet column)

-- `t` and the names of the fields
abbrev pub names_line : List Column → List ℕ
names_line columns = codes "t" ++ flat_map comma_name columns ++ codes "\n"

-- a packet's number and the values of its fields
abbrev pub values_line : List Column → ℕ × List Bool → List ℕ
values_line columns packet = decimal packet.0 ++ flat_map (comma_value packet.1) columns ++ codes "\n"

-- the lines of packets, the first of which has this number
abbrev pub values_lines : List Column → ℕ → List (List Bool) → List ℕ
values_lines columns t packets = flat_map (values_line columns) (numbered_from t packets)

abbrev pub table_text : List Column → List (List Bool) → List ℕ
table_text columns packets = names_line columns ++ values_lines columns 0 packets

-- ---- values out of their limits

-- a value out of its limit: the packet's number, the field's name, the value, and the limit
pub record Violation : Type 0 where
  pub packet : ℕ
  pub name : List ℕ
  pub value : ℤ
  pub limit : Limit

abbrev pub is_outside : Limit → ℤ → Bool
is_outside limit value = int_lt value limit.low || int_lt limit.high value

-- the violation in a column of a packet, if it has a limit, and this is violated
abbrev pub violation_by : Option Limit → ℕ → List ℕ → ℤ → Option Violation
violation_by None t name value = None
violation_by (Some limit) t name value =
    if is_outside limit value then Some (record { packet = t; name = name; value = value; limit = limit }) else None

abbrev pub violation_of : ℕ × List Bool → Column → Option Violation
violation_of packet column = violation_by column.limit packet.0 column.field.name (column_value packet.1 column)

-- those of one packet, field by field
abbrev pub packet_violations : List Column → ℕ × List Bool → List Violation
packet_violations columns packet = filter_map (violation_of packet) columns

-- those of packets, the first of which has this number
abbrev pub violations : List Column → ℕ → List (List Bool) → List Violation
violations columns t packets = flat_map (packet_violations columns) (numbered_from t packets)

-- the report's first line
abbrev pub header_row : List ℕ
header_row = codes "t,name,value,low,high\n"

abbrev pub violation_row : Violation → List ℕ
violation_row v =
    decimal v.packet ++ codes "," ++ v.name ++ codes "," ++ signed_decimal v.value ++ codes "," ++ signed_decimal v.limit.low ++ codes ","
    ++ signed_decimal v.limit.high ++ codes "\n"

abbrev pub violation_rows : List Violation → List ℕ
violation_rows found = flat_map violation_row found

-- the last line: how many packets there are, and how many values are out of their limits
abbrev pub end_row : ℕ → ℕ → List ℕ
end_row packets found = codes "end," ++ decimal packets ++ codes "," ++ decimal found ++ codes "\n"

abbrev pub limit_text : List Column → List (List Bool) → List ℕ
limit_text columns packets =
    header_row ++ violation_rows (violations columns 0 packets) ++ end_row (length packets) (length (violations columns 0 packets))
