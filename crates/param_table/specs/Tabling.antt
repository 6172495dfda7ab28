-- What tabulating a recording owes: the table of its packets, and the report of the values out of their limits.
use Rattle.std.specs.Prelude.{◌≡◌, ℕ, ◌+◌, ◌*◌, ◌^◌, ◌≤◌, Bool, List, [], ◌++◌, length}
use Rattle.std.specs.List.{flat_map}
use Rattle.bit_vectors.specs.Vectors.{IsVector}
use Rattle.desk_ports.specs.Courses.{Course, Outputs, Work, to_output, to_report, WalkWork, work_on}
use Rattle.flight_chain.specs.declared.fault.RecordFault.{RecordFault}
use Rattle.flight_chain.specs.Recordings.{recording_walk, walk_over}
use Rattle.param_table.specs.declared.rows.Column.{Column}
use Rattle.param_table.specs.declared.tabling.Tabling.{Tabling}
use Rattle.param_table.specs.Rows.{AreColumns}
use Rattle.param_table.specs.Texts.{end_row, header_row, names_line, numbered_from, packet_violations, values_line, violation_rows, violations}

-- a tabler that has read nothing: the places of the packets, and the columns
pub record Tabulation : Type 0 where
  pub places : ℕ
  pub columns : List Column

-- the first lines of the two texts
abbrev pub headers : List Column → Outputs
headers columns = to_output (names_line columns) ++ to_report header_row

-- what is written of one packet with its number: its line, and then its rows
abbrev pub packet_texts : List Column → ℕ × List Bool → Outputs
packet_texts columns packet = to_output (values_line columns packet) ++ to_report (violation_rows (packet_violations columns packet))

-- the same of packets, the first of which has this number
abbrev pub packets_texts : List Column → ℕ → List (List Bool) → Outputs
packets_texts columns t packets = flat_map (packet_texts columns) (numbered_from t packets)

-- the last row for these packets
abbrev pub last_report_row : List Column → List (List Bool) → List ℕ
last_report_row columns packets = end_row (length packets) (length (violations columns 0 packets))

-- What tabulating a recording owes: the first lines, the lines and rows of its packets, the last row if the recording is
-- whole, and otherwise the fault that ends its walk.
abbrev pub table_course : Tabulation → List ℕ → Course RecordFault
table_course k recording = record {
  before = headers k.columns ++ packets_texts k.columns 0 (recording_walk k.places recording).inputs;
  after = to_report (last_report_row k.columns (recording_walk k.places recording).inputs);
  ending = (recording_walk k.places recording).ending;
}

-- the work of tabulating a recording, whose answer is the number of its packets
abbrev pub table_work : Tabulation → Work ℕ RecordFault
table_work k = record { course = table_course k; answer = λ recording. length (recording_walk k.places recording).inputs }

-- ---- on the way

-- what is left to do after so many packets and so many values out of their limits
abbrev pub left_to_tabulate : List Column → ℕ → ℕ → WalkWork (List Bool) ℕ
left_to_tabulate columns taken found = record {
  before = packets_texts columns taken;
  answer = λ packets. taken + length packets;
  after = λ packets. to_report (end_row (taken + length packets) (found + length (violations columns taken packets)));
}

-- the work of tabulating what is ahead and what is left of the recording
abbrev pub rest_work : Tabling → Work ℕ RecordFault
rest_work s = work_on (left_to_tabulate s.fields s.taken s.found) (walk_over (length s.packet) s.taken s.ahead)

-- the columns fit the packets, and the numbers are not too great
pub record IsTabling (s : Tabling) : Type 0 where
  pub vector : IsVector s.packet
  pub fit : AreColumns (length s.packet) s.fields
  pub taken : s.taken ≤ 2 ^ 32
  pub found : s.found ≤ 256 * s.taken

-- this work is owed: that of the rest of the recording
pub record Owes (s : Tabling) (work : Work ℕ RecordFault) : Type 0 where
  pub work_is : work ≡ rest_work s
  pub right : IsTabling s

-- what a tabler has been opened with
abbrev pub tabulation_of : Tabling → Tabulation
tabulation_of s = record { places = length s.packet; columns = s.fields }

-- nothing is taken, and nothing is ahead
pub record HasTakenNothing (s : Tabling) : Type 0 where
  pub taken : s.taken ≡ 0
  pub found : s.found ≡ 0
  pub ahead : s.ahead ≡ []
  pub vector : IsVector s.packet
  pub fit : AreColumns (length s.packet) s.fields
