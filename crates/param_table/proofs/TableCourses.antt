-- What is owed for the rest of a recording, packet by packet: its texts, and the values out of their limits.
use Rattle.std.specs.List.{flat_map}
use Rattle.std.specs.Option.{option_to_list}
use Rattle.std.proofs.Common.{◌≡◌, ℕ, suc, ◌+◌, Bool, List, [], ◌∷◌, ◌++◌, length, sym, ap, ◌∙◌, arith, length-append, ◌^◌, ◌<◌, ◌≤◌, refl, subst, add-one, append-nil, append_assoc, true, false, get_or, take, drop, take-append-drop, Option, None, Some, is_some}
use Rattle.std.proofs.lemmas.Grind.{flat_map-append}
use Rattle.std.proofs.lemmas.List.{take_more}
use Rattle.std.proofs.lemmas.List.Elements.{filter_map-append}
use Rattle.desk_ports.specs.Courses.{to_report, written_first, course_on, work_on, texts_of}
use Rattle.desk_ports.specs.Turns.{Steps}
use Rattle.desk_ports.specs.declared.desk.Outlet.TheVariants as outlet
use Rattle.desk_ports.proofs.Courses.{bytes_for-around, bytes_for-first, bytes_for-last, bytes_for-other, bytes_for-own}
use Rattle.desk_ports.proofs.Steps.{GoesOn, IsDone}
use Rattle.flight_chain.specs.Recordings.{recording_walk, recording_walk_from, walk_over}
use Rattle.param_table.specs.Rows.{AreColumns}
use Rattle.param_table.specs.Tabling.{HasTakenNothing, IsTabling, Owes, headers, left_to_tabulate, packet_texts, packets_texts, rest_work, table_course, table_work, tabulation_of}
use Rattle.param_table.specs.Texts.{numbered_from, Violation, end_row, packet_violations, violations, header_row, names_line, table_text, values_line, values_lines, violation_row, violation_rows, violation_of}
use Rattle.param_table.specs.declared.rows.Column.{Column}
use Rattle.param_table.specs.declared.tabling.Tabling.{Tabling}
use Rattle.param_table.proofs.TextRows.{filter_map-one}

-- ---- the texts of packets and of more packets

-- packets, and more packets after them
pub numbered-append : (t : ℕ) (packets more : List (List Bool)) → numbered_from t (packets ++ more) ≡ numbered_from t packets ++ numbered_from (t + length packets) more
numbered-append t [] more = let none : t + 0 ≡ t = omega arith in ap (λ (n : ℕ). numbered_from n more) (sym none)
numbered-append t (packet ∷ packets) more =
    let next : t + 1 + length packets ≡ t + suc (length packets) = omega arith in
    ap (λ (l : List (ℕ × List Bool)). (t, packet) ∷ l) (numbered-append (t + 1) packets more ∙ ap (λ (n : ℕ). numbered_from (t + 1) packets ++ numbered_from n more) next)

pub texts-append : {A : Type 0} (text : ℕ × List Bool → List A) (t : ℕ) (packets more : List (List Bool))
    → flat_map text (numbered_from t (packets ++ more)) ≡ flat_map text (numbered_from t packets) ++ flat_map text (numbered_from (t + length packets) more)
texts-append text t packets more = ap (flat_map text) (numbered-append t packets more) ∙ flat_map-append text (numbered_from t packets) (numbered_from (t + length packets) more)

-- ---- one packet more

module _ (columns : List Column) (t : ℕ) (packet : List Bool) (packets : List (List Bool)) where
  texts-next : packets_texts columns t (packet ∷ packets) ≡ packet_texts columns (t, packet) ++ packets_texts columns (t + 1) packets
  texts-next = rw add-one refl

  violations-next : violations columns t (packet ∷ packets) ≡ packet_violations columns (t, packet) ++ violations columns (t + 1) packets
  violations-next = rw add-one refl

  found-next : (found : ℕ) → found + length (violations columns t (packet ∷ packets)) ≡ found + length (packet_violations columns (t, packet)) + length (violations columns (t + 1) packets)
  found-next found = omega (arith, ap (λ (l : List Violation). length l) violations-next, length-append (packet_violations columns (t, packet)) (violations columns (t + 1) packets))

  packets-next : t + length (packet ∷ packets) ≡ t + 1 + length packets
  packets-next = omega arith

-- its line and its rows are owed for it, and the rest is left to do after one more
pub GoesOn-table : (s : Tabling) (t : ℕ) (packet : List Bool) → t ≡ s.taken
    → GoesOn (left_to_tabulate s.fields s.taken s.found) (left_to_tabulate s.fields (s.taken + 1) (s.found + length (packet_violations s.fields (t, packet)))) packet (packet_texts s.fields (t, packet))
GoesOn-table s t packet is =
    subst (λ (n : ℕ). GoesOn (left_to_tabulate s.fields s.taken s.found) (left_to_tabulate s.fields (s.taken + 1) (s.found + length (packet_violations s.fields (n, packet)))) packet (packet_texts s.fields (n, packet))) (sym is)
    (record {
      before = texts-next s.fields s.taken packet;
      answer = packets-next s.fields s.taken packet;
      after = λ packets. λ i. to_report (end_row (packets-next s.fields s.taken packet packets i) (found-next s.fields s.taken packet packets s.found i));
    })

-- after the last packet the last row is owed
pub IsDone-table : (columns : List Column) (t found : ℕ) → IsDone (left_to_tabulate columns t found) (to_report (end_row t found)) t
IsDone-table columns t found =
    let packets : t + 0 ≡ t = omega arith in
    let all : found + 0 ≡ found = omega arith in
    record { nothing = refl; last_is = λ i. to_report (end_row (packets i) (all i)); answer_is = packets }

-- the rest is owed after it
pub Owes-next : (s : Tabling) (line : List ℕ) (packet : List Bool) (after : List ℕ) (n : ℕ) → IsTabling s → s.taken < 2 ^ 32 → n ≤ 256 → length packet ≡ length s.packet
    → Owes (record { fields = s.fields; taken = s.taken + 1; found = s.found + n; ahead = after; packet = packet; line = line })
    (work_on (left_to_tabulate s.fields (s.taken + 1) (s.found + n)) (walk_over (length s.packet) (s.taken + 1) after))
Owes-next s line packet after n right few most places = record {
  work_is = λ i. work_on (left_to_tabulate s.fields (s.taken + 1) (s.found + n)) (walk_over (sym places i) (s.taken + 1) after);
  right = record {
    vector = (omega (arith, right.vector.0, places), omega (arith, right.vector.1, places));
    fit = subst (λ (f : ℕ). AreColumns f s.fields) (sym places) right.fit;
    taken = omega (arith, few);
    found = omega (arith, right.found, most);
  };
}

-- ---- the first lines

from-zero : (n : ℕ) → 0 + n ≡ n
from-zero n = omega arith

-- before a packet is read, the first lines are owed
pub Steps-headers : (s : Tabling) → HasTakenNothing s → Steps (table_work (tabulation_of s)) (rest_work s) [] (headers s.fields)
Steps-headers s none = record {
  course = λ rest.
      let packets = (recording_walk (length s.packet) rest).inputs in
      let count = from-zero (length packets) in
      let found = from-zero (length (violations s.fields 0 packets)) in
      (λ i. record (table_course (tabulation_of s) rest) { after = to_report (end_row (sym count i) (sym found i)) })
      ∙ λ i. written_first (headers s.fields) (course_on (left_to_tabulate s.fields (sym none.taken i) (sym none.found i)) (walk_over (length s.packet) (sym none.taken i) (sym none.ahead i)) rest);
  answer = λ rest.
      sym (from-zero (length (recording_walk (length s.packet) rest).inputs))
      ∙ λ i. sym none.taken i + length (recording_walk_from (length s.packet) (sym none.taken i) (sym none.ahead i ++ rest)).inputs;
}

pub Owes-unread : (s : Tabling) (line : List ℕ) → HasTakenNothing s → Owes (record s { line = line }) (rest_work s)
Owes-unread s line none =
    record { work_is = refl; right = record { vector = none.vector; fit = none.fit; taken = omega (arith, none.taken); found = omega (arith, none.found) } }

-- ---- the two texts of what is written of packets, between the first lines and the last row

-- the rows of a packet
abbrev rows_of : List Column → ℕ × List Bool → List ℕ
rows_of columns packet = violation_rows (packet_violations columns packet)

rows-each : (columns : List Column) (packets : List (ℕ × List Bool)) → flat_map (rows_of columns) packets ≡ violation_rows (flat_map (packet_violations columns) packets)
rows-each columns [] = refl
rows-each columns (packet ∷ packets) = ap (λ (l : List ℕ). rows_of columns packet ++ l) (rows-each columns packets) ∙ sym (flat_map-append violation_row (packet_violations columns packet) (flat_map (packet_violations columns) packets))

pub texts-table : (columns : List Column) (packets : List (List Bool)) (last : List ℕ)
    → texts_of ((headers columns ++ packets_texts columns 0 packets) ++ to_report last) ≡ record { output = table_text columns packets; report = header_row ++ violation_rows (violations columns 0 packets) ++ last }
texts-table columns packets last =
    let numbered = numbered_from 0 packets in
    let lines = bytes_for-around outlet.Main (headers columns) (to_report last) (packet_texts columns) (values_line columns) (λ packet. bytes_for-first outlet.Main (values_line columns packet) (rows_of columns packet)) numbered in
    let rows = bytes_for-around outlet.Report (headers columns) (to_report last) (packet_texts columns) (rows_of columns) (λ packet. bytes_for-last outlet.Report (values_line columns packet) (rows_of columns packet)) numbered in
    let table = lines ∙ ((λ i. (bytes_for-first outlet.Main (names_line columns) header_row i ++ values_lines columns 0 packets) ++ bytes_for-other outlet.Main last i) ∙ append-nil (table_text columns packets)) in
    let report = rows ∙ ((λ i. (bytes_for-last outlet.Report (names_line columns) header_row i ++ rows-each columns numbered i) ++ bytes_for-own outlet.Report last i) ∙ append_assoc header_row (violation_rows (violations columns 0 packets)) last) in
    λ i. record { output = table i; report = report i }

-- the same without a last row
pub texts-before : (columns : List Column) (packets : List (List Bool)) → texts_of (headers columns ++ packets_texts columns 0 packets) ≡ record { output = table_text columns packets; report = header_row ++ violation_rows (violations columns 0 packets) }
texts-before columns packets =
    ap texts_of (sym (append-nil (headers columns ++ packets_texts columns 0 packets)))
    ∙ (texts-table columns packets [] ∙ λ i. record { output = table_text columns packets; report = header_row ++ append-nil (violation_rows (violations columns 0 packets)) i })

-- ---- the values out of their limits, column by column

module _ (packet : ℕ × List Bool) (columns : List Column) (i : ℕ) where
  -- those of one more column
  pub violations-more : (d : Column) → i < length columns → packet_violations (take (i + 1) columns) packet ≡ packet_violations (take i columns) packet ++ option_to_list (violation_of packet (get_or columns i d))
  violations-more d lt =
      let column = get_or columns i d in
      ap (λ (l : List Column). packet_violations l packet) (take_more columns i d lt)
      ∙ (filter_map-append (violation_of packet) (take i columns) (column ∷ [])
      ∙ ap (λ (l : List Violation). packet_violations (take i columns) packet ++ l) (filter_map-one (violation_of packet) column (violation_of packet column) refl))

  pub rows-more : (d : Column) → i < length columns
      → violation_rows (packet_violations (take (i + 1) columns) packet) ≡ violation_rows (packet_violations (take i columns) packet) ++ violation_rows (option_to_list (violation_of packet (get_or columns i d)))
  rows-more d lt = ap violation_rows (violations-more d lt) ∙ flat_map-append violation_row (packet_violations (take i columns) packet) (option_to_list (violation_of packet (get_or columns i d)))

  -- the rows of the first columns are a front of all
  pub rows-split : violation_rows (packet_violations columns packet) ≡ violation_rows (packet_violations (take i columns) packet) ++ violation_rows (packet_violations (drop i columns) packet)
  rows-split =
      ap (λ (l : List Column). violation_rows (packet_violations l packet)) (sym (take-append-drop i columns))
      ∙ (ap violation_rows (filter_map-append (violation_of packet) (take i columns) (drop i columns))
      ∙ flat_map-append violation_row (packet_violations (take i columns) packet) (packet_violations (drop i columns) packet))

  -- and their number
  pub count-more : (d : Column) (found n : ℕ) → i < length columns → found ≡ length (packet_violations (take i columns) packet) → n ≡ found + length (option_to_list (violation_of packet (get_or columns i d)))
      → n ≡ length (packet_violations (take (i + 1) columns) packet)
  count-more d found n lt is more =
      let rows = ap (λ (l : List Violation). length l) (violations-more d lt) in
      let both = length-append (packet_violations (take i columns) packet) (option_to_list (violation_of packet (get_or columns i d))) in
      omega (arith, rows, both, is, more)

pub count-some : {A : Type 0} (o : Option A) (b : Bool) → b ≡ is_some o → b ≡ true → length (option_to_list o) ≡ 1
count-some None b is some = absurd cc
count-some (Some x) b is some = refl

pub count-none : {A : Type 0} (o : Option A) (b : Bool) → b ≡ is_some o → b ≡ false → length (option_to_list o) ≡ 0
count-none None b is none = refl
count-none (Some x) b is none = absurd cc
