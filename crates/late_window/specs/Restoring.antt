-- What restoring a store owes whose packets may come late: the run over its packets of the chosen APID, in order.
use Rattle.std.specs.Prelude.{◌≡◌, ℕ, ◌-◌, ◌^◌, ◌≤◌, IsTrue, List, ◌++◌, length, take, drop, Some, unwrap_or}
use Rattle.desk_ports.specs.Courses.{Course, Work, to_report, WalkWork, work_on}
use Rattle.packet_store.specs.declared.fault.WalkFault.{WalkFault}
use Rattle.packet_store.specs.SpacePackets.{Packet}
use Rattle.packet_store.specs.StoreReader.{opened, walk_over}
use Rattle.packet_store.specs.Walks.{walk}
use Rattle.ground_chain.specs.Run.{Arrival, Judged, run}
use Rattle.ground_chain.specs.Report.{header_row, restored_of, all_parts}
use Rattle.ground_chain.specs.Restoring.{arrivals_of, restored_texts}
use Rattle.late_window.specs.declared.done.LateDone.{LateDone}
use Rattle.late_window.specs.declared.run.LateRun.{LateRun}
use Rattle.late_window.specs.Order.{numbered, late_count, ordered}
use Rattle.late_window.specs.Late.{IsWithinLimits, done_of, last_bytes, last_rows, nothing_late, bytes_left}

-- the packets of the APID in a store, as they arrive
abbrev pub store_arrivals : ℕ → List ℕ → List Arrival
store_arrivals apid store = arrivals_of (Some apid) (walk (Some apid) store).packets

-- the run over those that are not too late, in order, with vectors of f places
abbrev pub ordered_run : ℕ → ℕ → ℕ → List ℕ → List Judged
ordered_run f apid window store = run f (ordered window (store_arrivals apid store))

-- its numbers, and how many are too late
abbrev pub late_done : ℕ → ℕ → ℕ → List ℕ → LateDone
late_done f apid window store = record {
  restored = restored_of (ordered_run f apid window store);
  late = late_count window (numbered (store_arrivals apid store));
}

-- how many arrivals of the run are judged before the end of the store: all but the last ones, as many as the window is large
abbrev pub judged_before : ℕ → List Judged → ℕ
judged_before window judged = length judged - window

-- What such a store owes: the report's header, and the restored packets and the rows of the arrivals that are judged before
-- its end; if the store is whole, those of the others and the report's last two rows; and otherwise the fault of its walk.
abbrev pub late_course : ℕ → ℕ → ℕ → List ℕ → Course WalkFault
late_course f apid window store =
    let judged = ordered_run f apid window store in
    record {
      before = to_report header_row ++ all_parts restored_texts (take (judged_before window judged) judged);
      after = all_parts restored_texts (drop (judged_before window judged) judged) ++ to_report (last_rows (late_done f apid window store));
      ending = (walk (Some apid) store).ending;
    }

-- the work of restoring it
abbrev pub late_work : ℕ → ℕ → ℕ → Work LateDone WalkFault
late_work f apid window = record { course = late_course f apid window; answer = late_done f apid window }

-- a restorer that has read nothing: the places of its vectors, the chosen APID, and the window
pub record LateState : Type 0 where
  pub places : ℕ
  pub apid : ℕ
  pub window : ℕ

-- ---- on the way

abbrev pub nothing_read : ℕ → ℕ → ℕ → LateRun
nothing_read f apid window = record { reader = opened (Some apid); arrivals = nothing_late f window }

abbrev pub late_state : LateRun → LateState
late_state r = record { places = r.arrivals.judging.reception.decoder.places; apid = unwrap_or r.reader.chosen 0; window = r.arrivals.sorter.line.window }

-- it has read nothing
abbrev pub IsUnread : LateRun → Type 0
IsUnread r = r ≡ nothing_read (late_state r).places (late_state r).apid (late_state r).window

-- what is owed for packets that are read next
abbrev pub left_to_sort : LateRun → WalkWork Packet LateDone
left_to_sort r = record {
  before = λ packets. bytes_left r.arrivals (arrivals_of r.reader.chosen packets);
  answer = λ packets. done_of r.arrivals (arrivals_of r.reader.chosen packets);
  after = λ packets. last_bytes r.arrivals (arrivals_of r.reader.chosen packets);
}

abbrev pub rest_work : LateRun → Work LateDone WalkFault
rest_work r = work_on (left_to_sort r) (walk_over r.reader)

-- this work is owed: that of the rest of the store
pub record Owes (r : LateRun) (work : Work LateDone WalkFault) : Type 0 where
  pub work_is : work ≡ rest_work r
  pub live : IsTrue r.reader.live
  pub limits : IsWithinLimits r.arrivals r.reader.taken
  pub few : r.reader.taken ≤ 2 ^ 32
