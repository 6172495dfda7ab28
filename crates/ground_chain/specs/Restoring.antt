-- What restoring a store owes: the run over its packets of the chosen APID.
use Rattle.std.specs.Prelude.{◌≡◌, ℕ, List, ◌++◌, map, Option, Some, vec_len}
use Rattle.std.specs.List.{filter}
use Rattle.std.specs.Vec.{vec_capacity}
use Rattle.bit_vectors.specs.Vectors.{byte_count}
use Rattle.desk_ports.specs.Courses.{Course, Work, to_output, to_report}
use Rattle.packet_store.specs.declared.fault.WalkFault.{WalkFault}
use Rattle.packet_store.specs.SpacePackets.{Packet, is_chosen}
use Rattle.packet_store.specs.Walks.{walk}
use Rattle.ground_chain.specs.declared.reporting.Reporting.{Reporting}
use Rattle.ground_chain.specs.declared.restored.Restored.{Restored}
use Rattle.ground_chain.specs.Run.{Arrival, Judged, run}
use Rattle.ground_chain.specs.Report.{header_row, verdict_rows, written_bytes, end_row, restored_of, Texts, all_parts}

abbrev pub arrival_of : Packet → Arrival
arrival_of p = record { count = p.header.count; body = p.body }

-- the packets of the chosen APID, as arrivals
abbrev pub arrivals_of : Option ℕ → List Packet → List Arrival
arrivals_of chosen packets = map arrival_of (filter (λ p. is_chosen chosen p.header) packets)

-- the run over the packets of the APID in a store, with vectors of f places
abbrev pub store_run : ℕ → ℕ → List ℕ → List Judged
store_run f apid store = run f (arrivals_of (Some apid) (walk (Some apid) store).packets)

-- what is written of the arrivals: the rows of each, and then its content if it is written
abbrev pub restored_texts : Texts
restored_texts = record {
  parts = λ judged. to_report (verdict_rows judged.verdict) ++ to_output (written_bytes judged);
  last = λ restored. to_report (end_row restored);
}

-- What restoring a store owes: the report's header, and what is written of the arrivals before the end, the report's last
-- row if the store is whole, and otherwise the fault of its walk.
abbrev pub restore_course : ℕ → ℕ → List ℕ → Course WalkFault
restore_course f apid store = record {
  before = to_report header_row ++ all_parts restored_texts (store_run f apid store);
  after = to_report (end_row (restored_of (store_run f apid store)));
  ending = (walk (Some apid) store).ending;
}

-- the work over a store that owes this course, whose answer is the numbers of the run
abbrev pub store_work : (List ℕ → Course WalkFault) → ℕ → ℕ → Work Restored WalkFault
store_work course f apid = record { course = course; answer = λ store. restored_of (store_run f apid store) }

-- the work of restoring a store
abbrev pub restore_work : ℕ → ℕ → Work Restored WalkFault
restore_work f apid = store_work (restore_course f apid) f apid

-- there is room for the bytes of a content of f places, and never more room, so that no memory is taken
pub record HasContentRoom (reporting : Reporting) (f : ℕ) : Type 0 where
  pub bytes : vec_len reporting.line ≡ byte_count f
  pub taken : vec_capacity reporting.line ≡ byte_count f

-- a restorer that has read nothing: the places of its vectors, and the chosen APID
pub record RestorerState : Type 0 where
  pub places : ℕ
  pub apid : ℕ
