-- What is owed for the rest of a store, with an account of its arrivals.
use Rattle.std.specs.Prelude.{◌≡◌, ℕ, ◌≤◌, IsTrue, List, Some, unwrap_or}
use Rattle.desk_ports.specs.Courses.{Course, Work, WalkWork, work_on}
use Rattle.packet_store.specs.declared.fault.WalkFault.{WalkFault}
use Rattle.packet_store.specs.Walks.{walk}
use Rattle.packet_store.specs.SpacePackets.{Packet}
use Rattle.packet_store.specs.StoreReader.{opened, walk_over}
use Rattle.ground_chain.specs.declared.restored.Restored.{Restored}
use Rattle.ground_chain.specs.declared.receiving.Receiving.{Receiving}
use Rattle.ground_chain.specs.Run.{Judged}
use Rattle.ground_chain.specs.Report.{restored_of, added, Texts, all_parts}
use Rattle.ground_chain.specs.Reception.{nothing_judged, next_run}
use Rattle.ground_chain.specs.Restoring.{RestorerState, arrivals_of, store_run}

-- what a store owes an account: what is written of the arrivals before the end, the last part if the store is whole, and
-- otherwise the fault of its walk
abbrev pub store_course : Texts → ℕ → ℕ → List ℕ → Course WalkFault
store_course texts f apid store = record {
  before = all_parts texts (store_run f apid store);
  after = texts.last (restored_of (store_run f apid store));
  ending = (walk (Some apid) store).ending;
}

-- ---- on the way

-- a receiving that has read nothing of a store for this APID, with vectors of f places
abbrev pub nothing_received : {A : Type 0} → ℕ → ℕ → Receiving A
nothing_received f apid = record { reader = opened (Some apid); judging = nothing_judged f }

-- the places and the APID of one that has read nothing
abbrev pub receiving_state : {A : Type 0} → Receiving A → RestorerState
receiving_state s = record { places = s.judging.reception.decoder.places; apid = unwrap_or s.reader.chosen 0 }

-- it has read nothing
abbrev pub IsUnread : {A : Type 0} → Receiving A → Type 0
IsUnread s = s ≡ nothing_received (receiving_state s).places (receiving_state s).apid

-- the run over packets that are read next
abbrev pub rest_run : {A : Type 0} → Receiving A → List Packet → List Judged
rest_run s packets = next_run s.judging (arrivals_of s.reader.chosen packets)

-- the numbers of all arrivals, with these that are read next
abbrev pub all_numbers : {A : Type 0} → Receiving A → List Packet → Restored
all_numbers s packets = added s.judging.restored (restored_of (rest_run s packets))

-- what is owed for packets that are read next
abbrev pub left_to_receive : {A : Type 0} → Texts → Receiving A → WalkWork Packet Restored
left_to_receive texts s = record {
  before = λ packets. all_parts texts (rest_run s packets);
  answer = all_numbers s;
  after = λ packets. texts.last (all_numbers s packets);
}

-- the work of receiving what is left of the store
abbrev pub rest_work : {A : Type 0} → Texts → Receiving A → Work Restored WalkFault
rest_work texts s = work_on (left_to_receive texts s) (walk_over s.reader)

-- this work is owed: that of the rest of the store
pub record Owes {A : Type 0} (texts : Texts) (s : Receiving A) (work : Work Restored WalkFault) : Type 0 where
  pub work_is : work ≡ rest_work texts s
  pub live : IsTrue s.reader.live
  pub packets : s.judging.restored.packets ≤ s.reader.taken
