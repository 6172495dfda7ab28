-- What compressing a recording owes: the store of its history.
use Rattle.std.specs.List.{range_with_len}
use Rattle.std.specs.Prelude.{ℕ, ◌%◌, ◌≤◌, List, length, map, ◌≡◌, ◌+◌, ◌*◌, Bool, true, false, [], ◌∷◌, ◌++◌, unwrap_or}
use Rattle.bit_vectors.specs.Vectors.{IsPlaces, vector_bytes, IsVector}
use Rattle.desk_ports.specs.Courses.{Course, Work, to_output, WalkWork, work_on}
use Rattle.desk_ports.specs.Meanings.{Stop}
use Rattle.desk_ports.specs.Meanings as stop
use Rattle.desk_ports.specs.declared.desk.Outlet.{Outlet}
use Rattle.desk_ports.specs.declared.desk.Outlet.TheVariants as outlet
use Rattle.mask_update.specs.Histories.{History, history_of}
use Rattle.side_tables.specs.Rows.{ScheduleRows, flags_of, robust_of}
use Rattle.side_tables.specs.declared.rows.RobustRow.{RobustRow}
use Rattle.packet_store.specs.SpacePackets.{period, store_bytes, space_packet}
use Rattle.packet_encode.specs.Encoder.{StandsFor}
use Rattle.packet_encode.specs.Forms.{form_bits, form_at, with_next_input}
use Rattle.flight_chain.specs.Recordings.{recording_walk, walk_over}
use Rattle.flight_chain.specs.declared.compressing.Compressing.{Compressing}
use Rattle.flight_chain.specs.declared.fault.FlightFault.{FlightFault}
use Rattle.flight_chain.specs.declared.fault.FlightFault.TheVariants.{CutRecord, SpareBit, TooMany, ReadFault, WriteFault}
use Rattle.flight_chain.specs.declared.fault.RecordFault.{RecordFault}
use Rattle.flight_chain.specs.declared.fault.RecordFault.TheVariants as record_fault

-- ---- the store of a history

-- a stream of packets: vectors of f places, on an APID that is not the idle one
abbrev pub IsStream : ℕ → ℕ → Type 0
IsStream f apid = IsPlaces f × (apid ≤ 2046)

-- the bytes of the packet t
abbrev pub data_at : History → ℕ → List ℕ
data_at h t = vector_bytes (form_bits (form_at h t))

-- its sequence count and its bytes
abbrev pub numbered_data : History → ℕ → ℕ × List ℕ
numbered_data h t = (t % period, data_at h t)

-- the Space Packets of all its packets in order, with their numbers as sequence counts
abbrev pub store_of : History → ℕ → List ℕ
store_of h apid = store_bytes apid (map (numbered_data h) (range_with_len 0 (length h.steps)))

-- ---- what compressing a recording owes: the store of its history

-- a flight that has read nothing: the places of its vectors, the required robustness of packets to which the schedule gives
-- none, the APID, the first mask, and the rows of the schedule
pub record Compression : Type 0 where
  pub places : ℕ
  pub robust : ℕ
  pub apid : ℕ
  pub mask : List Bool
  pub rows : ScheduleRows

-- what a flight may be opened with: a stream, a required robustness of at most 7, and a first mask of the vectors' places
abbrev pub IsCompression : ℕ → ℕ → ℕ → List Bool → Type 0
IsCompression f robust apid mask = IsStream f apid × (robust ≤ 7) × (length mask ≡ f)

-- the required robustness of a packet: what the rows of the schedule give it, and this one if they give none
abbrev pub required_robustness : List RobustRow → ℕ → ℕ → ℕ
required_robustness rows robust t = unwrap_or (robust_of rows t) robust

-- the history of these inputs
abbrev pub history_by : Compression → List (List Bool) → History
history_by k inputs = history_of inputs (flags_of k.rows.flags) (required_robustness k.rows.robust k.robust) k.places k.mask

-- What compressing a recording owes: the store of the history of its inputs, and if it is not whole, the fault that ends
-- its walk.
abbrev pub compress_course : Compression → List ℕ → Course RecordFault
compress_course k recording = record {
  before = to_output (store_of (history_by k (recording_walk k.places recording).inputs) k.apid);
  after = [];
  ending = (recording_walk k.places recording).ending;
}

-- the work of compressing a recording, whose answer is the number of its packets
abbrev pub compress_work : Compression → Work ℕ RecordFault
compress_work k = record { course = compress_course k; answer = λ recording. length (recording_walk k.places recording).inputs }

-- a fault, as a reason to end a run
abbrev pub stop_by : FlightFault → Stop RecordFault
stop_by (CutRecord t) = stop.Data (record_fault.CutRecord t)
stop_by (SpareBit t) = stop.Data (record_fault.SpareBit t)
stop_by TooMany = stop.Data record_fault.TooMany
stop_by ReadFault = stop.ReadFault
stop_by WriteFault = stop.WriteFault

-- ---- on the way

-- what a flight has been opened with, when nothing is read
abbrev pub compression_of : Compressing → Compression
compression_of s = record {
  places = length s.encoder.masks.mask;
  robust = s.robust;
  apid = s.writer.apid;
  mask = s.encoder.masks.mask;
  rows = s.plan;
}

-- the history with the packet t, of this input, by the schedule of a flight
abbrev pub with_packet : History → Compressing → List Bool → ℕ → History
with_packet h s input t = with_next_input h (required_robustness s.plan.robust s.robust t) input (flags_of s.plan.flags t)

-- these inputs are taken
pub record HasTaken (k : Compression) (inputs : List (List Bool)) (s : Compressing) : Type 0 where
  pub stands : StandsFor (history_by k inputs) s.encoder
  pub places : length s.encoder.masks.mask ≡ k.places
  pub robust : s.robust ≡ k.robust
  pub apid : s.writer.apid ≡ k.apid
  pub rows : s.plan ≡ k.rows

-- the Space Packet of the next input after these
abbrev pub next_packet : Compression → List (List Bool) → List Bool → List ℕ
next_packet k inputs input = space_packet k.apid (length inputs % period) (data_at (history_by k (inputs ++ input ∷ [])) (length inputs))

-- those of all further inputs
abbrev pub further_packets : Compression → List (List Bool) → List (List Bool) → List ℕ
further_packets k inputs [] = []
further_packets k inputs (input ∷ more) = next_packet k inputs input ++ further_packets k (inputs ++ input ∷ []) more

-- what is left to do after these inputs: the packets of further ones are owed, and the answer is the number of all
abbrev pub left_to_compress : Compression → List (List Bool) → WalkWork (List Bool) ℕ
left_to_compress k inputs = record {
  before = λ more. to_output (further_packets k inputs more);
  answer = λ more. length (inputs ++ more);
  after = λ _. [];
}

-- the work of compressing what is ahead and what is left of the recording
abbrev pub rest_work : Compression → List (List Bool) → List ℕ → Work ℕ RecordFault
rest_work k inputs ahead = work_on (left_to_compress k inputs) (walk_over k.places (length inputs) ahead)

-- the input has as many places as the mask, and the pen has room for its packet
pub record IsCompressing (s : Compressing) : Type 0 where
  pub vector : IsVector s.input
  pub robust : s.robust ≤ 7
  pub places : length s.encoder.masks.mask ≡ length s.input
  pub pen : s.pen.room ≡ 10 * length s.input + 43

-- this work is owed: that of the rest of the recording, when some inputs are taken
pub record Owes (s : Compressing) (work : Work ℕ RecordFault) : Type 0 where
  pub k : Compression
  pub inputs : List (List Bool)
  pub taken : HasTaken k inputs s
  pub work_is : work ≡ rest_work k inputs s.ahead
  pub right : IsCompressing s

-- nothing is taken, and nothing is ahead
pub record HasTakenNothing (s : Compressing) : Type 0 where
  pub none : HasTaken (compression_of s) [] s
  pub ahead : s.ahead ≡ []
  pub right : IsCompressing s

-- the main output
abbrev pub is_main : Outlet → Bool
is_main outlet.Main = true
is_main outlet.Report = false
