-- What is kept on the way through a store of several streams, and what is owed for the rest of it.
use Rattle.std.specs.Prelude.{◌≡◌, ℕ, ◌+◌, ◌^◌, ◌<◌, ◌≤◌, if◌then◌else◌, IsTrue, List, [], ◌++◌, length, slice_set, vec_len, None}
use Rattle.std.specs.List.{cons_option}
use Rattle.std.specs.Vec.{vec_capacity}
use Rattle.desk_ports.specs.Courses.{Outputs, Work, to_report, WalkWork, work_on}
use Rattle.packet_store.specs.declared.fault.WalkFault.{WalkFault}
use Rattle.packet_store.specs.SpacePackets.{Packet, packet_bytes}
use Rattle.packet_store.specs.Walks.{IsGood}
use Rattle.packet_store.specs.StoreReader.{opened, walk_over}
use Rattle.side_tables.specs.declared.rows.StreamRow.{StreamRow}
use Rattle.side_tables.specs.Streams.{AreStreams, stream_at}
use Rattle.ground_chain.specs.Reception.{HasJudged, Judges, Reckoning, next_judged}
use Rattle.ground_chain.specs.Report.{is_written_kind}
use Rattle.multi_ground.specs.declared.receiving.MultiReceiving.{MultiReceiving}
use Rattle.multi_ground.specs.Grounds.{reckoning_at}
use Rattle.multi_ground.specs.MultiRun.{StreamJudged, judged_after, multi_run, multi_run_from, shape_count, stream_arrivals, written_count}
use Rattle.multi_ground.specs.MultiOutputs.{last_rows, outputs_of}

-- of each stream the arrivals among these packets were judged
pub record AreReckoned (streams : List StreamRow) (packets : List Packet) (reckonings : List Reckoning) : Type 0 where
  pub size : length reckonings ≡ length streams
  pub each : (index : ℕ) → index < length streams → HasJudged (stream_at streams index).bits (stream_arrivals (stream_at streams index).apid packets) (reckoning_at reckonings index)

-- it has received these packets, and it has room for the longest Space Packet that it writes and no more
pub record HasReceived (s : MultiReceiving) (packets : List Packet) : Type 0 where
  pub streams : AreStreams s.streams
  pub reckoned : AreReckoned s.streams packets s.arrivals
  pub written : s.written ≡ written_count (multi_run s.streams packets)
  pub shapes : s.shapes ≡ shape_count s.streams packets
  pub room : vec_len s.line ≡ 6150
  pub taken : vec_capacity s.line ≡ 6150

-- it has received fewer packets than a store may have
pub record IsReceiving (s : MultiReceiving) : Type 0 where
  pub packets : List Packet
  pub received : HasReceived s packets
  pub few : length packets < 2 ^ 32

-- this good packet was read last
pub record HasRead (s : MultiReceiving) (p : Packet) : Type 0 where
  pub good : IsGood None p
  pub packet : s.reader.packet ≡ packet_bytes p
  pub body : s.reader.body ≡ p.body

-- nothing is read
pub record IsUnread (s : MultiReceiving) : Type 0 where
  pub received : HasReceived s []
  pub reader : s.reader ≡ opened None

-- an arrival of a stream, by what is kept of it
abbrev pub next_of : MultiReceiving → ℕ → ℕ → List ℕ → StreamJudged
next_of s index count body = record { apid = (stream_at s.streams index).apid; judged = next_judged (reckoning_at s.arrivals index).reception count body }

-- One more arrival of a stream was judged, and counted if it is written. Nothing else changed but the bytes of the line.
pub record JudgesOne (old new : MultiReceiving) (index count : ℕ) (body : List ℕ) : Type 0 where
  pub judges : Judges (reckoning_at old.arrivals index) (reckoning_at new.arrivals index) count body
  pub others : new.arrivals ≡ slice_set old.arrivals index (reckoning_at new.arrivals index)
  pub written : new.written ≡ old.written + (if is_written_kind (next_of old index count body).judged.verdict.kind then 1 else 0)
  pub room : vec_len new.line ≡ vec_len old.line
  pub taken : vec_capacity new.line ≡ vec_capacity old.line
  pub same : new ≡ record old { arrivals = new.arrivals; written = new.written; line = new.line }

-- what is written of a packet after these
abbrev pub outputs_after : List StreamRow → List Packet → Packet → Outputs
outputs_after streams before p = outputs_of (cons_option (judged_after streams before p) [])

-- what is owed for packets that are read after these
abbrev pub left_after : List StreamRow → List Packet → WalkWork Packet ℕ
left_after streams before = record {
  before = λ packets. outputs_of (multi_run_from streams before packets);
  answer = λ packets. written_count (multi_run streams (before ++ packets));
  after = λ packets. to_report (last_rows streams (before ++ packets));
}

-- this work is owed: that of the rest of the store, after the packets that were received
pub record Owes (s : MultiReceiving) (work : Work ℕ WalkFault) : Type 0 where
  pub packets : List Packet
  pub received : HasReceived s packets
  pub few : length packets ≤ s.reader.taken
  pub live : IsTrue s.reader.live
  pub chosen : s.reader.chosen ≡ None
  pub work_is : work ≡ work_on (left_after s.streams packets) (walk_over s.reader)
