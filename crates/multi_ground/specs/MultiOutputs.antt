-- What is written of the streams in a store: the restored packets as a store of Space Packets, and one report.
use Rattle.std.specs.Prelude.{ℕ, ◌%◌, if◌then◌else◌, List, [], ◌∷◌, ◌++◌, codes, None}
use Rattle.std.specs.Fmt.{decimal}
use Rattle.std.specs.List.{flat_map}
use Rattle.desk_ports.specs.Courses.{Outputs, Course, Work, to_output, to_report}
use Rattle.packet_store.specs.declared.fault.WalkFault.{WalkFault}
use Rattle.packet_store.specs.SpacePackets.{Packet, period, space_packet}
use Rattle.packet_store.specs.Walks.{walk}
use Rattle.side_tables.specs.declared.rows.StreamRow.{StreamRow}
use Rattle.ground_chain.specs.Run.{run}
use Rattle.ground_chain.specs.Report.{content_bytes, end_row, header_row, is_written_kind, lost_row, own_row, restored_of}
use Rattle.multi_ground.specs.MultiRun.{StreamJudged, multi_run, shape_count, stream_arrivals, written_count}

-- a written packet as a Space Packet: its APID, its number by the period as the count, and its content as the data
abbrev pub written_packet : StreamJudged → List ℕ
written_packet j =
    if is_written_kind j.judged.verdict.kind then space_packet j.apid (j.judged.verdict.t % period) (content_bytes j.judged.after.state) else []

-- a row with its APID and a comma in front, if there is a row
abbrev pub tagged : ℕ → List ℕ → List ℕ
tagged apid [] = []
tagged apid (byte ∷ row) = decimal apid ++ codes "," ++ byte ∷ row

-- the rows of an arrival: what was lost before it, and then itself if it is not written
abbrev pub tagged_rows : StreamJudged → List ℕ
tagged_rows j = tagged j.apid (lost_row j.judged.verdict.lost) ++ tagged j.apid (own_row j.judged.verdict.t j.judged.verdict.kind)

-- what is written of an arrival: its rows, and then its Space Packet
abbrev pub arrival_texts : StreamJudged → Outputs
arrival_texts j = to_report (tagged_rows j) ++ to_output (written_packet j)

-- what is written of arrivals
abbrev pub outputs_of : List StreamJudged → Outputs
outputs_of judged = flat_map arrival_texts judged

-- the report's first line
abbrev pub multi_header : List ℕ
multi_header = codes "apid," ++ header_row

-- the last row of each stream, in their order
abbrev pub end_rows : List StreamRow → List Packet → List ℕ
end_rows streams packets = flat_map (λ (stream : StreamRow). tagged stream.apid (end_row (restored_of (run stream.bits (stream_arrivals stream.apid packets))))) streams

-- the report's last line: how many packets of the streams' APIDs have another shape
abbrev pub shape_row : ℕ → List ℕ
shape_row count = codes "shape," ++ decimal count ++ codes "\n"

-- what is written at the end
abbrev pub last_rows : List StreamRow → List Packet → List ℕ
last_rows streams packets = end_rows streams packets ++ shape_row (shape_count streams packets)

-- What restoring the streams of a store owes: the header, and what is written of the arrivals before the end; the last
-- rows if the store is whole, and otherwise the fault of its walk.
abbrev pub multi_course : List StreamRow → List ℕ → Course WalkFault
multi_course streams store = record {
  before = to_report multi_header ++ outputs_of (multi_run streams (walk None store).packets);
  after = to_report (last_rows streams (walk None store).packets);
  ending = (walk None store).ending;
}

-- the work of restoring them, whose answer is the number of written packets
abbrev pub multi_work : List StreamRow → Work ℕ WalkFault
multi_work streams = record { course = multi_course streams; answer = λ store. written_count (multi_run streams (walk None store).packets) }
