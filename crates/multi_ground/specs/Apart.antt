-- What the output and the report of several streams have of one of them.
use Rattle.std.specs.Prelude.{ℕ, ◌%◌, ◌==◌, if◌then◌else◌, List, [], ◌∷◌, ◌++◌, ◌<◌, ◌≡◌, length, take, drop, map, filter, codes, Option, Some, None}
use Rattle.std.specs.Fmt.{decimal}
use Rattle.std.specs.List.{filter_map, flat_map}
use Rattle.std.specs.Str.{bytes_eq}
use Rattle.std.specs.Io.KnownBytes.{append_known}
use Rattle.desk_ports.specs.declared.desk.Outlet.TheVariants as outlet
use Rattle.desk_ports.specs.Meanings.{Meanings, made}
use Rattle.packet_store.specs.SpacePackets.{Packet, period, plain_packet}
use Rattle.packet_store.specs.Walks.{walk}
use Rattle.side_tables.specs.declared.rows.StreamRow.{StreamRow}
use Rattle.side_tables.specs.Streams.{stream_at}
use Rattle.ground_chain.specs.Run.{Arrival, Judged, run}
use Rattle.ground_chain.specs.Report.{content_bytes, end_row, is_written_kind, restored_of, run_bytes, run_rows}
use Rattle.multi_ground.specs.MultiRun.{StreamJudged, multi_run, shape_count, stream_arrivals}
use Rattle.multi_ground.specs.MultiOutputs.{end_rows, multi_header, shape_row, tagged_rows}

-- the judged arrivals of the stream with an APID
abbrev pub judged_with : ℕ → List StreamJudged → List Judged
judged_with apid judged = map (λ (j : StreamJudged). j.judged) (filter (λ (j : StreamJudged). j.apid == apid) judged)

-- ---- the output

-- the Space Packet of an arrival, if it is written
abbrev pub packet_from : StreamJudged → Option Packet
packet_from j = if is_written_kind j.judged.verdict.kind then Some (plain_packet j.apid (j.judged.verdict.t % period) (content_bytes j.judged.after.state)) else None

abbrev pub packets_from : List StreamJudged → List Packet
packets_from judged = filter_map packet_from judged

-- the contents on an APID in a store: the data of its packets, one after another
abbrev pub contents_on : ℕ → List ℕ → List ℕ
contents_on apid store = flat_map (λ (p : Packet). p.body) (filter (λ (p : Packet). p.header.apid == apid) (walk None store).packets)

-- ---- the report

-- a byte in front of the first line
abbrev pub before_line : ℕ → List (List ℕ) → List (List ℕ)
before_line byte [] = (byte ∷ []) ∷ []
before_line byte (line ∷ lines) = (byte ∷ line) ∷ lines

-- the lines of a text, each with its line end
abbrev pub lines_of : List ℕ → List (List ℕ)
lines_of [] = []
lines_of (byte ∷ text) = if byte == 10 then (byte ∷ []) ∷ lines_of text else before_line byte (lines_of text)

-- what stands after a front of a line, and nothing if the line has another front
abbrev pub after_front : List ℕ → List ℕ → List ℕ
after_front front line = if bytes_eq (take (length front) line) front then drop (length front) line else []

-- the lines that begin with an APID and a comma, without that
abbrev pub rows_on : ℕ → List ℕ → List ℕ
rows_on apid report = flat_map (after_front (decimal apid ++ codes ",")) (lines_of report)

-- the report of the streams in whole stores
abbrev pub multi_report : List StreamRow → List Packet → List ℕ
multi_report streams packets = multi_header ++ flat_map tagged_rows (multi_run streams packets) ++ (end_rows streams packets ++ shape_row (shape_count streams packets))

-- ---- a whole store

-- the arrivals of the stream with an APID in a store
abbrev pub arrivals_on : ℕ → List ℕ → List Arrival
arrivals_on apid store = stream_arrivals apid (walk None store).packets

-- the run over the arrivals of a stream in a store
abbrev pub stream_run : StreamRow → List ℕ → List Judged
stream_run stream store = run stream.bits (arrivals_on stream.apid store)

-- an output and a report have of a stream what the run over its arrivals alone gives
pub record HasStream (stream : StreamRow) (store output report : List ℕ) : Type 0 where
  pub contents : contents_on stream.apid output ≡ run_bytes (stream_run stream store)
  pub rows : rows_on stream.apid report ≡ run_rows (stream_run stream store) ++ end_row (restored_of (stream_run stream store))

-- To the outputs were added a store of Space Packets and a report, which have each stream by itself.
pub record AreRestored (streams : List StreamRow) (store : List ℕ) (old new : Meanings) : Type 0 where
  pub output : List ℕ
  pub report : List ℕ
  pub added : made new outlet.Main ≡ append_known (made old outlet.Main) output
  pub noted : made new outlet.Report ≡ append_known (made old outlet.Report) report
  pub whole : (walk None output).ending ≡ None
  pub each : (index : ℕ) → index < length streams → HasStream (stream_at streams index) store output report
