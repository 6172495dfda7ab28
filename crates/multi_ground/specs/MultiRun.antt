-- The run over the packets of several streams: an arrival is judged by the arrivals of its own stream before it.
use Rattle.std.specs.Prelude.{ℕ, Bool, not, ◌&&◌, if◌then◌else◌, List, [], ◌∷◌, ◌++◌, map, filter, count_by, Option, Some, None, is_some}
use Rattle.std.specs.List.{cons_option}
use Rattle.std.specs.Option.{option_map}
use Rattle.packet_store.specs.declared.header.Header.{Header}
use Rattle.packet_store.specs.SpacePackets.{Packet, is_chosen, is_misshapen}
use Rattle.side_tables.specs.declared.rows.StreamRow.{StreamRow}
use Rattle.side_tables.specs.Streams.{stream_at, stream_of}
use Rattle.ground_chain.specs.Run.{Arrival, Judged, judge, known_after}
use Rattle.ground_chain.specs.Report.{is_written_kind}
use Rattle.ground_chain.specs.Restoring.{arrival_of}

-- a packet of the one shape: it is a telemetry packet, unsegmented, with no secondary header
abbrev pub has_shape : Header → Bool
has_shape h = not (is_misshapen (Some h.apid) h)

-- a packet of the one shape that has this APID
abbrev pub is_arrival : ℕ → Packet → Bool
is_arrival apid p = is_chosen (Some apid) p.header && has_shape p.header

-- the arrivals of the stream with an APID
abbrev pub stream_arrivals : ℕ → List Packet → List Arrival
stream_arrivals apid packets = map arrival_of (filter (is_arrival apid) packets)

-- a judged arrival, and the APID of its stream
pub record StreamJudged : Type 0 where
  pub apid : ℕ
  pub judged : Judged

-- an arrival of a stream after these packets
abbrev pub judged_of : StreamRow → List Packet → Packet → StreamJudged
judged_of stream before p = record {
  apid = stream.apid;
  judged = judge stream.bits (known_after stream.bits (stream_arrivals stream.apid before)) (arrival_of p);
}

-- a packet after these packets: it is an arrival if a stream has its APID and it has the one shape
abbrev pub judged_after : List StreamRow → List Packet → Packet → Option StreamJudged
judged_after streams before p =
    if has_shape p.header then option_map (λ index. judged_of (stream_at streams index) before p) (stream_of streams p.header.apid) else None

-- the run over packets that come after these
abbrev pub multi_run_from : List StreamRow → List Packet → List Packet → List StreamJudged
multi_run_from streams before [] = []
multi_run_from streams before (p ∷ packets) = cons_option (judged_after streams before p) (multi_run_from streams (before ++ p ∷ []) packets)

-- the run over packets
abbrev pub multi_run : List StreamRow → List Packet → List StreamJudged
multi_run streams packets = multi_run_from streams [] packets

-- how many packets of a run are written
abbrev pub written_count : List StreamJudged → ℕ
written_count judged = count_by (λ j. is_written_kind j.judged.verdict.kind) judged

-- a packet of another shape with the APID of a stream
abbrev pub is_other_shape : List StreamRow → Packet → Bool
is_other_shape streams p = is_some (stream_of streams p.header.apid) && not (has_shape p.header)

-- how many such packets there are
abbrev pub shape_count : List StreamRow → List Packet → ℕ
shape_count streams packets = count_by (is_other_shape streams) packets
