use Rattle.std.proofs.Common.{[], ap, ◌∙◌, append-nil, arith}
use Rattle.desk_ports.specs.Courses.{by_ending, to_output}
use Rattle.flight_chain.specs.Recordings.{RecordingWalk}
use Rattle.flight_chain.specs.Compressing.{store_of, history_by}
use Rattle.flight_chain.proofs.Recordings.{recording_walk_from-recording_of}
use Rattle.flight_chain.proofs.laws.whole_recordings_owe_their_store.Goals as goal

pub returns : goal.returns
returns c = λ k inputs some all few.
    ap (λ (w : RecordingWalk). by_ending w.ending (to_output (store_of (history_by k w.inputs) k.apid)) []) (recording_walk_from-recording_of k.places 0 inputs some all (omega arith))
    ∙ append-nil (to_output (store_of (history_by k inputs) k.apid))
