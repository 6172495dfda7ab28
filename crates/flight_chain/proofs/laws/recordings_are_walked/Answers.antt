use Rattle.std.proofs.Common.{arith}
use Rattle.flight_chain.proofs.Recordings.{recording_walk_from-recording_of}
use Rattle.flight_chain.proofs.laws.recordings_are_walked.Goals as goal

pub returns : goal.returns
returns c = λ f inputs some all few. recording_walk_from-recording_of f 0 inputs some all (omega arith)
