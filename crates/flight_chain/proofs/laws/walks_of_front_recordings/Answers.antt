use Rattle.std.proofs.Common.{length, arith}
use Rattle.flight_chain.proofs.Recordings.{IsLonger-recording}
use Rattle.flight_chain.proofs.laws.walks_of_front_recordings.Goals as goal

pub returns : goal.returns
returns c = λ f front rest some.
    let longer = IsLonger-recording (length front) f 0 front rest (omega arith) some (omega arith) in
    (longer.later, longer.joined)
