use Rattle.std.proofs.Common.{◌≡◌, ℕ, ◌+◌, ◌<◌, ◌≤◌, List, length, ap, ◌∙◌, arith}
use Rattle.std.specs.Prelude.{All}
use Rattle.flight_chain.specs.Recordings.{ending_at, recording_walk}
use Rattle.flight_chain.proofs.Recordings.{IsWalk, IsWalk-recording}
use Rattle.flight_chain.proofs.laws.recording_walks_are_exact.Goals as goal

is_walk : (f : ℕ) (bytes : List ℕ) → 1 ≤ f → All (λ b. b < 256) bytes → IsWalk f 0 bytes (recording_walk f bytes)
is_walk f bytes some all = IsWalk-recording (length bytes) f 0 bytes (omega arith) some (omega arith) all

pub returns-clause-places : goal.returns-clause-places
returns-clause-places c = λ f bytes some all. (is_walk f bytes some all).places

pub returns-clause-few : goal.returns-clause-few
returns-clause-few c = λ f bytes some all. omega (arith, (is_walk f bytes some all).few)

pub returns-clause-joined : goal.returns-clause-joined
returns-clause-joined c = λ f bytes some all. (is_walk f bytes some all).joined

pub returns-clause-ends : goal.returns-clause-ends
returns-clause-ends c = λ f bytes some all.
    let w = recording_walk f bytes in
    let number : 0 + length w.inputs ≡ length w.inputs = omega arith in
    (is_walk f bytes some all).ends ∙ ap (λ n. ending_at f n w.rest) number
