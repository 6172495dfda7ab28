use Rattle.std.proofs.Common.{◌≡◌, ◌<◌, ◌≤◌, length, ℕ}
use Rattle.bit_vectors.specs.Reading.{bits_left, MovesOn}
use Rattle.count_code.specs.Counts.{AreAhead}
use Rattle.run_code.specs.Runs.{parse_ones, parse_vector}
use Rattle.run_code.proofs.runs.read_runs.Given as goal

-- reading on below gives what reading from the start gives
abbrev pub invariant-loop-distance : goal.invariant-loop-distance
invariant-loop-distance l = record {
  within : l.below ≤ length l.into;
  places : length l.into ≡ length l.fn.into;
  moves : MovesOn l.fn.eye l.eye;
  ahead : AreAhead (bits_left l.eye) l.ahead;
  same : (most : ℕ) × (l.below < most) × (parse_vector (length l.fn.into) (bits_left l.fn.eye) ≡ parse_ones most l.below l.into (bits_left l.eye));
}

abbrev pub decreases-loop-distance : goal.decreases-loop-distance
decreases-loop-distance l = l.below
