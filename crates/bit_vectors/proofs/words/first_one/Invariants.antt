use Rattle.std.proofs.Common.{◌-◌, ◌*◌, ◌≤◌, length}
use Rattle.bit_vectors.specs.Words.{NoBitIsOne}
use Rattle.bit_vectors.proofs.words.first_one.Given as goal

-- no bit before the start is 1
abbrev pub invariant-loop-start : goal.invariant-loop-start
invariant-loop-start l = (l.from ≤ l.start) × NoBitIsOne l.words l.from l.start

abbrev pub decreases-loop-start : goal.decreases-loop-start
decreases-loop-start l = 64 * length l.words - l.start
