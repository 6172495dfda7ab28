use Rattle.std.proofs.Common.{◌≤◌}
use Rattle.bit_vectors.specs.Words.{NoBitIsOne}
use Rattle.bit_vectors.proofs.words.last_one.Given as goal

-- no bit from the end on is 1
abbrev pub invariant-loop-end : goal.invariant-loop-end
invariant-loop-end l = (l.end ≤ l.below) × NoBitIsOne l.words l.end l.below

abbrev pub decreases-loop-end : goal.decreases-loop-end
decreases-loop-end l = l.end
