use Rattle.count_code.proofs.CountWords.{IsNumberSoFar}
use Rattle.count_code.proofs.reading.take_bounded.Given as goal

abbrev pub invariant-loop-weight : goal.invariant-loop-weight
invariant-loop-weight l = IsNumberSoFar l.fn.eye l.eye l.most l.so_far l.width l.number l.weight
