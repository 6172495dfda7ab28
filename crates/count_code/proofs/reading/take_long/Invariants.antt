use Rattle.std.proofs.Common.{◌-◌}
use Rattle.count_code.proofs.CountWords.{IsLongSoFar}
use Rattle.count_code.proofs.reading.take_long.Given as goal

abbrev pub invariant-loop-digits : goal.invariant-loop-digits
invariant-loop-digits l = IsLongSoFar l.fn.eye l.eye l.most l.digits

abbrev pub decreases-loop-digits : goal.decreases-loop-digits
decreases-loop-digits l = 16 - l.digits
