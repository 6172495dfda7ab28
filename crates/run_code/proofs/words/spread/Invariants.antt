use Rattle.run_code.proofs.Spreading.{IsSpread}
use Rattle.run_code.proofs.words.spread.Given as goal

abbrev pub invariant-loop-rest : goal.invariant-loop-rest
invariant-loop-rest l = IsSpread l.word l.at l.ahead l.made l.next l.rest

abbrev pub decreases-loop-rest : goal.decreases-loop-rest
decreases-loop-rest l = l.rest
