use Rattle.std.proofs.Common.{length}
use Rattle.late_window.proofs.Held.{JudgedPart}
use Rattle.late_window.proofs.late.LateArrivals.judge_held.Given as goal

abbrev pub invariant-loop-self : goal.invariant-loop-self
invariant-loop-self g l = JudgedPart g.D.Desk.meaning g.D.Desk.counts l.initial.self l.self l.initial.desk l.desk

abbrev pub decreases-loop-self : goal.decreases-loop-self
decreases-loop-self g l = length l.self.sorter.line.held
