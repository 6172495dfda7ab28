use Rattle.std.proofs.Common.{◌^◌, [], ap, true, arith}
use Rattle.desk_ports.proofs.Steps.{AreReady-ran}
use Rattle.late_window.specs.declared.late.LateArrivals.{LateArrivals}
use Rattle.late_window.specs.Late.{held_bytes}
use Rattle.late_window.proofs.Held.{JudgedPart-cut, JudgedPart-next, few-left}
use Rattle.late_window.proofs.late.LateArrivals.judge_held.Goals as goal

pub judge_least-requires-clause-few : goal.judge_least-requires-clause-few
judge_least-requires-clause-few g c = few-left c.loop-self.invariant (2 ^ 32) c.requires.few (omega arith)

pub judge_least-requires-clause-ready : goal.judge_least-requires-clause-ready
judge_least-requires-clause-ready g c =
    let part = c.loop-self.invariant in
    let parts = held_bytes c.args.self.now.judging part.done in
    AreReady-ran (λ _. true) (g.D.Desk.meaning c.args.desk.now) (g.D.Desk.meaning c.loop-self.desk) [] parts part.written.wrote c.requires.ready

pub loop-self-preserved : goal.loop-self-preserved
loop-self-preserved g c =
    let told = c.judge_least.ensures in
    JudgedPart-next c.loop-self.invariant c.judge_least.new.self told.line told.judged (ap (λ (s : LateArrivals). s.late) told.others) c.in_ok-judge_least.ensures.written

pub returns-in_err-judge_least-clause-written : goal.returns-in_err-judge_least-clause-written
returns-in_err-judge_least-clause-written g c = JudgedPart-cut c.loop-self.invariant _ c.judge_least.new.self.judging c.from_residual.ensures.1 c.judge_least.ensures.judged c.in_err-judge_least.ensures.written
