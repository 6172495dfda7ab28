use Rattle.std.proofs.Common.{[], ◌∙◌, true, ap, refl}
use Rattle.desk_ports.specs.declared.desk.Outlet.TheVariants as outlet
use Rattle.desk_ports.specs.Courses.{to_report}
use Rattle.desk_ports.specs.Turns.{AreReady}
use Rattle.desk_ports.proofs.Steps.{AreReady-ran, Writes-cut, Writes-cut-more, Writes-err, Writes-is, Writes-more, Writes-ok}
use Rattle.ground_chain.specs.Report.{end_row}
use Rattle.late_window.specs.Order.{late_row}
use Rattle.late_window.specs.Late.{done_of, last_rows}
use Rattle.late_window.proofs.Held.{IsEmptied, Writes-last, held_of}
use Rattle.late_window.proofs.late.LateArrivals.end.Goals as goal

pub end-requires : goal.end-requires
end-requires g c =
    record { ready = AreReady-ran (λ _. true) (g.D.Desk.meaning c.args.desk.now) (g.D.Desk.meaning c.judge_held.new.desk) [] (held_of c.args.self.now) c.in_ok-judge_held.ensures.written.wrote c.requires.ready }

pub returns-in_err-judge_held-clause-written : goal.returns-in_err-judge_held-clause-written
returns-in_err-judge_held-clause-written g c = Writes-cut _ (to_report (last_rows (done_of c.args.self.now []))) c.from_residual.ensures.1 c.in_err-judge_held.ensures.written

pub returns-in_err-end-clause-written : goal.returns-in_err-end-clause-written
returns-in_err-end-clause-written g c =
    let t = c.judge_held.new.self in
    let is : IsEmptied c.args.self.now t = record { judged = c.in_ok-judge_held.ensures.judged; late = c.judge_held.ensures.late } in
    Writes-last is c.in_ok-judge_held.ensures.written (Writes-cut-more _ outlet.Report (end_row t.judging.restored) (late_row t.late) c.from_residual-in_err-end.ensures.1 c.in_err-end.ensures)

pub write_all-requires : goal.write_all-requires
write_all-requires g c =
    let m = g.D.Desk.meaning in
    let row = to_report (end_row c.judge_held.new.self.judging.restored) in
    let held : AreReady (λ _. true) (m c.judge_held.new.desk) = AreReady-ran (λ _. true) (m c.args.desk.now) (m c.judge_held.new.desk) [] (held_of c.args.self.now) c.in_ok-judge_held.ensures.written.wrote c.requires.ready in
    let ended : AreReady (λ _. true) (m c.end.new.desk) = AreReady-ran (λ _. true) (m c.judge_held.new.desk) (m c.end.new.desk) [] row c.in_ok-end.ensures.wrote held in
    ended.outputs outlet.Report refl

pub returns-in_err-write_all-clause-written : goal.returns-in_err-write_all-clause-written
returns-in_err-write_all-clause-written g c =
    let t = c.judge_held.new.self in
    let is : IsEmptied c.args.self.now t = record { judged = c.in_ok-judge_held.ensures.judged; late = c.judge_held.ensures.late } in
    let late = Writes-is (ap to_report (c.as_bytes.ensures ∙ c.late_row.ensures)) (Writes-err _ c.from_residual-in_err-write_all.ensures.1 c.in_err-write_all.ensures) in
    Writes-last is c.in_ok-judge_held.ensures.written (Writes-more outlet.Report (end_row t.judging.restored) (late_row t.late) c.in_ok-end.ensures late)

pub returns-clause-written : goal.returns-clause-written
returns-clause-written g c =
    let t = c.judge_held.new.self in
    let is : IsEmptied c.args.self.now t = record { judged = c.in_ok-judge_held.ensures.judged; late = c.judge_held.ensures.late } in
    let late = Writes-is (ap to_report (c.as_bytes.ensures ∙ c.late_row.ensures)) (Writes-ok c.in_ok-write_all.ensures) in
    Writes-last is c.in_ok-judge_held.ensures.written (Writes-more outlet.Report (end_row t.judging.restored) (late_row t.late) c.in_ok-end.ensures late)
