use Rattle.std.proofs.Common.{subst}
use Rattle.desk_ports.specs.Courses.{AfterRun, by_stop}
use Rattle.packet_store.specs.StoreReader.{stop_by}
use Rattle.late_window.specs.Restoring.{LateState, late_state, late_work, rest_work}
use Rattle.late_window.proofs.Held.{IsLateDelivered-run, IsOk-run}
use Rattle.late_window.proofs.Rests.{Owes-unread, Steps-unread}
use Rattle.late_window.proofs.restorer.LateRestorer.restore.Goals as goal

pub returns-clause-ran : goal.returns-clause-ran
returns-clause-ran g c =
    let a = g.D.Desk.meaning c.args.desk.now in
    let d = g.D.Desk.meaning c.run_after_header.new.desk in
    let r = c.self.inside.run in
    let k = late_state r in
    let ran = c.run_after_header.ensures.ran (late_work k.places k.apid k.window) (rest_work r) (Owes-unread r c.self.invariant) (Steps-unread r c.self.invariant) in
    subst (λ (s : LateState). AfterRun (late_work s.places s.apid s.window) a d (by_stop stop_by c.run_after_header.result)) c.self.view_is ran

pub returns-clause-headline : goal.returns-clause-headline
returns-clause-headline g c = λ h copies played.
    IsLateDelivered-run c.args.self.places c.args.self.apid c.args.self.window h copies (g.D.Desk.meaning c.args.desk.now) (g.D.Desk.meaning c.run_after_header.new.desk) c.run_after_header.result played (returns-clause-ran g c)

pub returns-clause-complete : goal.returns-clause-complete
returns-clause-complete g c = λ store input whole reads writes.
    let old = g.D.Desk.counts c.args.desk.now in
    let new = g.D.Desk.counts c.run_after_header.new.desk in
    IsOk-run c.args.self.places c.args.self.apid c.args.self.window store (g.D.Desk.meaning c.args.desk.now) (g.D.Desk.meaning c.run_after_header.new.desk) old new c.run_after_header.result input whole (returns-clause-ran g c) c.run_after_header.ensures.cause reads writes
