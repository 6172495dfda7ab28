use Rattle.std.proofs.Common.{refl}
use Rattle.std.proofs.lemmas.Result.{err_from_is_err_and}
use Rattle.desk_ports.specs.declared.desk.Outlet.TheVariants as outlet
use Rattle.desk_ports.proofs.Steps.{AreReady-moved, AfterStop-on, Advances-on, IsCutShort-on, Finishes-on, IsCutShort-end-on}
use Rattle.packet_store.specs.StoreReader.{stop_of, walk_over}
use Rattle.packet_store.proofs.StoreTurns.{AfterWalk-store, IsOver-store, TakesItem-store}
use Rattle.loss_player.specs.Playing.{left_to_play}
use Rattle.loss_player.proofs.PlayCourses.{GoesOn-played, IsDone-played, Owes-played}
use Rattle.loss_player.proofs.playing.PlayingRun.turn.Goals as goal

-- the store is not read on
pub returns-in_err-taken-clause-turned : goal.returns-in_err-taken-clause-turned
returns-in_err-taken-clause-turned g c = λ work owes.
    let s = c.args.self.now in
    let a = g.D.Desk.meaning c.args.desk.now in
    let b = g.D.Desk.meaning c.next.new.desk in
    let reason = c.in_err-taken.field-0.0 in
    let p = err_from_is_err_and c.from_residual.result c.from_residual.ensures.1 in
    rw (p.1, p.2) (AfterStop-on (left_to_play s) (walk_over s.reader) work a b (stop_of reason) owes.work_is refl (AfterWalk-store s.reader c.next.new.self.ahead a b reason c.in_err-taken.ensures.fault))

-- the store is at its end
pub write_report-requires : goal.write_report-requires
write_report-requires g c =
    let told = rw c.in_default.is at c.in_ok-taken.ensures in
    (AreReady-moved told.none c.requires.ready).outputs outlet.Report refl

pub returns-in_err-write_report-clause-turned : goal.returns-in_err-write_report-clause-turned
returns-in_err-write_report-clause-turned g c = λ work owes.
    let told = rw c.in_default.is at c.in_ok-taken.ensures in
    let p = err_from_is_err_and c.from_residual-in_err-write_report.result c.from_residual-in_err-write_report.ensures.1 in
    rw (p.1, p.2) (IsCutShort-end-on (IsDone-played c.args.self.now work owes) (IsOver-store c.args.self.now.reader told.ahead told.none told.at_end) owes.work_is c.in_err-write_report.ensures.front)

pub returns-in_default-clause-turned : goal.returns-in_default-clause-turned
returns-in_default-clause-turned g c = λ work owes.
    let told = rw c.in_default.is at c.in_ok-taken.ensures in
    Finishes-on (IsDone-played c.args.self.now work owes) (IsOver-store c.args.self.now.reader told.ahead told.none told.at_end) owes.work_is c.in_ok-write_report.ensures.wrote

-- a packet was read
pub deliver-requires-clause-output : goal.deliver-requires-clause-output
deliver-requires-clause-output g c =
    let told = rw c.in-Some.is at c.in_ok-taken.ensures in
    (AreReady-moved told.some.moved c.requires.ready).outputs outlet.Main refl

pub returns-in_err-deliver-clause-turned : goal.returns-in_err-deliver-clause-turned
returns-in_err-deliver-clause-turned g c = λ work owes.
    let meaning = g.D.Desk.meaning in
    let s = c.args.self.now in
    let reader = c.next.new.self in
    let taken = c.in-Some.taken in
    let told = rw c.in-Some.is at c.in_ok-taken.ensures in
    let goes_on = GoesOn-played s c.deliver.new.self reader (meaning c.args.desk.now) (meaning c.next.new.desk) taken told.some c.deliver.ensures.counts in
    let p = err_from_is_err_and c.from_residual-in_err-deliver.result c.from_residual-in_err-deliver.ensures.1 in
    rw (p.1, p.2) (IsCutShort-on (TakesItem-store told.some) goes_on owes.work_is c.in_err-deliver.ensures.written.front)

pub returns-clause-turned : goal.returns-clause-turned
returns-clause-turned g c = λ work owes.
    let meaning = g.D.Desk.meaning in
    let s = c.args.self.now in
    let reader = c.next.new.self in
    let taken = c.in-Some.taken in
    let told = rw c.in-Some.is at c.in_ok-taken.ensures in
    let goes_on = GoesOn-played s c.deliver.new.self reader (meaning c.args.desk.now) (meaning c.next.new.desk) taken told.some c.deliver.ensures.counts in
    Advances-on (TakesItem-store told.some) goes_on owes.work_is c.in_ok-deliver.ensures.written.wrote (Owes-played s c.deliver.new.self reader (meaning c.args.desk.now) (meaning c.next.new.desk) taken work owes told.some c.deliver.ensures.counts c.deliver.ensures.counted)
