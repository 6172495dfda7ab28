use Rattle.std.proofs.Common.{◌+◌, refl, sym, subst, arith}
use Rattle.std.proofs.lemmas.Result.{err_from_is_err_and}
use Rattle.desk_ports.proofs.Courses.{Ran-none}
use Rattle.desk_ports.proofs.Steps.{Advances-on, AfterStop-on, Finishes-on, IsCutShort-on, IsCutShort-end-on}
use Rattle.packet_store.specs.StoreReader.{stop_of, walk_over}
use Rattle.packet_store.proofs.StoreTurns.{AfterWalk-store, IsOver-store, TakesItem-store}
use Rattle.desk_ports.specs.Courses.{Finishes}
use Rattle.late_window.specs.declared.done.LateDone.{LateDone}
use Rattle.late_window.specs.Restoring.{left_to_sort}
use Rattle.late_window.proofs.Rests.{limits-next, GoesOn-passed, GoesOn-sorted, IsDone-sorted, Owes-next, limits-more}
use Rattle.late_window.proofs.run.LateRunRun.turn.Goals as goal

-- the store is not read on
pub returns-in_err-taken-clause-turned : goal.returns-in_err-taken-clause-turned
returns-in_err-taken-clause-turned g c = λ work owes.
    let s = c.args.self.now in
    let a = g.D.Desk.meaning c.args.desk.now in
    let b = g.D.Desk.meaning c.next.new.desk in
    let reason = c.in_err-taken.field-0.0 in
    let p = err_from_is_err_and c.from_residual.result c.from_residual.ensures.1 in
    rw (p.1, p.2) (AfterStop-on (left_to_sort s) (walk_over s.reader) work a b (stop_of reason) owes.work_is refl (AfterWalk-store s.reader c.next.new.self.ahead a b reason c.in_err-taken.ensures.fault))

-- the store is at its end
pub end-requires-clause-few : goal.end-requires-clause-few
end-requires-clause-few g c = omega (arith, c.requires.owed.owed.limits.packets, c.requires.owed.owed.few)

pub returns-in_err-end-clause-turned : goal.returns-in_err-end-clause-turned
returns-in_err-end-clause-turned g c = λ work owes.
    let s = c.args.self.now in
    let told = rw c.in_default.is at c.in_ok-taken.ensures in
    let p = err_from_is_err_and c.from_residual-in_err-end.result c.from_residual-in_err-end.ensures.1 in
    rw (p.1, p.2) (IsCutShort-end-on (IsDone-sorted s) (IsOver-store s.reader told.ahead told.none told.at_end) owes.work_is c.in_err-end.ensures.written.front)

pub returns-in_default-clause-turned : goal.returns-in_default-clause-turned
returns-in_default-clause-turned g c = λ work owes.
    let s = c.args.self.now in
    let told = rw c.in_default.is at c.in_ok-taken.ensures in
    let meaning = g.D.Desk.meaning in
    subst (λ (done : LateDone). Finishes work (meaning c.args.desk.now) (meaning c.end.new.desk) done) (sym c.in_ok-end.ensures.done)
    (Finishes-on (IsDone-sorted s) (IsOver-store s.reader told.ahead told.none told.at_end) owes.work_is c.in_ok-end.ensures.written.wrote)

-- a packet was read
pub returns-in_err-arrive-clause-turned : goal.returns-in_err-arrive-clause-turned
returns-in_err-arrive-clause-turned g c = λ work owes.
    let s = c.args.self.now in
    let t = record s { reader = c.next.new.self; arrivals = c.arrive.new.self } in
    let meaning = g.D.Desk.meaning in
    let told = rw c.in-Some.is at c.in_ok-taken.ensures in
    let sorts = rw c.body-body.ensures at c.arrive.ensures.sorts in
    let goes_on = GoesOn-sorted s t (meaning c.args.desk.now) (meaning c.next.new.desk) c.in-Some.taken told.some c.if-taken.true sorts in
    let p = err_from_is_err_and c.from_residual-in_err-arrive.result c.from_residual-in_err-arrive.ensures.1 in
    let front = rw c.body-body.ensures at c.in_err-arrive.ensures.written.front in
    rw (p.1, p.2) (IsCutShort-on (TakesItem-store told.some) goes_on owes.work_is front)

pub returns-in_ok-arrive-clause-turned : goal.returns-in_ok-arrive-clause-turned
returns-in_ok-arrive-clause-turned g c = λ work owes.
    let s = c.args.self.now in
    let t = record s { reader = c.next.new.self; arrivals = c.arrive.new.self } in
    let a = g.D.Desk.meaning c.args.desk.now in
    let b = g.D.Desk.meaning c.next.new.desk in
    let told = rw c.in-Some.is at c.in_ok-taken.ensures in
    let sorts = rw c.body-body.ensures at c.arrive.ensures.sorts in
    let goes_on = GoesOn-sorted s t a b c.in-Some.taken told.some c.if-taken.true sorts in
    let wrote = rw c.body-body.ensures at c.in_ok-arrive.ensures.written.wrote in
    let limits = limits-next s.arrivals t.arrivals (record { count = c.in-Some.taken.count; body = t.reader.body }) s.reader.taken sorts owes.limits in
    Advances-on (TakesItem-store told.some) goes_on owes.work_is wrote (Owes-next s t a b c.in-Some.taken work owes told.some limits)

pub returns-else-taken-clause-turned : goal.returns-else-taken-clause-turned
returns-else-taken-clause-turned g c = λ work owes.
    let s = c.args.self.now in
    let reader = c.next.new.self in
    let a = g.D.Desk.meaning c.args.desk.now in
    let b = g.D.Desk.meaning c.next.new.desk in
    let told = rw c.in-Some.is at c.in_ok-taken.ensures in
    let goes_on = GoesOn-passed s reader a b c.in-Some.taken told.some c.if-taken.false in
    let limits = limits-more s.arrivals s.reader.taken (s.reader.taken + 1) (omega arith) owes.limits in
    Advances-on (TakesItem-store told.some) goes_on owes.work_is (Ran-none b) (Owes-next s (record s { reader = reader }) a b c.in-Some.taken work owes told.some limits)
