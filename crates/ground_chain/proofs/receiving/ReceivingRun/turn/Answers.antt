use Rattle.std.proofs.Common.{refl, ap, arith}
use Rattle.std.proofs.lemmas.Result.{err_from_is_err_and}
use Rattle.desk_ports.proofs.Courses.{Ran-none}
use Rattle.desk_ports.proofs.Steps.{AreReady-moved, Advances-on, AfterStop-on, Finishes-on, IsCutShort-on, IsCutShort-end-on}
use Rattle.packet_store.specs.StoreReader.{stop_of, walk_over}
use Rattle.packet_store.proofs.StoreTurns.{AfterWalk-store, IsOver-store, TakesItem-store}
use Rattle.ground_chain.specs.Receiving.{left_to_receive}
use Rattle.ground_chain.specs.declared.restored.Restored.{Restored}
use Rattle.ground_chain.proofs.RestCourses.{GoesOn-judged, GoesOn-passed, IsDone-received, Owes-next}
use Rattle.ground_chain.proofs.receiving.ReceivingRun.turn.Goals as goal

-- the store is not read on
pub returns-in_err-taken-clause-turned : goal.returns-in_err-taken-clause-turned
returns-in_err-taken-clause-turned g c = λ work owes.
    let s = c.args.self.now in
    let a = g.D.Desk.meaning c.args.desk.now in
    let b = g.D.Desk.meaning c.next.new.desk in
    let reason = c.in_err-taken.field-0.0 in
    let p = err_from_is_err_and c.from_residual.result c.from_residual.ensures.1 in
    rw (p.1, p.2) (AfterStop-on (left_to_receive g.A.Account.texts s) (walk_over s.reader) work a b (stop_of reason) owes.work_is refl (AfterWalk-store s.reader c.next.new.self.ahead a b reason c.in_err-taken.ensures.fault))

-- the store is at its end
pub end-requires : goal.end-requires
end-requires g c =
    let told = rw c.in_default.is at c.in_ok-taken.ensures in
    record { ready = AreReady-moved told.none c.requires.ready }

pub returns-in_err-end-clause-turned : goal.returns-in_err-end-clause-turned
returns-in_err-end-clause-turned g c = λ work owes.
    let s = c.args.self.now in
    let told = rw c.in_default.is at c.in_ok-taken.ensures in
    let p = err_from_is_err_and c.from_residual-in_err-end.result c.from_residual-in_err-end.ensures.1 in
    rw (p.1, p.2) (IsCutShort-end-on (IsDone-received g.A.Account.texts s) (IsOver-store s.reader told.ahead told.none told.at_end) owes.work_is c.in_err-end.ensures.front)

pub returns-in_default-clause-turned : goal.returns-in_default-clause-turned
returns-in_default-clause-turned g c = λ work owes.
    let s = c.args.self.now in
    let told = rw c.in_default.is at c.in_ok-taken.ensures in
    rw c.restored.ensures (Finishes-on (IsDone-received g.A.Account.texts s) (IsOver-store s.reader told.ahead told.none told.at_end) owes.work_is c.in_ok-end.ensures.wrote)

-- a packet was read
pub arrive-requires-clause-ready : goal.arrive-requires-clause-ready
arrive-requires-clause-ready g c =
    let told = rw c.in-Some.is at c.in_ok-taken.ensures in
    AreReady-moved told.some.moved c.requires.ready

pub returns-in_err-arrive-clause-turned : goal.returns-in_err-arrive-clause-turned
returns-in_err-arrive-clause-turned g c = λ work owes.
    let s = c.args.self.now in
    let t = record s { reader = c.next.new.self; judging = c.arrive.new.self } in
    let meaning = g.D.Desk.meaning in
    let told = rw c.in-Some.is at c.in_ok-taken.ensures in
    let judges = rw c.body-body.ensures at c.arrive.ensures.judges in
    let goes_on = GoesOn-judged g.A.Account.texts s t (meaning c.args.desk.now) (meaning c.next.new.desk) c.in-Some.taken told.some c.if-taken.true judges in
    let p = err_from_is_err_and c.from_residual-in_err-arrive.result c.from_residual-in_err-arrive.ensures.1 in
    let front = rw c.body-body.ensures at c.in_err-arrive.ensures.written.front in
    rw (p.1, p.2) (IsCutShort-on (TakesItem-store told.some) goes_on owes.work_is front)

pub returns-in_ok-arrive-clause-turned : goal.returns-in_ok-arrive-clause-turned
returns-in_ok-arrive-clause-turned g c = λ work owes.
    let s = c.args.self.now in
    let t = record s { reader = c.next.new.self; judging = c.arrive.new.self } in
    let texts = g.A.Account.texts in
    let a = g.D.Desk.meaning c.args.desk.now in
    let b = g.D.Desk.meaning c.next.new.desk in
    let told = rw c.in-Some.is at c.in_ok-taken.ensures in
    let judges = rw c.body-body.ensures at c.arrive.ensures.judges in
    let goes_on = GoesOn-judged texts s t a b c.in-Some.taken told.some c.if-taken.true judges in
    let wrote = rw c.body-body.ensures at c.in_ok-arrive.ensures.written.wrote in
    let packets = ap (λ (r : Restored). r.packets) judges.restored in
    Advances-on (TakesItem-store told.some) goes_on owes.work_is wrote (Owes-next texts s t a b c.in-Some.taken work owes told.some (omega (arith, packets)))

pub returns-else-taken-clause-turned : goal.returns-else-taken-clause-turned
returns-else-taken-clause-turned g c = λ work owes.
    let s = c.args.self.now in
    let reader = c.next.new.self in
    let texts = g.A.Account.texts in
    let a = g.D.Desk.meaning c.args.desk.now in
    let b = g.D.Desk.meaning c.next.new.desk in
    let told = rw c.in-Some.is at c.in_ok-taken.ensures in
    let goes_on = GoesOn-passed texts s reader a b c.in-Some.taken told.some c.if-taken.false in
    Advances-on (TakesItem-store told.some) goes_on owes.work_is (Ran-none b) (Owes-next texts s (record s { reader = reader }) a b c.in-Some.taken work owes told.some (omega arith))
