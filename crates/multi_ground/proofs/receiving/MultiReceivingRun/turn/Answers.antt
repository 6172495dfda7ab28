use Rattle.std.proofs.Common.{refl}
use Rattle.std.proofs.lemmas.Result.{err_from_is_err_and}
use Rattle.desk_ports.proofs.Steps.{Advances-on, AfterStop-on, Finishes-on, IsCutShort-on, IsCutShort-end-on}
use Rattle.packet_store.specs.StoreReader.{stop_of, walk_over}
use Rattle.packet_store.proofs.StoreTurns.{AfterWalk-store, IsOver-store, TakesItem-store, packet_of}
use Rattle.multi_ground.specs.Receiving.{left_after}
use Rattle.multi_ground.proofs.MultiCourses.{GoesOn-next, HasRead-taken, IsDone-received, Owes-next, received-read}
use Rattle.multi_ground.proofs.receiving.MultiReceivingRun.turn.Goals as goal

-- the store is not read on
pub returns-in_err-next-clause-turned : goal.returns-in_err-next-clause-turned
returns-in_err-next-clause-turned g c = λ work owes.
    let s = c.args.self.now in
    let a = g.D.Desk.meaning c.args.desk.now in
    let b = g.D.Desk.meaning c.next.new.desk in
    let reason = c.in_err-next.field-0.0 in
    let p = err_from_is_err_and c.from_residual.result c.from_residual.ensures.1 in
    rw (p.1, p.2) (AfterStop-on (left_after s.streams owes.packets) (walk_over s.reader) work a b (stop_of reason) owes.work_is refl (AfterWalk-store s.reader c.next.new.self.ahead a b reason c.in_err-next.ensures.fault))

-- the store is at its end
pub returns-in_err-end-clause-turned : goal.returns-in_err-end-clause-turned
returns-in_err-end-clause-turned g c = λ work owes.
    let s = c.args.self.now in
    let told = rw c.in_default.is at c.in_ok-next.ensures in
    let p = err_from_is_err_and c.from_residual-in_err-end.result c.from_residual-in_err-end.ensures.1 in
    let written = c.in_err-end.ensures.written owes.packets (received-read s c.next.new.self owes.packets owes.received) in
    rw (p.1, p.2) (IsCutShort-end-on (IsDone-received s owes.packets owes.received) (IsOver-store s.reader told.ahead told.none told.at_end) owes.work_is written.front)

pub returns-in_default-clause-turned : goal.returns-in_default-clause-turned
returns-in_default-clause-turned g c = λ work owes.
    let s = c.args.self.now in
    let told = rw c.in_default.is at c.in_ok-next.ensures in
    let written = c.in_ok-end.ensures.written owes.packets (received-read s c.next.new.self owes.packets owes.received) in
    Finishes-on (IsDone-received s owes.packets owes.received) (IsOver-store s.reader told.ahead told.none told.at_end) owes.work_is written.wrote

-- a packet was read
pub receive-requires-clause-packet : goal.receive-requires-clause-packet
receive-requires-clause-packet g c =
    let s = c.args.self.now in
    let reader = c.next.new.self in
    let told = rw c.in-Some.is at c.in_ok-next.ensures in
    (packet_of told.some.header reader, HasRead-taken s reader (g.D.Desk.meaning c.args.desk.now) (g.D.Desk.meaning c.next.new.desk) c.in-Some.field-0 told.some c.requires.owed.owed.chosen)

pub returns-in_err-receive-clause-turned : goal.returns-in_err-receive-clause-turned
returns-in_err-receive-clause-turned g c = λ work owes.
    let s = c.args.self.now in
    let reader = c.next.new.self in
    let a = g.D.Desk.meaning c.args.desk.now in
    let b = g.D.Desk.meaning c.next.new.desk in
    let told = rw c.in-Some.is at c.in_ok-next.ensures in
    let read = HasRead-taken s reader a b c.in-Some.field-0 told.some owes.chosen in
    let p = err_from_is_err_and c.from_residual-in_err-receive.result c.from_residual-in_err-receive.ensures.1 in
    let written = c.in_err-receive.ensures.written (packet_of told.some.header reader) owes.packets read (received-read s reader owes.packets owes.received) in
    rw (p.1, p.2) (IsCutShort-on (TakesItem-store told.some) (GoesOn-next s.streams owes.packets (packet_of told.some.header reader)) owes.work_is written.front)

pub returns-clause-turned : goal.returns-clause-turned
returns-clause-turned g c = λ work owes.
    let s = c.args.self.now in
    let t = c.receive.new.self in
    let reader = c.next.new.self in
    let a = g.D.Desk.meaning c.args.desk.now in
    let b = g.D.Desk.meaning c.next.new.desk in
    let told = rw c.in-Some.is at c.in_ok-next.ensures in
    let read = HasRead-taken s reader a b c.in-Some.field-0 told.some owes.chosen in
    let has = received-read s reader owes.packets owes.received in
    let p = packet_of told.some.header reader in
    let written = c.in_ok-receive.ensures.written p owes.packets read has in
    let next = Owes-next s t reader a b c.in-Some.field-0 work owes told.some c.receive.ensures.reader c.receive.ensures.streams (c.receive.ensures.received p owes.packets read has) in
    Advances-on (TakesItem-store told.some) (GoesOn-next s.streams owes.packets p) owes.work_is written.wrote next
