use Rattle.std.proofs.Common.{ℕ, List, refl, ap, ◌+◌, length, subst, ◌∙◌}
use Rattle.std.proofs.lemmas.Result.{err_from_is_err_and}
use Rattle.desk_ports.specs.declared.desk.Outlet.TheVariants as outlet
use Rattle.desk_ports.proofs.Steps.{AreReady-moved, Advances-on, AfterStop-on, Finishes-on, IsCutShort-on, IsCutShort-end-on}
use Rattle.desk_ports.specs.Courses.{work_on}
use Rattle.desk_ports.specs.Turns.{Wrote, WroteFront}
use Rattle.flight_chain.specs.Recordings.{walk_over}
use Rattle.flight_chain.proofs.CompressCourses.{AfterWalk-recording, IsOver-recording, TakesItem-recording}
use Rattle.flight_chain.specs.Compressing.{stop_by}
use Rattle.param_table.specs.declared.rows.Column.{Column}
use Rattle.param_table.specs.declared.tabling.Tabling.{Tabling}
use Rattle.param_table.specs.Tabling.{Owes, left_to_tabulate, packet_texts}
use Rattle.param_table.specs.Texts.{packet_violations}
use Rattle.param_table.proofs.TableCourses.{GoesOn-table, IsDone-table, Owes-next}
use Rattle.param_table.proofs.tabling.TablingRun.turn.Goals as goal

-- the recording is not read on
pub returns-in_err-t-clause-turned : goal.returns-in_err-t-clause-turned
returns-in_err-t-clause-turned g c = λ work owes.
    let s = c.args.self.now in
    let a = g.D.Desk.meaning c.args.desk.now in
    let b = g.D.Desk.meaning c.read_input.new.desk in
    let reason = stop_by c.in_err-t.field-0.0 in
    let p = err_from_is_err_and c.from_residual.result c.from_residual.ensures.1 in
    rw (p.1, p.2) (AfterStop-on (left_to_tabulate s.fields s.taken s.found) (walk_over (length s.packet) s.taken s.ahead) work a b reason owes.work_is refl (AfterWalk-recording (length s.packet) s.taken s.ahead a b reason c.in_err-t.ensures.unread))

-- the recording is at its end
pub write_end-requires : goal.write_end-requires
write_end-requires g c =
    let told = rw c.in_default.is at c.in_ok-t.ensures in
    (AreReady-moved told.none c.requires.ready).outputs outlet.Report refl

pub returns-in_err-write_end-clause-turned : goal.returns-in_err-write_end-clause-turned
returns-in_err-write_end-clause-turned g c = λ work owes.
    let s = c.args.self.now in
    let told = rw c.in_default.is at c.in_ok-t.ensures in
    let p = err_from_is_err_and c.from_residual-in_err-write_end.result c.from_residual-in_err-write_end.ensures.1 in
    rw (p.1, p.2) (IsCutShort-end-on (IsDone-table s.fields s.taken s.found) (IsOver-recording (length s.packet) s.taken told.ahead told.none told.at_end) owes.work_is c.in_err-write_end.ensures.front)

pub returns-in_default-clause-turned : goal.returns-in_default-clause-turned
returns-in_default-clause-turned g c = λ work owes.
    let s = c.args.self.now in
    let told = rw c.in_default.is at c.in_ok-t.ensures in
    Finishes-on (IsDone-table s.fields s.taken s.found) (IsOver-recording (length s.packet) s.taken told.ahead told.none told.at_end) owes.work_is c.in_ok-write_end.ensures.wrote

-- a packet was read
pub write_packet-requires-clause-ready : goal.write_packet-requires-clause-ready
write_packet-requires-clause-ready g c =
    let told = rw c.in-Some.is at c.in_ok-t.ensures in
    let ready = AreReady-moved told.taken.moved c.requires.ready in
    (ready.input, ready.outputs outlet.Main refl, ready.outputs outlet.Report refl)

pub returns-in_err-self-clause-turned : goal.returns-in_err-self-clause-turned
returns-in_err-self-clause-turned g c = λ work owes.
    let s = c.args.self.now in
    let b = g.D.Desk.meaning c.read_input.new.desk in
    let d = g.D.Desk.meaning c.write_packet.new.desk in
    let packet = c.read_input.new.input in
    let told = rw c.in-Some.is at c.in_ok-t.ensures in
    let goes_on = GoesOn-table s c.in-Some.t packet told.number in
    let front = subst (λ (columns : List Column). WroteFront b d (packet_texts columns (c.in-Some.t, packet))) c.columns-columns.ensures c.in_err-self.ensures.written.front in
    let p = err_from_is_err_and c.from_residual-in_err-self.result c.from_residual-in_err-self.ensures.1 in
    rw (p.1, p.2) (IsCutShort-on (TakesItem-recording told.taken) goes_on owes.work_is front)

pub returns-clause-turned : goal.returns-clause-turned
returns-clause-turned g c = λ work owes.
    let s = c.args.self.now in
    let b = g.D.Desk.meaning c.read_input.new.desk in
    let d = g.D.Desk.meaning c.write_packet.new.desk in
    let packet = c.read_input.new.input in
    let after = c.read_input.new.ahead in
    let told = rw c.in-Some.is at c.in_ok-t.ensures in
    let goes_on = GoesOn-table s c.in-Some.t packet told.number in
    let wrote = subst (λ (columns : List Column). Wrote b d (packet_texts columns (c.in-Some.t, packet))) c.columns-columns.ensures c.in_ok-self.ensures.written.wrote in
    let count = c.in_ok-self.ensures.found ∙ ap (λ (columns : List Column). length (packet_violations columns (c.in-Some.t, packet))) c.columns-columns.ensures in
    let new : Tabling = record { fields = s.fields; taken = s.taken + 1; found = s.found + c.in_ok-self.field-0; ahead = after; packet = packet; line = c.write_packet.new.line } in
    let owed = Owes-next s c.write_packet.new.line packet after c.in_ok-self.field-0 owes.right told.taken.few c.in_ok-self.ensures.few told.taken.places in
    Advances-on (TakesItem-recording told.taken) goes_on owes.work_is wrote (subst (λ (n : ℕ). Owes new (work_on (left_to_tabulate s.fields (s.taken + 1) (s.found + n)) (walk_over (length s.packet) (s.taken + 1) after))) count owed)
