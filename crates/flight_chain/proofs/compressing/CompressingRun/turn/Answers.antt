use Rattle.std.proofs.Common.{List, Bool, [], ◌∷◌, ◌++◌, ◌+◌, length, refl, ◌∙◌}
use Rattle.std.proofs.lemmas.Result.{err_from_is_err_and}
use Rattle.desk_ports.specs.declared.desk.Outlet.TheVariants as outlet
use Rattle.desk_ports.proofs.Courses.{Ran-none}
use Rattle.desk_ports.proofs.Steps.{AreReady-moved, Advances-on, Finishes-on, IsCutShort-on}
use Rattle.desk_ports.specs.Courses.{work_on}
use Rattle.flight_chain.specs.Compressing.{left_to_compress, Owes, stop_by}
use Rattle.flight_chain.specs.Recordings.{walk_over}
use Rattle.flight_chain.proofs.CompressCourses.{AfterStop-next, GoesOn-compress, HasTaken-number, HasTaken-read, IsDone-compress, IsNext-read, rest_work-next, IsOver-recording}
use Rattle.flight_chain.proofs.compressing.CompressingRun.turn.Goals as goal

-- the recording is not read on
pub returns-in_err-t-clause-turned : goal.returns-in_err-t-clause-turned
returns-in_err-t-clause-turned g c = λ work owes.
    let a = g.D.Desk.meaning c.args.desk.now in
    let b = g.D.Desk.meaning c.read_input.new.desk in
    let p = err_from_is_err_and c.from_residual.result c.from_residual.ensures.1 in
    rw (p.1, p.2) (AfterStop-next owes.k owes.inputs c.args.self.now _ c.taken-number.result c.args.self.now.ahead a b work (stop_by c.in_err-t.field-0.0) owes.taken owes.right.places c.taken-number.ensures.kept owes.work_is c.in_err-t.ensures.unread)

-- the recording is at its end
pub returns-in_default-clause-turned : goal.returns-in_default-clause-turned
returns-in_default-clause-turned g c = λ work owes.
    let told = rw c.in_default.is at c.in_ok-t.ensures in
    let number = c.taken-number.ensures.kept ∙ HasTaken-number owes.k owes.inputs c.args.self.now owes.taken in
    Finishes-on (IsDone-compress owes.k owes.inputs c.taken-number.result number) (IsOver-recording owes.k.places (length owes.inputs) told.ahead told.none told.at_end) owes.work_is (Ran-none (g.D.Desk.meaning c.read_input.new.desk))

-- a packet was read
pub put-requires-clause-output : goal.put-requires-clause-output
put-requires-clause-output g c =
    let told = rw c.in-Some.is at c.in_ok-t.ensures in
    (AreReady-moved told.taken.moved c.requires.ready).outputs outlet.Main refl

pub returns-in_err-put-clause-turned : goal.returns-in_err-put-clause-turned
returns-in_err-put-clause-turned g c = λ work owes.
    let a = g.D.Desk.meaning c.args.desk.now in
    let b = g.D.Desk.meaning c.read_input.new.desk in
    let s = c.args.self.now in
    let after = c.read_input.new.ahead in
    let input = c.read_input.new.input in
    let told = rw c.in-Some.is at c.in_ok-t.ensures in
    let next = IsNext-read owes.k owes.inputs s _ c.taken-number.result c.in-Some.t s.ahead after a b input owes.taken owes.right.places c.taken-number.ensures.kept told.number told.taken in
    let written = c.in_err-put.ensures.written owes.k owes.inputs (HasTaken-read owes.k owes.inputs s after input owes.taken) next.0 in
    let p = err_from_is_err_and c.from_residual-in_err-put.result c.from_residual-in_err-put.ensures.1 in
    rw (p.1, p.2) (IsCutShort-on next.1 (GoesOn-compress owes.k owes.inputs input) owes.work_is written.front)

pub returns-clause-turned : goal.returns-clause-turned
returns-clause-turned g c = λ work owes.
    let a = g.D.Desk.meaning c.args.desk.now in
    let b = g.D.Desk.meaning c.read_input.new.desk in
    let s = c.args.self.now in
    let put = c.in_ok-put.ensures in
    let after = c.read_input.new.ahead in
    let input = c.read_input.new.input in
    let told = rw c.in-Some.is at c.in_ok-t.ensures in
    let next = IsNext-read owes.k owes.inputs s _ c.taken-number.result c.in-Some.t s.ahead after a b input owes.taken owes.right.places c.taken-number.ensures.kept told.number told.taken in
    let taken = HasTaken-read owes.k owes.inputs s after input owes.taken in
    let inputs : List (List Bool) = owes.inputs ++ input ∷ [] in
    let owed : Owes c.put.new.self (work_on (left_to_compress owes.k inputs) (walk_over owes.k.places (length owes.inputs + 1) after)) =
    record { k = owes.k; inputs = inputs; taken = put.taken owes.k owes.inputs taken next.0; work_is = rest_work-next owes.k owes.inputs input after c.put.new.self.ahead put.ahead; right = put.right } in
    Advances-on next.1 (GoesOn-compress owes.k owes.inputs input) owes.work_is (put.written owes.k owes.inputs taken next.0).wrote owed
