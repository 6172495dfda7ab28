use Rattle.std.proofs.Common.{refl, ◌∙◌}
use Rattle.desk_ports.proofs.Steps.{Reaches-none, Advances-after, Finishes-after, AfterStop-after, AreReady-ran}
use Rattle.desk_ports.proofs.turns.drive.Goals as goal

pub turns-init : goal.turns-init
turns-init g c = record {
  owed = c.requires.owed;
  advances = λ work owed. record { next = work; owed = owed; reaches = Reaches-none work (g.D.Desk.meaning c.args.desk.now) };
  ready = c.requires.ready;
  steady = refl;
}

pub turns-preserved : goal.turns-preserved
turns-preserved g c =
    let a = g.D.Desk.meaning c.args.desk.now in
    let b = g.D.Desk.meaning c.turns.desk in
    let d = g.D.Desk.meaning c.turn.new.desk in
    let owes = g.R.Run.owes c.turn.new.self in
    let kept = c.turns.invariant in
    let told = rw c.in-Ok-More.field-0-is at c.in-Ok-More.ensures in
    let some = told.turned kept.owed.work kept.owed.owed in
    record {
      owed = record { work = some.next; owed = some.owed };
      advances = λ work owed.
          let behind = kept.advances work owed in
          Advances-after work behind.next owes a b d behind.reaches (told.turned behind.next behind.owed);
      ready = AreReady-ran g.R.Run.writes b d some.reaches.taken some.reaches.outputs some.reaches.ran kept.ready;
      steady = told.cause ∙ kept.steady;
    }

pub returns-in-Ok-Done-clause-ran : goal.returns-in-Ok-Done-clause-ran
returns-in-Ok-Done-clause-ran g c = λ work owed.
    let a = g.D.Desk.meaning c.args.desk.now in
    let b = g.D.Desk.meaning c.turns.desk in
    let d = g.D.Desk.meaning c.turn.new.desk in
    let told = rw c.in-Ok-Done.field-0-is at c.in-Ok-Done.ensures in
    let behind = c.turns.invariant.advances work owed in
    Finishes-after work behind.next a b d c.in-Ok-Done.answer behind.reaches (told.turned behind.next behind.owed)

pub returns-in-Err-clause-ran : goal.returns-in-Err-clause-ran
returns-in-Err-clause-ran g c = λ work owed.
    let a = g.D.Desk.meaning c.args.desk.now in
    let b = g.D.Desk.meaning c.turns.desk in
    let d = g.D.Desk.meaning c.turn.new.desk in
    let behind = c.turns.invariant.advances work owed in
    AfterStop-after work behind.next a b d (g.R.Run.stop_of c.in-Err.fault) behind.reaches (c.in-Err.ensures.turned behind.next behind.owed)
