use Rattle.std.proofs.Common.{◌≡◌, ◌+◌, ◌-◌, length, take, sym, subst, ◌∙◌, rules, arith}
use Rattle.std.proofs.lemmas.Grind.{common_steps}
use Rattle.std.proofs.lemmas.List.{length-take-le}
use Rattle.std.proofs.lemmas.Result.{err_from_is_err_and}
use borrow.Rule.Slice.PartMut.{put_mid}
use Rattle.desk_ports.specs.Meanings.{Counts, FailsToRead, Meanings, Moves}
use Rattle.desk_ports.proofs.Courses.{Moves-then, Moves-ready, take-put_mid-add}
use Rattle.desk_ports.proofs.transfer.fill.Goals as goal

pub loop-filled-preserved : goal.loop-filled-preserved
loop-filled-preserved g c =
    let meaning = g.D.Desk.meaning in
    let kept = c.loop-filled.invariant in
    let read = c.in_ok-moved.ensures in
    let first = meaning c.args.desk.now in
    let before = meaning c.loop-filled.desk in
    let after = meaning c.read.new.self in
    let joined = take-put_mid-add c.loop-filled.buf c.read.new.buf c.loop-filled.filled (length c.loop-filled.buf - c.loop-filled.filled) c.in_ok-moved.moved kept.within (search rules) in
    record {
      within = grind (arith, common_steps);
      moved = subst (Moves first after c.args.inlet) (sym joined) (Moves-then first before after c.args.inlet _ _ kept.moved read.moved);
      ready = Moves-ready before after c.args.inlet _ read.moved kept.ready;
      steady = read.cause ∙ kept.steady;
    }

pub returns-in_err-moved-clause-lost : goal.returns-in_err-moved-clause-lost
returns-in_err-moved-clause-lost g c =
    let first = g.D.Desk.meaning c.args.desk.now in
    let kept = c.loop-filled.invariant in
    let front = take c.loop-filled.filled c.loop-filled.buf in
    let p = err_from_is_err_and c.from_residual.result c.from_residual.ensures.1 in
    rw p.1 (front, omega (arith, length-take-le c.loop-filled.filled c.loop-filled.buf kept.within), subst (λ (m : Meanings). Moves first m c.args.inlet front) (sym c.in_err-moved.ensures.unchanged) kept.moved)

pub returns-in_err-moved-clause-cause : goal.returns-in_err-moved-clause-cause
returns-in_err-moved-clause-cause g c =
    let p = err_from_is_err_and c.from_residual.result c.from_residual.ensures.1 in
    rw p.1 (subst (λ (k : Counts). FailsToRead k (g.D.Desk.counts c.read.new.self)) c.loop-filled.invariant.steady c.in_err-moved.ensures.cause)

pub returns-then-moved-eq0-clause-moved : goal.returns-then-moved-eq0-clause-moved
returns-then-moved-eq0-clause-moved g c =
    let meaning = g.D.Desk.meaning in
    let kept = c.loop-filled.invariant in
    let read = c.in_ok-moved.ensures in
    let filled = c.loop-filled.filled in
    let moved = c.in_ok-moved.moved in
    let part = length c.loop-filled.buf - filled in
    let first = meaning c.args.desk.now in
    let before = meaning c.loop-filled.desk in
    let after = meaning c.read.new.self in
    let joined = take-put_mid-add c.loop-filled.buf c.read.new.buf filled part moved kept.within (search rules) in
    let same : filled + moved ≡ filled = omega arith in
    subst (λ n. Moves first after c.args.inlet (take n (put_mid filled part c.loop-filled.buf c.read.new.buf))) same
    (subst (Moves first after c.args.inlet) (sym joined) (Moves-then first before after c.args.inlet _ _ kept.moved read.moved))
