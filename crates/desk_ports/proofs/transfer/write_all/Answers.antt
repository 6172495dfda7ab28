use Rattle.std.proofs.Common.{◌≡◌, arith, [], ◌++◌, take, drop, take-append-drop, append_assoc, append-nil, refl, sym, ap, subst, ◌∙◌}
use Rattle.std.proofs.lemmas.List.{nil_from_length, take_rest}
use Rattle.std.proofs.lemmas.Result.{err_from_is_err_and}
use Rattle.desk_ports.specs.Meanings.{Adds, AddsFront, Counts, Meanings, FailsToWrite}
use Rattle.desk_ports.proofs.Courses.{Adds-none, Adds-then, Adds-ready}
use Rattle.desk_ports.proofs.Steps.{Wrote-adds, WroteFront-adds}
use Rattle.desk_ports.proofs.transfer.write_all.Goals as goal

pub loop-rest-init : goal.loop-rest-init
loop-rest-init g c = ([], record { joined = refl; added = Adds-none (g.D.Desk.meaning c.args.desk.now) c.args.outlet; ready = c.requires; steady = refl })

pub loop-rest-preserved : goal.loop-rest-preserved
loop-rest-preserved g c =
    let meaning = g.D.Desk.meaning in
    let front = c.loop-rest.invariant.0 in
    let kept = c.loop-rest.invariant.1 in
    let wrote = c.in_ok-taken.ensures in
    let first = meaning c.args.desk.now in
    let before = meaning c.loop-rest.desk in
    let after = meaning c.write.new.self in
    let n = c.in_ok-taken.taken in
    let rest = c.loop-rest.rest.now in (
      front ++ take n rest,
      record {
        joined = rw (take_rest rest n) (append_assoc front (take n rest) (drop n rest)) ∙ (ap (λ l. front ++ l) (take-append-drop n rest) ∙ kept.joined);
        added = Adds-then first before after c.args.outlet _ _ kept.added wrote.added;
        ready = Adds-ready before after c.args.outlet _ wrote.added kept.ready;
        steady = wrote.cause ∙ kept.steady;
      },
    )

pub returns-in_err-taken : goal.returns-in_err-taken
returns-in_err-taken g c =
    let first = g.D.Desk.meaning c.args.desk.now in
    let front = c.loop-rest.invariant.0 in
    let kept = c.loop-rest.invariant.1 in
    let failed = c.in_err-taken.ensures in
    let cut : AddsFront first (g.D.Desk.meaning c.write.new.self) c.args.outlet c.args.bytes.now = record { front = front; rest = c.loop-rest.rest.now; joined = kept.joined; added = subst (λ (m : Meanings). Adds first m c.args.outlet front) (sym failed.unchanged) kept.added } in
    let p = err_from_is_err_and c.from_residual.result c.from_residual.ensures.1 in
    rw p.1 (record { wrote = tt; front = WroteFront-adds c.args.outlet cut; cause = subst (λ (k : Counts). FailsToWrite k (g.D.Desk.counts c.write.new.self)) kept.steady failed.cause })

pub returns : goal.returns
returns g c =
    let front = c.loop-rest.invariant.0 in
    let kept = c.loop-rest.invariant.1 in
    let all : c.loop-rest.rest.now ≡ [] = nil_from_length _ (grind arith) in
    let whole = sym (append-nil front) ∙ (ap (λ l. front ++ l) (sym all) ∙ kept.joined) in
    let added = subst (Adds (g.D.Desk.meaning c.args.desk.now) (g.D.Desk.meaning c.loop-rest.desk) c.args.outlet) whole kept.added in
    record { wrote = Wrote-adds c.args.outlet added; front = tt; cause = kept.steady }
