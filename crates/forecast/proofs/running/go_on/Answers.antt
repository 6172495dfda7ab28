use Rattle.std.proofs.Common.{◌≡◌, ◌+◌, ap, sym, subst, ◌∙◌, true, false, Some, Option, IfSome}
use Rattle.forecast.specs.declared.stretch.Stretch.{Stretch}
use Rattle.forecast.specs.Stretches.{same_fate}
use Rattle.forecast.specs.Outlooks.{stretch_at}
use Rattle.forecast.proofs.Stretches.{stretch-longer, stretch-new}
use Rattle.forecast.proofs.running.go_on.Goals as goal
use Rattle.forecast.proofs.running.go_on.Goals.{in-Some+else-is, in_default}

pub returns-then-is-clause-stretch : goal.returns-then-is-clause-stretch
returns-then-is-clause-stretch c = λ fates is was.
    let same : same_fate c.in-Some.latest.fate (fates c.args.t) ≡ true = sym (ap (same_fate c.in-Some.latest.fate) is) ∙ (sym c.is.ensures ∙ c.if-is.true) in
    stretch-longer fates c.args.t c.in-Some.latest (sym c.in-Some.is ∙ was) same

pub returns-clause-stretch : goal.returns-clause-stretch
returns-clause-stretch c = λ fates is was.
    let other : IfSome c.args.stretch.now (λ (s : Stretch). same_fate s.fate (fates c.args.t) ≡ false) = elim c.match-stretch.branch [
      | in-Some+else-is w ↦ subst (λ (o : Option Stretch). IfSome o (λ (s : Stretch). same_fate s.fate (fates c.args.t) ≡ false)) (sym w.in-Some.is) (sym (ap (same_fate w.in-Some.latest.fate) is) ∙ (sym w.is.ensures ∙ w.if-is.false))
      | in_default w ↦ subst (λ (o : Option Stretch). IfSome o (λ (s : Stretch). same_fate s.fate (fates c.args.t) ≡ false)) (sym w.in_default.is) tt
    ] in
    let new = stretch-new fates c.args.t c.args.stretch.now was other in
    c.replace.ensures.after ∙ subst (λ f. ◌≡◌ {A = Option Stretch} (Some (record { first = c.args.t; last = c.args.t; fate = f })) (stretch_at fates (c.args.t + 1))) (sym is) new
