use Rattle.std.proofs.Common.{replicate, false, sym, ap, ◌∙◌, arith}
use Rattle.robust_window.specs.Window.{LatestChanges}
use Rattle.robust_window.proofs.Marking.{latest-marked, latest-quiet}
use Rattle.robust_window.proofs.changes.Changes.back.Goals as goal

pub returns-then-is_set-clause-change : goal.returns-then-is_set-clause-change
returns-then-is_set-clause-change c =
    let s = c.self.inside in
    c.slot_back.ensures ∙ sym (latest-marked s.slots s.marks s.zeros c.args.self.now c.self.invariant c.self.view_is c.args.back (omega (arith, c.requires)) (sym c.is_set.ensures ∙ c.if-is_set.true))

-- it stands for zeros
pub returns-else-is_set-clause-change : goal.returns-else-is_set-clause-change
returns-else-is_set-clause-change c =
    let s = c.self.inside in
    c.self.invariant.none ∙ ap (λ (k : LatestChanges). replicate k.places false) c.self.view_is
    ∙ sym (latest-quiet s.slots s.marks s.zeros c.args.self.now c.self.invariant c.self.view_is c.args.back (omega (arith, c.requires)) (sym c.is_set.ensures ∙ c.if-is_set.false))
