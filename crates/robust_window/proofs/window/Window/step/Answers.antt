use Rattle.std.proofs.Common.{◌∷◌, ◌++◌, [], length, drop, subst, sym, ap, ◌∙◌}
use Rattle.robust_window.specs.Changes.{MaskStep}
use Rattle.robust_window.specs.Window.{Advances, LatestChanges, StandsFor, WindowState}
use Rattle.robust_window.proofs.Standing.{StandsFor-next}
use Rattle.robust_window.proofs.window.Window.step.Goals as goal

pub returns-else-is_zero-clause-stands : goal.returns-else-is_zero-clause-stands
returns-else-is_zero-clause-stands c = λ steps step stands change new_mask robust.
    let changes = ap (λ (k : LatestChanges). k.latest) c.push.ensures ∙ ap (λ (k : WindowState). drop 1 k.changes ++ c.args.change.now ∷ []) c.self.view_is in
    subst (λ (s : MaskStep). StandsFor (steps ++ s ∷ []) c.advance.new.self) (sym (λ i. record { change = change i; new_mask = new_mask i; robust = robust i }))
    (StandsFor-next steps (record { change = c.args.change.now; new_mask = c.args.new_mask; robust = c.args.robust }) c.args.self.now c.advance.new.self stands (ap (λ (k : WindowState). length k.changes) (sym c.self.view_is) ∙ c.self.invariant.full)
    c.requires.next.2 c.requires.places c.requires.first_change (subst (λ (k : WindowState). Advances k c.advance.new.self c.args.new_mask c.args.robust) (λ i. record (c.self.view_is i) { changes = changes i }) c.advance.ensures))
