use Rattle.std.proofs.Common.{◌∷◌, ◌++◌, [], length, false, drop, replicate, subst, sym, ap, ◌∙◌}
use Rattle.std.proofs.lemmas.List.{length-replicate}
use Rattle.robust_window.specs.Changes.{MaskStep}
use Rattle.robust_window.specs.Window.{Advances, LatestChanges, StandsFor, WindowState}
use Rattle.robust_window.proofs.Standing.{StandsFor-next}
use Rattle.robust_window.proofs.window.Window.step_still.Goals as goal

pub returns-clause-stands : goal.returns-clause-stands
returns-clause-stands c = λ steps step stands change new_mask robust.
    let old = c.args.self.now in
    let zeros = replicate (length old.recent) false in
    let len = length-replicate (length old.recent) false in
    let changes = ap (λ (k : LatestChanges). k.latest) c.push_still.ensures
    ∙ ap (λ n. drop 1 c.self.inside.changes.latest ++ replicate n false ∷ []) (c.self.invariant.places ∙ ap (λ (k : WindowState). length k.recent) c.self.view_is)
    ∙ ap (λ (k : WindowState). drop 1 k.changes ++ zeros ∷ []) c.self.view_is in
    subst (λ (s : MaskStep). StandsFor (steps ++ s ∷ []) c.advance.new.self) (sym (λ i. record { change = change i; new_mask = new_mask i; robust = robust i }))
    (StandsFor-next steps (record { change = zeros; new_mask = c.args.new_mask; robust = c.args.robust }) old c.advance.new.self stands (ap (λ (k : WindowState). length k.changes) (sym c.self.view_is) ∙ c.self.invariant.full) c.requires.2 len
    (λ _. ap (λ n. replicate n false) (sym len)) (subst (λ (k : WindowState). Advances k c.advance.new.self c.args.new_mask c.args.robust) (λ i. record (c.self.view_is i) { changes = changes i }) c.advance.ensures))
