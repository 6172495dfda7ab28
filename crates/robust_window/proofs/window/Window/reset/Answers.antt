use Rattle.std.proofs.Common.{false, length, replicate, refl, sym, ap, ◌∙◌}
use Rattle.std.proofs.lemmas.List.{length-replicate}
use Rattle.robust_window.specs.Window.{LatestChanges}
use Rattle.robust_window.proofs.Marking.{marks-none}
use Rattle.robust_window.proofs.Standing.{StandsFor-none}
use Rattle.robust_window.proofs.window.Window.reset.Goals as goal

pub returns-clause-stands : goal.returns-clause-stands
returns-clause-stands c =
    let places = ap length c.clear.ensures ∙ length-replicate (length c.self.inside.recent) false in
    StandsFor-none _ (ap (λ (k : LatestChanges). k.latest) c.reset.ensures
    ∙ ap (λ n. replicate 16 (replicate n false)) (c.self.invariant.places ∙ sym places)) marks-none refl
