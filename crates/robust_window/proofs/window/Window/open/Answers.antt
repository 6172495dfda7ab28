use Rattle.std.proofs.Common.{false, length, replicate, refl, sym, ap, ◌∙◌}
use Rattle.std.proofs.lemmas.List.{length-replicate}
use Rattle.robust_window.proofs.Marking.{marks-none}
use Rattle.robust_window.proofs.Standing.{StandsFor-none}
use Rattle.robust_window.proofs.window.Window.open.Goals as goal

pub returns-clause-stands : goal.returns-clause-stands
returns-clause-stands c =
    let places = ap length c.in_ok-zeros.ensures ∙ length-replicate c.args.f false in
    StandsFor-none _ (c.in_ok-open.ensures.latest ∙ ap (λ n. replicate 16 (replicate n false)) (sym places)) marks-none refl
