use Rattle.std.proofs.Common.{false, length, replicate, refl, ap, ◌∙◌}
use Rattle.robust_window.specs.Window.{LatestChanges}
use Rattle.robust_window.proofs.Marking.{changes_of-none}
use Rattle.robust_window.proofs.changes.Changes.reset.Goals as goal

pub returns : goal.returns
returns c =
    let s = c.self.inside in
    let f = length s.zeros in
    let latest = changes_of-none f 0 s.slots.items c.self.invariant.count refl in
    (λ i. record { places = f; latest = latest i }) ∙ ap (λ (k : LatestChanges). record k { latest = replicate 16 (replicate k.places false) }) c.self.view_is
