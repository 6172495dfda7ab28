use Rattle.std.proofs.Common.{◌≡◌, ◌-◌, ◌<◌, List, length, take, sym, ap, ◌∙◌, subst, arith}
use Rattle.std.proofs.lemmas.List.{length-take-le}
use Rattle.late_window.specs.Order.{Numbered}
use Rattle.late_window.specs.Lines.{AreRising, Sorting}
use Rattle.late_window.proofs.Sortings.{AreRising-rotated, length-rotated}
use Rattle.late_window.proofs.sorter.Sorter.release.Goals as goal

pub invariant_of-self : goal.invariant_of-self
invariant_of-self c =
    let places = c.self.inside.places.items in
    let held = c.self.inside.held in
    let seen : length (take held places) ≡ length c.args.self.now.line.held = ap (λ (s : Sorting). length s.line.held) c.self.view_is in
    let front : length (take held places) ≡ held = length-take-le held places (omega (arith, c.self.invariant.within, c.self.invariant.places)) in
    let some : 0 < held = omega (arith, seen, front, c.requires) in
    let size = ap length c.rotate_left.ensures.items ∙ length-rotated places in
    record {
      most = c.self.invariant.most;
      places = size ∙ c.self.invariant.places;
      taken = c.rotate_left.ensures.capacity ∙ c.self.invariant.taken;
      within = omega arith;
      rising = subst (λ (l : List Numbered). AreRising (take (held - 1) l)) (sym c.rotate_left.ensures.items) (AreRising-rotated places held some (omega (arith, c.self.invariant.within, c.self.invariant.places)) c.self.invariant.rising);
    }
