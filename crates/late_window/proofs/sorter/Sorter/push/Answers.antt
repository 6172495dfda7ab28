use Rattle.std.proofs.Common.{◌≡◌, length, take, sym, ap, ◌∙◌, subst, arith}
use Rattle.std.proofs.lemmas.List.{length-take-le}
use Rattle.late_window.specs.Order.{Numbered}
use Rattle.late_window.specs.Lines.{AreRising, Sorting}
use Rattle.late_window.proofs.Sortings.{AreRising-placed}
use Rattle.late_window.proofs.sorter.Sorter.push.Goals as goal

pub invariant_of-self : goal.invariant_of-self
invariant_of-self c =
    let places = c.self.inside.places.items in
    let held = c.self.inside.held in
    let a : Numbered = record { number = c.args.t; body = c.args.bytes.now } in
    let size : length (take held places) ≡ length c.args.self.now.line.held = ap (λ (s : Sorting). length s.line.held) c.self.view_is in
    let window : c.self.inside.window ≡ c.args.self.now.line.window = ap (λ (s : Sorting). s.line.window) c.self.view_is in
    let front : length (take held places) ≡ held = length-take-le held places (omega (arith, c.self.invariant.within, c.self.invariant.places)) in
    record {
      most = c.self.invariant.most;
      places = c.hold.ensures.places ∙ c.self.invariant.places;
      taken = c.hold.ensures.room ∙ c.self.invariant.taken;
      within = omega (arith, size, window, front, c.requires.room);
      rising = subst AreRising (sym c.hold.ensures.held) (AreRising-placed a (take held places) c.self.invariant.rising);
    }
