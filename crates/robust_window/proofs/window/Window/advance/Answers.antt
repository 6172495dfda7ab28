use Rattle.std.proofs.Common.{◌≡◌, ℕ, ◌+◌, ◌∷◌, ◌++◌, [], length, false, true, drop, replicate, subst, refl, sym, ap, ◌∙◌, arith}
use Rattle.std.specs.Prelude.{Contains}
use Rattle.std.specs.Bool.{OnTrue}
use Rattle.robust_window.specs.Window.{WindowState, change_back}
use Rattle.robust_window.proofs.Marking.{length-marks}
use Rattle.robust_window.proofs.Standing.{gathered, length-gathered}
use Rattle.robust_window.proofs.window.Window.advance.Goals as goal
use Rattle.robust_window.proofs.window.Window.advance.Goals.{After-gather-self-inside}

recent_len : (c : After-gather-self-inside) → length c.gather-self-inside.new.recent ≡ length c.self.inside.recent
recent_len c = ap length c.gather-self-inside.ensures.recent ∙ length-gathered (length c.self.inside.recent) c.self.inside.changes.latest (c.args.robust + 1)

pub invariant_of-self : goal.invariant_of-self
invariant_of-self c =
    let same : length c.gather-self-inside.new.recent ≡ length c.self.inside.recent = recent_len (goal.at.invariant_of-self c).After-gather-self-inside in
    let taken : c.self.inside.taken ≡ c.args.self.now.taken = ap (λ (k : WindowState). k.taken) c.self.view_is in
    record {
      vector = (omega (arith, c.self.invariant.vector.0), omega (arith, c.self.invariant.vector.1));
      places = c.self.invariant.places ∙ sym same;
      full = c.self.invariant.full;
      zero = subst (λ (n : ℕ). OnTrue c.gather-self-inside.result (c.gather-self-inside.new.recent ≡ replicate n false)) (sym same) c.gather-self-inside.ensures.zero;
      some = c.gather-self-inside.ensures.some;
      level_most = omega (arith, c.requires.2, c.quiet_level-self-inside.ensures.most);
      taken_most = omega arith;
    }

pub returns : goal.returns
returns c =
    let d = (goal.at.returns c).After-gather-self-inside in
    let was = sym c.self.view_is in
    let taken_is : c.args.self.now.taken ≡ c.self.inside.taken = ap (λ (k : WindowState). k.taken) was in
    record {
      changes = ap (λ (k : WindowState). k.changes) c.self.view_is;
      flags_full = ap (λ (k : WindowState). length k.new_masks) was ∙ length-marks c.self.inside.new_masks;
      new_masks = c.pushed-self-inside.ensures ∙ ap (λ (k : WindowState). drop 1 k.new_masks ++ c.args.new_mask ∷ []) c.self.view_is;
      recent = c.gather-self-inside.ensures.recent ∙ ap (λ (k : WindowState). gathered (length k.recent) k.changes (c.args.robust + 1)) c.self.view_is;
      recent_len = recent_len d ∙ ap (λ (k : WindowState). length k.recent) c.self.view_is;
      level_least = omega (arith, c.quiet_level-self-inside.ensures.least);
      level_most = omega (arith, c.quiet_level-self-inside.ensures.most);
      quiet = λ back above within.
          subst (λ (k : WindowState). change_back k.changes back ≡ replicate (length k.recent) false) c.self.view_is
          (c.quiet_level-self-inside.ensures.quiet back above within ∙ ap (λ n. replicate n false) c.self.invariant.places);
      stops = λ less. subst (λ (k : WindowState). Contains (change_back k.changes (c.quiet_level-self-inside.result + 1)) true) c.self.view_is (c.quiet_level-self-inside.ensures.stops (omega arith));
      twice = refl;
      taken = omega arith;
    }
