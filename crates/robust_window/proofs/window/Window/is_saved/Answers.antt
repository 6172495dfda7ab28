use Rattle.std.proofs.Common.{refl, arith}
use Rattle.std.proofs.lemmas.Grind.{common_steps}
use Rattle.bit_vectors.specs.Vectors.{bits_number}
use Rattle.robust_window.proofs.SavedWindows.{given_of, level_size, levelled, marks_fit, window_made}
use Rattle.robust_window.proofs.window.Window.is_saved.Goals as goal

pub returns-in_default : goal.returns-in_default
returns-in_default c = (
  λ never. absurd cc,
  λ saved.
      let size = level_size saved.window.level (bits_number saved.window.new_masks) _ c.args.bytes.now (levelled saved.window c.args.bytes.now saved.bytes_are) in
      let h = c.in_default.ensures in
      absurd (omega (arith, size, h.none refl)),
)

pub returns-then-level-le15 : goal.returns-then-level-le15
returns-then-level-le15 c = (
  λ yes. window_made c.args.f c.in-Some.level c.in-Some._marks c.in-Some.rest.now c.args.bytes.now c.requires.valid (omega (arith, c.if-level-le15.true)) c.in-Some.ensures.some (c.are_changes.ensures.0 yes),
  λ saved.
      let told = c.in-Some.ensures.level _ _ _ (marks_fit _ saved.window saved.valid) (levelled saved.window c.args.bytes.now saved.bytes_are) in
      c.are_changes.ensures.1 (given_of _ saved.window c.in-Some.rest.now saved.valid told.2),
)

pub returns-else-level-le15 : goal.returns-else-level-le15
returns-else-level-le15 c = (
  λ yes. absurd (grind (arith, common_steps, yes)),
  λ saved.
      let told = c.in-Some.ensures.level _ _ _ (marks_fit _ saved.window saved.valid) (levelled saved.window c.args.bytes.now saved.bytes_are) in
      let most = saved.valid.level_most in
      absurd (omega (arith, told.0, most, c.if-level-le15.false)),
)
