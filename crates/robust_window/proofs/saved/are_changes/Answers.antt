use Rattle.std.proofs.Common.{◌==◌, ◌<◌, ℕ, List, length, refl, sym, ap, ◌∙◌, arith}
use Rattle.robust_window.proofs.SavedWindows.{are_none, begins_if, changes_made, last_begins, next_begins, passed_more, passed_none}
use Rattle.robust_window.proofs.saved.are_changes.Goals as goal

pub loop-change-init : goal.loop-change-init
loop-change-init c = record { passed = passed_none c.args.f c.args.bytes.now; left = λ given. given.bytes_are }

pub loop-change-preserved : goal.loop-change-preserved
loop-change-preserved c =
    let lt : c.loop-change._change < 16 = omega arith in
    record {
      passed = passed_more c.args.f _ c.args.bytes.now _ _ c.loop-change.invariant.passed c.in-Some.ensures.some;
      left = λ given. c.in-Some.ensures.all _ _ (begins_if _ _ _ _ (next_begins c.args.f _ given.changes given.recent _ lt given.sixteen (c.loop-change.invariant.left given)));
    }

pub returns-in-None : goal.returns-in-None
returns-in-None c =
    let lt : c.loop-change._change < 16 = omega arith in
    (λ never. absurd cc, λ given. absurd (c.in-None.ensures.none _ _ (begins_if _ _ _ _ (next_begins c.args.f _ given.changes given.recent _ lt given.sixteen (c.loop-change.invariant.left given))) refl))

pub returns-in-None-pass_vector : goal.returns-in-None-pass_vector
returns-in-None-pass_vector c =
    (λ never. absurd cc, λ given. absurd (c.in-None-pass_vector.ensures.none _ _ (begins_if _ _ _ _ (last_begins c.args.f c.loop-change._change c.args.bytes.now _ c.loop-change-test.false given (c.loop-change.invariant.left given))) refl))

pub returns-in-Some-pass_vector : goal.returns-in-Some-pass_vector
returns-in-Some-pass_vector c = (
  λ yes. changes_made c.args.f c.loop-change._change c.args.bytes.now _ _ (omega (arith, c.loop-change-test.false, c.loop-change.auto._change-end)) c.loop-change.invariant.passed c.in-Some-pass_vector.ensures.some (are_none c.in-Some-pass_vector.after.now (sym c.is_empty.ensures ∙ yes)),
  λ given.
      let end = c.in-Some-pass_vector.ensures.all _ _ (begins_if _ _ _ _ (last_begins c.args.f c.loop-change._change c.args.bytes.now _ c.loop-change-test.false given (c.loop-change.invariant.left given))) in
      c.is_empty.ensures ∙ ap (λ (xs : List ℕ). length xs == 0) end,
)
