use Rattle.robust_window.specs.Saved.{AreChangesBytes}
use Rattle.robust_window.proofs.SavedWindows.{Left, Passed}
use Rattle.robust_window.proofs.saved.are_changes.Given as goal

abbrev pub invariant-loop-change : goal.invariant-loop-change
invariant-loop-change l =
    record {
      passed : Passed l.f l._change l.bytes l.rest;
      left : (given : AreChangesBytes l.f l.bytes) → Left l._change given.changes given.recent l.rest;
    }
