use Rattle.std.proofs.Common.{◌≡◌, false, true, length, replicate}
use Rattle.std.specs.Bool.{OnFalse, OnTrue}
use Rattle.std.specs.Prelude.{Contains}
use Rattle.robust_window.proofs.Standing.{gathered}
use Rattle.robust_window.proofs.changes.Changes.gather.Given as goal

abbrev pub invariant-loop-back : goal.invariant-loop-back
invariant-loop-back l =
    let f = length l.fn.recent in
    record {
      places : length l.recent ≡ f;
      gathered : l.recent ≡ gathered f l.self.latest l.back;
      zero : OnTrue l.is_zero (l.recent ≡ replicate f false);
      some : OnFalse l.is_zero (Contains l.recent true);
    }
