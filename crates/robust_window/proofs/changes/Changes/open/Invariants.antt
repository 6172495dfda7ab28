use Rattle.std.proofs.Common.{◌≡◌, false, replicate}
use Rattle.circular_buffer.specs.Buffer.{buffer}
use Rattle.robust_window.proofs.changes.Changes.open.Given as goal

abbrev pub invariant-loop-kept : goal.invariant-loop-kept
invariant-loop-kept l = l.slots ≡ buffer (replicate l._kept (replicate l.f false)) 16
