use Rattle.std.proofs.Common.{◌≡◌, ◌-◌, length, drop, take}
use Rattle.robust_window.specs.Saved.{AreChangesBytes}
use Rattle.robust_window.specs.Window.{IsWindow}
use Rattle.robust_window.proofs.SavedWindows.{Left}
use Rattle.robust_window.proofs.window.Window.load_changes.Given as goal

abbrev pub invariant-loop-change : goal.invariant-loop-change
invariant-loop-change l =
    record {
      left : (given : AreChangesBytes (length l.fn.self.recent) l.bytes) → Left l._change given.changes given.recent l.rest;
      latest : (given : AreChangesBytes (length l.fn.self.recent) l.bytes) → drop (16 - l._change) l.self-inside.changes.latest ≡ take l._change given.changes;
      places : length l.self-inside.recent ≡ length l.fn.self.recent;
      kept : IsWindow l.self-inside.changes l.self-inside.recent l.self-inside.quiet l.self-inside.level l.self-inside.taken;
    }
