use Rattle.std.proofs.Common.{◌≡◌, ℕ, ◌+◌, ◌-◌, ◌*◌, ◌<◌, ◌≤◌, [], length, get_or, take}
use Rattle.std.specs.List.{flat_map}
use Rattle.state_bytes.specs.Parts.{Puts, vector_part, vector_room}
use Rattle.robust_window.proofs.window.Window.put_changes.Given as goal

abbrev pub invariant-loop-step : goal.invariant-loop-step
invariant-loop-step l =
    record {
      puts : Puts l.initial.out l.out l.at (flat_map vector_part (take l.step l.self.changes)) l.end;
      room : l.end + (16 - l.step) * vector_room (length l.self.recent) ≤ length l.initial.out;
      places : (k : ℕ) → k < l.step → length (get_or l.self.changes k []) ≡ length l.self.recent;
    }
