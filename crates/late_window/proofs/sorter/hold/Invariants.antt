use Rattle.std.proofs.Common.{◌≡◌, ◌+◌, ◌≤◌, length, take, drop}
use Rattle.std.specs.List.{insert, remove}
use Rattle.std.specs.VecDeque.{deque_capacity}
use Rattle.late_window.specs.Lines.{AreFrom}
use Rattle.late_window.proofs.sorter.hold.Given as goal

-- the arrival stands before those whose numbers are greater
abbrev pub invariant-loop-at : goal.invariant-loop-at
invariant-loop-at l = record {
  within : l.at ≤ l.held;
  after : AreFrom (l.t + 1) (drop l.at (take l.held l.fn.places.items));
  items : l.places.items ≡ insert (remove l.fn.places.items l.held) l.at (record { number = l.t; body = l.bytes });
  size : length l.places.items ≡ length l.fn.places.items;
  room : deque_capacity l.places ≡ deque_capacity l.fn.places;
}

abbrev pub decreases-loop-at : goal.decreases-loop-at
decreases-loop-at l = l.at
