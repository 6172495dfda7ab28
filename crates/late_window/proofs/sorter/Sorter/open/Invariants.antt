use Rattle.std.proofs.Common.{◌≡◌, replicate}
use Rattle.std.specs.VecDeque.{deque_capacity}
use Rattle.late_window.specs.Lines.{nothing}
use Rattle.late_window.proofs.sorter.Sorter.open.Given as goal

abbrev pub invariant-loop-made : goal.invariant-loop-made
invariant-loop-made l = record { items : l.places.items ≡ replicate l._made nothing; room : deque_capacity l.places ≡ l.count }
