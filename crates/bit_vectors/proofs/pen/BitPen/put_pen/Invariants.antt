use Rattle.std.proofs.Common.{◌≡◌, ◌*◌, ◌++◌, take}
use Rattle.bit_vectors.proofs.pen.BitPen.put_pen.Given as goal

-- the words so far are appended; the capacity is unchanged
abbrev pub invariant-loop-index : goal.invariant-loop-index
invariant-loop-index l = (l.self.bits ≡ l.initial.self.bits ++ take (64 * l.index) l.other.bits) × (l.self.room ≡ l.initial.self.room)
