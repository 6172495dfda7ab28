use Rattle.std.proofs.Common.{◌≡◌, ℕ, ◌+◌, ◌*◌, ◌<◌, ◌≤◌, false, length, get_or, drop}
use Rattle.bit_vectors.specs.Reading.{bits_left}
use Rattle.bit_vectors.proofs.eye.BitEye.take_front.Given as goal

-- so far, whole words were taken
abbrev pub invariant-loop-index : goal.invariant-loop-index
invariant-loop-index l = record {
  left : bits_left l.self ≡ drop (64 * l.index) (bits_left l.initial.self);
  place : l.self.place ≡ l.initial.self.place + 64 * l.index;
  bits : l.self.bits ≡ l.initial.self.bits;
  places : length l.into ≡ length l.initial.into;
  done : (k : ℕ) → k < 64 * l.index → get_or l.into k false ≡ get_or (bits_left l.initial.self) k false;
  others : (k : ℕ) → 64 * l.index ≤ k → get_or l.into k false ≡ get_or l.initial.into k false;
}
