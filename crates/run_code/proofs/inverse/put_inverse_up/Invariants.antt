use Rattle.std.proofs.Common.{◌≡◌, ◌*◌, ◌++◌}
use Rattle.std.specs.Prelude.{reverse}
use Rattle.bit_vectors.specs.Vectors.{without_bits}
use Rattle.run_code.specs.Extraction.{bits_at}
use Rattle.run_code.proofs.Ones.{ones_below}
use Rattle.run_code.proofs.inverse.put_inverse_up.Given as goal

-- the bits at the ones of the words before this one were put
abbrev pub invariant-loop-index : goal.invariant-loop-index
invariant-loop-index l = record {
  room : l.pen.room ≡ l.initial.pen.room;
  bits : l.pen.bits ≡ l.initial.pen.bits ++ reverse (bits_at (without_bits l.x l.mask) (ones_below (64 * l.index) l.x));
}
