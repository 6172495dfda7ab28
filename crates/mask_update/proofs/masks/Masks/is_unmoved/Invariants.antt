use Rattle.std.proofs.Common.{◌≡◌, ◌*◌}
use Rattle.bit_vectors.specs.Vectors.{NoneIsOne, xor_bits}
use Rattle.mask_update.proofs.masks.Masks.is_unmoved.Given as goal

-- no bit differed so far exactly if no place of the words so far has moved
abbrev pub invariant-loop-index : goal.invariant-loop-index
invariant-loop-index l = record {
  none : l.any ≡ 0 → NoneIsOne (xor_bits l.self.previous l.input) (64 * l.from) (64 * l.index);
  all : NoneIsOne (xor_bits l.self.previous l.input) (64 * l.from) (64 * l.index) → l.any ≡ 0;
}
