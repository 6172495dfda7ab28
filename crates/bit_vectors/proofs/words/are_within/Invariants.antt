use Rattle.std.proofs.Common.{◌≡◌, ℕ, ◌<◌, get_or, bit_and, w64}
use Rattle.std.specs.Int.{bit_not}
use Rattle.bit_vectors.proofs.words.are_within.Given as goal

-- no other 1 was found so far exactly if the words so far have none
abbrev pub invariant-loop-index : goal.invariant-loop-index
invariant-loop-index l = record {
  none : l.any ≡ 0 → (i : ℕ) → i < l.index → bit_and (get_or l.words i 0) (bit_not w64 (get_or l.others i 0)) ≡ 0;
  all : ((i : ℕ) → i < l.index → bit_and (get_or l.words i 0) (bit_not w64 (get_or l.others i 0)) ≡ 0) → l.any ≡ 0;
}
