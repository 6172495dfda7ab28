use Rattle.std.proofs.Common.{◌≡◌, ℕ, ◌<◌, get_or}
use Rattle.bit_vectors.proofs.words.are_same.Given as goal

-- no bit differed so far exactly if the words so far are equal to the others
abbrev pub invariant-loop-index : goal.invariant-loop-index
invariant-loop-index l = record {
  same : l.any ≡ 0 → (i : ℕ) → i < l.index → get_or l.words i 0 ≡ get_or l.others i 0;
  all : ((i : ℕ) → i < l.index → get_or l.words i 0 ≡ get_or l.others i 0) → l.any ≡ 0;
}
