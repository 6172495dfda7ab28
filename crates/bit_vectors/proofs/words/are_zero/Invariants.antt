use Rattle.std.proofs.Common.{◌≡◌, ℕ, ◌<◌, get_or}
use Rattle.bit_vectors.proofs.words.are_zero.Given as goal

-- no 1 was found so far exactly if the words so far are 0
abbrev pub invariant-loop-word : goal.invariant-loop-word
invariant-loop-word l = record {
  none : l.any ≡ 0 → (i : ℕ) → i < l.word-index → get_or l.words i 0 ≡ 0;
  all : ((i : ℕ) → i < l.word-index → get_or l.words i 0 ≡ 0) → l.any ≡ 0;
}
