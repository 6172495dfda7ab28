use Rattle.std.proofs.Common.{◌≡◌, take, count_by}
use Rattle.bit_vectors.specs.Words.{word_bits}
use Rattle.bit_vectors.proofs.words.ones_in.Given as goal

-- the ones in the words so far
abbrev pub invariant-loop-word : goal.invariant-loop-word
invariant-loop-word l = l.ones ≡ count_by (λ bit. bit) (word_bits (take l.word-index l.words))
