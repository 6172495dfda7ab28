use Rattle.std.proofs.Common.{◌≡◌, replicate, vec_capacity}
use Rattle.bit_vectors.proofs.words.zero_words.Given as goal

-- the words so far, and the capacity for all
abbrev pub invariant-loop : goal.invariant-loop
invariant-loop l = (vec_capacity l.words ≡ l.count) × (l.words.items ≡ replicate l.counter 0)
