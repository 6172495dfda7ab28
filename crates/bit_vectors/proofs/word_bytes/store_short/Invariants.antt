use Rattle.std.proofs.Common.{◌≡◌, ℕ, ◌<◌, get_or, w64}
use Rattle.std.specs.Int.{to_be_bytes}
use Rattle.bit_vectors.proofs.word_bytes.store_short.Given as goal

-- the bytes so far are those of the word
abbrev pub invariant-loop-index : goal.invariant-loop-index
invariant-loop-index l = (i : ℕ) → i < l.index → get_or l.bytes i 0 ≡ get_or (to_be_bytes w64 l.word) i 0
