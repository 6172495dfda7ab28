use Rattle.std.proofs.Common.{◌≡◌, ℕ, ◌*◌, ◌/◌, ◌%◌, ◌<◌, length, get_or, w64}
use Rattle.std.specs.Int.{to_be_bytes}
use Rattle.bit_vectors.proofs.word_bytes.store_words.Given as goal

-- the bytes so far are those of the words
abbrev pub invariant-loop-index : goal.invariant-loop-index
invariant-loop-index l = (i : ℕ) → i < 8 * l.index → i < length l.bytes → get_or l.bytes i 0 ≡ get_or (to_be_bytes w64 (get_or l.words (i / 8) 0)) (i % 8) 0
