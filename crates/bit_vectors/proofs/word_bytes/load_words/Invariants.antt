use Rattle.std.proofs.Common.{ℕ, ◌^◌, ◌<◌, get_or}
use Rattle.bit_vectors.specs.Vectors.{bits_of}
use Rattle.bit_vectors.specs.Words.{IsWord}
use Rattle.bit_vectors.proofs.word_bytes.load_words.Given as goal

-- the words so far are filled
abbrev pub invariant-loop-index : goal.invariant-loop-index
invariant-loop-index l = (i : ℕ) → i < l.index → IsWord (bits_of l.bytes) i (get_or l.words i 0) × (get_or l.words i 0 < 2 ^ 64)
