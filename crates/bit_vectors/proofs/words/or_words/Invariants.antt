use Rattle.std.proofs.Common.{◌≡◌, ℕ, ◌^◌, ◌<◌, ◌≤◌, get_or, bit_or}
use Rattle.bit_vectors.proofs.words.or_words.Given as goal

-- the words so far are done, the others are unchanged, and each is a number of 64 bits
abbrev pub invariant-loop-index : goal.invariant-loop-index
invariant-loop-index l =
    ((i : ℕ) → i < l.index → get_or l.words i 0 ≡ bit_or (get_or l.initial.words i 0) (get_or l.others i 0))
    × ((i : ℕ) → l.index ≤ i → get_or l.words i 0 ≡ get_or l.initial.words i 0)
    × ((i : ℕ) → get_or l.initial.words i 0 < 2 ^ 64)
