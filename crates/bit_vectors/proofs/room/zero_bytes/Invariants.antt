use Rattle.std.proofs.Common.{◌≡◌, replicate, vec_capacity}
use Rattle.bit_vectors.proofs.room.zero_bytes.Given as goal

-- the bytes so far, and the capacity for all
abbrev pub invariant-loop : goal.invariant-loop
invariant-loop l = (vec_capacity l.bytes ≡ l.count) × (l.bytes.items ≡ replicate l.counter 0)
