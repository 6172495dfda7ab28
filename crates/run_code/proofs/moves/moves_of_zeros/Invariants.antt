use Rattle.std.proofs.Common.{◌≡◌, replicate, vec_capacity}
use Rattle.run_code.proofs.moves.moves_of_zeros.Given as goal

-- the moves so far, and the capacity for all
abbrev pub invariant-loop : goal.invariant-loop
invariant-loop l = (vec_capacity l.moves ≡ l.count) × (l.moves.items ≡ replicate l.counter 0)
