use Rattle.std.proofs.Common.{◌≡◌, ℕ, ◌*◌, ◌<◌, ◌++◌, false, length, get_or}
use Rattle.std.specs.Prelude.{reverse}
use Rattle.bit_vectors.specs.Reading.{bits_left, MovesOn}
use Rattle.run_code.specs.Extraction.{bits_at}
use Rattle.run_code.proofs.Ones.{ones_below}
use Rattle.run_code.proofs.inverse.take_up.Given as goal

-- the words before this one have the taken bits at the ones, and zeros elsewhere
abbrev pub invariant-loop-index : goal.invariant-loop-index
invariant-loop-index l = record {
  moves : MovesOn l.initial.eye l.eye;
  places : length l.into ≡ length l.x;
  zeros : (k : ℕ) → k < 64 * l.index → get_or l.x k false ≡ false → get_or l.into k false ≡ false;
  taken : bits_left l.initial.eye ≡ reverse (bits_at l.into (ones_below (64 * l.index) l.x)) ++ bits_left l.eye;
}
