-- Zeros as a number.
use Rattle.std.proofs.Common.{◌≡◌, ℕ, zero, suc, false, replicate, refl}
use Rattle.std.proofs.lemmas.Nat.Bits.{bit_at-zero}
use Rattle.bit_vectors.specs.Vectors.{number_bits}

pub zeros_are : (width : ℕ) → number_bits width 0 ≡ replicate width false
unfolding number_bits
zeros_are zero = refl
zeros_are (suc width) = rw (bit_at-zero width, zeros_are width) refl
