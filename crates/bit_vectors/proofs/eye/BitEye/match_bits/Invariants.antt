use Rattle.std.proofs.Common.{◌≡◌}
use Rattle.bit_vectors.specs.Vectors.{number_bits}
use Rattle.bit_vectors.specs.Reading.{bits_left, MovesOn, parse_word}
use Rattle.bit_vectors.proofs.eye.BitEye.match_bits.Given as goal

-- matching the bits of lower weight gives what matching from the start gives
abbrev pub invariant-loop-weight : goal.invariant-loop-weight
invariant-loop-weight l = record {
  moves : MovesOn l.fn.self l.self;
  same : parse_word (number_bits l.width l.value) (bits_left l.fn.self) ≡ parse_word (number_bits l.weight l.value) (bits_left l.self);
}
