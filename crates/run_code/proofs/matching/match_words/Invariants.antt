use Rattle.std.proofs.Common.{◌≡◌, ◌^◌, ◌<◌, ◌≤◌, ◌++◌, length}
use Rattle.bit_vectors.specs.Vectors.{number_bits}
use Rattle.bit_vectors.specs.Reading.{bits_left, MovesOn, parse_word}
use Rattle.run_code.specs.Runs.{runs_from, run_bits}
use Rattle.run_code.proofs.RunWords.{AreFalling}
use Rattle.run_code.proofs.matching.match_words.Given as goal

-- matching the held bits and the words of the ones that are left gives what matching from the start gives
abbrev pub invariant-loop-place : goal.invariant-loop-place
invariant-loop-place l = record {
  within : l.below ≤ length l.v;
  falling : AreFalling l.below l.place-iterator;
  moves : MovesOn l.fn.eye l.eye;
  most : l.held.width ≤ 62;
  small : l.held.value < 2 ^ l.held.width;
  same : parse_word (run_bits l.v) (bits_left l.fn.eye) ≡ parse_word (number_bits l.held.width l.held.value ++ runs_from l.below l.place-iterator) (bits_left l.eye);
}
