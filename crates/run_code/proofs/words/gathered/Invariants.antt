use Rattle.std.proofs.Common.{◌≡◌, ◌+◌, ◌*◌, ◌^◌, ◌<◌, length}
use Rattle.std.specs.Int.RustNames.{count_ones}
use Rattle.bit_vectors.specs.Vectors.{bits_number}
use Rattle.run_code.proofs.Gathering.{word_extract}
use Rattle.run_code.proofs.words.gathered.Given as goal

-- the number so far, followed by the bits at the ones that are left, is the number of all bits
abbrev pub invariant-loop-rest : goal.invariant-loop-rest
invariant-loop-rest l = record {
  small : l.rest < 2 ^ 64;
  total : l.gathered * 2 ^ length (word_extract l.bits l.rest) + bits_number (word_extract l.bits l.rest) ≡ l.held * 2 ^ count_ones l.at + bits_number (word_extract l.bits l.at);
}

abbrev pub decreases-loop-rest : goal.decreases-loop-rest
decreases-loop-rest l = l.rest
