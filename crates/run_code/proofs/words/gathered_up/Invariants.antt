use Rattle.std.proofs.Common.{◌≡◌, ◌+◌, ◌^◌, ◌<◌, ◌++◌}
use Rattle.std.specs.Prelude.{reverse}
use Rattle.std.specs.Int.RustNames.{count_ones}
use Rattle.bit_vectors.specs.Vectors.{number_bits}
use Rattle.run_code.proofs.Gathering.{word_extract}
use Rattle.run_code.proofs.words.gathered_up.Given as goal

-- the bits at the ones that are left, and after them those of the number so far, are all bits
abbrev pub invariant-loop-rest : goal.invariant-loop-rest
invariant-loop-rest l = record {
  small : l.rest < 2 ^ 64;
  count : l.taken + count_ones l.rest ≡ count_ones l.at;
  fits : l.gathered < 2 ^ l.taken;
  bits : reverse (word_extract l.bits l.rest) ++ number_bits l.taken l.gathered ≡ reverse (word_extract l.bits l.at);
}

abbrev pub decreases-loop-rest : goal.decreases-loop-rest
decreases-loop-rest l = l.rest
