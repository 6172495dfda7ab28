use Rattle.std.proofs.Common.{◌≡◌, ◌-◌, ◌*◌, ◌++◌, ◌≤◌, length}
use Rattle.bit_vectors.specs.Reading.{bits_left, ShowsFirst, MovesOn}
use Rattle.bit_vectors.specs.Words.{word_count}
use Rattle.run_code.specs.Extraction.{bits_at, SameOutside}
use Rattle.run_code.proofs.Spreading.{ones_span}
use Rattle.run_code.proofs.extraction.take_into_with.Given as goal

-- the bits at the ones of the words from this index on were taken, and the next ones are shown
abbrev pub invariant-loop-index : goal.invariant-loop-index
invariant-loop-index l = record {
  moves : MovesOn l.initial.eye l.eye;
  places : length l.a ≡ length l.initial.a;
  others : SameOutside l.b l.initial.a l.a;
  taken : bits_left l.initial.eye ≡ bits_at l.a (ones_span (64 * l.index) (64 * word_count (length l.b) - 64 * l.index) l.b) ++ bits_left l.eye;
  few : l.shown ≤ 64;
  within : l.shown ≤ length (bits_left l.eye);
  shows : ShowsFirst l.shown (bits_left l.eye) l.ahead;
}
