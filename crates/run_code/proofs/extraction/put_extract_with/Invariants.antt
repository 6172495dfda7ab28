use Rattle.std.proofs.Common.{◌≡◌, ◌+◌, ◌^◌, ◌<◌, ◌≤◌, ◌++◌, length}
use Rattle.bit_vectors.specs.Vectors.{number_bits}
use Rattle.bit_vectors.specs.Words.{word_count}
use Rattle.run_code.specs.Extraction.{places_before, bits_at, extract}
use Rattle.run_code.proofs.extraction.put_extract_with.Given as goal

-- the bits so far, the held bits, and the bits at the ones of the words that are left are all bits
abbrev pub invariant-loop-words : goal.invariant-loop-words
invariant-loop-words l = record {
  room : l.pen.room ≡ l.initial.pen.room;
  moves : length l.moves ≡ length l.initial.moves;
  words : l.words ≤ word_count (length l.b);
  most : l.count ≤ 64;
  small : l.held < 2 ^ l.count;
  fits : length l.pen.bits + l.count + length (places_before l.words l.b) ≤ l.pen.room;
  bits : l.pen.bits ++ (number_bits l.count l.held ++ bits_at l.a (places_before l.words l.b)) ≡ l.initial.pen.bits ++ extract l.a l.b;
}

abbrev pub decreases-loop-words : goal.decreases-loop-words
decreases-loop-words l = l.words
