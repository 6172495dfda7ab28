use Rattle.std.proofs.Common.{◌≡◌, ◌+◌, ◌<◌, ◌≤◌, ◌++◌, length}
use Rattle.run_code.specs.Extraction.{bits_at, places_before}
use Rattle.run_code.proofs.extraction.put_many.Given as goal

-- the word has a 1; the bits so far, and those at its ones and at those of the words before it, are all bits
abbrev pub invariant-loop-left : goal.invariant-loop-left
invariant-loop-left l = record {
  room : l.pen.room ≡ l.fn.pen.room;
  below : l.left < l.fn.words;
  some : length (places_before l.left l.b) < length (places_before (l.left + 1) l.b);
  fits : length l.pen.bits + length (places_before (l.left + 1) l.b) ≤ l.pen.room;
  bits : l.pen.bits ++ bits_at l.a (places_before (l.left + 1) l.b) ≡ l.fn.pen.bits ++ bits_at l.a (places_before l.fn.words l.b);
  moves : length l.moves ≡ length l.fn.moves;
}

abbrev pub decreases-loop-left : goal.decreases-loop-left
decreases-loop-left l = l.left
