use Rattle.std.proofs.Common.{bit_and, w64, not, ◌&&◌, arith}
use Rattle.std.specs.Int.{bit_not}
use Rattle.bit_vectors.proofs.WordBits.{Zips, Bitwise-drop, zipped_bits, zipped_numbers}
use Rattle.bit_vectors.proofs.words.drop_words.Goals as goal
use Rattle.bit_vectors.proofs.words.drop_words.Goals.{After-loop-index}

zips : (c : After-loop-index) → Zips (λ a b. bit_and a (bit_not w64 b)) c.args.words.now c.args.others.now c.loop-index.words
zips c = record {
  len = c.requires;
  same_len = c.loop-index.auto.words;
  old_numbers = c.loop-index.invariant.2;
  other_numbers = λ i. omega (arith, c.type_inv.others i);
  words = λ i lt. c.loop-index.invariant.0 i (omega arith);
}

pub returns-clause-bits : goal.returns-clause-bits
returns-clause-bits c =
    zipped_bits (λ a b. bit_and a (bit_not w64 b)) (λ a b. a && not b) c.args.words.now c.args.others.now c.loop-index.words Bitwise-drop (zips c)

pub returns-clause-numbers : goal.returns-clause-numbers
returns-clause-numbers c =
    zipped_numbers (λ a b. bit_and a (bit_not w64 b)) (λ a b. a && not b) c.args.words.now c.args.others.now c.loop-index.words Bitwise-drop (zips c)
