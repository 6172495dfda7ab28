use Rattle.std.proofs.Common.{bit_or, ◌||◌, arith}
use Rattle.bit_vectors.proofs.WordBits.{Zips, Bitwise-or, zipped_bits, zipped_numbers}
use Rattle.bit_vectors.proofs.words.or_words.Goals as goal
use Rattle.bit_vectors.proofs.words.or_words.Goals.{After-loop-index}

zips : (c : After-loop-index) → Zips bit_or c.args.words.now c.args.others.now c.loop-index.words
zips c = record {
  len = c.requires;
  same_len = c.loop-index.auto.words;
  old_numbers = c.loop-index.invariant.2;
  other_numbers = λ i. omega (arith, c.type_inv.others i);
  words = λ i lt. c.loop-index.invariant.0 i (omega arith);
}

pub returns-clause-bits : goal.returns-clause-bits
returns-clause-bits c =
    zipped_bits bit_or (λ a b. a || b) c.args.words.now c.args.others.now c.loop-index.words Bitwise-or (zips c)

pub returns-clause-numbers : goal.returns-clause-numbers
returns-clause-numbers c =
    zipped_numbers bit_or (λ a b. a || b) c.args.words.now c.args.others.now c.loop-index.words Bitwise-or (zips c)
