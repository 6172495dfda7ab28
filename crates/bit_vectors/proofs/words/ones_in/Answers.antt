use Rattle.std.proofs.Common.{get_or, sym, arith}
use Rattle.std.proofs.lemmas.Nat.{ones-le}
use Rattle.bit_vectors.proofs.WordBits.{ones_more, ones_most}
use Rattle.bit_vectors.proofs.words.ones_in.Goals as goal

pub overflow_add-ones : goal.overflow_add-ones
overflow_add-ones c =
    omega (arith, c.loop-word.invariant, ones_most c.args.words.now c.loop-word.word-index, ones-le 64 (get_or c.args.words.now c.loop-word.word-index 0) (omega (arith, c.type_inv.words c.loop-word.word-index)))

pub loop-word-preserved : goal.loop-word-preserved
loop-word-preserved c =
    rw c.loop-word.invariant (sym (ones_more c.args.words.now c.loop-word.word-index c.loop-word-test.true (omega (arith, c.type_inv.words c.loop-word.word-index))))
