use Rattle.std.proofs.Common.{◌≡◌, ◌∙◌, rules}
use Rattle.bit_vectors.specs.Words.{word_count, AreWords}
use Rattle.bit_vectors.proofs.Keeping.{AreWords-zeros, vector_of-zeros}
use Rattle.bit_vectors.proofs.bits.Bits.zeros.Goals as goal
use Rattle.bit_vectors.proofs.bits.Bits.zeros.Goals.{In_ok-words}

count : (c : In_ok-words) → c.div_ceil.result ≡ word_count c.args.f
count c = search rules

words : (c : In_ok-words) → AreWords c.in_ok-words.words.items c.args.f
words c = AreWords-zeros _ _ _ c.in_ok-words.ensures.words (count c) c.requires.valid.0 c.requires.valid.1

pub invariant_of-result : goal.invariant_of-result
invariant_of-result c = (words c, c.in_ok-words.ensures.full ∙ count c)

pub returns : goal.returns
returns c = vector_of-zeros _ _ _ c.in_ok-words.ensures.words (words c)
