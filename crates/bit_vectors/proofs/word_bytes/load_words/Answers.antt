use Rattle.std.proofs.Common.{◌≡◌, ◌+◌, ◌-◌, ◌*◌, ◌/◌, drop, length, arith}
use Rattle.std.proofs.lemmas.List.{take_rest, length-set}
use Rattle.bit_vectors.proofs.WordBytes.{loaded_more, loaded_bits, shown_eight}
use Rattle.bit_vectors.proofs.word_bytes.load_words.Goals as goal

pub loop-index-preserved : goal.loop-index-preserved
loop-index-preserved c =
    let eight : 8 * c.loop-index.index + 8 - 8 * c.loop-index.index ≡ 8 = omega arith in
    loaded_more c.args.bytes.now c.loop-index.words c.loop-index.index c.front_word.result (omega arith) c.front_word.type_inv
    (shown_eight (drop (8 * c.loop-index.index) c.args.bytes.now) c.front_word.result (rw eight at c.front_word.ensures)) c.loop-index.invariant

pub returns-then-whole-words-clause-bits : goal.returns-then-whole-words-clause-bits
returns-then-whole-words-clause-bits c =
    let whole = length c.args.bytes.now / 8 in
    let same = length-set c.loop-index.words whole c.front_word-then-whole-words.result in
    loaded_bits c.args.bytes.now _ (omega (arith, c.requires.most, same))
    (λ i lt. (loaded_more c.args.bytes.now c.loop-index.words whole c.front_word-then-whole-words.result (omega arith) c.front_word-then-whole-words.type_inv
    (rw (take_rest c.args.bytes.now (8 * whole)) at c.front_word-then-whole-words.ensures) (λ i lt. c.loop-index.invariant i (omega arith)) i (omega (arith, same))).0)

pub returns-else-whole-words-clause-bits : goal.returns-else-whole-words-clause-bits
returns-else-whole-words-clause-bits c =
    loaded_bits c.args.bytes.now c.loop-index.words (omega (arith, c.requires.most)) (λ i lt. (c.loop-index.invariant i (omega arith)).0)
