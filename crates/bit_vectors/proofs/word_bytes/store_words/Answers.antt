use Rattle.std.proofs.Common.{◌≡◌, ◌+◌, ◌-◌, ◌*◌, ◌/◌, ◌∙◌, length, take, drop, refl, arith}
use Rattle.std.proofs.lemmas.List.{length-take, length-drop}
use Rattle.bit_vectors.proofs.WordBytes.{stored_more, stored_bit}
use Rattle.bit_vectors.proofs.word_bytes.store_words.Goals as goal

pub loop-index-preserved : goal.loop-index-preserved
loop-index-preserved c =
    stored_more c.loop-index.bytes c.args.words.now c.copy_from_slice.new.self c.loop-index.index (8 * c.loop-index.index + 8) (omega arith) (omega arith)
    (let eight : 8 * c.loop-index.index + 8 - 8 * c.loop-index.index ≡ 8 = omega arith in c.copy_from_slice.ensures.after ∙ rw (c.to_be_bytes.ensures, eight) refl) c.loop-index.invariant

pub returns-then-whole-words : goal.returns-then-whole-words
returns-then-whole-words c k lt =
    let whole = length c.args.bytes.now / 8 in
    let part : length (take (length c.loop-index.bytes - 8 * (length c.args.bytes.now / 8)) (drop (8 * (length c.args.bytes.now / 8)) c.loop-index.bytes)) ≡ length c.loop-index.bytes - 8 * (length c.args.bytes.now / 8) =
    omega (arith, length-take (length c.loop-index.bytes - 8 * (length c.args.bytes.now / 8)) (drop (8 * (length c.args.bytes.now / 8)) c.loop-index.bytes), length-drop (8 * (length c.args.bytes.now / 8)) c.loop-index.bytes) in
    stored_bit _ c.args.words.now k
    (stored_more c.loop-index.bytes c.args.words.now c.store_short.new.bytes whole (length c.loop-index.bytes) (omega arith) (omega arith)
    (rw part at c.store_short.ensures) (λ i lt inside. c.loop-index.invariant i (omega arith) inside) (k / 8) (omega arith) (omega arith))

pub returns-else-whole-words : goal.returns-else-whole-words
returns-else-whole-words c k lt =
    stored_bit c.loop-index.bytes c.args.words.now k (c.loop-index.invariant (k / 8) (omega arith) (omega arith))
