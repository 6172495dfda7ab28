use Rattle.std.proofs.Common.{◌≡◌, ◌+◌, false, true, length, subst, sym, ◌∙◌, ap, arith}
use Rattle.bit_vectors.specs.Words.{IsWord}
use Rattle.mask_update.specs.Masks.{Running}
use Rattle.mask_update.proofs.Moving.{Walked-none, Walked-then, Walked-word, differ_spare, none_differ}
use Rattle.mask_update.proofs.masks.Masks.move_words.Goals as goal
use Rattle.mask_update.proofs.masks.Masks.move_words.Goals.{After-word-in-loop-index, then-moved-ne0, else-moved-ne0}

pub loop-index-init : goal.loop-index-init
loop-index-init c = Walked-none c.args.input.now c.args.from c.args.from c.args.self.now (λ k ge lt. absurd (omega (arith, ge, lt)))

-- the word of the previous input
word : (c : After-word-in-loop-index) → IsWord c.loop-index.self.previous c.loop-index.index c.word.result
word c = subst (λ (r : Running). IsWord r.previous c.loop-index.index c.word.result) c.self.view_is c.word.ensures

len : (c : After-word-in-loop-index) → length c.loop-index.self.previous ≡ length c.args.input.now
len c =
    ap (λ (r : Running). length r.previous) (sym c.self.view_is) ∙ c.self.invariant.previous_len ∙ ap (λ (r : Running). length r.mask) c.self.view_is ∙ c.loop-index.invariant.moved.mask_len ∙ sym c.requires.places

pub move_word-requires-clause-spare : goal.move_word-requires-clause-spare
move_word-requires-clause-spare c =
    let d = (goal.at.move_word-requires-clause-spare c).After-word-in-loop-index in
    let same : length c.loop-index.self.previous ≡ length c.loop-index.self.mask = len d ∙ c.requires.places ∙ sym c.loop-index.invariant.moved.mask_len in
    rw same at (differ_spare c.loop-index.self c.args.input.now c.loop-index.index c.word.result c.word-in-loop-index.result (len d) (word d) c.word-in-loop-index.ensures c.word.type_inv c.word-in-loop-index.type_inv)

pub loop-index-preserved : goal.loop-index-preserved
loop-index-preserved c =
    let d = (goal.at.loop-index-preserved c).After-word-in-loop-index in
    let h = c.loop-index.invariant in
    let value = c.loop-index.self in
    let input = c.args.input.now in
    let index = c.loop-index.index in
    let first : length c.args.self.now.previous ≡ length input = sym h.moved.previous_len ∙ len d in
    elim c.if-moved-ne0.branch [
      | then-moved-ne0 w ↦ rw (w.self-is, w.same-is) (Walked-then input c.args.from index c.loop-index.same c.args.self.now value h first w.move_word.new.self (index + 1) false (omega arith) (omega arith)
          (Walked-word value input index c.word.result c.word-in-loop-index.result (len d) (word d) c.word-in-loop-index.ensures c.word.type_inv c.word-in-loop-index.type_inv w.move_word.new.self w.if-moved-ne0.true w.move_word.ensures))
      | else-moved-ne0 w ↦ rw (w.self-is, w.same-is) (Walked-then input c.args.from index c.loop-index.same c.args.self.now value h first value (index + 1) true (omega arith) (omega arith)
          (Walked-none input index (index + 1) value (none_differ value input index c.word.result c.word-in-loop-index.result (len d) (word d) c.word-in-loop-index.ensures c.word.type_inv c.word-in-loop-index.type_inv w.if-moved-ne0.false)))
    ]

pub returns : goal.returns
returns c =
    let end : c.loop-index.index ≡ c.args.to = omega arith in
    rw end at c.loop-index.invariant
