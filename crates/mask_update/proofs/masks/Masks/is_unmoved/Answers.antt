use Rattle.std.proofs.Common.{◌≡◌, ◌*◌, length, subst, sym, ◌∙◌, ap, refl, arith, bit_xor, eq-eqb, inl, inr}
use Rattle.std.proofs.lemmas.Bool.{cases_lt, eqb-true}
use Rattle.std.proofs.lemmas.Nat.{le_or_l, le_or_r}
use Rattle.bit_vectors.specs.Words.{IsWord}
use Rattle.mask_update.specs.Masks.{Running}
use Rattle.mask_update.proofs.Moving.{no_difference, none_differ}
use Rattle.mask_update.proofs.masks.Masks.is_unmoved.Goals as goal
use Rattle.mask_update.proofs.masks.Masks.is_unmoved.Goals.{After-word-in-loop-index}

-- the word of the previous input
word : (c : After-word-in-loop-index) → IsWord c.args.self.now.previous c.loop-index.index c.word.result
word c = subst (λ (r : Running). IsWord r.previous c.loop-index.index c.word.result) c.self.view_is c.word.ensures

len : (c : After-word-in-loop-index) → length c.args.self.now.previous ≡ length c.args.input.now
len c = ap (λ (r : Running). length r.previous) (sym c.self.view_is) ∙ c.self.invariant.previous_len ∙ ap (λ (r : Running). length r.mask) c.self.view_is ∙ sym c.requires.places

pub loop-index-preserved : goal.loop-index-preserved
loop-index-preserved c =
    let d = (goal.at.loop-index-preserved c).After-word-in-loop-index in
    let i = c.loop-index.invariant in
    let a = c.word.result in
    let b = c.word-in-loop-index.result in
    record {
      none = λ zero k from to. elim (cases_lt k (64 * c.loop-index.index)) [
        | inl before ↦ i.none (omega (arith, zero, le_or_l c.loop-index.any (bit_xor a b))) k from before
        | inr here ↦
            none_differ c.args.self.now c.args.input.now c.loop-index.index a b (len d) (word d) c.word-in-loop-index.ensures c.word.type_inv c.word-in-loop-index.type_inv (omega (arith, zero, le_or_r c.loop-index.any (bit_xor a b))) k here to
      ];
      all = λ none.
          let before : c.loop-index.any ≡ 0 = i.all (λ k from to. none k from (omega arith)) in
          let last : bit_xor a b ≡ 0 = no_difference c.args.self.now c.args.input.now c.loop-index.index a b (len d) (word d) c.word-in-loop-index.ensures c.word.type_inv c.word-in-loop-index.type_inv (λ k from to. none k (omega arith) to) in
          rw (before, last) refl;
    }

pub returns : goal.returns
returns c = (
  λ t k from to. c.loop-index.invariant.none (eqb-true _ _ t) k from (omega (arith, to, c.loop-index-test.false)),
  λ none. eq-eqb _ _ (c.loop-index.invariant.all (λ k from to. none k from (omega arith))),
)
