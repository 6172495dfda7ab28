use Rattle.std.proofs.Common.{◌∙◌, arith}
use Rattle.bit_vectors.proofs.Keeping.{holds_read, stored_vector}
use Rattle.bit_vectors.proofs.bits.Bits.store.Goals as goal

pub store_words-requires-clause-most : goal.store_words-requires-clause-most
store_words-requires-clause-most c =
    let h = holds_read _ _ _ _ c.deref.ensures.value c.self.invariant.0 c.self.view_is in omega (arith, h.len, h.are.count, c.requires)

pub store_words-requires-clause-least : goal.store_words-requires-clause-least
store_words-requires-clause-least c =
    let h = holds_read _ _ _ _ c.deref.ensures.value c.self.invariant.0 c.self.view_is in omega (arith, h.len, h.are.count, c.requires)

pub returns : goal.returns
returns c =
    let h = holds_read _ _ _ _ c.deref.ensures.value c.self.invariant.0 c.self.view_is in
    stored_vector _ _ _ _ h (c.store_words.auto.bytes ∙ c.requires) (λ i. omega (arith, c.type_inv.out i)) (λ k lt. c.store_words.ensures k (omega (arith, c.store_words.auto.bytes)))
