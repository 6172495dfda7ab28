use Rattle.std.proofs.lemmas.Bool.{OnFalse_from}
use Rattle.bit_vectors.proofs.Keeping.{holds_read, zero_vector, zero_words_of, some_one}
use Rattle.bit_vectors.proofs.bits.Bits.is_zero.Goals as goal

pub returns-clause-zero : goal.returns-clause-zero
returns-clause-zero c =
    let h = holds_read _ _ _ _ c.deref.ensures.value c.self.invariant.0 c.self.view_is in
    (λ e. zero_vector _ _ _ h (c.are_zero.ensures.0 e), λ zero_is. c.are_zero.ensures.1 (zero_words_of _ _ _ h zero_is))

pub returns-clause-some : goal.returns-clause-some
returns-clause-some c =
    let h = holds_read _ _ _ _ c.deref.ensures.value c.self.invariant.0 c.self.view_is in
    OnFalse_from c.are_zero.result _ (λ e. some_one _ _ _ h (λ none. let is = c.are_zero.ensures.1 none in absurd cc))
