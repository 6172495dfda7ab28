use Rattle.std.proofs.lemmas.Bool.{OnFalse_from}
use Rattle.bit_vectors.proofs.Keeping.{dropped_none, holds_read, none_dropped, same_count, some_dropped}
use Rattle.bit_vectors.proofs.bits.Bits.is_within.Goals as goal

pub are_within-requires : goal.are_within-requires
are_within-requires c =
    let h = holds_read _ _ _ _ c.deref.ensures.value c.self.invariant.0 c.self.view_is in
    let g = holds_read _ _ _ _ c.deref-2.ensures.value c.other.invariant.0 c.other.view_is in
    same_count _ _ _ _ _ _ h g c.requires

pub returns-clause-within : goal.returns-clause-within
returns-clause-within c =
    let h = holds_read _ _ _ _ c.deref.ensures.value c.self.invariant.0 c.self.view_is in
    let g = holds_read _ _ _ _ c.deref-2.ensures.value c.other.invariant.0 c.other.view_is in
    (λ t. none_dropped _ _ _ _ _ _ h g c.requires (c.are_within.ensures.0 t), λ zeros. c.are_within.ensures.1 (dropped_none _ _ _ _ _ _ h g c.requires zeros))

pub returns-clause-some : goal.returns-clause-some
returns-clause-some c =
    let h = holds_read _ _ _ _ c.deref.ensures.value c.self.invariant.0 c.self.view_is in
    let g = holds_read _ _ _ _ c.deref-2.ensures.value c.other.invariant.0 c.other.view_is in
    OnFalse_from c.are_within.result _ (λ e. some_dropped _ _ _ _ _ _ h g c.requires (λ none. let is = c.are_within.ensures.1 none in absurd cc))
