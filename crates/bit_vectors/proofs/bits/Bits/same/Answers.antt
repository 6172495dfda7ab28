use Rattle.bit_vectors.proofs.Keeping.{holds_read, same_count, same_words, same_vectors}
use Rattle.bit_vectors.proofs.bits.Bits.same.Goals as goal

pub are_same-requires : goal.are_same-requires
are_same-requires c =
    let h = holds_read _ _ _ _ c.deref.ensures.value c.self.invariant.0 c.self.view_is in
    let g = holds_read _ _ _ _ c.deref-2.ensures.value c.other.invariant.0 c.other.view_is in
    same_count _ _ _ _ _ _ h g c.requires

pub returns : goal.returns
returns c =
    let h = holds_read _ _ _ _ c.deref.ensures.value c.self.invariant.0 c.self.view_is in
    let g = holds_read _ _ _ _ c.deref-2.ensures.value c.other.invariant.0 c.other.view_is in
    (λ t. same_vectors _ _ _ _ _ _ h g c.requires (c.are_same.ensures.0 t), λ e. c.are_same.ensures.1 (same_words _ _ _ _ _ _ h g e))
