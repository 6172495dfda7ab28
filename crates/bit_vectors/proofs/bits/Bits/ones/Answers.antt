use Rattle.std.proofs.Common.{length, ap, ◌∙◌, arith}
use Rattle.bit_vectors.proofs.Keeping.{holds, ones_kept}
use Rattle.bit_vectors.proofs.bits.Bits.ones.Goals as goal

pub ones_in-requires : goal.ones_in-requires
ones_in-requires c =
    let h = holds _ _ _ c.self.invariant.0 c.self.view_is in omega (arith, h.are.count, h.are.most, ap length c.deref.ensures.value)

pub returns : goal.returns
returns c = c.ones_in.ensures ∙ rw c.deref.ensures.value (ones_kept _ _ _ c.self.invariant.0 c.self.view_is)
