use Rattle.std.proofs.Common.{sym, arith}
use Rattle.bit_vectors.proofs.Keeping.{holds}
use Rattle.bit_vectors.proofs.bits.Bits.len.Goals as goal

pub returns-clause-len : goal.returns-clause-len
returns-clause-len c = let h = holds _ _ _ c.self.invariant.0 c.self.view_is in sym h.len

pub returns-clause-vector : goal.returns-clause-vector
returns-clause-vector c =
    let h = holds _ _ _ c.self.invariant.0 c.self.view_is in (omega (arith, h.len, h.are.some), omega (arith, h.len, h.are.most))
