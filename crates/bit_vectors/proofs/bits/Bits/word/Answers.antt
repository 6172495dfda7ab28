use Rattle.std.proofs.Common.{arith}
use Rattle.std.proofs.lemmas.List.{get_or_read_under}
use Rattle.bit_vectors.proofs.Keeping.{holds, IsWord-kept}
use Rattle.bit_vectors.proofs.bits.Bits.word.Goals as goal

pub index-requires : goal.index-requires
index-requires c = let h = holds _ _ _ c.self.invariant.0 c.self.view_is in omega (arith, h.len, h.are.count, c.self.inside.words.ok.0)

pub returns : goal.returns
returns c =
    let h = holds _ _ _ c.self.invariant.0 c.self.view_is in
    IsWord-kept _ _ _ _ _ h (get_or_read_under _ c.args.index c.self.inside.words.len _ 0 c.index.ensures (omega (arith, h.len, h.are.count, c.self.inside.words.ok.0)) c.self.inside.words.ok.0)
