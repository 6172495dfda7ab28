use Rattle.std.proofs.Common.{sym, ◌∙◌, arith}
use Rattle.bit_vectors.proofs.Keeping.{holds_read}
use Rattle.bit_vectors.proofs.bits.Bits.get.Goals as goal

pub bit_in_words-requires : goal.bit_in_words-requires
bit_in_words-requires c =
    let h = holds_read _ _ _ _ c.deref.ensures.value c.self.invariant.0 c.self.view_is in omega (arith, h.len, h.are.count)

pub returns : goal.returns
returns c =
    let h = holds_read _ _ _ _ c.deref.ensures.value c.self.invariant.0 c.self.view_is in c.bit_in_words.ensures ∙ sym (h.bits c.args.place)
