use Rattle.std.proofs.Common.{◌+◌, ◌/◌, ℕ, ap, sym, ◌∙◌}
use Rattle.bit_vectors.proofs.Keeping.{holds}
use Rattle.bit_vectors.proofs.bits.Bits.word_count.Goals as goal

pub returns-clause-count : goal.returns-clause-count
returns-clause-count c =
    let h = holds _ _ _ c.self.invariant.0 c.self.view_is in
    c.len.ensures ∙ c.self.inside.words.ok.0 ∙ h.are.count ∙ ap (λ (n : ℕ). (n + 63) / 64) (sym h.len)
