use Rattle.std.proofs.Common.{◌∙◌}
use Rattle.bit_vectors.proofs.Keeping.{holds, holds_read, same_count, Becomes, Becomes-copy, words_become, vector_becomes}
use Rattle.bit_vectors.proofs.bits.Bits.copy_from.Goals as goal
use Rattle.bit_vectors.proofs.bits.Bits.copy_from.Goals.{After-copy_words}

becomes : (c : After-copy_words) → Becomes c.self.inside.words.items c.copy_words.new.words c.self.inside.places c.args.other.now
becomes c =
    Becomes-copy _ _ _ _ _ _ (holds _ _ _ c.self.invariant.0 c.self.view_is) (holds_read _ _ _ _ (c.copy_words.ensures ∙ c.deref.ensures.value) c.other.invariant.0 c.other.view_is) c.requires

pub copy_words-requires : goal.copy_words-requires
copy_words-requires c =
    let h = holds_read _ _ _ _ c.deref_mut.ensures.value c.self.invariant.0 c.self.view_is in
    let g = holds_read _ _ _ _ c.deref.ensures.value c.other.invariant.0 c.other.view_is in
    same_count _ _ _ _ _ _ h g c.requires

pub invariant_of-self : goal.invariant_of-self
invariant_of-self c =
    let d = (goal.at.invariant_of-self c).After-copy_words in
    (words_become _ _ _ _ _ c.self.invariant.0 c.self.inside.words.ok.0 (becomes d), c.self.invariant.1)

pub returns : goal.returns
returns c =
    let d = (goal.at.returns c).After-copy_words in
    vector_becomes _ _ _ _ _ c.self.invariant.0 c.self.inside.words.ok.0 (becomes d)
