use Rattle.std.proofs.Common.{length, set, ap, ◌∙◌, refl, arith}
use Rattle.bit_vectors.proofs.Keeping.{holds, Becomes, Becomes-set, words_become, vector_becomes}
use Rattle.bit_vectors.proofs.bits.Bits.set.Goals as goal
use Rattle.bit_vectors.proofs.bits.Bits.set.Goals.{After-write_bit_in_words}

becomes : (c : After-write_bit_in_words) → Becomes c.self.inside.words.items c.write_bit_in_words.new.words c.self.inside.places (set c.args.self.now c.args.place c.args.value)
becomes c =
    Becomes-set _ _ _ _ _ _ (holds _ _ _ c.self.invariant.0 c.self.view_is) c.requires (c.write_bit_in_words.auto.words ∙ ap length c.deref_mut.ensures.value) c.write_bit_in_words.ensures.bit
    (λ k other. c.write_bit_in_words.ensures.others k other ∙ rw c.deref_mut.ensures.value refl) c.write_bit_in_words.ensures.numbers

pub write_bit_in_words-requires : goal.write_bit_in_words-requires
write_bit_in_words-requires c = let h = holds _ _ _ c.self.invariant.0 c.self.view_is in omega (arith, h.len, h.are.count, ap length c.deref_mut.ensures.value)

pub invariant_of-self : goal.invariant_of-self
invariant_of-self c =
    let d = (goal.at.invariant_of-self c).After-write_bit_in_words in
    (words_become _ _ _ _ _ c.self.invariant.0 c.self.inside.words.ok.0 (becomes d), c.self.invariant.1)

pub returns : goal.returns
returns c =
    let d = (goal.at.returns c).After-write_bit_in_words in
    vector_becomes _ _ _ _ _ c.self.invariant.0 c.self.inside.words.ok.0 (becomes d)
