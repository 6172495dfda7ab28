use Rattle.std.proofs.Common.{length, ◌||◌, ap, refl, ◌∙◌}
use Rattle.std.proofs.lemmas.Simd.{length-zip2}
use Rattle.bit_vectors.specs.Vectors.{or_bits}
use Rattle.bit_vectors.proofs.Keeping.{holds, holds_read, same_count, Becomes, Becomes-zip, words_become, vector_becomes}
use Rattle.bit_vectors.proofs.bits.Bits.or_in.Goals as goal
use Rattle.bit_vectors.proofs.bits.Bits.or_in.Goals.{After-or_words}

becomes : (c : After-or_words) → Becomes c.self.inside.words.items c.or_words.new.words c.self.inside.places (or_bits c.args.self.now c.args.other.now)
becomes c =
    Becomes-zip (λ a b. a || b) refl _ _ _ _ _ _ _ (holds _ _ _ c.self.invariant.0 c.self.view_is) (holds_read _ _ _ _ c.deref.ensures.value c.other.invariant.0 c.other.view_is) c.requires
    (c.or_words.auto.words ∙ ap length c.deref_mut.ensures.value) (λ k. c.or_words.ensures.bits k ∙ rw c.deref_mut.ensures.value refl) c.or_words.ensures.numbers

pub or_words-requires : goal.or_words-requires
or_words-requires c =
    let h = holds_read _ _ _ _ c.deref_mut.ensures.value c.self.invariant.0 c.self.view_is in
    let g = holds_read _ _ _ _ c.deref.ensures.value c.other.invariant.0 c.other.view_is in
    same_count _ _ _ _ _ _ h g c.requires

pub invariant_of-self : goal.invariant_of-self
invariant_of-self c =
    let d = (goal.at.invariant_of-self c).After-or_words in
    (words_become _ _ _ _ _ c.self.invariant.0 c.self.inside.words.ok.0 (becomes d), c.self.invariant.1)

pub returns-clause-bits : goal.returns-clause-bits
returns-clause-bits c =
    let d = (goal.at.returns-clause-bits c).After-or_words in
    vector_becomes _ _ _ _ _ c.self.invariant.0 c.self.inside.words.ok.0 (becomes d)

pub returns-clause-len : goal.returns-clause-len
returns-clause-len c =
    let d = (goal.at.returns-clause-len c).After-or_words in
    ap length (vector_becomes _ _ _ _ _ c.self.invariant.0 c.self.inside.words.ok.0 (becomes d)) ∙ length-zip2 _ _ _ c.requires
