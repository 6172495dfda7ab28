use Rattle.std.proofs.Common.{◌<◌, length, set, sym, ◌∙◌, arith}
use Rattle.bit_vectors.specs.Words.{AreWords}
use Rattle.bit_vectors.proofs.WordBits.{length-vector_of}
use Rattle.bit_vectors.proofs.Keeping.{holds, AreWords-set_word, IsWord-set_word, others-set_word}
use Rattle.bit_vectors.proofs.bits.Bits.set_word.Goals as goal
use Rattle.bit_vectors.proofs.bits.Bits.set_word.Goals.{After-self}

within : (c : After-self) → c.args.index < length c.self.inside.words.items
within c = let h = holds _ _ _ c.self.invariant.0 c.self.view_is in omega (arith, h.len, h.are.count, c.requires.index)

words : (c : After-self) → AreWords (set c.self.inside.words.items c.args.index c.args.value) c.self.inside.places
words c =
    let h = holds _ _ _ c.self.invariant.0 c.self.view_is in
    AreWords-set_word _ _ c.args.index c.args.value h.are (within c) (omega arith) (rw h.len at c.requires.spare)

pub index_mut-requires : goal.index_mut-requires
index_mut-requires c = omega (arith, within (goal.at.index_mut-requires c).After-self, c.self.inside.words.ok.0)

pub invariant_of-self : goal.invariant_of-self
invariant_of-self c = (words (goal.at.invariant_of-self c).After-self, c.self.invariant.1)

pub returns-clause-word : goal.returns-clause-word
returns-clause-word c =
    let d = (goal.at.returns-clause-word c).After-self in IsWord-set_word _ _ _ _ (words d) (within d)

pub returns-clause-others : goal.returns-clause-others
returns-clause-others c =
    others-set_word _ _ _ _ _ (words (goal.at.returns-clause-others c).After-self) (holds _ _ _ c.self.invariant.0 c.self.view_is)

pub returns-clause-len : goal.returns-clause-len
returns-clause-len c =
    let h = holds _ _ _ c.self.invariant.0 c.self.view_is in length-vector_of _ _ (words (goal.at.returns-clause-len c).After-self) ∙ sym h.len
