use Rattle.std.proofs.Common.{false, length, replicate, ◌∙◌, refl}
use Rattle.bit_vectors.proofs.Keeping.{holds, Becomes, Becomes-clear, AreWords-becomes, vector_of-becomes}
use Rattle.bit_vectors.proofs.bits.Bits.clear.Goals as goal
use Rattle.bit_vectors.proofs.bits.Bits.clear.Goals.{After-fill}

becomes : (c : After-fill) → Becomes c.self.inside.words.items c.fill.new.self.items c.self.inside.places (replicate (length c.args.self.now) false)
becomes c = Becomes-clear _ _ _ _ (holds _ _ _ c.self.invariant.0 c.self.view_is) (c.fill.ensures.items (λ y e. e) ∙ rw c.self.inside.words.ok.0 refl)

pub invariant_of-self : goal.invariant_of-self
invariant_of-self c =
    let d = (goal.at.invariant_of-self c).After-fill in
    (AreWords-becomes _ _ _ _ c.self.invariant.0 (becomes d), c.fill.ensures.capacity ∙ c.self.invariant.1)

pub returns : goal.returns
returns c = vector_of-becomes _ _ _ _ c.self.invariant.0 (becomes (goal.at.returns c).After-fill)
