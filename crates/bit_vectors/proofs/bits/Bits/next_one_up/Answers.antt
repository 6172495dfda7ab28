use Rattle.std.proofs.Common.{arith}
use Rattle.bit_vectors.proofs.Keeping.{holds_read, IsNextUp, next_up}
use Rattle.bit_vectors.proofs.bits.Bits.next_one_up.Goals as goal
use Rattle.bit_vectors.proofs.bits.Bits.next_one_up.Goals.{After-first_one}

found : (c : After-first_one) → IsNextUp c.args.self.now c.args.from c.first_one.result
found c =
    next_up _ _ _ _ _ (holds_read _ _ _ _ c.deref.ensures.value c.self.invariant.0 c.self.view_is) c.first_one.ensures.one c.first_one.ensures.from c.first_one.ensures.least c.first_one.ensures.none

pub first_one-requires : goal.first_one-requires
first_one-requires c =
    let h = holds_read _ _ _ _ c.deref.ensures.value c.self.invariant.0 c.self.view_is in omega (arith, h.are.count, h.are.most)

pub returns-clause-one : goal.returns-clause-one
returns-clause-one c = (found c).one

pub returns-clause-least : goal.returns-clause-least
returns-clause-least c = (found c).least

pub returns-clause-none : goal.returns-clause-none
returns-clause-none c = (found c).none
