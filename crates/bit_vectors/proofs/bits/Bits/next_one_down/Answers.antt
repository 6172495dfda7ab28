use Rattle.std.proofs.Common.{arith}
use Rattle.bit_vectors.proofs.Keeping.{holds_read, IsNextDown, next_down}
use Rattle.bit_vectors.proofs.bits.Bits.next_one_down.Goals as goal
use Rattle.bit_vectors.proofs.bits.Bits.next_one_down.Goals.{After-last_one}

found : (c : After-last_one) → IsNextDown c.args.self.now c.args.below c.last_one.result
found c =
    next_down _ _ _ _ _ (holds_read _ _ _ _ c.deref.ensures.value c.self.invariant.0 c.self.view_is) c.last_one.ensures.one c.last_one.ensures.below c.last_one.ensures.greatest c.last_one.ensures.none

pub last_one-requires : goal.last_one-requires
last_one-requires c =
    let h = holds_read _ _ _ _ c.deref.ensures.value c.self.invariant.0 c.self.view_is in omega (arith, h.len, h.are.count)

pub returns-clause-one : goal.returns-clause-one
returns-clause-one c = (found c).one

pub returns-clause-greatest : goal.returns-clause-greatest
returns-clause-greatest c = (found c).greatest

pub returns-clause-none : goal.returns-clause-none
returns-clause-none c = (found c).none
