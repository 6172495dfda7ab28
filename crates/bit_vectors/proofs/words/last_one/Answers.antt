use Rattle.std.proofs.Common.{◌-◌, ◌/◌, arith, inl, inr}
use Rattle.std.specs.Int.{trailing_zeros, w64}
use Rattle.std.proofs.lemmas.Bool.{cases_lt}
use Rattle.bit_vectors.proofs.WordBits.{IsLast, last_is, up_to, none_up_to}
use Rattle.bit_vectors.proofs.words.last_one.Goals as goal
use Rattle.bit_vectors.proofs.words.last_one.Goals.{Then-shifted-ne0}

found : (c : Then-shifted-ne0) → IsLast c.args.words.now (c.loop-end.end - 1) (trailing_zeros w64 (up_to c.args.words.now (c.loop-end.end - 1)))
found c = last_is c.args.words.now (c.loop-end.end - 1) (omega (arith, c.type_inv.words ((c.loop-end.end - 1) / 64))) (omega arith)

pub overflow_sub-result : goal.overflow_sub-result
overflow_sub-result c = omega (arith, (found c).within)

pub returns-then-shifted-ne0-clause-one : goal.returns-then-shifted-ne0-clause-one
returns-then-shifted-ne0-clause-one c = (found c).one

pub returns-then-shifted-ne0-clause-greatest : goal.returns-then-shifted-ne0-clause-greatest
returns-then-shifted-ne0-clause-greatest c k from to =
    elim (cases_lt k c.loop-end.end) [
      | inl lt ↦ (found c).none k from (omega arith)
      | inr le ↦ c.loop-end.invariant.1 k le to
    ]

pub loop-end-preserved : goal.loop-end-preserved
loop-end-preserved c = (
  omega arith,
  λ k from to.
      elim (cases_lt k c.loop-end.end) [
        | inl lt ↦ none_up_to c.args.words.now (c.loop-end.end - 1) c.if-shifted-ne0.false k from (omega arith)
        | inr le ↦ c.loop-end.invariant.1 k le to
      ],
)
