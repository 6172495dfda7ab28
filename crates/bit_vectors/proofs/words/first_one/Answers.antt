use Rattle.std.proofs.Common.{arith, inl, inr}
use Rattle.std.specs.Int.{leading_zeros, w64}
use Rattle.std.proofs.lemmas.Bool.{cases_lt}
use Rattle.bit_vectors.proofs.WordBits.{IsFirst, first_is, on_from, none_on_from}
use Rattle.bit_vectors.proofs.words.first_one.Goals as goal
use Rattle.bit_vectors.proofs.words.first_one.Goals.{Then-shifted-ne0}

found : (c : Then-shifted-ne0) → IsFirst c.args.words.now c.loop-start.start (leading_zeros w64 (on_from c.args.words.now c.loop-start.start))
found c = first_is c.args.words.now c.loop-start.start (omega arith)

pub returns-then-shifted-ne0-clause-one : goal.returns-then-shifted-ne0-clause-one
returns-then-shifted-ne0-clause-one c = (found c).one

pub returns-then-shifted-ne0-clause-least : goal.returns-then-shifted-ne0-clause-least
returns-then-shifted-ne0-clause-least c k from to =
    elim (cases_lt k c.loop-start.start) [
      | inl lt ↦ c.loop-start.invariant.1 k from lt
      | inr le ↦ (found c).none k le to
    ]

pub loop-start-preserved : goal.loop-start-preserved
loop-start-preserved c = (
  omega arith,
  λ k from to.
      elim (cases_lt k c.loop-start.start) [
        | inl lt ↦ c.loop-start.invariant.1 k from lt
        | inr le ↦ none_on_from c.args.words.now c.loop-start.start c.if-shifted-ne0.false k le to
      ],
)
