use Rattle.std.proofs.Common.{arith, refl}
use Rattle.run_code.proofs.Gathering.{none_left, same_left}
use Rattle.run_code.proofs.descending.word_with_ones.Goals as goal

pub returns-in_err-place-clause-none : goal.returns-in_err-place-clause-none
returns-in_err-place-clause-none c =
    rw c.from_residual.ensures (none_left c.args.v.now c.args.word.index c.args.word.ones (omega arith) (omega (arith, c.requires.index)) (c.in_err-place.ensures.none.0 refl))

pub returns-clause-same : goal.returns-clause-same
returns-clause-same c =
    same_left c.args.v.now c.args.word.index c.args.word.ones c.in_ok-place.place c.word-ones.result (omega arith) (omega (arith, c.requires.index)) c.in_ok-place.ensures.below c.in_ok-place.ensures.greatest c.word-ones.ensures
