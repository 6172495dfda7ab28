use Rattle.std.proofs.Common.{arith}
use Rattle.std.proofs.lemmas.Result.{err_from_is_err_and}
use Rattle.bit_vectors.specs.Reading.{bits_left}
use Rattle.run_code.proofs.InverseBits.{inverse_err, inverse_zero, inverse_some, place_moved, filled_word, some_at_start}
use Rattle.run_code.proofs.inverse.read_inverse.Goals as goal

pub returns-in_err-take_up-clause-reading : goal.returns-in_err-take_up-clause-reading
returns-in_err-take_up-clause-reading c =
    let p = err_from_is_err_and c.from_residual.result c.from_residual.ensures.1 in
    rw (p.1, p.2) (inverse_err c.args.x.now (λ (u : Unit {0}). c.take_up.new.into) c.args.eye.now c.take_up.new.eye c.in_err-take_up.field-0.0 c.in_err-take_up.ensures.reading)

pub overflow_sub-result : goal.overflow_sub-result
overflow_sub-result c =
    let word = filled_word c.args.x.now (bits_left c.args.eye.now) c.take_up.new.into (bits_left c.take_up.new.eye) c.in_ok-take_up.ensures.reading in
    omega (arith, c.at.ensures.at, place_moved c.args.eye.now c.take_up.new.eye word.0 c.take_up.ensures.moves (omega (arith, word.1, some_at_start c.args.x.now c.requires.some)) word.2)

pub returns-then-is_zero-clause-reading : goal.returns-then-is_zero-clause-reading
returns-then-is_zero-clause-reading c =
    let word = filled_word c.args.x.now (bits_left c.args.eye.now) c.take_up.new.into (bits_left c.take_up.new.eye) c.in_ok-take_up.ensures.reading in
    let moved = place_moved c.args.eye.now c.take_up.new.eye word.0 c.take_up.ensures.moves (omega (arith, word.1, some_at_start c.args.x.now c.requires.some)) word.2 in
    (inverse_zero c.args.x.now (bits_left c.args.eye.now) c.take_up.new.into (bits_left c.take_up.new.eye) c.in_ok-take_up.ensures.reading (c.is_zero.ensures.zero.0 c.if-is_zero.true), omega (arith, c.at.ensures.at, c.at.ensures.within), omega (arith, c.at.ensures.at))

pub returns-clause-reading : goal.returns-clause-reading
returns-clause-reading c =
    inverse_some c.args.x.now (bits_left c.args.eye.now) c.take_up.new.into (bits_left c.take_up.new.eye) c.in_ok-take_up.ensures.reading c.if-is_zero.ensures.some
