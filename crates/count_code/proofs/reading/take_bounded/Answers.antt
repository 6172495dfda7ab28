use Rattle.std.proofs.Common.{◌≡◌, ◌∙◌, refl, arith}
use Rattle.std.proofs.lemmas.Result.{err_from_is_err_and}
use Rattle.bit_vectors.proofs.NumberBits.{bool_byte_is}
use Rattle.bit_vectors.proofs.ExactReading.{MovesOn-refl}
use Rattle.count_code.specs.Counts.{parse_bounded}
use Rattle.count_code.proofs.CountWords.{zero_fits_is, one_fits_is, number_more, number_fault}
use Rattle.count_code.proofs.reading.take_bounded.Goals as goal

pub loop-weight-init : goal.loop-weight-init
loop-weight-init c = record { moves = MovesOn-refl c.args.eye.now; fits = c.requires.so_far; short = c.requires.width; same = refl }

pub returns-in_err-bit-clause-reading : goal.returns-in_err-bit-clause-reading
returns-in_err-bit-clause-reading c =
    let i = c.loop-weight.invariant in
    let p = err_from_is_err_and c.from_residual.result c.from_residual.ensures.1 in
    let zero_is = zero_fits_is c.args.most c.loop-weight.number c.loop-weight.weight c.loop-weight-test.true i.fits c.requires.most in
    let one_is = one_fits_is c.args.most c.loop-weight.number c.loop-weight.weight c.loop-weight-test.true i.short i.fits c.requires.most in
    let given = rw (zero_is, one_is) at c.in_err-bit.ensures.reading in
    rw (p.1, p.2) (number_fault c.args.eye.now c.loop-weight.eye c.take_allowed.new.self c.args.most c.args.so_far c.args.width c.loop-weight.number c.loop-weight.weight c.in_err-bit.field-0.0 c.loop-weight-test.true i given)

pub loop-weight-preserved : goal.loop-weight-preserved
loop-weight-preserved c =
    let i = c.loop-weight.invariant in
    let zero_is = zero_fits_is c.args.most c.loop-weight.number c.loop-weight.weight c.loop-weight-test.true i.fits c.requires.most in
    let one_is = one_fits_is c.args.most c.loop-weight.number c.loop-weight.weight c.loop-weight-test.true i.short i.fits c.requires.most in
    let right = rw (zero_is, one_is) at c.in_ok-bit.ensures.right in
    let read = rw (zero_is, one_is) at c.in_ok-bit.ensures.reading in
    number_more c.args.eye.now c.loop-weight.eye c.take_allowed.new.self c.args.most c.args.so_far c.args.width c.loop-weight.number c.loop-weight.weight c.in_ok-bit.bit c.from.result c.loop-weight-test.true i c.in_ok-bit.ensures.moves right read (c.from.ensures ∙ bool_byte_is c.in_ok-bit.bit)

pub returns-clause-reading : goal.returns-clause-reading
unfolding parse_bounded
returns-clause-reading c =
    let done : c.loop-weight.weight ≡ 0 = omega arith in
    c.loop-weight.invariant.same ∙ rw done refl
