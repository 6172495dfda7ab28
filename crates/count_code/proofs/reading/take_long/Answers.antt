use Rattle.std.proofs.lemmas.Result.{err_from_is_err_and}
use Rattle.count_code.proofs.CountWords.{power_fits_is, long_more, long_fault, long_end}
use Rattle.count_code.proofs.reading.take_long.Goals as goal

pub returns-in_err-take_allowed-clause-reading : goal.returns-in_err-take_allowed-clause-reading
returns-in_err-take_allowed-clause-reading c =
    let i = c.loop-digits.invariant in
    let p = err_from_is_err_and c.from_residual.result c.from_residual.ensures.1 in
    let given = rw (power_fits_is c.args.most c.loop-digits.digits i.short) at c.in_err-take_allowed.ensures.reading in
    rw (p.1, p.2) (long_fault c.args.eye.now c.loop-digits.eye c.take_allowed.new.self c.args.most c.loop-digits.digits c.in_err-take_allowed.field-0.0 c.requires.least i given)

pub loop-digits-preserved : goal.loop-digits-preserved
loop-digits-preserved c =
    let i = c.loop-digits.invariant in
    let right = rw (power_fits_is c.args.most c.loop-digits.digits i.short, c.if-not-branch.true) at c.in_ok-take_allowed.ensures.right in
    let read = rw (power_fits_is c.args.most c.loop-digits.digits i.short, c.if-not-branch.true) at c.in_ok-take_allowed.ensures.reading in
    long_more c.args.eye.now c.loop-digits.eye c.take_allowed.new.self c.args.most c.loop-digits.digits c.requires.least c.requires.most i c.in_ok-take_allowed.ensures.moves right read

pub returns-clause-reading : goal.returns-clause-reading
returns-clause-reading c =
    let i = c.loop-digits.invariant in
    let read = rw (power_fits_is c.args.most c.loop-digits.digits i.short, c.if-not-branch.false) at c.in_ok-take_allowed.ensures.reading in
    long_end c.args.eye.now c.loop-digits.eye c.take_allowed.new.self c.take_bounded.new.eye c.args.most c.loop-digits.digits c.take_bounded.result c.requires.least i read c.take_bounded.ensures.reading
