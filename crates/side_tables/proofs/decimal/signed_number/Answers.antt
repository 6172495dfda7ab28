use Rattle.std.proofs.Common.{◌≡◌, slice_index, rules, arith}
use Rattle.std.proofs.lemmas.List.{take_rest}
use Rattle.side_tables.proofs.decimal.signed_number.Goals as goal

pub returns-in_err-below-clause-number : goal.returns-in_err-below-clause-number
returns-in_err-below-clause-number c =
    let minus : slice_index c.args.text.now 0 ≡ 45 = omega arith in
    let none = rw take_rest at c.in_err-below.ensures.number in
    rw (minus, ← none) c.from_residual.ensures

pub returns-in-45-clause-number : goal.returns-in-45-clause-number
returns-in-45-clause-number c =
    let minus : slice_index c.args.text.now 0 ≡ 45 = omega arith in
    let below = rw take_rest at c.in_ok-below.ensures.number in
    rw (minus, ← below, c.from.ensures) (search rules)
