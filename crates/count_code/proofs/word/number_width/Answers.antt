use Rattle.std.proofs.Common.{◌+◌, ◌-◌, ◌*◌, ◌≤◌, refl, arith}
use Rattle.count_code.proofs.CountWords.{HasDigits, digits_is, digits_long, digits_most, power_le, power_more}
use Rattle.count_code.proofs.word.number_width.Goals as goal
use Rattle.count_code.proofs.word.number_width.Goals.{After-ilog2}

has : (c : After-ilog2) → HasDigits c.args.number c.ilog2.result
has c = record { low = c.ilog2.ensures.power_le; high = omega (arith, c.ilog2.ensures.next_power_gt, power_more c.ilog2.result) }

least : (c : After-ilog2) → 5 ≤ c.ilog2.result
least c = digits_long c.args.number c.ilog2.result (has c) c.requires.least

pub overflow_sub-result : goal.overflow_sub-result
overflow_sub-result c = omega (arith, least (goal.at.overflow_sub-result c).After-ilog2)

pub returns-clause-width : goal.returns-clause-width
returns-clause-width c = rw (digits_is c.args.number c.ilog2.result (has (goal.at.returns-clause-width c).After-ilog2)) refl

pub returns-clause-fits : goal.returns-clause-fits
returns-clause-fits c =
    let d = (goal.at.returns-clause-fits c).After-ilog2 in
    omega (arith, (has d).high, power_le (c.ilog2.result + 1) (2 * (c.ilog2.result + 1) - 6) (omega (arith, least d)))

pub returns-clause-most : goal.returns-clause-most
returns-clause-most c =
    omega (arith, digits_most c.args.number c.ilog2.result (has (goal.at.returns-clause-most c).After-ilog2) (omega arith))
