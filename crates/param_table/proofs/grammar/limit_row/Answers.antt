use Rattle.std.proofs.Common.{ℤ, ◌^◌, ◌<◌, Option, IfSome, unsigned_abs, subst}
use Rattle.param_table.proofs.Words.{IsLimit-read}
use Rattle.param_table.proofs.grammar.limit_row.Goals as goal

pub returns-clause-right : goal.returns-clause-right
returns-clause-right c =
    let Small = λ (number : Option ℤ). IfSome number (λ n. unsigned_abs n < 2 ^ 64) in
    IsLimit-read c.in_ok-low.low c.in_ok-high.high (subst Small c.in_ok-low.ensures.ok_part c.signed_number.ensures.bound) (subst Small c.in_ok-high.ensures.ok_part c.signed_number-2.ensures.bound)
