use Rattle.std.proofs.Common.{sym, ◌∙◌, rules}
use Rattle.side_tables.proofs.RowKinds.{number_of-refused}
use Rattle.side_tables.proofs.decimal.number_in_text.Goals as goal

pub returns-in_err-value-clause-number : goal.returns-in_err-value-clause-number
returns-in_err-value-clause-number c =
    let none = number_of-refused c.args.low c.args.high c.args.text.now c.parse.result c.ranges.high.fits c.parse.ensures.value.0 (search rules) (search rules) in
    c.from_residual.ensures ∙ sym none
