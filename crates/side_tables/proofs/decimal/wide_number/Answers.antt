use Rattle.std.proofs.Common.{sym}
use Rattle.side_tables.proofs.RowKinds.{number_of-no_text}
use Rattle.side_tables.proofs.decimal.wide_number.Goals as goal

pub returns-in-Err-clause-number : goal.returns-in-Err-clause-number
returns-in-Err-clause-number c = sym (number_of-no_text c.args.low c.args.high c.args.text.now c.in-Err.ensures.cases.0)
