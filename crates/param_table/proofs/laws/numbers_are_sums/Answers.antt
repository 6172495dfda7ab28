use Rattle.std.proofs.Common.{ap}
use Rattle.param_table.specs.Cells.{first_bit, signed_if}
use Rattle.param_table.proofs.Words.{number_in-sum}
use Rattle.param_table.proofs.laws.numbers_are_sums.Goals as goal

pub returns-clause-number : goal.returns-clause-number
returns-clause-number c = number_in-sum

pub returns-clause-cell : goal.returns-clause-cell
returns-clause-cell c = λ v place width signed within. ap (signed_if signed (first_bit v place) width) (number_in-sum v place width within)
