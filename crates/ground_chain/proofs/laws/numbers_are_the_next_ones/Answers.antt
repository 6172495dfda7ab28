use Rattle.std.proofs.Common.{refl, arith}
use Rattle.ground_chain.proofs.ListedRows.{number_after-repeat, number_after-above, number_after-count, number_after-least}
use Rattle.ground_chain.proofs.laws.numbers_are_the_next_ones.Goals as goal

pub returns : goal.returns
returns c = record {
  first = λ count few. (refl, omega arith);
  repeat = number_after-repeat;
  above = number_after-above;
  count = number_after-count;
  least = number_after-least;
}
