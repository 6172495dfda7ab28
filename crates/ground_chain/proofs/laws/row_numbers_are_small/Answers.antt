use Rattle.std.proofs.Common.{◌^◌, arith}
use Rattle.ground_chain.specs.Run.{nothing_known}
use Rattle.ground_chain.proofs.EveryRun.{row_numbers_of}
use Rattle.ground_chain.proofs.laws.row_numbers_are_small.Goals as goal

pub returns : goal.returns
returns c = λ f arrivals counts sizes few. row_numbers_of f nothing_known (record { mask = tt; content = tt }) arrivals counts sizes (2 ^ 64) (omega arith) (omega (arith, few))
