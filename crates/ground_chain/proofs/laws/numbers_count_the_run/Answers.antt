use Rattle.std.proofs.Common.{arith}
use Rattle.ground_chain.specs.Run.{nothing_known}
use Rattle.ground_chain.proofs.Reckonings.{run_counts, run_packets}
use Rattle.ground_chain.proofs.laws.numbers_count_the_run.Goals as goal

pub returns : goal.returns
returns c = record {
  packets = λ f arrivals. run_packets f nothing_known arrivals;
  listed = λ f arrivals all. omega (arith, run_counts f nothing_known arrivals all);
}
