use Rattle.std.proofs.Common.{[], arith}
use Rattle.multi_ground.specs.MultiRun.{multi_run}
use Rattle.multi_ground.proofs.StreamsApart.{output-walk}
use Rattle.multi_ground.proofs.MultiRuns.{multi_run_from-few, all_well}
use Rattle.multi_ground.proofs.laws.the_output_is_a_store.Goals as goal

pub returns : goal.returns
returns c = λ streams packets are good few. output-walk (multi_run streams packets) (all_well streams are [] packets good few) (omega (arith, few, multi_run_from-few streams [] packets))
