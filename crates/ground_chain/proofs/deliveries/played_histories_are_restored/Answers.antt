use Rattle.ground_chain.proofs.DeliveredRuns.{numbers-played, owed-played}
use Rattle.ground_chain.proofs.deliveries.played_histories_are_restored.Goals as goal

pub returns-clause-outputs : goal.returns-clause-outputs
returns-clause-outputs c = owed-played

pub returns-clause-numbers : goal.returns-clause-numbers
returns-clause-numbers c = numbers-played
