use Rattle.count_code.proofs.CountWords.{length-count_bits-grow}
use Rattle.count_code.proofs.ExactCounts.{IsExact-count_at}
use Rattle.count_code.proofs.LeastCounts.{least_completes}
use Rattle.count_code.proofs.laws.counts_are_completed.Goals as goal

pub returns-clause-exact : goal.returns-clause-exact
returns-clause-exact c = IsExact-count_at

pub returns-clause-least : goal.returns-clause-least
returns-clause-least c = least_completes

pub returns-clause-shortest : goal.returns-clause-shortest
returns-clause-shortest c = length-count_bits-grow
