use Rattle.run_code.proofs.InverseBits.{IsExact-inverse_at}
use Rattle.run_code.proofs.RunFronts.{last_one}
use Rattle.run_code.proofs.laws.directions_are_completed.Goals as goal

pub returns-clause-exact : goal.returns-clause-exact
returns-clause-exact c = IsExact-inverse_at

pub returns-clause-last : goal.returns-clause-last
returns-clause-last c = last_one
