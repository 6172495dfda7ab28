use Rattle.ground_chain.specs.Run.{nothing_known}
use Rattle.ground_chain.proofs.Told.{numbers_once}
use Rattle.ground_chain.proofs.laws.every_number_once.Goals as goal

pub returns : goal.returns
returns c = λ f arrivals all. numbers_once f nothing_known arrivals all
