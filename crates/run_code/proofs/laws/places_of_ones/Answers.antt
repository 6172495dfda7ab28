use Rattle.run_code.proofs.Ones.{in_places_up, places_up_has, length-ones_from}
use Rattle.run_code.proofs.InverseBits.{ones_from_rise}
use Rattle.run_code.proofs.laws.places_of_ones.Goals as goal

pub returns-clause-ones : goal.returns-clause-ones
returns-clause-ones c = λ v place. (in_places_up v place, places_up_has v place)

pub returns-clause-order : goal.returns-clause-order
returns-clause-order c = ones_from_rise 0

pub returns-clause-many : goal.returns-clause-many
returns-clause-many c = length-ones_from 0
