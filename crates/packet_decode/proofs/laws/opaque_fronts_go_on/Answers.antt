use Rattle.packet_decode.proofs.OneAnswer.{front_goes_on}
use Rattle.packet_decode.proofs.laws.opaque_fronts_go_on.Goals as goal

pub returns : goal.returns
returns c = λ f t level state bits more front. front_goes_on f state t bits more level front
