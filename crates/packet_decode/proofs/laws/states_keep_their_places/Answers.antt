use Rattle.packet_decode.proofs.OneAnswer.{next_state-is}
use Rattle.packet_decode.proofs.laws.states_keep_their_places.Goals as goal

pub returns : goal.returns
returns c = λ f t state bits form mask content has s. next_state-is f state t bits form mask content has s
