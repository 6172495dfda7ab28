use Rattle.packet_decode.proofs.OneAnswer.{further_wrong}
use Rattle.packet_decode.proofs.laws.no_further_bit.Goals as goal

pub returns : goal.returns
returns c = λ f t state bits more bit has spells. further_wrong f state t has bits more bit spells
