use Rattle.packet_decode.proofs.OneAnswer.{one_reading}
use Rattle.packet_decode.proofs.laws.one_reading.Goals as goal

pub returns : goal.returns
returns c = λ f t state bits reading other has a b. one_reading f state t has bits reading other a b
