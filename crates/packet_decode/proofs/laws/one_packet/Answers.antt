use Rattle.packet_decode.proofs.OneAnswer.{one_packet}
use Rattle.packet_decode.proofs.laws.one_packet.Goals as goal

pub returns : goal.returns
returns c = λ f t state bits mask content other_mask other_content form other has a b. one_packet f state t has bits form other mask content other_mask other_content a b
