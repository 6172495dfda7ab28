use Rattle.packet_decode.proofs.OneAnswer.{one_answer}
use Rattle.packet_decode.proofs.laws.one_exact_answer.Goals as goal

pub returns : goal.returns
returns c = λ f t state bits answer has exact. one_answer f state t has bits answer exact
