use Rattle.packet_decode.proofs.ExactAnswers.{answer_of-exact}
use Rattle.packet_decode.proofs.laws.reading_is_exact.Goals as goal

pub returns : goal.returns
returns c = λ f t state bits has. answer_of-exact f state t has bits
