use Rattle.packet_decode.proofs.OneAnswer.{exact_sound}
use Rattle.packet_decode.proofs.laws.exact_answers_are_sound.Goals as goal

pub returns : goal.returns
returns c = λ f t state bits answer exact. exact_sound f state t bits answer exact
