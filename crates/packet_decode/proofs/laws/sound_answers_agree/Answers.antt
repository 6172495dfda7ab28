use Rattle.packet_decode.proofs.OneAnswer.{sound_reading}
use Rattle.packet_decode.proofs.laws.sound_answers_agree.Goals as goal

pub returns : goal.returns
returns c = λ f t state bits reading answer has says sound. sound_reading f state t has bits reading answer says sound
