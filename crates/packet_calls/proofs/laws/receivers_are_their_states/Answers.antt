use Rattle.std.proofs.Common.{refl}
use Rattle.packet_calls.proofs.Received.{receivers_agree}
use Rattle.packet_calls.proofs.laws.receivers_are_their_states.Goals as goal

pub returns : goal.returns
returns c = record {
  same = receivers_agree;
  taken = λ f r valid. record { receiver = r; valid = valid; state_is = refl };
}
