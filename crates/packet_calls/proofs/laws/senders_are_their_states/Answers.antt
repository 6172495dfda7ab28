use Rattle.std.proofs.Common.{refl}
use Rattle.packet_calls.proofs.Received.{senders_agree}
use Rattle.packet_calls.proofs.laws.senders_are_their_states.Goals as goal

pub returns : goal.returns
returns c = record {
  same = senders_agree;
  taken = λ f e valid. record { sender = e; valid = valid; state_is = refl };
}
