use Rattle.std.proofs.Common.{subst, sym}
use Rattle.packet_encode.specs.Encoder.{EncoderState, StandsFor}
use Rattle.packet_calls.proofs.Received.{senders_agree}
use Rattle.packet_calls.proofs.laws.loaded_senders_go_on.Goals as goal

pub returns : goal.returns
returns c f saved loaded h valid also e stands = subst (λ (s : EncoderState). StandsFor h s) (sym (senders_agree f loaded saved also valid e)) stands
