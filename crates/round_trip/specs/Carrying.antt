-- What a sender and a receiver have when a packet goes from one to the other.
use Rattle.std.specs.Prelude.{◌≡◌, ℕ, ◌<◌, Bool, List, length, Option, IfSome}
use Rattle.mask_update.specs.Histories.{History, IsValid, forced_flags}
use Rattle.packet_encode.specs.Encoder.{EncoderState, StandsFor}
use Rattle.packet_encode.specs.Forms.{with_next_input}
use Rattle.packet_decode.specs.State.{Decoding, true_state}

-- the history and this input, which is sent with its mask and whole content
abbrev pub with_forced_input : History → List Bool → History
with_forced_input h input = with_next_input h 0 input forced_flags

-- The encoder stands for the history, which is valid with this input too. The decoder knows the mask of one of its packets and
-- the content of another, or none.
pub record AreInStep (h : History) (mask content : Option ℕ) (input : List Bool) (encoder : EncoderState) (decoder : Decoding) : Type 0 where
  pub valid : IsValid (with_forced_input h input)
  pub stands : StandsFor h encoder
  pub masks : IfSome mask (λ s. s < length h.steps)
  pub contents : IfSome content (λ s. s < length h.steps)
  pub known : decoder.state ≡ true_state (with_forced_input h input) mask content
