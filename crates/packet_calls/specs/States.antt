-- The bytes of a saved sender or receiver.
use Rattle.std.specs.Prelude.{◌≡◌, ℕ, ◌+◌, List, length}
use Rattle.state_bytes.specs.Frames.{frame, frame_bytes}
use Rattle.packet_encode.specs.Encoder.{EncoderState}
use Rattle.packet_encode.specs.Saved.{IsEncoderState, encoder_bytes, encoder_room}
use Rattle.ground_chain.specs.Reception.{Reckoning}
use Rattle.ground_chain.specs.Saved.{IsReckoning, reckoning_bytes, reckoning_room}

-- the kind of a sender
abbrev pub sender_kind : ℕ
sender_kind = 1

-- the state of a sender
unfoldable pub sender_state : EncoderState → List ℕ
sender_state e = frame sender_kind (length e.masks.mask) (encoder_bytes e)

-- what a sender with inputs of f places may hold
abbrev pub IsSenderState : ℕ → EncoderState → Type 0
IsSenderState f e = IsEncoderState f e

-- the most bytes that the state of a sender has
abbrev pub sender_state_room : ℕ → ℕ
sender_state_room f = frame_bytes + encoder_room f

-- the bytes are the state of some value within the bounds of a sender with inputs of f places
pub record AreOfSender (f : ℕ) (state : List ℕ) : Type 0 where
  pub sender : EncoderState
  pub valid : IsSenderState f sender
  pub state_is : state ≡ sender_state sender

-- the kind of a receiver
abbrev pub receiver_kind : ℕ
receiver_kind = 2

-- the state of a receiver
unfoldable pub receiver_state : Reckoning → List ℕ
receiver_state r = frame receiver_kind r.reception.decoder.places (reckoning_bytes r)

-- what a receiver with contents of f places may hold
abbrev pub IsReceiverState : ℕ → Reckoning → Type 0
IsReceiverState f r = IsReckoning f r

-- the most bytes that the state of a receiver has
abbrev pub receiver_state_room : ℕ → ℕ
receiver_state_room f = frame_bytes + reckoning_room f

-- the bytes are the state of some value within the bounds of a receiver with contents of f places
pub record AreOfReceiver (f : ℕ) (state : List ℕ) : Type 0 where
  pub receiver : Reckoning
  pub valid : IsReceiverState f receiver
  pub state_is : state ≡ receiver_state receiver
