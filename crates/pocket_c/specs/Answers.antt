-- What a call of a sender or a receiver answers, by what the handle holds and what is amiss.
use Rattle.std.specs.Prelude.{ℕ, nat_lt, if◌then◌else◌, List, length, Option, None, Some}
use Rattle.packet_calls.specs.States.{receiver_state_room, sender_state_room}
use Rattle.packet_calls.specs.Refusals.{opening_fault, sending_fault, receiving_fault}
use Rattle.pocket_c.specs.declared.held.Held.TheVariants as held
use Rattle.pocket_c.specs.declared.status.CallStatus.{CallStatus}
use Rattle.pocket_c.specs.declared.status.CallStatus.TheVariants as status
use Rattle.pocket_c.specs.Kinds.{Holding}
use Rattle.pocket_c.specs.Statuses.{of_open, of_send, of_receive}

-- done, or why not
abbrev pub done_or : {F : Type 0} → (F → CallStatus) → Option F → CallStatus
done_or status_of None = status.Done
done_or status_of (Some fault) = status_of fault

-- of opening with so many places and this mask, if there is memory
abbrev pub opening_status : Holding → ℕ → Option (List ℕ) → CallStatus
opening_status None places mask = done_or of_open (opening_fault places mask)
opening_status (Some other) places mask = status.Open

-- of beginning anew with this mask
abbrev pub resetting_status : Holding → Option (List ℕ) → CallStatus
resetting_status None mask = status.Closed
resetting_status (Some (held.Sender s)) mask = done_or of_open (opening_fault (length s.encoder.masks.mask) mask)
resetting_status (Some (held.Receiver r)) mask = status.OtherKind
resetting_status (Some (held.Bench b)) mask = status.OtherKind

-- of sending an input with its required robustness into a room of so many bytes
abbrev pub sending_status : Holding → List ℕ → ℕ → ℕ → CallStatus
sending_status None input robust room = status.Closed
sending_status (Some (held.Sender s)) input robust room = done_or of_send (sending_fault s input robust room)
sending_status (Some (held.Receiver r)) input robust room = status.OtherKind
sending_status (Some (held.Bench b)) input robust room = status.OtherKind

-- of judging an arrival by its sequence count and data bytes, with a room of so many bytes
abbrev pub receiving_status : Holding → ℕ → List ℕ → ℕ → CallStatus
receiving_status None count bytes room = status.Closed
receiving_status (Some (held.Sender s)) count bytes room = status.OtherKind
receiving_status (Some (held.Receiver r)) count bytes room = done_or of_receive (receiving_fault r count bytes room)
receiving_status (Some (held.Bench b)) count bytes room = status.OtherKind

-- of saving the state into a room of so many bytes
abbrev pub saving_status : Holding → ℕ → CallStatus
saving_status None room = status.Closed
saving_status (Some (held.Sender s)) room = if nat_lt room (sender_state_room (length s.encoder.masks.mask)) then status.NoRoom else status.Done
saving_status (Some (held.Receiver r)) room = if nat_lt room (receiver_state_room r.reception.decoder.places) then status.NoRoom else status.Done
saving_status (Some (held.Bench b)) room = status.OtherKind
