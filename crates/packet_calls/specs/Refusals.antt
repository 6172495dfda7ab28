-- Why a call gives nothing: the first of what is amiss.
use Rattle.std.specs.Prelude.{ℕ, ◌^◌, ◌==◌, nat_lt, not, ◌||◌, if◌then◌else◌, List, length, Option, None, Some, Result, Ok, Err}
use Rattle.bit_vectors.specs.Vectors.{byte_count, has_spare_bit, most_places}
use Rattle.packet_store.specs.SpacePackets.{period}
use Rattle.ground_chain.specs.Reception.{Reckoning}
use Rattle.packet_calls.specs.declared.fault.OpenFault.{OpenFault}
use Rattle.packet_calls.specs.declared.fault.OpenFault.TheVariants as open_fault
use Rattle.packet_calls.specs.declared.fault.SendFault.{SendFault}
use Rattle.packet_calls.specs.declared.fault.SendFault.TheVariants as send_fault
use Rattle.packet_calls.specs.declared.fault.ReceiveFault.{ReceiveFault}
use Rattle.packet_calls.specs.declared.fault.ReceiveFault.TheVariants as receive_fault
use Rattle.packet_calls.specs.Sending.{SenderState, mask_fits, mask_has_spare_bit, room_bytes}

-- why a call gave nothing, if it gave nothing
abbrev pub fault_in : {A B : Type 0} → Result A B → Option B
fault_in (Ok done) = None
fault_in (Err fault) = Some fault

-- what is amiss with a number of places and a first mask
abbrev pub opening_fault : ℕ → Option (List ℕ) → Option OpenFault
opening_fault places mask =
    if places == 0 || nat_lt most_places places then Some open_fault.Places
    else if not (mask_fits places mask) then Some open_fault.MaskLength
    else if mask_has_spare_bit places mask then Some open_fault.MaskSpareBit
    else None

-- what is amiss with an input, its required robustness and a room of so many bytes for its packet
abbrev pub sending_fault : SenderState → List ℕ → ℕ → ℕ → Option SendFault
sending_fault s input robust room =
    let f = length s.encoder.masks.mask in
    if not (length input == byte_count f) then Some send_fault.InputLength
    else if has_spare_bit f input then Some send_fault.SpareBit
    else if nat_lt 7 robust then Some send_fault.Robust
    else if nat_lt room (room_bytes f) then Some send_fault.NoRoom
    else if nat_lt s.encoder.masks.taken (2 ^ 32) then None
    else Some send_fault.TooMany

-- what is amiss with an arrival of this sequence count, its data bytes and a room of so many bytes for its content
abbrev pub receiving_fault : Reckoning → ℕ → List ℕ → ℕ → Option ReceiveFault
receiving_fault r count bytes room =
    if not (nat_lt count period) then Some receive_fault.Count
    else if nat_lt 65536 (length bytes) then Some receive_fault.TooLong
    else if nat_lt room (byte_count r.reception.decoder.places) then Some receive_fault.NoRoom
    else if nat_lt r.restored.packets (2 ^ 32) then None
    else Some receive_fault.TooMany
