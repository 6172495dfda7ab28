-- The numbers of statuses, which of them an answer is, and which status a fault is.
use Rattle.std.specs.Prelude.{◌≡◌, ℕ, ◌⊎◌, List, [], ◌∷◌}
use Rattle.packet_calls.specs.declared.fault.OpenFault.{OpenFault}
use Rattle.packet_calls.specs.declared.fault.OpenFault.TheVariants as open_fault
use Rattle.packet_calls.specs.declared.fault.LoadFault.{LoadFault}
use Rattle.packet_calls.specs.declared.fault.LoadFault.TheVariants as load
use Rattle.packet_calls.specs.declared.fault.SendFault.{SendFault}
use Rattle.packet_calls.specs.declared.fault.SendFault.TheVariants as send
use Rattle.packet_calls.specs.declared.fault.ReceiveFault.{ReceiveFault}
use Rattle.packet_calls.specs.declared.fault.ReceiveFault.TheVariants as receive
use Rattle.pocket_c.specs.declared.status.CallStatus.{CallStatus}
use Rattle.pocket_c.specs.declared.status.CallStatus.TheVariants as status

abbrev pub status_number : CallStatus → ℕ
status_number status.Done = 0
status_number status.NoMemory = 1
status_number status.Closed = 2
status_number status.Open = 3
status_number status.OtherKind = 4
status_number status.Places = 5
status_number status.MaskLength = 6
status_number status.MaskSpareBit = 7
status_number status.InputLength = 8
status_number status.SpareBit = 9
status_number status.Robust = 10
status_number status.NoRoom = 11
status_number status.TooMany = 12
status_number status.Count = 13
status_number status.TooLong = 14
status_number status.NoText = 15
status_number status.TooManyWords = 16
status_number status.NotKept = 17
status_number status.NoState = 252
status_number status.OtherState = 253

-- the answer is the number of one of these statuses
abbrev pub IsOneOf : ℕ → List CallStatus → Type 0
IsOneOf answer [] = ⊥
IsOneOf answer (status ∷ statuses) = (answer ≡ status_number status) ⊎ IsOneOf answer statuses

abbrev pub of_open : OpenFault → CallStatus
of_open open_fault.Places = status.Places
of_open open_fault.MaskLength = status.MaskLength
of_open open_fault.MaskSpareBit = status.MaskSpareBit
of_open open_fault.NoMemory = status.NoMemory

abbrev pub of_send : SendFault → CallStatus
of_send send.InputLength = status.InputLength
of_send send.SpareBit = status.SpareBit
of_send send.Robust = status.Robust
of_send send.NoRoom = status.NoRoom
of_send send.TooMany = status.TooMany

abbrev pub of_receive : ReceiveFault → CallStatus
of_receive receive.Count = status.Count
of_receive receive.TooLong = status.TooLong
of_receive receive.NoRoom = status.NoRoom
of_receive receive.TooMany = status.TooMany

abbrev pub of_load : LoadFault → CallStatus
of_load load.NoState = status.NoState
of_load load.OtherState = status.OtherState
