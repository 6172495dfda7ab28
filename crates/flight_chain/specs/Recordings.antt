-- Recordings: packets of one length one after the other, each the bytes of an input vector. The walk over one: the inputs of
-- its packets in order, and how it ends.
use Rattle.std.specs.Prelude.{ℕ, zero, suc, ◌+◌, ◌^◌, Bool, ◌==◌, nat_lt, if◌then◌else◌, List, [], ◌∷◌, ◌++◌, length, take, drop, Option, Some, None}
use Rattle.std.specs.List.{flat_map}
use Rattle.bit_vectors.specs.Vectors.{bits_of, byte_count, has_spare_bit, vector_bytes}
use Rattle.desk_ports.specs.Courses.{WalkOver}
use Rattle.flight_chain.specs.declared.fault.RecordFault.{RecordFault}
use Rattle.flight_chain.specs.declared.fault.RecordFault.TheVariants.{CutRecord, SpareBit, TooMany}

-- the recording of these inputs
abbrev pub recording_of : List (List Bool) → List ℕ
recording_of inputs = flat_map vector_bytes inputs

-- the bytes of the first packet, if vectors have f places
abbrev pub first_packet : ℕ → List ℕ → List ℕ
first_packet f bytes = take (byte_count f) bytes

-- its input
abbrev pub first_input : ℕ → List ℕ → List Bool
first_input f bytes = take f (bits_of (first_packet f bytes))

-- Why these bytes, at least one, don't begin with the packet t; the first reason decides: no packet may have this
-- number, they end inside it, or a spare bit is one.
abbrev pub fault_at : ℕ → ℕ → List ℕ → Option RecordFault
fault_at f t bytes =
    if t == 2 ^ 32 then Some TooMany
    else if nat_lt (length bytes) (byte_count f) then Some (CutRecord t)
    else if has_spare_bit f (first_packet f bytes) then Some (SpareBit t)
    else None

-- a walk: the inputs in order, the bytes after their packets, and why these are not walked, none if nothing is left
pub record RecordingWalk : Type 0 where
  pub inputs : List (List Bool)
  pub rest : List ℕ
  pub ending : Option RecordFault

abbrev pub walked : RecordingWalk
walked = record { inputs = []; rest = []; ending = None }

abbrev pub stopped_at : RecordFault → List ℕ → RecordingWalk
stopped_at fault bytes = record { inputs = []; rest = bytes; ending = Some fault }

-- one input, and then a walk
abbrev pub input_first : List Bool → RecordingWalk → RecordingWalk
input_first input walk = record walk { inputs = input ∷ walk.inputs }

abbrev pub by_fault : Option RecordFault → List ℕ → RecordingWalk → RecordingWalk
by_fault None bytes walk = walk
by_fault (Some fault) bytes walk = stopped_at fault bytes

-- one step of a walk, which goes on after the packet t
abbrev pub recording_step : ℕ → ℕ → List ℕ → (List ℕ → RecordingWalk) → RecordingWalk
recording_step f t [] on = walked
recording_step f t (b ∷ bytes) on =
    by_fault (fault_at f t (b ∷ bytes)) (b ∷ bytes) (input_first (first_input f (b ∷ bytes)) (on (drop (byte_count f) (b ∷ bytes))))

-- the walk in at most so many steps
unfoldable pub recording_walk_by : ℕ → ℕ → ℕ → List ℕ → RecordingWalk
recording_walk_by zero f t bytes = walked
recording_walk_by (suc steps) f t bytes = recording_step f t bytes (λ rest. recording_walk_by steps f (t + 1) rest)

-- the walk over the rest of a recording, which goes on with the packet t
unfoldable pub recording_walk_from : ℕ → ℕ → List ℕ → RecordingWalk
recording_walk_from f t bytes = recording_walk_by (length bytes) f t bytes

-- the same over the bytes that are ahead and then those that are left: its inputs, and how it ends
abbrev pub walk_over : ℕ → ℕ → List ℕ → WalkOver (List Bool) RecordFault
walk_over f t ahead = record { items = λ bytes. (recording_walk_from f t (ahead ++ bytes)).inputs; ending = λ bytes. (recording_walk_from f t (ahead ++ bytes)).ending }

-- the walk over a recording, if vectors have f places
abbrev pub recording_walk : ℕ → List ℕ → RecordingWalk
recording_walk f bytes = recording_walk_from f 0 bytes

-- why these bytes are not walked, if they stand after t packets
abbrev pub ending_at : ℕ → ℕ → List ℕ → Option RecordFault
ending_at f t [] = None
ending_at f t (b ∷ bytes) = fault_at f t (b ∷ bytes)
