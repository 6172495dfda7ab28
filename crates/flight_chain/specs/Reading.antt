-- A reading of one packet of a recording: what stands after each of its answers.
use Rattle.std.specs.Prelude.{◌≡◌, ℕ, ◌+◌, ◌^◌, ◌<◌, Bool, List, [], ◌++◌, length, IfSome}
use Rattle.bit_vectors.specs.Vectors.{byte_count}
use Rattle.desk_ports.specs.Meanings.{Meanings, Moves, left, Stop, Data, ReadFault, WriteFault}
use Rattle.desk_ports.specs.declared.desk.Inlet.TheVariants as inlet
use Rattle.flight_chain.specs.declared.fault.RecordFault.{RecordFault}
use Rattle.flight_chain.specs.Recordings.{recording_walk_from, input_first, stopped_at}

-- Some bytes were read after those that were ahead, and nothing else happened. The packet t with this input was taken,
-- and the walk goes on after it.
pub record TakesInput (f t : ℕ) (before after : List ℕ) (old new : Meanings) (input : List Bool) : Type 0 where
  pub taken : List ℕ
  pub moved : Moves old new inlet.Main taken
  pub places : length input ≡ f
  pub few : t < 2 ^ 32
  pub goes_on : (rest : List ℕ) → recording_walk_from f t (before ++ (taken ++ rest)) ≡ input_first input (recording_walk_from f (t + 1) (after ++ rest))

-- The walk ends with this fault before the packet t, when these bytes were ahead.
pub record Stops (f t : ℕ) (before : List ℕ) (old new : Meanings) (fault : RecordFault) : Type 0 where
  pub taken : List ℕ
  pub rest : List ℕ
  pub moved : Moves old new inlet.Main taken
  pub told : IfSome (left new inlet.Main) (λ bytes. bytes ≡ rest)
  pub ends : recording_walk_from f t (before ++ (taken ++ rest)) ≡ stopped_at fault (before ++ (taken ++ rest))

-- A reading failed: with what was read before it, less than a packet is ahead.
pub record Waits (f t : ℕ) (before : List ℕ) (old new : Meanings) : Type 0 where
  pub taken : List ℕ
  pub moved : Moves old new inlet.Main taken
  pub short : length (before ++ taken) < byte_count f
  pub none : (recording_walk_from f t (before ++ taken)).inputs ≡ []

-- after a packet that was not read, by the reason to end the run, when these bytes were ahead
abbrev pub AfterUnread : ℕ → ℕ → List ℕ → Meanings → Meanings → Stop RecordFault → Type 0
AfterUnread f t before old new (Data fault) = Stops f t before old new fault
AfterUnread f t before old new ReadFault = Waits f t before old new
AfterUnread f t before old new WriteFault = ⊥
