-- A writer of a store.
use Rattle.std.specs.Prelude.{◌≡◌, ℕ, ◌≤◌}

-- the APID of the packets that it writes
pub record WriterState : Type 0 where
  pub apid : ℕ

-- the APID is no idle one, and the room is that of one packet and never more, so that no memory is taken
pub record IsWriter (apid room capacity : ℕ) : Type 0 where
  pub chosen : apid ≤ 2046
  pub whole : room ≡ 65542
  pub taken : capacity ≡ 65542
