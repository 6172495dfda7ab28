-- The room of a line.
use Rattle.std.specs.Prelude.{◌≡◌, ℕ, ◌≤◌}

-- the text begins within the room, and there is never more room, so that no memory is taken
pub record IsLine (start room capacity : ℕ) : Type 0 where
  pub within : start ≤ 8481
  pub whole : room ≡ 8481
  pub taken : capacity ≡ 8481
