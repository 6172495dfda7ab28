-- The bytes of an encoder in a saved state.
use Rattle.std.specs.Prelude.{◌≡◌, ℕ, ◌+◌, List}
use Rattle.mask_update.specs.Saved.{IsRunning, running_before, running_room}
use Rattle.robust_window.specs.Saved.{IsWindowState, window_bytes, window_room}
use Rattle.packet_encode.specs.Encoder.{EncoderState}

-- the running vectors, and then the window
unfoldable pub encoder_bytes : EncoderState → List ℕ
encoder_bytes e = running_before e.masks (window_bytes e.window)

-- the most bytes of an encoder of inputs of f places
abbrev pub encoder_room : ℕ → ℕ
encoder_room f = running_room f + window_room f

-- what an encoder of inputs of f places may be
pub record IsEncoderState (f : ℕ) (e : EncoderState) : Type 0 where
  pub masks : IsRunning f e.masks
  pub window : IsWindowState f e.window
  pub taken : e.window.taken ≡ e.masks.taken

-- the bytes are those of such an encoder
pub record AreOfEncoder (f : ℕ) (bytes : List ℕ) : Type 0 where
  pub encoder : EncoderState
  pub valid : IsEncoderState f encoder
  pub bytes_are : bytes ≡ encoder_bytes encoder
