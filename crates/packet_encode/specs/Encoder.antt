-- What an encoder keeps, and which history it stands for.
use Rattle.std.specs.Prelude.{◌≡◌, ℕ, ◌+◌, ◌*◌, Bool, List, length, None}
use Rattle.std.specs.Bool.{OnTrue}
use Rattle.bit_vectors.specs.Pen.{PenState}
use Rattle.bit_vectors.specs.Vectors.{IsVector}
use Rattle.run_code.specs.Extraction.{extract}
use Rattle.mask_update.specs.Histories.{History}
use Rattle.mask_update.specs.Masks.{Running}
use Rattle.mask_update.specs.Masks.{StandsFor as MasksStandFor}
use Rattle.robust_window.specs.Histories.{mask_steps}
use Rattle.robust_window.specs.Window.{WindowState}
use Rattle.robust_window.specs.Window.{StandsFor as WindowStandsFor}
use Rattle.packet_encode.specs.Forms.{Part, data_bits}

-- the running vectors, and the window over their changes
pub record EncoderState : Type 0 where
  pub masks : Running
  pub window : WindowState

-- masks and window are those of the history
pub record StandsFor (h : History) (value : EncoderState) : Type 0 where
  pub masks : MasksStandFor h value.masks
  pub window : WindowStandsFor (mask_steps h) value.window

-- the data of a packet of the latest input with no recent change that has neither its mask nor its whole content
abbrev pub plain_data : Running → List Bool
plain_data masks = data_bits None (Part (extract masks.previous masks.mask))

-- mask, recent changes and workspace vector have a bit for each of `f` places
abbrev pub HavePlaces : ℕ → List Bool → List Bool → List Bool → Type 0
HavePlaces f mask recent workspace = (length mask ≡ f) × (length recent ≡ f) × (length workspace ≡ f)

-- Masks and window have taken the same number of steps, of vectors of the same length. What is kept has room for a packet,
-- and if data are kept, they are plain ones of the latest input.
pub record IsEncoder (masks : Running) (window : WindowState) (workspace : List Bool) (kept : PenState) (is_kept : Bool) : Type 0 where
  pub vector : IsVector masks.mask
  pub places : length window.recent ≡ length masks.mask
  pub taken : window.taken ≡ masks.taken
  pub workspace_places : length workspace ≡ length masks.mask
  pub room : kept.room ≡ 10 * length masks.mask + 43
  pub bits : OnTrue is_kept (kept.bits ≡ plain_data masks)
