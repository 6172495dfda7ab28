-- The bytes of an encoder in a saved state.
use Rattle.std.proofs.Common.{◌≡◌, ℕ, ◌+◌, ◌*◌, ◌≤◌, List, length, refl, sym, ap, ◌∙◌, arith}
use Rattle.bit_vectors.specs.Vectors.{byte_count}
use Rattle.mask_update.specs.Masks.{Running}
use Rattle.mask_update.specs.Saved.{BeginsRunning, running_before}
use Rattle.mask_update.proofs.Standing.{running_agree, running_size}
use Rattle.robust_window.specs.Saved.{AreOfWindow, window_bytes}
use Rattle.robust_window.proofs.SavedWindows.{at_step, bytes_at, valid_at, window_size, windows_agree}
use Rattle.packet_encode.specs.Encoder.{EncoderState}
use Rattle.packet_encode.specs.Saved.{AreOfEncoder, IsEncoderState, encoder_bytes}

pub begins : (f : ℕ) (e : EncoderState) (bytes : List ℕ) → IsEncoderState f e → bytes ≡ encoder_bytes e → BeginsRunning f e.masks bytes (window_bytes e.window)
unfolding encoder_bytes
begins f e bytes valid is = record { valid = valid.masks; bytes_are = is }

pub window_of : (f : ℕ) (e : EncoderState) (rest : List ℕ) → IsEncoderState f e → rest ≡ window_bytes e.window → AreOfWindow f rest
window_of f e rest valid is = record { window = e.window; valid = valid.window; bytes_are = is }

pub encoder_made : (f : ℕ) (bytes rest : List ℕ) → (m : Running) × BeginsRunning f m bytes rest → AreOfWindow f rest → AreOfEncoder f bytes
unfolding encoder_bytes
encoder_made f bytes rest first second =
    let window = valid_at f second.window first.0.taken first.1.valid.most second.valid in
    record {
      encoder = record { masks = first.0; window = at_step second.window first.0.taken };
      valid = record { masks = first.1.valid; window = window; taken = refl };
      bytes_are = first.1.bytes_are ∙ ap (λ (xs : List ℕ). running_before first.0 xs) (second.bytes_are ∙ sym (bytes_at second.window first.0.taken));
    }

-- the most bytes of an encoder
pub encoder_size : (f : ℕ) (e : EncoderState) → IsEncoderState f e → length (encoder_bytes e) ≤ 12 + 21 * (byte_count f + 1)
unfolding encoder_bytes
encoder_size f e valid = omega (arith, running_size f e.masks (window_bytes e.window) valid.masks, window_size f e.window valid.window)

-- what has the same bytes
pub encoders_agree : (f : ℕ) (a b : EncoderState) → IsEncoderState f a → IsEncoderState f b → encoder_bytes a ≡ encoder_bytes b → a ≡ b
unfolding encoder_bytes
encoders_agree f a b first second e =
    let masks = running_agree f a.masks b.masks (window_bytes a.window) (window_bytes b.window) first.masks second.masks e in
    let taken = first.taken ∙ ap (λ (m : Running). m.taken) masks.0 ∙ sym second.taken in
    let window = windows_agree f a.window b.window first.window second.window taken masks.1 in
    λ i. record { masks = masks.0 i; window = window i }
