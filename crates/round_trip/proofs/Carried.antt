-- A packet that carries its mask and whole content tells both, whatever of the packets before it is known.
use Rattle.std.proofs.Common.{◌≡◌, ℕ, zero, suc, ◌<◌, ◌≤◌, Bool, true, false, cond, List, [], ◌∷◌, length, get_or, replicate, Option, Some, None, refl, sym, ap, ◌∙◌, subst, arith}
use Rattle.std.proofs.lemmas.List.{length-append, length-replicate}
use Rattle.std.specs.Prelude.{◌||◌, ◌&&◌, nat_le, IfSome}
use Rattle.bit_vectors.specs.declared.flags.Flags.{Flags}
use Rattle.mask_update.specs.Histories.{History, IsValid, Step, flags_at, forced_flags, input_at, no_steps, step_of}
use Rattle.mask_update.specs.Masks.{change_at, mask_at}
use Rattle.mask_update.proofs.StepByStep.{IsValid-history_of, mask_at-zero}
use Rattle.mask_update.proofs.Standing.{step_at-last}
use Rattle.robust_window.specs.Changes.{recent_of}
use Rattle.robust_window.specs.Histories.{IsLevel, level_at, recent_at}
use Rattle.robust_window.proofs.OfHistories.{IsLevel-level_at}
use Rattle.robust_window.proofs.Standing.{gathered-none}
use Rattle.packet_encode.specs.Deliveries.{reaches}
use Rattle.packet_encode.specs.Encoder.{EncoderState, StandsFor}
use Rattle.packet_encode.specs.Forms.{form_at, packet_at}
use Rattle.packet_decode.specs.State.{Decoding, is_content_told, is_mask_told, true_state, known_if, no_vectors}
use Rattle.packet_decode.specs.Spelling.{Spells}
use Rattle.packet_decode.proofs.OfHistories.{told-spelled}
use Rattle.round_trip.specs.Carrying.{AreInStep, with_forced_input}

module _ (h : History) (input : List Bool) (mask content : Option ℕ) where
  abbrev after : History
  after = with_forced_input h input

  abbrev t : ℕ
  t = length h.steps

  abbrev step : Step
  step = step_of (λ _. forced_flags) (λ _. 0) (t, input)

  flags_same : (is_first : Bool) → cond is_first forced_flags forced_flags ≡ forced_flags
  flags_same true = refl
  flags_same false = refl

  flags_are : flags_at after t ≡ forced_flags
  flags_are = ap (λ (s : Step). s.flags) (step_at-last h step) ∙ flags_same (nat_le t 0)

  mask_told : is_mask_told after mask t ≡ true
  mask_told = ap (λ (flags : Flags). flags.f || reaches mask t (level_at after t)) flags_are

  content_told : is_content_told after mask content t ≡ true
  content_told = ap (λ (flags : Flags). flags.r || is_mask_told after mask t && reaches content t (level_at after t)) flags_are

  mask_known : known_if (is_mask_told after mask t) (mask_at after t) ≡ Some (mask_at after t)
  mask_known = ap (λ (b : Bool). known_if b (mask_at after t)) mask_told

  content_known : known_if (is_content_told after mask content t) (input_at after t) ≡ Some input
  content_known = ap (λ (b : Bool). known_if b (input_at after t)) content_told ∙ ap (λ (s : Step). Some s.input) (step_at-last h step)

  within : t < length after.steps
  within = omega (arith, length-append h.steps (step ∷ []))

  pub carried : IsValid after → IfSome mask (λ s. s < t) → IfSome content (λ s. s < t)
      → Spells h.places (true_state after mask content) t (packet_at after t) (form_at after t) (Some (mask_at after t)) (Some input)
  carried valid masks contents =
      subst (λ m. Spells h.places (true_state after mask content) t (packet_at after t) (form_at after t) m (Some input)) mask_known
      (subst (λ v. Spells h.places (true_state after mask content) t (packet_at after t) (form_at after t) (known_if (is_mask_told after mask t) (mask_at after t)) v) content_known
      (told-spelled after t valid within mask content masks contents (ap (λ (told : Bool). told || (flags_at after t).r) mask_told)))

pub places_are : (h : History) (input : List Bool) → IsValid (with_forced_input h input) → length input ≡ h.places
places_are h input valid =
    let step : Step = step_of (λ _. forced_flags) (λ _. 0) (length h.steps, input) in
    sym (ap (λ (s : Step). length s.input) (step_at-last h step)) ∙ valid.inputs (length h.steps) (omega (arith, length-append h.steps (step ∷ [])))

-- ---- the first packet

pub first-valid : (mask input : List Bool) → 1 ≤ length mask → length mask ≤ 49152 → length input ≡ length mask → IsValid (with_forced_input (no_steps mask) input)
first-valid mask input some most len =
    IsValid-history_of (input ∷ []) (λ _. forced_flags) (λ _. 0) (length mask) mask (some, most) refl (omega arith) all (λ t. omega arith)
  where
    all : (i : ℕ) (d : List Bool) → i < 1 → length (get_or (input ∷ []) i d) ≡ length mask
    all zero d lt = len
    all (suc i) d lt = absurd (omega arith)

pub first_mask : (mask input : List Bool) → mask_at (with_forced_input (no_steps mask) input) 0 ≡ mask
first_mask mask input = mask_at-zero (with_forced_input (no_steps mask) input) refl

pub first-in_step : (mask input : List Bool) (encoder : EncoderState) (decoder : Decoding) → 1 ≤ length mask → length mask ≤ 49152 → length input ≡ length mask → StandsFor (no_steps mask) encoder → decoder.state ≡ no_vectors
    → AreInStep (no_steps mask) None None input encoder decoder
first-in_step mask input encoder decoder some most len stands known = record {
  valid = first-valid mask input some most len;
  stands = stands;
  masks = tt;
  contents = tt;
  known = known;
}

pub first_level : (mask input : List Bool) → level_at (with_forced_input (no_steps mask) input) 0 ≡ 0
first_level mask input =
    let is : IsLevel (with_forced_input (no_steps mask) input) 0 (level_at (with_forced_input (no_steps mask) input) 0) = IsLevel-level_at (with_forced_input (no_steps mask) input) 0 (omega arith) in
    omega (arith, is.most)

pub first_recent : (mask input : List Bool) → recent_at (with_forced_input (no_steps mask) input) 0 ≡ replicate (length mask) false
unfolding recent_of change_at
first_recent mask input = sym (gathered-none (length (replicate (length mask) false)) []) ∙ ap (λ (n : ℕ). replicate n false) (length-replicate (length mask) false)
