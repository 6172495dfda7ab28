-- Masks from step to step: one place of mask, build and change, predictable places, and a mask without a change.
use Rattle.std.specs.Option.{is_some}
use Rattle.std.specs.Prelude.{not, ◌||◌}
use Rattle.std.proofs.Common.{◌≡◌, ℕ, zero, suc, ◌-◌, ◌<◌, ◌≤◌, Bool, true, false, cond, length, get_or, refl, sym, ap, ◌∙◌, inl, inr, arith, Option, Some, None, eqb, List, [], ◌∷◌, replicate}
use Rattle.std.proofs.lemmas.Bool.{cases_eq, cases_lt, false≢true, true≢false, or_left}
use Rattle.std.proofs.lemmas.Grind.{common_steps}
use Rattle.std.proofs.lemmas.List.FromFn.{length-map-range_with_len}
use Rattle.bit_vectors.specs.Vectors.{IsOne, xor_bits, or_bits, without_bits}
use Rattle.bit_vectors.proofs.Places.{get_or-zip2_all}
use Rattle.mask_update.specs.Histories.{History, latest_step}
use Rattle.mask_update.specs.Masks.{Moved, build_at, change_at, has_moved, latest_new_mask, mask_at, new_mask_at, next_mask, second_latest_new_mask}
use Rattle.mask_update.proofs.StepByStep.{build_at-places, mask_at-places, place_of, latest_new_mask-le, new_mask_at-latest, length-build_at, length-mask_at, mask_at-suc, moved_at}
use Rattle.packet_decode.specs.State.{mask_after, AreRecent, sent_directions, unpredictable}

-- ---- a bit over the steps

module _ (bit : ℕ → Bool) where
  -- a bit that no step changes stays
  pub stays : (from to : ℕ) → from ≤ to → ((s : ℕ) → from ≤ s → s < to → bit (suc s) ≡ bit s) → bit to ≡ bit from
  stays from zero le same = let start : 0 ≡ from = omega arith in ap bit start
  stays from (suc to) le same =
      elim (cases_eq from (suc to)) [
        | inl at ↦ ap bit (sym at)
        | inr later ↦ same to (omega arith) (omega arith) ∙ stays from to (omega arith) (λ s ge below. same s ge (omega arith))
      ]

  -- the bit is one at this step and zero at the next
  abbrev pub Falls : ℕ → Type 0
  Falls s = (bit s ≡ true) × (bit (suc s) ≡ false)

  -- a bit that is one at first and zero at last falls between
  pub falls : (from to : ℕ) → from ≤ to → bit from ≡ true → bit to ≡ false → (s : ℕ) × (from ≤ s) × (s < to) × Falls s
  falls from zero le one none = let start : 0 ≡ from = omega arith in absurd (false≢true (sym none ∙ ap bit start ∙ one))
  falls from (suc to) le one none =
      elim (cases_eq from (suc to)) [
        | inl at ↦ absurd (true≢false (sym one ∙ ap bit at ∙ none))
        | inr later ↦ fall_in (bit to) refl (omega arith) (falls from to (omega arith) one)
      ]
    where
      fall_in : (b : Bool) → bit to ≡ b → from ≤ to → (bit to ≡ false → (s : ℕ) × (from ≤ s) × (s < to) × Falls s) → (s : ℕ) × (from ≤ s) × (s < suc to) × Falls s
      fall_in true e within before = (to, within, omega arith, (e, none))
      fall_in false e within before = let fall = before e in (fall.0, fall.1, omega (arith, fall.2), fall.3)

-- when exactly one of two bits is one, and when not
pub same_bit : (a b : Bool) → cond a (not b) b ≡ false → b ≡ a
same_bit true true none = refl
same_bit true false none = absurd (true≢false none)
same_bit false true none = absurd (true≢false none)
same_bit false false none = refl

pub none_left : (a b : Bool) → (a || b) ≡ false → a ≡ false
none_left true b none = none
none_left false b none = refl

-- ---- one place of a history

module _ (h : History) (place : ℕ) where
  abbrev pub mask_bit : ℕ → Bool
  mask_bit s = get_or (mask_at h s) place false

  abbrev pub build_bit : ℕ → Bool
  build_bit s = get_or (build_at h s) place false

  abbrev pub change_bit : ℕ → Bool
  change_bit s = get_or (change_at h s) place false

  pub change_bit-suc : (s : ℕ) → change_bit (suc s) ≡ cond (mask_bit s) (not (mask_bit (suc s))) (mask_bit (suc s))
  unfolding change_at
  change_bit-suc s = get_or-zip2_all (λ a b. cond a (not b) b) refl (mask_at h s) (mask_at h (suc s)) place (length-mask_at h s ∙ sym (length-mask_at h (suc s)))

  module _ (within : place < h.places) where
    length-moved_at : (s : ℕ) → length (moved_at h s) ≡ h.places
    length-moved_at s = length-map-range_with_len _ 0 h.places

    -- the mask gathers moves, at a new mask over the build vector
    mask_bit-suc : (s : ℕ) → mask_bit (suc s) ≡ (cond (new_mask_at h (suc s)) (build_bit s) (mask_bit s) || has_moved h (suc s) place)
    mask_bit-suc s = ap (λ v. get_or v place false) (mask_at-suc h s) ∙ next_in (new_mask_at h (suc s))
      where
        next_in : (b : Bool) → get_or (next_mask b (moved_at h (suc s)) (build_at h s) (mask_at h s)) place false ≡ (cond b (build_bit s) (mask_bit s) || has_moved h (suc s) place)
        next_in true =
            get_or-zip2_all (λ a b. a || b) refl (build_at h s) (moved_at h (suc s)) place (length-build_at h s ∙ sym (length-moved_at (suc s)))
            ∙ ap (λ b. build_bit s || b) (place_of h.places (has_moved h (suc s)) place within)
        next_in false =
            get_or-zip2_all (λ a b. a || b) refl (mask_at h s) (moved_at h (suc s)) place (length-mask_at h s ∙ sym (length-moved_at (suc s)))
            ∙ ap (λ b. mask_bit s || b) (place_of h.places (has_moved h (suc s)) place within)

    -- a place falls out of the mask only at a new-mask step whose build vector is without it before
    pub falls-new_mask : (s : ℕ) → Falls mask_bit s → (new_mask_at h (suc s) ≡ true) × (build_bit s ≡ false)
    falls-new_mask s fall = new_in (new_mask_at h (suc s)) refl (sym (mask_bit-suc s) ∙ fall.1)
      where
        new_in : (b : Bool) → new_mask_at h (suc s) ≡ b → (cond b (build_bit s) (mask_bit s) || has_moved h (suc s) place) ≡ false → (new_mask_at h (suc s) ≡ true) × (build_bit s ≡ false)
        new_in true e none = (e, none_left (build_bit s) (has_moved h (suc s) place) none)
        new_in false e none = absurd (true≢false (sym (or_left (mask_bit s) (has_moved h (suc s) place) fall.0) ∙ none))

    -- a place that moves is masked
    pub moved-masked : (s : ℕ) → s ≤ latest_step h → Moved h s place → mask_bit s ≡ true
    unfolding second_latest_new_mask
    moved-masked s le now =
        let before : second_latest_new_mask h s < s = omega (arith, now.0, latest_new_mask-le h s, latest_new_mask-le h (latest_new_mask h s - 1)) in
        (mask_at-places h s place le within).1 (inl (s, before, omega arith, now))

    -- if the build vector is without a place that moved, it was emptied since the move
    pub emptied : (s now : ℕ) → Moved h s place → s ≤ now → now ≤ latest_step h → build_bit now ≡ false → (new : ℕ) × (s ≤ new) × (new ≤ now) × (new_mask_at h new ≡ true)
    emptied s now moved le within_steps none =
        elim (cases_lt (latest_new_mask h now) s) [
          | inl before ↦ absurd (false≢true (sym none ∙ (build_at-places h now place within_steps within).1 (s, before, le, moved)))
          | inr since ↦ (latest_new_mask h now, since, latest_new_mask-le h now, new_mask_at-latest h now (omega (arith, moved.0)))
        ]

-- ---- the mask after changes above level 0, made in two steps: all changes are added, and what became predictable is taken away

-- no change is predictable
pub all_added : (mask recent : List Bool) → or_bits mask recent ≡ or_bits (without_bits mask recent) recent
all_added [] recent = refl
all_added (bit ∷ mask) [] = refl
all_added (true ∷ mask) (true ∷ recent) = ap (λ (v : List Bool). true ∷ v) (all_added mask recent)
all_added (true ∷ mask) (false ∷ recent) = ap (λ (v : List Bool). true ∷ v) (all_added mask recent)
all_added (false ∷ mask) (true ∷ recent) = ap (λ (v : List Bool). true ∷ v) (all_added mask recent)
all_added (false ∷ mask) (false ∷ recent) = ap (λ (v : List Bool). false ∷ v) (all_added mask recent)

-- the places that became predictable are among the changes
pub taken_away : (mask recent predictable : List Bool) → ((place : ℕ) → IsOne predictable place → IsOne recent place)
    → without_bits (or_bits mask recent) predictable ≡ or_bits (without_bits mask recent) (without_bits recent predictable)
taken_away [] recent predictable within = refl
taken_away (bit ∷ mask) [] predictable within = refl
taken_away (true ∷ mask) (change ∷ recent) [] within = refl
taken_away (false ∷ mask) (change ∷ recent) [] within = refl
taken_away (true ∷ mask) (true ∷ recent) (true ∷ predictable) within = ap (λ (v : List Bool). false ∷ v) (taken_away mask recent predictable (λ place. within (suc place)))
taken_away (true ∷ mask) (true ∷ recent) (false ∷ predictable) within = ap (λ (v : List Bool). true ∷ v) (taken_away mask recent predictable (λ place. within (suc place)))
taken_away (true ∷ mask) (false ∷ recent) (false ∷ predictable) within = ap (λ (v : List Bool). true ∷ v) (taken_away mask recent predictable (λ place. within (suc place)))
taken_away (false ∷ mask) (true ∷ recent) (true ∷ predictable) within = ap (λ (v : List Bool). false ∷ v) (taken_away mask recent predictable (λ place. within (suc place)))
taken_away (false ∷ mask) (true ∷ recent) (false ∷ predictable) within = ap (λ (v : List Bool). true ∷ v) (taken_away mask recent predictable (λ place. within (suc place)))
taken_away (false ∷ mask) (false ∷ recent) (false ∷ predictable) within = ap (λ (v : List Bool). false ∷ v) (taken_away mask recent predictable (λ place. within (suc place)))
taken_away (bit ∷ mask) (false ∷ recent) (true ∷ predictable) within = absurd (false≢true (within 0 refl))

by_above : (zero : Bool) (turned made : List Bool) → (zero ≡ true → ⊥) → made ≡ cond zero turned made
by_above true turned made above = absurd (above refl)
by_above false turned made above = refl

not_zero : (level : ℕ) → (level ≡ 0 → ⊥) → eqb level 0 ≡ true → ⊥
not_zero level above same = above (grind (arith, common_steps))

-- the mask after them, if no directions are sent
pub mask_widened : (mask recent predictable : List Bool) (level : ℕ) (twice : Option Bool) → (level ≡ 0 → ⊥) → is_some twice ≡ false
    → or_bits mask recent ≡ mask_after mask (record { recent = recent; level = level; directions = sent_directions twice predictable })
mask_widened mask recent predictable level None above none = all_added mask recent ∙ by_above (eqb level 0) (xor_bits mask recent) (or_bits (without_bits mask recent) recent) (not_zero level above)
mask_widened mask recent predictable level (Some all) above none = absurd (false≢true (sym none))

-- and if they are
pub mask_narrowed : (mask recent predictable : List Bool) (level : ℕ) (twice : Option Bool) → (level ≡ 0 → ⊥) → is_some twice ≡ true → AreRecent twice predictable recent
    → without_bits (or_bits mask recent) predictable ≡ mask_after mask (record { recent = recent; level = level; directions = sent_directions twice predictable })
mask_narrowed mask recent predictable level None above some within = absurd (false≢true some)
mask_narrowed mask recent predictable level (Some all) above some within =
    taken_away mask recent predictable (within refl) ∙ by_above (eqb level 0) (xor_bits mask recent) (or_bits (without_bits mask recent) (without_bits recent predictable)) (not_zero level above)

-- ---- if nothing changed, the mask is the one before

xor_none : (mask : List Bool) → xor_bits mask (replicate (length mask) false) ≡ mask
xor_none [] = refl
xor_none (true ∷ mask) = ap (λ (v : List Bool). true ∷ v) (xor_none mask)
xor_none (false ∷ mask) = ap (λ (v : List Bool). false ∷ v) (xor_none mask)

or_none : (mask : List Bool) → or_bits mask (replicate (length mask) false) ≡ mask
or_none [] = refl
or_none (true ∷ mask) = ap (λ (v : List Bool). true ∷ v) (or_none mask)
or_none (false ∷ mask) = ap (λ (v : List Bool). false ∷ v) (or_none mask)

without_none : (mask : List Bool) → without_bits mask (replicate (length mask) false) ≡ mask
without_none [] = refl
without_none (true ∷ mask) = ap (λ (v : List Bool). true ∷ v) (without_none mask)
without_none (false ∷ mask) = ap (λ (v : List Bool). false ∷ v) (without_none mask)

none_without : (v : List Bool) → without_bits (replicate (length v) false) v ≡ replicate (length v) false
none_without [] = refl
none_without (bit ∷ v) = ap (λ (w : List Bool). false ∷ w) (none_without v)

none_unpredictable : (count : ℕ) (twice : Option Bool) (predictable : List Bool) → length predictable ≡ count → unpredictable (replicate count false) (sent_directions twice predictable) ≡ replicate count false
none_unpredictable count None predictable len = refl
none_unpredictable count (Some twice) predictable len = rw (sym len) (none_without predictable)

by_level : (zero : Bool) (mask rest : List Bool) → rest ≡ replicate (length mask) false → cond zero (xor_bits mask (replicate (length mask) false)) (or_bits (without_bits mask (replicate (length mask) false)) rest) ≡ mask
by_level true mask rest none = xor_none mask
by_level false mask rest none = rw (none, without_none mask) (or_none mask)

pub unchanged_mask : (mask recent : List Bool) (level : ℕ) (twice : Option Bool) (predictable : List Bool) → length mask ≡ length recent → length predictable ≡ length recent → recent ≡ replicate (length recent) false
    → mask_after mask (record { recent = recent; level = level; directions = sent_directions twice predictable }) ≡ mask
unchanged_mask mask recent level twice predictable len places none =
    let recent_is : recent ≡ replicate (length mask) false = none ∙ ap (λ (n : ℕ). replicate n false) (sym len) in
    rw recent_is (by_level (eqb level 0) mask (unpredictable (replicate (length mask) false) (sent_directions twice predictable)) (none_unpredictable (length mask) twice predictable (places ∙ sym len)))
