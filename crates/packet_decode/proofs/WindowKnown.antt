-- What is known since a packet which the effective robustness level reaches: its mask, and its content outside the extracted places.
use Rattle.std.specs.Prelude.{not, ◌&&◌, ◌||◌}
use Rattle.std.proofs.Common.{◌≡◌, ℕ, suc, ◌-◌, ◌<◌, ◌≤◌, Bool, true, false, cond, List, length, get_or, Option, refl, sym, ap, ◌∙◌, subst, inl, inr, arith, ◌≢◌, Some, None}
use Rattle.std.proofs.lemmas.Bool.{cases_eq, cases_lt, eq-eqb, ne_eqb, false≢true, false_from_ne_true, and_from, or_right, true≢false}
use Rattle.std.proofs.lemmas.List.{ext_get_or, get_or-replicate, get_or_default, get_or_past}
use Rattle.std.proofs.lemmas.Simd.{length-zip2}
use Rattle.bit_vectors.specs.Vectors.{IsOne, xor_bits, or_bits, without_bits}
use Rattle.bit_vectors.proofs.Places.{get_or-zip2_all}
use Rattle.run_code.specs.Extraction.{SameOutside}
use Rattle.mask_update.specs.Histories.{History, robust_at, IsValid, input_at}
use Rattle.mask_update.specs.Masks.{change_at, mask_at, Moved, input_bit, new_mask_at}
use Rattle.mask_update.proofs.StepByStep.{length-mask_at}
use Rattle.robust_window.specs.Histories.{IsLevel, level_at, recent_at, twice_at, Twice}
use Rattle.robust_window.proofs.OfHistories.{IsLevel-level_at, length-recent_at, recent_at-places, twice_at-meaning}
use Rattle.packet_encode.specs.Forms.{Directions, directions_of, form_at, wide, wide_by}
use Rattle.packet_encode.proofs.Packets.{directions-none, directions-some, has_one, has_one-some}
use Rattle.packet_decode.specs.State.{deduced_mask, mask_after, unpredictable}
use Rattle.packet_decode.proofs.PlaceByStep.{change_bit, change_bit-suc, mask_bit, same_bit, stays, Falls, build_bit, emptied, falls, falls-new_mask, moved-masked, none_left}

-- ---- bits

same_bits : (a b : Bool) → (a ≡ true → b ≡ true) → (b ≡ true → a ≡ true) → a ≡ b
same_bits true true forth back = refl
same_bits true false forth back = sym (forth refl)
same_bits false true forth back = back refl
same_bits false false forth back = refl

-- a bit that is turned if another one differs from it is that other one
turned_back : (a b : Bool) → cond a (not (cond a (not b) b)) (cond a (not b) b) ≡ b
turned_back true true = refl
turned_back true false = refl
turned_back false true = refl
turned_back false false = refl

-- the new bit, if no place became predictable, and if some may have become so
all_unpredictable : (old recent new : Bool) → (recent ≡ false → new ≡ old) → (recent && not new) ≡ false → ((old && not recent) || recent) ≡ new
all_unpredictable true true true same none = refl
all_unpredictable false true true same none = refl
all_unpredictable old true false same none = absurd (false≢true (sym none))
all_unpredictable true false new same none = sym (same refl)
all_unpredictable false false new same none = sym (same refl)

by_directions : (old recent new : Bool) → (recent ≡ false → new ≡ old) → ((old && not recent) || (recent && not (recent && not new))) ≡ new
by_directions true true true same = refl
by_directions false true true same = refl
by_directions true true false same = refl
by_directions false true false same = refl
by_directions true false new same = sym (same refl)
by_directions false false new same = sym (same refl)

pub has_one-at : (v : List Bool) (place : ℕ) → place < length v → IsOne v place → has_one v ≡ true
has_one-at v place within one = has_one-some v (place, within, get_or_default v place true false within ∙ one)

-- ---- the mask after another one

mask_after-level_zero : (mask recent : List Bool) (level : ℕ) (directions : Option Directions) → level ≡ 0 → mask_after mask (record { recent = recent; level = level; directions = directions }) ≡ xor_bits mask recent
mask_after-level_zero mask recent level directions zero_is =
    ap (λ b. cond b (xor_bits mask recent) (or_bits (without_bits mask recent) (unpredictable recent directions))) (eq-eqb level 0 zero_is)

mask_after-level_above : (mask recent : List Bool) (level : ℕ) (directions : Option Directions) → (level ≡ 0 → ⊥)
    → mask_after mask (record { recent = recent; level = level; directions = directions }) ≡ or_bits (without_bits mask recent) (unpredictable recent directions)
mask_after-level_above mask recent level directions above =
    ap (λ b. cond b (xor_bits mask recent) (or_bits (without_bits mask recent) (unpredictable recent directions))) (ne_eqb level 0 above)

-- ---- an earlier packet that the level of a step reaches

module _ (h : History) (earlier t : ℕ) (lt : t < length h.steps) (before : earlier < t) (near : t - 1 - earlier ≤ level_at h t) where
  abbrev old : List Bool
  old = mask_at h earlier

  abbrev new : List Bool
  new = mask_at h t

  abbrev recent : List Bool
  recent = recent_at h t

  abbrev directions : Option Directions
  directions = directions_of new recent (level_at h t) (twice_at h t)

  old_len : length old ≡ h.places
  old_len = length-mask_at h earlier

  new_len : length new ≡ h.places
  new_len = length-mask_at h t

  recent_len : length recent ≡ h.places
  recent_len = length-recent_at h t lt

  level : IsLevel h t (level_at h t)
  level = IsLevel-level_at h t lt

  module _ (place : ℕ) (within : place < h.places) where
    -- what changed since the packet is a recent change: the steps before those leave the mask
    pub changed-recent : (s : ℕ) → earlier < s → s ≤ t → IsOne (change_at h s) place → IsOne (recent_at h t) place
    changed-recent s after le one =
        elim (cases_lt s (t - robust_at h t)) [
          | inl early ↦
              let none : change_bit h place s ≡ false = ap (λ v. get_or v place false) (level.quiet s (omega arith) early) ∙ get_or-replicate h.places place false false within in
              absurd (false≢true (sym none ∙ one))
          | inr late ↦ (recent_at-places h t place lt within).1 (s, late, le, one)
        ]

    -- outside the recent changes the mask is that of the packet
    outside : get_or recent place false ≡ false → mask_bit h place t ≡ mask_bit h place earlier
    outside none =
        stays (mask_bit h place) earlier t (omega arith) (λ s ge below.
        same_bit (mask_bit h place s) (mask_bit h place (suc s))
        (sym (change_bit-suc h place s)
        ∙ false_from_ne_true (change_bit h place (suc s)) (λ one. false≢true (sym none ∙ changed-recent (suc s) (omega arith) (omega arith) one))))

    -- at level 0 the packet is that of the step before, and the recent changes are those of the step
    at_level_zero : level_at h t ≡ 0 → cond (mask_bit h place earlier) (not (get_or recent place false)) (get_or recent place false) ≡ mask_bit h place t
    at_level_zero none = ap (λ b. cond (mask_bit h place earlier) (not b) b) (same ∙ change) ∙ turned_back (mask_bit h place earlier) (mask_bit h place t)
      where
        next : suc earlier ≡ t
        next = omega arith

        forth : IsOne recent place → IsOne (change_at h t) place
        forth one =
            let found = (recent_at-places h t place lt within).0 one in
            let at : found.0 ≡ t = omega (arith, found.1, found.2, level.least) in
            ap (change_bit h place) (sym at) ∙ found.3

        same : get_or recent place false ≡ change_bit h place t
        same = same_bits (get_or recent place false) (change_bit h place t) forth (changed-recent t before (omega arith))

        change : change_bit h place t ≡ cond (mask_bit h place earlier) (not (mask_bit h place t)) (mask_bit h place t)
        change = subst (λ s. change_bit h place s ≡ cond (mask_bit h place earlier) (not (mask_bit h place s)) (mask_bit h place s)) next (change_bit-suc h place earlier)

  -- ---- all places

  abbrev left : List Bool
  left = without_bits recent new

  left_bit : (place : ℕ) → get_or left place false ≡ (get_or recent place false && not (get_or new place false))
  left_bit place = get_or-zip2_all (λ a b. a && not b) refl recent new place (recent_len ∙ sym new_len)

  left_len : length left ≡ length recent
  left_len = length-zip2 _ recent new (recent_len ∙ sym new_len)

  abbrev kept : List Bool
  kept = without_bits old recent

  kept_bit : (place : ℕ) → get_or kept place false ≡ (get_or old place false && not (get_or recent place false))
  kept_bit place = get_or-zip2_all (λ a b. a && not b) refl old recent place (old_len ∙ sym recent_len)

  kept_len : length kept ≡ h.places
  kept_len = length-zip2 _ old recent (old_len ∙ sym recent_len) ∙ old_len

  -- what is left of the old mask with the new changes is the new mask, if it is so at each place
  new_by_places : (changed : List Bool) → length changed ≡ h.places → ((place : ℕ) → place < h.places → ((get_or old place false && not (get_or recent place false)) || get_or changed place false) ≡ get_or new place false)
      → or_bits kept changed ≡ new
  new_by_places changed len bits =
      let same : length kept ≡ length changed = kept_len ∙ sym len in
      ext_get_or false (or_bits kept changed) new (length-zip2 _ kept changed same ∙ kept_len ∙ sym new_len) (λ place below.
      get_or-zip2_all (λ a b. a || b) refl kept changed place same
      ∙ ap (λ b. b || get_or changed place false) (kept_bit place)
      ∙ bits place (omega (arith, length-zip2 (λ a b. a || b) kept changed same, kept_len)))

  -- above level 0: no place became predictable, or the directions name those that did
  by_naming : (level_at h t ≡ 0 → ⊥) → (b : Bool) → has_one left ≡ b → or_bits kept (unpredictable recent directions) ≡ new
  by_naming above false none =
      ap (λ d. or_bits kept (unpredictable recent d)) (directions-none new recent (level_at h t) (twice_at h t) none)
      ∙ new_by_places recent recent_len (λ place within.
      all_unpredictable (get_or old place false) (get_or recent place false) (get_or new place false) (outside place within)
      (sym (left_bit place) ∙ false_from_ne_true (get_or left place false) (λ one. false≢true (sym none ∙ has_one-at left place (omega (arith, left_len, recent_len)) one))))
  by_naming above true some =
      ap (λ d. or_bits kept (unpredictable recent d)) (directions-some new recent (level_at h t) (twice_at h t) (omega arith) some)
      ∙ new_by_places (without_bits recent left) (length-zip2 _ recent left (sym left_len) ∙ recent_len) (λ place within.
      ap (λ b. (get_or old place false && not (get_or recent place false)) || b)
      (get_or-zip2_all (λ a b. a && not b) refl recent left place (sym left_len) ∙ ap (λ b. get_or recent place false && not b) (left_bit place))
      ∙ by_directions (get_or old place false) (get_or recent place false) (get_or new place false) (outside place within))

  by_turning : level_at h t ≡ 0 → xor_bits old recent ≡ new
  by_turning none =
      let same : length old ≡ length recent = old_len ∙ sym recent_len in
      ext_get_or false (xor_bits old recent) new (length-zip2 _ old recent same ∙ old_len ∙ sym new_len) (λ place below.
      get_or-zip2_all (λ a b. cond a (not b) b) refl old recent place same
      ∙ at_level_zero place (omega (arith, length-zip2 (λ a b. cond a (not b) b) old recent same, old_len)) none)

  pub deduced_mask-is : deduced_mask (mask_at h earlier) (form_at h t) ≡ mask_at h t
  deduced_mask-is =
      elim (cases_eq (level_at h t) 0) [
        | inl none ↦ mask_after-level_zero old recent (level_at h t) directions none ∙ by_turning none
        | inr above ↦ mask_after-level_above old recent (level_at h t) directions above ∙ by_naming above (has_one left) refl
      ]

-- ---- the content outside the extracted places since a packet which the effective robustness level reaches

-- bits that can't differ
same_unless : (a b : Bool) → (a ≢ b → ⊥) → a ≡ b
same_unless true true never = refl
same_unless true false never = absurd (never true≢false)
same_unless false true never = absurd (never (λ e. true≢false (sym e)))
same_unless false false never = refl

-- the places of the mask are extracted
masked-wide : (directions : Option Directions) (recent_changes mask : List Bool) (place : ℕ) → length mask ≡ length recent_changes → get_or (wide_by directions recent_changes mask) place false ≡ false → get_or mask place false ≡ false
masked-wide None recent_changes mask place same none = none
masked-wide (Some directions) recent_changes mask place same none = wide_in directions.twice none
  where
    wide_in : (b : Bool) → get_or (cond b (or_bits mask recent_changes) mask) place false ≡ false → get_or mask place false ≡ false
    wide_in true e = none_left (get_or mask place false) (get_or recent_changes place false) (sym (get_or-zip2_all (λ a b. a || b) refl mask recent_changes place same) ∙ e)
    wide_in false e = e

module _ (h : History) (earlier t : ℕ) (lt : t < length h.steps) (before : earlier < t) (near : t - 1 - earlier ≤ level_at h t) where
  abbrev recent_changes : List Bool
  recent_changes = recent_at h t

  abbrev mask : List Bool
  mask = mask_at h t

  same_len : length recent_changes ≡ length mask
  same_len = length-recent_at h t lt ∙ sym (length-mask_at h t)

  module _ (place : ℕ) (within : place < h.places) where
    -- the place moved at a step since the packet, and fell out of the mask after that
    record HasFallen : Type 0 where
      move : ℕ
      after : earlier < move
      moved : Moved h move place
      fall : ℕ
      since : move ≤ fall
      to : fall < t
      falls_there : Falls (mask_bit h place) fall

    fallen : (s : ℕ) → earlier < s → s ≤ t → Moved h s place → get_or mask place false ≡ false → HasFallen
    fallen s after le moved none =
        let found = falls (mask_bit h place) s t le (moved-masked h place within s (omega arith) moved) none in
        record { move = s; after = after; moved = moved; fall = found.0; since = found.1; to = found.2; falls_there = found.3 }

    module _ (f : HasFallen) where
      -- it fell at a new mask, and the build vector was emptied since the move, at an earlier one
      at_new_mask : (new_mask_at h (suc f.fall) ≡ true) × (build_bit h place f.fall ≡ false)
      at_new_mask = falls-new_mask h place within f.fall f.falls_there

      before_it : (s : ℕ) × (f.move ≤ s) × (s ≤ f.fall) × (new_mask_at h s ≡ true)
      before_it = emptied h place within f.move f.fall f.moved f.since (omega (arith, f.to)) at_new_mask.1

      twice : Twice h t
      twice =
          record {
            first = before_it.0;
            second = suc f.fall;
            from = omega (arith, before_it.1, f.after);
            apart = omega (arith, before_it.2);
            to = omega (arith, f.to);
            first_takes = before_it.3;
            second_takes = at_new_mask.0;
          }

      changed : IsOne (change_at h (suc f.fall)) place
      changed =
          change_bit-suc h place f.fall
          ∙ ap (λ b. cond b (not (mask_bit h place (suc f.fall))) (mask_bit h place (suc f.fall))) f.falls_there.0 ∙ ap not f.falls_there.1

      is_recent : IsOne recent_changes place
      is_recent = changed-recent h earlier t lt before near place within (suc f.fall) (omega (arith, f.after, f.since)) (omega (arith, f.to)) changed

      -- so it became predictable, and is extracted again
      extracted : get_or mask place false ≡ false → IsOne (wide (form_at h t) (mask_at h t)) place
      extracted none =
          ap (λ d. get_or (wide_by d recent_changes mask) place false) (directions-some mask recent_changes (level_at h t) (twice_at h t) (omega (arith, f.after, f.since, f.to)) some)
          ∙ ap (λ b. get_or (cond b (or_bits mask recent_changes) mask) place false) ((twice_at-meaning h t lt).1 twice)
          ∙ get_or-zip2_all (λ a b. a || b) refl mask recent_changes place (sym same_len)
          ∙ or_right (get_or mask place false) (get_or recent_changes place false) is_recent
        where
          one : IsOne (without_bits recent_changes mask) place
          one =
              get_or-zip2_all (λ a b. a && not b) refl recent_changes mask place same_len
              ∙ and_from (get_or recent_changes place false) (not (get_or mask place false)) is_recent (ap not none)

          some : has_one (without_bits recent_changes mask) ≡ true
          some = has_one-at (without_bits recent_changes mask) place (omega (arith, length-zip2 (λ a b. a && not b) recent_changes mask same_len, length-recent_at h t lt)) one

    -- a place that is not extracted has not moved since the packet
    still : get_or (wide (form_at h t) (mask_at h t)) place false ≡ false → (s : ℕ) → earlier < s → s ≤ t → Moved h s place → ⊥
    still none s after le moved =
        let out = masked-wide (directions_of mask recent_changes (level_at h t) (twice_at h t)) recent_changes mask place (sym same_len) none in
        true≢false (sym (extracted (fallen s after le moved out) out) ∙ none)

    not_moved : get_or (wide (form_at h t) (mask_at h t)) place false ≡ false → input_bit h t place ≡ input_bit h earlier place
    not_moved none =
        stays (λ s. input_bit h s place) earlier t (omega arith) (λ s ge below.
        let step : suc s - 1 ≡ s = omega arith in
        same_unless (input_bit h (suc s) place) (input_bit h s place) (λ other.
        still none (suc s) (omega arith) (omega arith) (omega arith, omega arith, λ same. other (same ∙ ap (λ n. input_bit h n place) step))))

  pub content-kept : IsValid h → SameOutside (wide (form_at h t) (mask_at h t)) (input_at h earlier) (input_at h t)
  content-kept valid place none =
      elim (cases_lt place h.places) [
        | inl within ↦ not_moved place within none
        | inr past ↦
            get_or_past (input_at h t) place false (omega (arith, valid.inputs t lt))
            ∙ sym (get_or_past (input_at h earlier) place false (omega (arith, valid.inputs earlier (omega arith))))
      ]
