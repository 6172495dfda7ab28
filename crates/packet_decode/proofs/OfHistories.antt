-- The packets of a valid history, to a decoder that knows the mask of one earlier step and the content of another, or none.
use Rattle.std.proofs.Common.{◌≡◌, ℕ, ◌-◌, ◌*◌, ◌<◌, ◌≤◌, Bool, true, false, cond, List, ◌∷◌, ◌++◌, length, replicate, Option, Some, None, Ok, refl, sym, ap, ◌∙◌, append_assoc, arith}
use Rattle.std.specs.Prelude.{nat_le, ◌||◌, ◌&&◌, IfSome, IfNone}
use Rattle.std.specs.Option.{option_map, option_or}
use Rattle.std.proofs.lemmas.Bool.{leb-true}
use Rattle.bit_vectors.specs.Vectors.{byte_count}
use Rattle.run_code.specs.Extraction.{extract, SameOutside}
use Rattle.mask_update.specs.Histories.{History, IsValid, flags_at, input_at}
use Rattle.mask_update.specs.Masks.{mask_at}
use Rattle.mask_update.proofs.StepByStep.{length-mask_at}
use Rattle.robust_window.specs.Histories.{level_at}
use Rattle.packet_encode.specs.Forms.{change_bits, data_bits, form_bits, wide, sent_content, form_at, packet_at, sent_of}
use Rattle.packet_encode.specs.Deliveries.{reaches}
use Rattle.packet_encode.proofs.Packets.{form_at-fits, form_at-is_form, form_bits-is}
use Rattle.packet_decode.specs.declared.decoder.Reading.TheVariants.{Written}
use Rattle.packet_decode.specs.State.{KnownVector, HasVector, IsState, in_reach, mask_after, change_of, known_if, is_content_told, is_mask_told, true_state}
use Rattle.packet_decode.specs.Spelling.{FitsMask, HasOpaqueFront, IsKept, IsKnownContent, IsWholeContent, Spells, known_mask}
use Rattle.packet_decode.specs.PacketReading.{Spelled, Opaque, answer_of, missed, outcome_answer}
use Rattle.packet_decode.proofs.ExactAnswers.{front_says, spelled_says}
use Rattle.packet_decode.proofs.OneAnswer.{says_answer}
use Rattle.packet_decode.proofs.WindowKnown.{content-kept, deduced_mask-is}

-- ---- what is in reach of a step, of the vectors of earlier ones

abbrev part_at : (ℕ → List Bool) → Option ℕ → Option KnownVector
part_at vectors latest = option_map (λ s. record { number = s; vector = vectors s }) latest

-- it is that of an earlier step which the level reaches
reached-is : (vectors : ℕ → List Bool) (latest : Option ℕ) (t level : ℕ) → in_reach (part_at vectors latest) t level ≡ option_map vectors (cond (reaches latest t level) latest None)
reached-is vectors None t level = refl
reached-is vectors (Some s) t level = by_reach (nat_le (t - 1 - s) level)
  where
    by_reach : (near : Bool) → cond near (Some (vectors s)) None ≡ option_map vectors (cond near (Some s) None)
    by_reach true = refl
    by_reach false = refl

-- a step before this one, which the level reaches
record IsReachedStep (t level s : ℕ) : Type 0 where
  before : s < t
  near : t - 1 - s ≤ level

reached_step : (latest : Option ℕ) (t level : ℕ) → IfSome latest (λ s. s < t) → IfSome (cond (reaches latest t level) latest None) (IsReachedStep t level)
reached_step None t level before = tt
reached_step (Some s) t level before = by_reach (nat_le (t - 1 - s) level) refl
  where
    by_reach : (near : Bool) → nat_le (t - 1 - s) level ≡ near → IfSome (cond near (Some s) None) (IsReachedStep t level)
    by_reach true e = record { before = before; near = leb-true (t - 1 - s) level e }
    by_reach false e = tt

-- with the vector of the step itself
same_step : (vector : List Bool) (latest : Option ℕ) (t level : ℕ) → option_map (λ (s : ℕ). vector) (cond (reaches latest t level) latest None) ≡ known_if (reaches latest t level) vector
same_step vector None t level = refl
same_step vector (Some s) t level = by_reach (nat_le (t - 1 - s) level)
  where
    by_reach : (near : Bool) → option_map (λ (s : ℕ). vector) (cond near (Some s) None) ≡ known_if near vector
    by_reach true = refl
    by_reach false = refl

-- ---- what is sent

mask-known : (send near : Bool) (mask : List Bool) → option_or (known_if near mask) (sent_of send mask) ≡ known_if (send || near) mask
mask-known true true mask = refl
mask-known true false mask = refl
mask-known false true mask = refl
mask-known false false mask = refl

mask-same : (send : Bool) (mask : List Bool) → IfSome (sent_of send mask) (λ sent. sent ≡ mask)
mask-same true mask = refl
mask-same false mask = tt

-- a content in reach, which the new one agrees with
record AgreesFrom (near : Bool) (content places was : List Bool) : Type 0 where
  is_near : near ≡ true
  same_length : length content ≡ length was
  kept : SameOutside places was content

content-kept_by : (whole near : Bool) (content places : List Bool) (reached : Option (List Bool)) → IfSome reached (AgreesFrom near content places) → IsKept places reached (sent_content whole content places)
content-kept_by true near content places None some = tt
content-kept_by true near content places (Some was) some = some.kept
content-kept_by false near content places reached some = tt

content-known : (whole told near : Bool) (mask content : List Bool) (wider : List Bool → List Bool) (reached : Option (List Bool)) → IfNone reached (near ≡ false) → IfSome reached (AgreesFrom near content (wider mask))
    → IsKnownContent (sent_content whole content (wider mask)) (option_map wider (known_if told mask)) reached (known_if (whole || told && near) content)
content-known true told near mask content wider reached none some = refl
content-known false false near mask content wider reached none some = refl
content-known false true near mask content wider None none some = ap (λ (b : Bool). known_if b content) none
content-known false true near mask content wider (Some was) none some = rw some.is_near (record { same_length = some.same_length; kept = some.kept; bits_are = refl })

not-whole : (whole : Bool) (content places : List Bool) → whole ≡ false → IsWholeContent (sent_content whole content places) → ⊥
not-whole true content places e is = cc
not-whole false content places e is = is

-- ---- the state

part_at-is : (vectors : ℕ → List Bool) (latest : Option ℕ) (f n : ℕ) → ((s : ℕ) → s < n → length (vectors s) ≡ f) → IfSome latest (λ s. s < n) → HasVector f (part_at vectors latest)
part_at-is vectors None f n all within = tt
part_at-is vectors (Some s) f n all within = all s within

-- the state of a decoder that knows vectors of the history has its places
pub true_state-is : (h : History) (mask content : Option ℕ) → IsValid h → IfSome mask (λ s. s < length h.steps) → IfSome content (λ s. s < length h.steps) → IsState h.places (true_state h mask content)
true_state-is h mask content valid masks contents = record {
  mask = part_at-is (mask_at h) mask h.places (length h.steps) (λ s within. length-mask_at h s) masks;
  content = part_at-is (input_at h) content h.places (length h.steps) valid.inputs contents;
}

module _ (h : History) (t : ℕ) (valid : IsValid h) (lt : t < length h.steps) where
  -- ---- the mask

  -- by a step that is reached the mask is deduced
  deduced-is : (latest : Option ℕ) → IfSome latest (IsReachedStep t (level_at h t)) → option_map (λ mask. mask_after mask (change_of (form_at h t))) (option_map (mask_at h) latest) ≡ option_map (λ s. mask_at h t) latest
  deduced-is None near = refl
  deduced-is (Some s) near = ap Some (deduced_mask-is h s t lt near.before near.near)

  deduced-told : (latest : Option ℕ) → IfSome latest (λ s. s < t) → option_map (λ mask. mask_after mask (change_of (form_at h t))) (in_reach (part_at (mask_at h) latest) t (level_at h t)) ≡ known_if (reaches latest t (level_at h t)) (mask_at h t)
  deduced-told latest before =
      ap (option_map (λ mask. mask_after mask (change_of (form_at h t)))) (reached-is (mask_at h) latest t (level_at h t))
      ∙ deduced-is (cond (reaches latest t (level_at h t)) latest None) (reached_step latest t (level_at h t) before)
      ∙ same_step (mask_at h t) latest t (level_at h t)

  mask-told : (mask content : Option ℕ) → IfSome mask (λ s. s < t) → known_if (is_mask_told h mask t) (mask_at h t) ≡ known_mask (true_state h mask content) t (form_at h t)
  mask-told mask content before =
      sym (ap (λ (m : Option (List Bool)). option_or m (form_at h t).sent) (deduced-told mask before) ∙ mask-known (flags_at h t).f (reaches mask t (level_at h t)) (mask_at h t))

  -- ---- the content

  agrees : (latest : Option ℕ) → IfSome latest (λ s. s < t) → IfSome (in_reach (part_at (input_at h) latest) t (level_at h t)) (AgreesFrom (reaches latest t (level_at h t)) (input_at h t) (wide (form_at h t) (mask_at h t)))
  agrees None before = tt
  agrees (Some s) before = by_reach (nat_le (t - 1 - s) (level_at h t)) refl
    where
      by_reach : (near : Bool) → nat_le (t - 1 - s) (level_at h t) ≡ near → IfSome (cond near (Some (input_at h s)) None) (AgreesFrom near (input_at h t) (wide (form_at h t) (mask_at h t)))
      by_reach true e = record {
        is_near = refl;
        same_length = valid.inputs t lt ∙ sym (valid.inputs s (omega (arith, before, lt)));
        kept = content-kept h s t lt before (leb-true (t - 1 - s) (level_at h t) e) valid;
      }
      by_reach false e = tt

  none_near : (latest : Option ℕ) → IfNone (in_reach (part_at (input_at h) latest) t (level_at h t)) (reaches latest t (level_at h t) ≡ false)
  none_near None = refl
  none_near (Some s) = by_reach (nat_le (t - 1 - s) (level_at h t))
    where
      by_reach : (near : Bool) → IfNone (cond near (Some (input_at h s)) None) (near ≡ false)
      by_reach true = tt
      by_reach false = refl

  -- ---- a packet that is understood

  unmasked-is : (send whole : Bool) (content places : List Bool) → (send || whole) ≡ true → IfNone (known_if send (mask_at h t)) (IsWholeContent (sent_content whole content places))
  unmasked-is true whole content places some = tt
  unmasked-is false true content places some = tt
  unmasked-is false false content places some = absurd cc

  masked-is : (known : Bool) (latest : Option ℕ) → IfSome latest (λ s. s < t) → IfSome (known_if known (mask_at h t)) (FitsMask (form_at h t) (in_reach (part_at (input_at h) latest) t (level_at h t)))
  masked-is true latest before = record {
    sent = mask-same (flags_at h t).f (mask_at h t);
    fits = form_at-fits h t;
    kept = content-kept_by (flags_at h t).r (reaches latest t (level_at h t)) (input_at h t) (wide (form_at h t) (mask_at h t)) (in_reach (part_at (input_at h) latest) t (level_at h t)) (agrees latest before);
  }
  masked-is false latest before = tt

  pub told-spelled : (mask content : Option ℕ) → IfSome mask (λ s. s < t) → IfSome content (λ s. s < t) → (is_mask_told h mask t || (flags_at h t).r) ≡ true
      → Spells h.places (true_state h mask content) t (packet_at h t) (form_at h t) (known_if (is_mask_told h mask t) (mask_at h t)) (known_if (is_content_told h mask content t) (input_at h t))
  told-spelled mask content masks contents some = record {
    is_form = form_at-is_form h t valid lt;
    bits_are = refl;
    mask_is = mask-told mask content masks;
    unmasked = unmasked-is (is_mask_told h mask t) (flags_at h t).r (input_at h t) (wide (form_at h t) (mask_at h t)) some;
    masked = masked-is (is_mask_told h mask t) content contents;
    content_is = content-known (flags_at h t).r (is_mask_told h mask t) (reaches content t (level_at h t)) (mask_at h t) (input_at h t) (wide (form_at h t)) (in_reach (part_at (input_at h) content) t (level_at h t)) (none_near content) (agrees content contents);
  }

  -- ---- one that is not understood

  abbrev zeros : List Bool
  zeros = replicate (8 * byte_count (length (form_bits (form_at h t))) - length (form_bits (form_at h t))) false

  or_false : (a b : Bool) → (a || b) ≡ false → (a ≡ false) × (b ≡ false)
  or_false true b none = absurd cc
  or_false false b none = (refl, none)

  unsent_bits : (send whole : Bool) (mask content places : List Bool) → send ≡ false → whole ≡ false → data_bits (sent_of send mask) (sent_content whole content places) ≡ true ∷ extract content places
  unsent_bits send whole mask content places unsent part = rw (unsent, part) refl

  front_bits : (flags_at h t).f ≡ false → (flags_at h t).r ≡ false → packet_at h t ≡ change_bits (form_at h t) ++ true ∷ (extract (input_at h t) (wide (form_at h t) (mask_at h t)) ++ zeros)
  front_bits unsent part =
      ap (λ (bits : List Bool). bits ++ zeros) (sym (form_bits-is (form_at h t)) ∙ ap (λ (bits : List Bool). change_bits (form_at h t) ++ bits) (unsent_bits (flags_at h t).f (flags_at h t).r (mask_at h t) (input_at h t) (wide (form_at h t) (mask_at h t)) unsent part))
      ∙ append_assoc (change_bits (form_at h t)) (true ∷ extract (input_at h t) (wide (form_at h t) (mask_at h t))) zeros

  pub untold-opaque : (mask content : Option ℕ) → (is_mask_told h mask t || (flags_at h t).r) ≡ false → HasOpaqueFront h.places (true_state h mask content) t (packet_at h t) (level_at h t)
  untold-opaque mask content none =
      let both = or_false (is_mask_told h mask t) (flags_at h t).r none in
      let neither = or_false (flags_at h t).f (reaches mask t (level_at h t)) both.0 in
      record {
        form = form_at h t;
        is_form = form_at-is_form h t valid lt;
        level_is = refl;
        out_of_reach = reached-is (mask_at h) mask t (level_at h t) ∙ ap (λ (near : Bool). option_map (mask_at h) (cond near mask None)) neither.1;
        no_mask = ap (λ (send : Bool). sent_of send (mask_at h t)) neither.0;
        not_whole = not-whole (flags_at h t).r (input_at h t) (wide (form_at h t) (mask_at h t)) both.1;
        rest = extract (input_at h t) (wide (form_at h t) (mask_at h t)) ++ zeros;
        bits_are = front_bits neither.0 both.1;
      }

  -- ---- the answers

  earlier-within : (latest : Option ℕ) → IfSome latest (λ s. s < t) → IfSome latest (λ s. s < length h.steps)
  earlier-within None before = tt
  earlier-within (Some latest) before = omega (arith, before, lt)

  known : (mask content : Option ℕ) → IfSome mask (λ s. s < t) → IfSome content (λ s. s < t) → IsState h.places (true_state h mask content)
  known mask content masks contents = true_state-is h mask content valid (earlier-within mask masks) (earlier-within content contents)

  answer-spelled : (mask content : Option ℕ) → IfSome mask (λ s. s < t) → IfSome content (λ s. s < t) → (is_mask_told h mask t || (flags_at h t).r) ≡ true
      → answer_of h.places (true_state h mask content) t (packet_at h t) ≡ Ok (outcome_answer (true_state h mask content) (level_at h t) (Spelled (known_if (is_mask_told h mask t) (mask_at h t)) (known_if (is_content_told h mask content t) (input_at h t))))
  answer-spelled mask content masks contents some =
      let has = known mask content masks contents in
      says_answer h.places (true_state h mask content) t has (packet_at h t) (outcome_answer (true_state h mask content) (level_at h t) (Spelled (known_if (is_mask_told h mask t) (mask_at h t)) (known_if (is_content_told h mask content t) (input_at h t))))
      (spelled_says h.places (true_state h mask content) t has (packet_at h t) (form_at h t) (known_if (is_mask_told h mask t) (mask_at h t)) (known_if (is_content_told h mask content t) (input_at h t)) (level_at h t) (told-spelled mask content masks contents some) refl)

  answer-by : (mask content : Option ℕ) → IfSome mask (λ s. s < t) → IfSome content (λ s. s < t) → (is_mask_told h mask t || (flags_at h t).r) ≡ true → (tells : Bool) → is_content_told h mask content t ≡ tells
      → answer_of h.places (true_state h mask content) t (packet_at h t) ≡ Ok (outcome_answer (true_state h mask content) (level_at h t) (Spelled (known_if (is_mask_told h mask t) (mask_at h t)) (known_if tells (input_at h t))))
  answer-by mask content masks contents some tells e =
      answer-spelled mask content masks contents some
      ∙ ap (λ (b : Bool). Ok (outcome_answer (true_state h mask content) (level_at h t) (Spelled (known_if (is_mask_told h mask t) (mask_at h t)) (known_if b (input_at h t))))) e

  some_told : (whole told near : Bool) → (whole || told && near) ≡ true → (told || whole) ≡ true
  some_told true true near e = refl
  some_told true false near e = refl
  some_told false true near e = refl
  some_told false false near e = absurd cc

  or_left : (a b : Bool) → a ≡ true → (a || b) ≡ true
  or_left a b e = ap (λ (x : Bool). x || b) e

  none_told : (whole told near : Bool) → (whole || told && near) ≡ false → told ≡ false → (told || whole) ≡ false
  none_told true told near e none = absurd cc
  none_told false true near e none = absurd cc
  none_told false false near e none = refl

  pub answer-written : (mask content : Option ℕ) → IfSome mask (λ s. s < t) → IfSome content (λ s. s < t) → is_content_told h mask content t ≡ true → answer_of h.places (true_state h mask content) t (packet_at h t) ≡ Ok Written
  answer-written mask content masks contents e =
      answer-by mask content masks contents (some_told (flags_at h t).r (is_mask_told h mask t) (reaches content t (level_at h t)) e) true e

  pub answer-mask_alone : (mask content : Option ℕ) → IfSome mask (λ s. s < t) → IfSome content (λ s. s < t) → is_content_told h mask content t ≡ false → is_mask_told h mask t ≡ true
      → answer_of h.places (true_state h mask content) t (packet_at h t) ≡ Ok (missed (true_state h mask content).content (level_at h t) true)
  answer-mask_alone mask content masks contents e told = answer-by mask content masks contents (or_left (is_mask_told h mask t) (flags_at h t).r told) false e

  pub answer-neither : (mask content : Option ℕ) → IfSome mask (λ s. s < t) → IfSome content (λ s. s < t) → is_content_told h mask content t ≡ false → is_mask_told h mask t ≡ false
      → answer_of h.places (true_state h mask content) t (packet_at h t) ≡ Ok (missed (true_state h mask content).mask (level_at h t) false)
  answer-neither mask content masks contents e none =
      let has = known mask content masks contents in
      says_answer h.places (true_state h mask content) t has (packet_at h t) (outcome_answer (true_state h mask content) (level_at h t) Opaque)
      (front_says h.places (true_state h mask content) t has (packet_at h t) (level_at h t) (untold-opaque mask content (none_told (flags_at h t).r (is_mask_told h mask t) (reaches content t (level_at h t)) e none)))
