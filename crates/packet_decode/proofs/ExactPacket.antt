-- Reading a packet is exact: the parts after the first, by what is known, and the padding.
use Rattle.std.specs.Option.{option_map}
use Rattle.std.specs.Prelude.{◌||◌, count_by, IfSome, not, ◌&&◌}
use Rattle.std.proofs.Common.{◌≡◌, ℕ, Bool, true, false, cond, List, [], ◌∷◌, ◌++◌, length, get_or, replicate, Option, Some, None, refl, sym, ap, ◌∙◌, subst, inl, inr, ◌-◌, ◌*◌, eqb, leb}
use Rattle.std.proofs.lemmas.Bool.{true≢false}
use Rattle.std.proofs.lemmas.List.{length-replicate}
use Rattle.std.proofs.lemmas.Simd.{length-zip2}
use Rattle.bit_vectors.specs.Reading.{parse_front, parse_word, IsExact, Read, ◌>>=◌}
use Rattle.bit_vectors.specs.Vectors.{or_bits, xor_bits, without_bits, byte_count}
use Rattle.bit_vectors.proofs.ExactReading.{IsExact-give, IsExact-same, IsExact-then, IsExact-same_at, IsWordThen}
use Rattle.bit_vectors.proofs.FrontReading.{IsFront, IsExact-front_at}
use Rattle.count_code.specs.Code.{count_bits}
use Rattle.run_code.specs.Extraction.{places_down, extract, parse_filled}
use Rattle.run_code.specs.Runs.{edges, run_bits, IsRunWordOf, parse_vector}
use Rattle.run_code.proofs.Filling.{IsFilling, IsExact-filled_at}
use Rattle.run_code.proofs.Ones.{one_or_zero, places_down_apart, in_places_down, places_down_has}
use Rattle.run_code.proofs.RunWords.{IsExact-vector_at}
use Rattle.packet_encode.specs.Forms.{Directions, wide_by, AreDirections}
use Rattle.packet_decode.specs.PacketReading.{Outcome, Spelled, Opaque, parse_kept, from_edges, parse_mask, parse_whole, parse_whole_with, parse_whole_alone, parse_part_with, parse_content, parse_unsent, parse_maskless, parse_masked, parse_sent, parse_data, Found, parse_change, parse_parts, parse_padding, parse_packet}
use Rattle.packet_decode.specs.PartWords.{AllPlaces, places_of, IsMaskWord, IsContentWord, IsWhole, IsWholeAlone, IsPart, IsContent, IsUnsent, IsMaskless, IsMasked, IsSent, IsData}
use Rattle.packet_decode.specs.Spelling.{IsFilled}
use Rattle.packet_decode.specs.State.{Change, KnownVector, State, IsState, HasVector, unpredictable, mask_after, in_reach, deduced_by, known_by}
use Rattle.packet_decode.proofs.EdgeMasks.{edges-from_edges, length-from_edges, length_edges, from_edges-edges}
use Rattle.packet_decode.proofs.ExactChange.{bare, IsChange, IsChangeWord, IsExact-change_at}
use Rattle.packet_decode.proofs.KeptContent.{IsKept, IsExact-kept_at}
use Rattle.packet_decode.proofs.Readers.{HasWord, IsImage, IsExact-map, IsExact-bit, IsExact-one, FollowsFront, IsExact-after, IsExact-by, IsCounted, counted, IsExact-counted, counted_then}

-- ---- the mask

mask_joined : (f : ℕ) (mask word : List Bool) → IsImage from_edges (IsRunWordOf f) mask word → IsMaskWord f None mask word
mask_joined f mask word (runs, is, same) =
    subst (λ (m : List Bool). IsMaskWord f None m word) (sym same) (length-from_edges runs ∙ is.0, is.1 ∙ ap run_bits (sym (edges-from_edges runs)))

mask_apart : (f : ℕ) (mask word : List Bool) → IsMaskWord f None mask word → IsImage from_edges (IsRunWordOf f) mask word
mask_apart f mask word (len, is) = (edges mask, (length_edges mask ∙ len, is), sym (from_edges-edges mask))

pub IsExact-mask_at : (f : ℕ) (deduced : Option (List Bool)) → IsExact (IsMaskWord f deduced) (parse_mask f deduced)
unfolding parse_mask
IsExact-mask_at f None =
    IsExact-same (IsImage from_edges (IsRunWordOf f)) (IsMaskWord f None) (parse_mask f None) (mask_joined f) (mask_apart f) (IsExact-map from_edges (IsRunWordOf f) (parse_vector f) (IsExact-vector_at f))
IsExact-mask_at f (Some deduced) =
    IsExact-same (IsImage (λ (u : Unit {0}). deduced) (λ u word. word ≡ run_bits (edges deduced))) (IsMaskWord f (Some deduced)) (parse_mask f (Some deduced))
    (λ mask word w. (w.2, w.1 ∙ ap (λ (m : List Bool). run_bits (edges m)) (sym w.2)))
    (λ mask word w. (tt, w.1 ∙ ap (λ (m : List Bool). run_bits (edges m)) w.0, w.0))
    (IsExact-map (λ (u : Unit {0}). deduced) (λ u word. word ≡ run_bits (edges deduced)) (parse_word (run_bits (edges deduced))) (IsExact-same_at (run_bits (edges deduced))))

-- ---- the whole content

IsExact-whole_none : (f : ℕ) (places : List Bool) → IsExact (IsContentWord f places None) (parse_whole f places None)
unfolding parse_whole
IsExact-whole_none f places =
    IsExact-same (FollowsFront (count_bits f) (IsFront f)) (IsContentWord f places None) (parse_whole f places None)
    (λ content word (back, is, parts). ((is.0, tt), parts ∙ ap (λ (x : List Bool). count_bits f ++ x) is.1))
    (λ content word (is, parts). (content, (is.0, refl), parts))
    (IsExact-after (count_bits f) (IsFront f) (parse_front f) (IsExact-front_at f) (replicate f false, replicate f false, (length-replicate f false, refl)))

IsExact-whole_at : (f : ℕ) (places : List Bool) (known : Option (List Bool)) → length places ≡ f → AllPlaces f known → IsExact (IsContentWord f places known) (parse_whole f places known)
unfolding parse_whole
IsExact-whole_at f places None len all = IsExact-whole_none f places
IsExact-whole_at f places (Some known) len all =
    IsExact-same (FollowsFront (count_bits f) (IsKept places known)) (IsContentWord f places (Some known)) (parse_whole f places (Some known))
    (λ content word (back, is, parts). ((is.0 ∙ all, is.1), parts ∙ ap (λ (x : List Bool). count_bits f ++ x) is.2))
    (λ content word (is, parts). (content, (is.0 ∙ sym all, is.1, refl), parts))
    (IsExact-after (count_bits f) (IsKept places known) (parse_kept places known) (IsExact-kept_at places known (len ∙ sym all)) (known, known, (refl, λ place bound. refl, refl)))

-- a content that agrees
agreeing : (f : ℕ) (places : List Bool) (known : Option (List Bool)) → AllPlaces f known → HasWord (IsContentWord f places known)
agreeing f places None all = (replicate f false, count_bits f ++ replicate f false, ((length-replicate f false, tt), refl))
agreeing f places (Some known) all = (known, count_bits f ++ known, ((all, λ place bound. refl), refl))

length-wide_by : (recent mask : List Bool) (directions : Option Directions) → length mask ≡ length recent → length (wide_by directions recent mask) ≡ length mask
length-wide_by recent mask None len = refl
length-wide_by recent mask (Some directions) len = by_twice directions.twice
  where
    by_twice : (twice : Bool) → length (cond twice (or_bits mask recent) mask) ≡ length mask
    by_twice true = length-zip2 (λ (a b : Bool). a || b) mask recent len
    by_twice false = refl

pub length-places_of : (f : ℕ) (change : Change) (mask : List Bool) → length change.recent ≡ f → length mask ≡ f → length (places_of change mask) ≡ f
length-places_of f change mask recent len = length-wide_by change.recent mask change.directions (len ∙ sym recent) ∙ len

-- under a mask
abbrev whole_under : List Bool → List Bool → Outcome
whole_under mask content = Spelled (Some mask) (Some content)

IsExact-whole_with : (f : ℕ) (change : Change) (mask : List Bool) (known : Option (List Bool)) → length change.recent ≡ f → length mask ≡ f → AllPlaces f known → IsExact (IsWhole f change mask known) (parse_whole_with f change mask known)
unfolding parse_whole_with
IsExact-whole_with f change mask known recent len all =
    IsExact-map (whole_under mask) (IsContentWord f (places_of change mask) known) (parse_whole f (places_of change mask) known) (IsExact-whole_at f (places_of change mask) known (length-places_of f change mask recent len) all)

some_whole : (f : ℕ) (change : Change) (mask : List Bool) (known : Option (List Bool)) → AllPlaces f known → HasWord (IsWhole f change mask known)
some_whole f change mask known all = let a = agreeing f (places_of change mask) known all in (Spelled (Some mask) (Some a.0), a.1, (a.0, a.2, refl))

-- without one
abbrev whole_alone : List Bool → Outcome
whole_alone content = Spelled None (Some content)

IsExact-whole_alone : (f : ℕ) → IsExact (IsWholeAlone f) (parse_whole_alone f)
unfolding parse_whole_alone
IsExact-whole_alone f = IsExact-map whole_alone (IsContentWord f [] None) (parse_whole f [] None) (IsExact-whole_none f [])

some_whole_alone : (f : ℕ) → HasWord (IsWholeAlone f)
some_whole_alone f = let a = agreeing f [] None tt in (Spelled None (Some a.0), a.1, (a.0, a.2, refl))

-- ---- the extracted bits

pub filled_by : (places old bits new : List Bool) → IsFilling (places_down places) old new bits → IsFilled places old bits new
filled_by places old bits new is = record {
  same_length = is.0.same_length;
  kept = λ place bound. is.0.others place (λ c. true≢false (sym (in_places_down places place c) ∙ bound));
  bits_are = is.1;
}

part_joined : (change : Change) (mask known : List Bool) (o : Outcome) (word : List Bool) → IsImage (whole_under mask) (IsFilling (places_down (places_of change mask)) known) o word → IsPart change mask (Some known) o word
part_joined change mask known o word (content, is, same) = (content, filled_by (places_of change mask) known word content is, same)

part_apart : (change : Change) (mask known : List Bool) (o : Outcome) (word : List Bool) → IsPart change mask (Some known) o word → IsImage (whole_under mask) (IsFilling (places_down (places_of change mask)) known) o word
part_apart change mask known o word (content, filled, same) = (
  content,
  (
    record {
      same_length = filled.same_length;
      others = λ k out.
          elim (one_or_zero (get_or (places_of change mask) k false)) [
            | inl one ↦ absurd (out (places_down_has (places_of change mask) k one))
            | inr none ↦ filled.kept k none
          ];
    },
    filled.bits_are,
  ),
  same,
)

-- any bits, which tell no content
abbrev mask_alone : List Bool → List Bool → Outcome
mask_alone mask part = Spelled (Some mask) None

abbrev ones_of : List Bool → ℕ
ones_of places = count_by (λ bit. bit) places

alone_joined : (change : Change) (mask : List Bool) (o : Outcome) (word : List Bool) → IsImage (mask_alone mask) (IsFront (ones_of (places_of change mask))) o word → IsPart change mask None o word
alone_joined change mask o word (part, is, same) = (same, ap (λ (bits : List Bool). length bits) is.1 ∙ is.0)

alone_apart : (change : Change) (mask : List Bool) (o : Outcome) (word : List Bool) → IsPart change mask None o word → IsImage (mask_alone mask) (IsFront (ones_of (places_of change mask))) o word
alone_apart change mask o word (same, len) = (word, (len, refl), same)

IsExact-part_with : (change : Change) (mask : List Bool) (known : Option (List Bool)) → AllPlaces (length (places_of change mask)) known → IsExact (IsPart change mask known) (parse_part_with change mask known)
unfolding parse_part_with
IsExact-part_with change mask None all =
    IsExact-same (IsImage (mask_alone mask) (IsFront (ones_of (places_of change mask)))) (IsPart change mask None) (parse_part_with change mask None) (alone_joined change mask) (alone_apart change mask)
    (IsExact-map (mask_alone mask) (IsFront (ones_of (places_of change mask))) (parse_front (ones_of (places_of change mask))) (IsExact-front_at (ones_of (places_of change mask))))
IsExact-part_with change mask (Some known) all =
    IsExact-same (IsImage (whole_under mask) (IsFilling (places_down (places_of change mask)) known)) (IsPart change mask (Some known)) (parse_part_with change mask (Some known)) (part_joined change mask known) (part_apart change mask known)
    (IsExact-map (whole_under mask) (IsFilling (places_down (places_of change mask)) known) (parse_filled (places_down (places_of change mask)) known) (IsExact-filled_at (places_down (places_of change mask)) known (rw all (places_down_apart (places_of change mask)))))

some_part : (change : Change) (mask : List Bool) (known : Option (List Bool)) → HasWord (IsPart change mask known)
some_part change mask None = (Spelled (Some mask) None, replicate (ones_of (places_of change mask)) false, (refl, length-replicate (ones_of (places_of change mask)) false))
some_part change mask (Some known) =
    (Spelled (Some mask) (Some known), extract known (places_of change mask), (known, record { same_length = refl; kept = λ place bound. refl; bits_are = refl }, refl))

-- ---- either

all_of_places : (f n : ℕ) (known : Option (List Bool)) → f ≡ n → AllPlaces f known → AllPlaces n known
all_of_places f n known same all = subst (λ (k : ℕ). AllPlaces k known) same all

-- ---- all parts after the first

-- there is a mask, and after each a content
mask_of_places : (f : ℕ) (deduced : Option (List Bool)) → AllPlaces f deduced → (mask word : List Bool) → IsMaskWord f deduced mask word → length mask ≡ f
mask_of_places f None all mask word is = is.0
mask_of_places f (Some deduced) all mask word is = ap (λ (m : List Bool). length m) is.0 ∙ all

some_mask : (f : ℕ) (deduced : Option (List Bool)) → HasWord (IsMaskWord f deduced)
some_mask f None = (replicate f false, run_bits (edges (replicate f false)), (length-replicate f false, refl))
some_mask f (Some deduced) = (deduced, run_bits (edges deduced), (refl, refl))

some_content : (f : ℕ) (change : Change) (mask : List Bool) (known : Option (List Bool)) → HasWord (IsContent f change mask known)
some_content f change mask known = let p = some_part change mask known in (p.0, false ∷ p.1, p.2)

some_masked : (f : ℕ) (change : Change) (deduced known : Option (List Bool)) → HasWord (IsMasked f change deduced known)
some_masked f change deduced known =
    let m = some_mask f deduced in
    let c = some_content f change m.0 known in
    (c.0, m.1 ++ c.1, (m.0, m.1, c.1, m.2, c.2, refl))

some_maskless : (f : ℕ) (change : Change) (deduced known : Option (List Bool)) → AllPlaces f known → HasWord (IsMaskless f change deduced known)
some_maskless f change None known all = let w = some_whole_alone f in (w.0, true ∷ w.1, w.2)
some_maskless f change (Some mask) known all = let w = some_whole f change mask known all in (w.0, true ∷ w.1, w.2)

some_unsent : (change : Change) (deduced known : Option (List Bool)) → HasWord (IsUnsent change deduced known)
some_unsent change None known = (Opaque, [], (refl, refl))
some_unsent change (Some mask) known = some_part change mask known

some_sent : (f : ℕ) (change : Change) (deduced known : Option (List Bool)) → HasWord (IsSent f change deduced known)
some_sent f change deduced known = let m = some_masked f change deduced known in (m.0, true ∷ m.1, m.2)

pub some_data : (f : ℕ) (change : Change) (deduced known : Option (List Bool)) → HasWord (IsData f change deduced known)
some_data f change deduced known = let u = some_unsent change deduced known in (u.0, true ∷ u.1, u.2)

module _ (f : ℕ) (change : Change) (known : Option (List Bool)) (recent : length change.recent ≡ f) (content_places : AllPlaces f known) where
  part_exact : (mask : List Bool) → length mask ≡ f → IsExact (IsPart change mask known) (parse_part_with change mask known)
  part_exact mask len = IsExact-part_with change mask known (all_of_places f (length (places_of change mask)) known (sym (length-places_of f change mask recent len)) content_places)

  pub content_exact : (mask : List Bool) → length mask ≡ f → IsExact (IsContent f change mask known) (parse_content f change mask known)
  unfolding parse_content
  content_exact mask len =
      IsExact-bit (IsWhole f change mask known) (IsPart change mask known) (parse_whole_with f change mask known) (parse_part_with change mask known)
      (IsExact-whole_with f change mask known recent len content_places)
      (part_exact mask len)
      (some_whole f change mask known content_places)
      (some_part change mask known)

  masked_exact : (deduced : Option (List Bool)) → AllPlaces f deduced → IsExact (IsMasked f change deduced known) (parse_masked f change deduced known)
  unfolding parse_masked
  masked_exact deduced mask_places =
      IsExact-then (IsMaskWord f deduced) (λ mask. IsContent f change mask known) (parse_mask f deduced) (λ mask rest. parse_content f change mask known rest)
      (IsExact-mask_at f deduced)
      (λ mask word w. content_exact mask (mask_of_places f deduced mask_places mask word w))
      (λ mask word w. some_content f change mask known)

  maskless_exact : (deduced : Option (List Bool)) → AllPlaces f deduced → IsExact (IsMaskless f change deduced known) (parse_maskless f change deduced known)
  unfolding parse_maskless
  maskless_exact None mask_places = IsExact-one (IsWholeAlone f) (parse_whole_alone f) (IsExact-whole_alone f) (some_whole_alone f)
  maskless_exact (Some mask) mask_places =
      IsExact-one (IsWhole f change mask known) (parse_whole_with f change mask known) (IsExact-whole_with f change mask known recent mask_places content_places) (some_whole f change mask known content_places)

  unsent_exact : (deduced : Option (List Bool)) → AllPlaces f deduced → IsExact (IsUnsent change deduced known) (parse_unsent change deduced known)
  unfolding parse_unsent
  unsent_exact None mask_places = IsExact-give Opaque
  unsent_exact (Some mask) mask_places = part_exact mask mask_places

  sent_exact : (deduced : Option (List Bool)) → AllPlaces f deduced → IsExact (IsSent f change deduced known) (parse_sent f change deduced known)
  unfolding parse_sent
  sent_exact deduced mask_places =
      IsExact-bit (IsMasked f change deduced known) (IsMaskless f change deduced known) (parse_masked f change deduced known) (parse_maskless f change deduced known)
      (masked_exact deduced mask_places)
      (maskless_exact deduced mask_places)
      (some_masked f change deduced known)
      (some_maskless f change deduced known content_places)

  pub IsExact-data_at : (deduced : Option (List Bool)) → AllPlaces f deduced → IsExact (IsData f change deduced known) (parse_data f change deduced known)
  unfolding parse_data
  IsExact-data_at deduced mask_places =
      IsExact-bit (IsUnsent change deduced known) (IsSent f change deduced known) (parse_unsent change deduced known) (parse_sent f change deduced known)
      (unsent_exact deduced mask_places)
      (sent_exact deduced mask_places)
      (some_unsent change deduced known)
      (some_sent f change deduced known)

-- ---- what the state gives has f places

length-unpredictable : (recent : List Bool) (level : ℕ) (o : Option Directions) → IfSome o (AreDirections (bare recent level)) → length (unpredictable recent o) ≡ length recent
length-unpredictable recent level None are = refl
length-unpredictable recent level (Some directions) are = length-zip2 (λ (a b : Bool). a && not b) recent directions.predictable (sym are.places)

pub length-mask_after : (f : ℕ) (mask : List Bool) (change : Change) → length mask ≡ f → IsChange f change → length (mask_after mask change) ≡ f
length-mask_after f mask change len is = by_level (eqb change.level 0)
  where
    same : length mask ≡ length change.recent
    same = len ∙ sym is.recent

    kept : length (without_bits mask change.recent) ≡ length mask
    kept = length-zip2 (λ (a b : Bool). a && not b) mask change.recent same

    rest : length (unpredictable change.recent change.directions) ≡ length change.recent
    rest = length-unpredictable change.recent change.level change.directions is.directions

    by_level : (zero : Bool) → length (cond zero (xor_bits mask change.recent) (or_bits (without_bits mask change.recent) (unpredictable change.recent change.directions))) ≡ f
    by_level true = length-zip2 (λ (a b : Bool). cond a (not b) b) mask change.recent same ∙ len
    by_level false = length-zip2 (λ (a b : Bool). a || b) (without_bits mask change.recent) (unpredictable change.recent change.directions) (kept ∙ same ∙ sym rest) ∙ kept ∙ len

in_reach-places : (f : ℕ) (part : Option KnownVector) (t level : ℕ) → HasVector f part → AllPlaces f (in_reach part t level)
in_reach-places f None t level has = tt
in_reach-places f (Some known) t level has = by_reach (leb (t - 1 - known.number) level)
  where
    by_reach : (near : Bool) → AllPlaces f (cond near (Some known.vector) None)
    by_reach true = has
    by_reach false = tt

after_places : (f : ℕ) (mask : Option (List Bool)) (change : Change) → AllPlaces f mask → IsChange f change → AllPlaces f (option_map (λ (m : List Bool). mask_after m change) mask)
after_places f None change all is = tt
after_places f (Some mask) change all is = length-mask_after f mask change all is

pub deduced_places : (f : ℕ) (state : State) (t : ℕ) (change : Change) → IsState f state → IsChange f change → AllPlaces f (deduced_by state t change)
deduced_places f state t change has is = after_places f (in_reach state.mask t change.level) change (in_reach-places f state.mask t change.level has.mask) is

pub known_places : (f : ℕ) (state : State) (t : ℕ) (change : Change) → IsState f state → AllPlaces f (known_by state t change)
known_places f state t change has = in_reach-places f state.content t change.level has.content

-- ---- all parts

abbrev found_of : Change → Outcome → Found
found_of change outcome = record { change = change; outcome = outcome }

abbrev IsDataBy : ℕ → State → ℕ → Change → Outcome → List Bool → Type 0
IsDataBy f state t change = IsData f change (deduced_by state t change) (known_by state t change)

abbrev IsPartsThen : ℕ → State → ℕ → Found → List Bool → Type 0
IsPartsThen f state t = IsWordThen (IsChangeWord f) (λ change. IsImage (found_of change) (IsDataBy f state t change))

-- the bits of a first part and of the others
pub record IsParts (f : ℕ) (state : State) (t : ℕ) (found : Found) (word : List Bool) : Type 0 where
  pub front : List Bool
  pub back : List Bool
  pub first : IsChangeWord f found.change front
  pub others : IsData f found.change (deduced_by state t found.change) (known_by state t found.change) found.outcome back
  pub parts : word ≡ front ++ back

parts_joined : (f : ℕ) (state : State) (t : ℕ) (found : Found) (word : List Bool) → IsPartsThen f state t found word → IsParts f state t found word
parts_joined f state t found word (change, front, back, first, (outcome, others, is), parts) =
    subst (λ (x : Found). IsParts f state t x word) (sym is) (record { front = front; back = back; first = first; others = others; parts = parts })

parts_apart : (f : ℕ) (state : State) (t : ℕ) (found : Found) (word : List Bool) → IsParts f state t found word → IsPartsThen f state t found word
parts_apart f state t found word h = (found.change, h.front, h.back, h.first, (found.outcome, h.others, refl), h.parts)

IsExact-parts_at : (f : ℕ) (state : State) (t : ℕ) → IsState f state → IsExact (IsParts f state t) (parse_parts f state t)
unfolding parse_parts
IsExact-parts_at f state t has =
    IsExact-same (IsPartsThen f state t) (IsParts f state t) (parse_parts f state t) (parts_joined f state t) (parts_apart f state t)
    (IsExact-then (IsChangeWord f) (λ change. IsImage (found_of change) (IsDataBy f state t change))
    (parse_change f) (λ change rest. parse_data f change (deduced_by state t change) (known_by state t change) rest >>= λ outcome last. Read (found_of change outcome) last)
    (IsExact-change_at f)
    (λ change word w. IsExact-map (found_of change) (IsDataBy f state t change) (parse_data f change (deduced_by state t change) (known_by state t change))
    (IsExact-data_at f change (known_by state t change) w.0.recent (known_places f state t change has) (deduced_by state t change) (deduced_places f state t change has w.0)))
    (λ change word w. let d = some_data f change (deduced_by state t change) (known_by state t change) in (found_of change d.0, d.1, (d.0, d.2, refl))))

-- ---- the padding

-- a packet that is spelled is padded
abbrev pub padding_word : Outcome → ℕ → List Bool
padding_word (Spelled mask content) used = replicate (8 * byte_count used - used) false
padding_word Opaque used = []

IsExact-padding_at : (outcome : Outcome) (used : ℕ) → IsExact (λ (u : Unit {0}) (word : List Bool). word ≡ padding_word outcome used) (parse_padding outcome used)
unfolding parse_padding
IsExact-padding_at (Spelled mask content) used = IsExact-same_at (replicate (8 * byte_count used - used) false)
IsExact-padding_at Opaque used =
    IsExact-same (λ (u : Unit {0}) (word : List Bool). (u ≡ tt) × (word ≡ [])) (λ (u : Unit {0}) (word : List Bool). word ≡ []) (parse_padding Opaque used) (λ u word w. w.1) (λ u word w. (refl, w)) (IsExact-give tt)

-- ---- a packet

-- the bits of all parts, padded if a packet is spelled
pub record IsPacket (f : ℕ) (state : State) (t : ℕ) (found : Found) (word : List Bool) : Type 0 where
  pub body : List Bool
  pub parts : IsParts f state t found body
  pub bits : word ≡ body ++ padding_word found.outcome (length body)

abbrev IsPadding : Found × ℕ → Found → List Bool → Type 0
IsPadding found = IsImage (λ (u : Unit {0}). found.0) (λ u word. word ≡ padding_word found.0.outcome found.1)

abbrev IsPacketThen : ℕ → State → ℕ → Found → List Bool → Type 0
IsPacketThen f state t = IsWordThen (IsCounted (IsParts f state t)) IsPadding

packet_joined : (f : ℕ) (state : State) (t : ℕ) (found : Found) (word : List Bool) → IsPacketThen f state t found word → IsPacket f state t found word
packet_joined f state t found word (counted, body, back, parts, (u, padding, is), all) =
    subst (λ (x : Found). IsPacket f state t x word) (sym is) (record {
      body = body;
      parts = parts.0;
      bits = all ∙ ap (λ (x : List Bool). body ++ x) (padding ∙ ap (padding_word counted.0.outcome) parts.1);
    })

packet_apart : (f : ℕ) (state : State) (t : ℕ) (found : Found) (word : List Bool) → IsPacket f state t found word → IsPacketThen f state t found word
packet_apart f state t found word h = ((found, length h.body), h.body, padding_word found.outcome (length h.body), (h.parts, refl), (tt, refl, refl), h.bits)

packet_at_counts : (f : ℕ) (state : State) (t : ℕ) (bits : List Bool) → parse_packet f state t bits
    ≡ (counted (length bits) (parse_parts f state t bits) >>= λ found rest. parse_padding found.0.outcome found.1 rest >>= λ u last. Read found.0 last)
unfolding parse_packet
packet_at_counts f state t bits = counted_then (length bits) (parse_parts f state t bits) (λ found used rest. parse_padding found.outcome used rest >>= λ u last. Read found last)

pub IsExact-packet_at : (f : ℕ) (state : State) (t : ℕ) → IsState f state → IsExact (IsPacket f state t) (parse_packet f state t)
IsExact-packet_at f state t has =
    IsExact-same (IsPacketThen f state t) (IsPacket f state t) (parse_packet f state t) (packet_joined f state t) (packet_apart f state t)
    (IsExact-by (IsPacketThen f state t) (λ bits. counted (length bits) (parse_parts f state t bits) >>= λ found rest. parse_padding found.0.outcome found.1 rest >>= λ u last. Read found.0 last) (parse_packet f state t)
    (packet_at_counts f state t)
    (IsExact-then (IsCounted (IsParts f state t)) IsPadding
    (λ bits. counted (length bits) (parse_parts f state t bits)) (λ found rest. parse_padding found.0.outcome found.1 rest >>= λ u last. Read found.0 last)
    (IsExact-counted (IsParts f state t) (parse_parts f state t) (IsExact-parts_at f state t has))
    (λ found word w. IsExact-map (λ (u : Unit {0}). found.0) (λ u word. word ≡ padding_word found.0.outcome found.1) (parse_padding found.0.outcome found.1) (IsExact-padding_at found.0.outcome found.1))
    (λ found word w. (found.0, padding_word found.0.outcome found.1, (tt, refl, refl)))))
