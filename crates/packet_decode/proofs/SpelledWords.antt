-- The words that the reader of packets takes are those that spell a packet, by the forms of the first part and the fronts up to where they are opaque.
use Rattle.std.specs.Option.{option_map, option_or}
use Rattle.std.specs.Prelude.{IfSome, IfNone, count_by}
use Rattle.std.proofs.Common.{◌≡◌, ℕ, Bool, true, false, List, [], ◌∷◌, ◌++◌, length, Option, Some, None, refl, sym, ap, ◌∙◌, subst, append_assoc, inl, inr, ◌⊎◌, append-nil, arith}
use Rattle.std.proofs.lemmas.List.{length-append}
use Rattle.bit_vectors.specs.Reading.{IsExact, Parsed, Read, TooShort, WrongBit}
use Rattle.bit_vectors.specs.Vectors.{padded}
use Rattle.bit_vectors.proofs.ExactReading.{IsExact-same}
use Rattle.count_code.specs.Code.{count_bits}
use Rattle.run_code.specs.Extraction.{SameOutside, parse_filled, places_down}
use Rattle.run_code.specs.Runs.{edges, run_bits}
use Rattle.run_code.proofs.Filling.{IsExact-filled_at, parse_filled-no_wrong, parse_filled-short}
use Rattle.run_code.proofs.InverseBits.{length-extract}
use Rattle.run_code.proofs.Ones.{AreApart, length-places_down, places_down_apart}
use Rattle.packet_encode.specs.Forms.{Directions, Content, Whole, Part, Form, AreDirections, HasPlaces, IsForm, data_bits, form_bits, change_bits}
use Rattle.packet_decode.specs.PacketReading.{Outcome, Spelled, Opaque, Found, parse_change}
use Rattle.packet_decode.specs.PartWords.{AllPlaces, IsContent, IsData, IsPart, IsWhole, places_of, KeepsOutside, IsFirstWord}
use Rattle.packet_decode.specs.Spelling.{IsKnownContent, IsWholeContent, FitsMask, Spells, HasOpaqueFront, IsFilled}
use Rattle.packet_decode.specs.State.{State, IsState, Change, change_of, in_reach, deduced_by, known_by, mask_after}
use Rattle.packet_decode.proofs.ExactChange.{bare, AreDirections-by, IsChange, change_word, change_bits_are, IsChangeWord, IsExact-change_at}
use Rattle.packet_decode.proofs.ExactPacket.{IsParts, IsPacket, deduced_places, filled_by}

-- ---- forms

abbrev pub form_of : Change → Option (List Bool) → Content → Form
form_of change sent c = record { recent = change.recent; level = change.level; directions = change.directions; sent = sent; content = c }

directions_of : (change : Change) (sent : Option (List Bool)) (c : Content) (o : Option Directions) → IfSome o (AreDirections (bare change.recent change.level)) → IfSome o (AreDirections (form_of change sent c))
directions_of change sent c None are = tt
directions_of change sent c (Some directions) are = AreDirections-by (bare change.recent change.level) (form_of change sent c) directions refl refl are

pub is_form : (f : ℕ) (change : Change) (sent : Option (List Bool)) (c : Content) → IsChange f change → IfSome sent (λ m. length m ≡ f) → HasPlaces f c → IsForm f (form_of change sent c)
is_form f change sent c is mask_places content_places =
    record { recent = is.recent; level = is.level; directions = directions_of change sent c change.directions is.directions; sent = mask_places; content = content_places }

directions_from : (form : Form) (o : Option Directions) → IfSome o (AreDirections form) → IfSome o (AreDirections (bare form.recent form.level))
directions_from form None are = tt
directions_from form (Some directions) are = AreDirections-by form (bare form.recent form.level) directions refl refl are

pub is_change : (f : ℕ) (form : Form) → IsForm f form → IsChange f (change_of form)
is_change f form is = record { recent = is.recent; level = is.level; directions = directions_from form form.directions is.directions }

form_bits_are : (change : Change) (sent : Option (List Bool)) (c : Content) → form_bits (form_of change sent c) ≡ change_word change ++ data_bits sent c
unfolding form_bits change_bits
form_bits_are change sent c = refl

-- ---- what is sent, and what becomes known by it

-- by a deduced mask or none and a known content or none
pub record IsSentBy (change : Change) (deduced known sent : Option (List Bool)) (c : Content) (content : Option (List Bool)) : Type 0 where
  pub unmasked : IfNone (option_or deduced sent) (IsWholeContent c)
  pub masked : IfSome (option_or deduced sent) (FitsMask (form_of change sent c) known)
  pub content_is : IsKnownContent c (option_map (places_of change) (option_or deduced sent)) known content

-- some mask and content are sent by these bits
record AreSent (f : ℕ) (change : Change) (deduced known : Option (List Bool)) (o : Outcome) (word : List Bool) : Type 0 where
  sent : Option (List Bool)
  c : Content
  content : Option (List Bool)
  by : IsSentBy change deduced known sent c content
  outcome : o ≡ Spelled (option_or deduced sent) content
  mask_places : IfSome sent (λ m. length m ≡ f)
  content_places : HasPlaces f c
  bits : word ≡ data_bits sent c

-- nothing is deduced, and neither a mask nor whole content is sent
record IsUnsentEnd (deduced : Option (List Bool)) (o : Outcome) (word : List Bool) : Type 0 where
  none : deduced ≡ None
  opaque : o ≡ Opaque
  bits : word ≡ true ∷ []

abbrev fits_part : Change → List Bool → List Bool → Type 0
fits_part change mask bits = length bits ≡ count_by (λ bit. bit) (places_of change mask)

part_of : (change : Change) (mask bits : List Bool) (known content : Option (List Bool)) → fits_part change mask bits → IsKnownContent (Part bits) (Some (places_of change mask)) known content → IsPart change mask known (Spelled (Some mask) content) bits
part_of change mask bits None content fits is = (ap (Spelled (Some mask)) is, fits)
part_of change mask bits (Some known) None fits is = absurd is
part_of change mask bits (Some known) (Some content) fits is = (content, is, refl)

whole_of : (f : ℕ) (change : Change) (mask whole : List Bool) (known content : Option (List Bool)) → length whole ≡ f → IfSome known (λ was. SameOutside (places_of change mask) was whole) → content ≡ Some whole
    → IsWhole f change mask known (Spelled (Some mask) content) (count_bits (length whole) ++ whole)
whole_of f change mask whole known content len kept is = (whole, ((len, kept), rw len refl), ap (Spelled (Some mask)) is)

-- what is told by extracted bits, and by whole content
record IsToldPart (change : Change) (mask : List Bool) (known : Option (List Bool)) (o : Outcome) (bits : List Bool) : Type 0 where
  content : Option (List Bool)
  outcome : o ≡ Spelled (Some mask) content
  fits : fits_part change mask bits
  is : IsKnownContent (Part bits) (Some (places_of change mask)) known content

told_part : (change : Change) (mask : List Bool) (known : Option (List Bool)) (o : Outcome) (bits : List Bool) → IsPart change mask known o bits → IsToldPart change mask known o bits
told_part change mask None o bits (is, len) = record { content = None; outcome = is; fits = len; is = refl }
told_part change mask (Some known) o bits (content, filled, is) = record {
  content = Some content;
  outcome = is;
  fits = ap (λ (b : List Bool). length b) filled.bits_are ∙ length-extract content (places_of change mask);
  is = filled;
}

module _ (f : ℕ) (change : Change) where
  pub data_of : (deduced known sent : Option (List Bool)) (c : Content) (content : Option (List Bool)) → IfSome sent (λ m. length m ≡ f) → HasPlaces f c → IsSentBy change deduced known sent c content
      → IsData f change deduced known (Spelled (option_or deduced sent) content) (data_bits sent c)
  data_of None known None (Part bits) content mask_places content_places s = absurd s.unmasked
  data_of (Some deduced) known None (Part bits) content mask_places content_places s = part_of change deduced bits known content s.masked.fits s.content_is
  data_of None known None (Whole whole) content mask_places content_places s =
      (whole, ((content_places, tt), rw content_places refl), ap (Spelled None) s.content_is)
  data_of (Some deduced) known None (Whole whole) content mask_places content_places s = whole_of f change deduced whole known content content_places s.masked.kept s.content_is
  data_of None known (Some m) (Part bits) content mask_places content_places s =
      (m, run_bits (edges m), false ∷ bits, (mask_places, refl), part_of change m bits known content s.masked.fits s.content_is, refl)
  data_of (Some deduced) known (Some m) (Part bits) content mask_places content_places s =
      (deduced, run_bits (edges deduced), false ∷ bits, (refl, refl), part_of change deduced bits known content s.masked.fits s.content_is, rw s.masked.sent refl)
  data_of None known (Some m) (Whole whole) content mask_places content_places s =
      (m, run_bits (edges m), true ∷ (count_bits (length whole) ++ whole), (mask_places, refl), whole_of f change m whole known content content_places s.masked.kept s.content_is, refl)
  data_of (Some deduced) known (Some m) (Whole whole) content mask_places content_places s =
      (deduced, run_bits (edges deduced), true ∷ (count_bits (length whole) ++ whole), (refl, refl), whole_of f change deduced whole known content content_places s.masked.kept s.content_is, rw s.masked.sent refl)

  pub data_opaque : (known : Option (List Bool)) → IsData f change None known Opaque (true ∷ [])
  data_opaque known = (refl, refl)

  -- ---- the converse

  abbrev Sent : Option (List Bool) → Option (List Bool) → Outcome → List Bool → Type 0
  Sent deduced known o word = AreSent f change deduced known o word

  as_part : (mask word : List Bool) (deduced known sent : Option (List Bool)) (o : Outcome) (bits : List Bool) → option_or deduced sent ≡ Some mask → IfSome sent (λ m. m ≡ mask) → IfSome sent (λ m. length m ≡ f)
      → IsToldPart change mask known o bits → word ≡ data_bits sent (Part bits) → Sent deduced known o word
  as_part mask word deduced known sent o bits is same mask_places told parts = record {
    sent = sent;
    c = Part bits;
    content = told.content;
    by = record {
      unmasked = rw is tt;
      masked = rw is (record { sent = same; fits = told.fits; kept = tt });
      content_is = rw is told.is;
    };
    outcome = told.outcome ∙ ap (λ (m : Option (List Bool)). Spelled m told.content) (sym is);
    mask_places = mask_places;
    content_places = tt;
    bits = parts;
  }

  as_whole : (mask word : List Bool) (deduced known sent : Option (List Bool)) (o : Outcome) (back : List Bool) → option_or deduced sent ≡ Some mask → IfSome sent (λ m. m ≡ mask) → IfSome sent (λ m. length m ≡ f)
      → (w : IsWhole f change mask known o back) → word ≡ data_bits sent (Whole w.0) → Sent deduced known o word
  as_whole mask word deduced known sent o back is same mask_places (content, ((len, kept), bits), told) parts = record {
    sent = sent;
    c = Whole content;
    content = Some content;
    by = record {
      unmasked = rw is tt;
      masked = rw is (record { sent = same; fits = tt; kept = kept });
      content_is = refl;
    };
    outcome = told ∙ ap (λ (m : Option (List Bool)). Spelled m (Some content)) (sym is);
    mask_places = mask_places;
    content_places = len;
    bits = parts;
  }

  -- the content after a sent mask
  after_mask : (mask front back : List Bool) (deduced known : Option (List Bool)) (o : Outcome) → option_or deduced (Some mask) ≡ Some mask → length mask ≡ f → front ≡ run_bits (edges mask) → IsContent f change mask known o back
      → Sent deduced known o (false ∷ true ∷ (front ++ back))
  after_mask mask front [] deduced known o is len runs h = absurd h
  after_mask mask front (true ∷ back) deduced known o is len runs h = as_whole mask (false ∷ true ∷ (front ++ true ∷ back)) deduced known (Some mask) o back is refl len h (rw (runs, h.1.1, h.1.0.0) refl)
  after_mask mask front (false ∷ back) deduced known o is len runs h = as_part mask (false ∷ true ∷ (front ++ false ∷ back)) deduced known (Some mask) o back is refl len (told_part change mask known o back h) (rw runs refl)

  masked_of : (word : List Bool) (deduced known : Option (List Bool)) (o : Outcome) → AllPlaces f deduced → IsData f change deduced known o (false ∷ true ∷ word) → Sent deduced known o (false ∷ true ∷ word)
  masked_of word None known o all (mask, front, back, is, then, parts) = rw parts (after_mask mask front back None known o refl is.0 is.1 then)
  masked_of word (Some deduced) known o all (mask, front, back, is, then, parts) =
      rw parts (after_mask mask front back (Some deduced) known o (ap Some (sym is.0)) (ap (λ (m : List Bool). length m) is.0 ∙ all) is.1 then)

  sent_or_opaque : (word : List Bool) (deduced known : Option (List Bool)) (o : Outcome) → AllPlaces f deduced → IsData f change deduced known o word → AreSent f change deduced known o word ⊎ IsUnsentEnd deduced o word
  sent_or_opaque [] deduced known o all h = absurd h
  sent_or_opaque (true ∷ word) None known o all h = inr (record { none = refl; opaque = h.0; bits = rw h.1 refl })
  sent_or_opaque (true ∷ word) (Some deduced) known o all h = inl (as_part deduced (true ∷ word) (Some deduced) known None o word refl tt tt (told_part change deduced known o word h) refl)
  sent_or_opaque (false ∷ []) deduced known o all h = absurd h
  sent_or_opaque (false ∷ true ∷ word) deduced known o all h = inl (masked_of word deduced known o all h)
  sent_or_opaque (false ∷ false ∷ []) None known o all h = absurd h
  sent_or_opaque (false ∷ false ∷ []) (Some deduced) known o all h = absurd h
  sent_or_opaque (false ∷ false ∷ true ∷ word) None known o all (content, ((len, none), bits), told) = inl (record {
    sent = None;
    c = Whole content;
    content = Some content;
    by = record { unmasked = tt; masked = tt; content_is = refl };
    outcome = told;
    mask_places = tt;
    content_places = len;
    bits = rw (bits, len) refl;
  })
  sent_or_opaque (false ∷ false ∷ true ∷ word) (Some deduced) known o all h = inl (as_whole deduced (false ∷ false ∷ true ∷ word) (Some deduced) known None o word refl tt tt h (rw (h.1.1, h.1.0.0) refl))
  sent_or_opaque (false ∷ false ∷ false ∷ word) None known o all h = absurd h
  sent_or_opaque (false ∷ false ∷ false ∷ word) (Some deduced) known o all h = absurd h

-- ---- what is read is spelled

abbrev spelled : Change → Option (List Bool) → Option (List Bool) → Found
spelled change mask content = record { change = change; outcome = Spelled mask content }

abbrev opaque : Change → Found
opaque change = record { change = change; outcome = Opaque }

pub same_outcome : (mask other content others : Option (List Bool)) → Spelled mask content ≡ Spelled other others → (mask ≡ other) × (content ≡ others)
same_outcome mask other content others e = (cc, cc)

not_opaque : {A : Type 0} (mask content : Option (List Bool)) → Spelled mask content ≡ Opaque → A
not_opaque mask content e = absurd cc

none_in_reach : (change : Change) (mask : Option (List Bool)) → option_map (λ (m : List Bool). mask_after m change) mask ≡ None → mask ≡ None
none_in_reach change None none = refl
none_in_reach change (Some mask) none = absurd cc

module _ (f : ℕ) (state : State) (t : ℕ) (has : IsState f state) where
  body_is : (change : Change) (o : Outcome) (body : List Bool) (sent : Option (List Bool)) (c : Content) (p : IsParts f state t (record { change = change; outcome = o }) body) → p.back ≡ data_bits sent c → body ≡ form_bits (form_of change sent c)
  body_is change o body sent c p back = p.parts ∙ rw (p.first.1, back, form_bits_are change sent c) refl

  sent_spells : (change : Change) (mask content : Option (List Bool)) (word : List Bool) (h : IsPacket f state t (spelled change mask content) word)
      → AreSent f change (deduced_by state t change) (known_by state t change) (Spelled mask content) h.parts.back
      → (form : Form) × Spells f state t word form mask content × (change_of form ≡ change)
  sent_spells change mask content word h s =
      let parts = h.parts in
      let same = same_outcome mask (option_or (deduced_by state t change) s.sent) content s.content s.outcome in (
        form_of change s.sent s.c,
        record {
          is_form = is_form f change s.sent s.c parts.first.0 s.mask_places s.content_places;
          bits_are = h.bits ∙ ap padded (body_is change (Spelled mask content) h.body s.sent s.c parts s.bits);
          mask_is = same.0;
          unmasked = rw same.0 s.by.unmasked;
          masked = rw same.0 s.by.masked;
          content_is = rw (same.0, same.1) s.by.content_is;
        },
        refl,
      )

  -- a packet that is read is spelled by a form with this first part
  pub packet_spells : (change : Change) (mask content : Option (List Bool)) (word : List Bool) → IsPacket f state t (spelled change mask content) word → (form : Form) × Spells f state t word form mask content × (change_of form ≡ change)
  packet_spells change mask content word h =
      elim (sent_or_opaque f change h.parts.back (deduced_by state t change) (known_by state t change) (Spelled mask content) (deduced_places f state t change has h.parts.first.0) h.parts.others) [
        | inl sent ↦ sent_spells change mask content word h sent
        | inr end ↦ not_opaque mask content end.opaque
      ]

  -- ---- what is spelled is read

  parts_of : (form : Form) (o : Outcome) (back : List Bool) → IsForm f form → IsData f (change_of form) (deduced_by state t (change_of form)) (known_by state t (change_of form)) o back
      → IsParts f state t (record { change = change_of form; outcome = o }) (change_bits form ++ back)
  parts_of form o back is others = record {
    front = change_bits form;
    back = back;
    first = (is_change f form is, change_bits_are form);
    others = others;
    parts = refl;
  }

  form_parts : (form : Form) → form_bits form ≡ change_bits form ++ data_bits form.sent form.content
  unfolding form_bits
  form_parts form = refl

  pub spelled_sent : (word : List Bool) (form : Form) (mask content : Option (List Bool)) → Spells f state t word form mask content → IsSentBy (change_of form) (deduced_by state t (change_of form)) (known_by state t (change_of form)) form.sent form.content content
  spelled_sent word form mask content s =
      let is : mask ≡ option_or (deduced_by state t (change_of form)) form.sent = s.mask_is in
      record { unmasked = rw (← is) s.unmasked; masked = rw (← is) s.masked; content_is = rw (← is) s.content_is }

  spelled_data : (word : List Bool) (form : Form) (mask content : Option (List Bool)) → Spells f state t word form mask content
      → IsData f (change_of form) (deduced_by state t (change_of form)) (known_by state t (change_of form)) (Spelled mask content) (data_bits form.sent form.content)
  spelled_data word form mask content s =
      let change = change_of form in
      subst (λ (m : Option (List Bool)). IsData f (change_of form) (deduced_by state t (change_of form)) (known_by state t (change_of form)) (Spelled m content) (data_bits form.sent form.content)) (sym s.mask_is)
      (data_of f (change_of form) (deduced_by state t (change_of form)) (known_by state t (change_of form)) form.sent form.content content s.is_form.sent s.is_form.content (spelled_sent word form mask content s))

  -- bits that spell a packet are read as its first part, its mask and its content
  pub spells_packet : (word : List Bool) (form : Form) (mask content : Option (List Bool)) → Spells f state t word form mask content → IsPacket f state t (spelled (change_of form) mask content) word
  spells_packet word form mask content s = record {
    body = change_bits form ++ data_bits form.sent form.content;
    parts = parts_of form (Spelled mask content) (data_bits form.sent form.content) s.is_form (spelled_data word form mask content s);
    bits = s.bits_are ∙ ap padded (form_parts form);
  }

  -- ---- opaque fronts

  pub packet_opaque : (change : Change) (word rest : List Bool) → IsPacket f state t (opaque change) word → HasOpaqueFront f state t (word ++ rest) change.level
  packet_opaque change word rest h =
      let parts = h.parts in
      elim (sent_or_opaque f change h.parts.back (deduced_by state t change) (known_by state t change) Opaque (deduced_places f state t change has h.parts.first.0) h.parts.others) [
        | inl sent ↦ not_opaque (option_or (deduced_by state t change) sent.sent) sent.content (sym sent.outcome)
        | inr end ↦ record {
          form = form_of change None (Part []);
          is_form = is_form f change None (Part []) parts.first.0 tt tt;
          level_is = refl;
          out_of_reach = none_in_reach change (in_reach state.mask t change.level) end.none;
          no_mask = refl;
          not_whole = λ whole. whole;
          rest = rest;
          bits_are = rw (h.bits, append-nil h.body, parts.parts, parts.first.1, append_assoc (change_word change) parts.back rest, end.bits, change_bits_are (form_of change None (Part []))) refl;
        }
      ]

  pub opaque_packet : (bits : List Bool) (level : ℕ) → HasOpaqueFront f state t bits level → (change : Change) × (word : List Bool) × (rest : List Bool) × IsPacket f state t (opaque change) word × (change.level ≡ level) × (bits ≡ word ++ rest)
  opaque_packet bits level o =
      let none : deduced_by state t (change_of o.form) ≡ None = ap (option_map (λ (m : List Bool). mask_after m (change_of o.form))) (ap (in_reach state.mask t) o.level_is ∙ o.out_of_reach) in
      let others = subst (λ (d : Option (List Bool)). IsData f (change_of o.form) d (known_by state t (change_of o.form)) Opaque (true ∷ [])) (sym none) (data_opaque f (change_of o.form) (known_by state t (change_of o.form))) in (
        change_of o.form,
        change_bits o.form ++ true ∷ [],
        o.rest,
        record { body = change_bits o.form ++ true ∷ []; parts = parts_of o.form Opaque (true ∷ []) o.is_form others; bits = sym (append-nil (change_bits o.form ++ true ∷ [])) },
        o.level_is,
        o.bits_are ∙ sym (append_assoc (change_bits o.form) (true ∷ []) o.rest),
      )

-- ---- the first part by its forms, and what is sent as a word of the other parts

first_joined : (f : ℕ) (change : Change) (word : List Bool) → IsChangeWord f change word → IsFirstWord f change word
first_joined f change word (is, bits) = (
  record { recent = change.recent; level = change.level; directions = change.directions; sent = None; content = Part [] },
  is_form f change None (Part []) is tt tt,
  refl,
  bits ∙ sym (change_bits_are (record { recent = change.recent; level = change.level; directions = change.directions; sent = None; content = Part [] })),
)

first_apart : (f : ℕ) (change : Change) (word : List Bool) → IsFirstWord f change word → IsChangeWord f change word
first_apart f change word (form, is, same, bits) =
    subst (λ (c : Change). IsChangeWord f c word) same (is_change f form is, bits ∙ change_bits_are form)

pub IsExact-first : (f : ℕ) → IsExact (IsFirstWord f) (parse_change f)
IsExact-first f = IsExact-same (IsChangeWord f) (IsFirstWord f) (parse_change f) (first_joined f) (first_apart f) (IsExact-change_at f)

-- ---- what is sent, as a word of the parts after the first

pub deduced_whole : (f : ℕ) (change : Change) (mask content : List Bool) (known sent : Option (List Bool)) → IfSome sent (λ m. m ≡ mask) → KeepsOutside f (places_of change mask) known content
    → IsData f change (Some mask) known (Spelled (Some mask) (Some content)) (data_bits sent (Whole content))
deduced_whole f change mask content known None same agrees = (content, (agrees, rw agrees.0 refl), refl)
deduced_whole f change mask content known (Some m) same agrees =
    (mask, run_bits (edges mask), true ∷ (count_bits (length content) ++ content), (refl, refl), (content, (agrees, rw agrees.0 refl), refl), rw same refl)

pub deduced_part : (f : ℕ) (change : Change) (mask known bits content : List Bool) (sent : Option (List Bool)) → IfSome sent (λ m. m ≡ mask) → IsFilled (places_of change mask) known bits content
    → IsData f change (Some mask) (Some known) (Spelled (Some mask) (Some content)) (data_bits sent (Part bits))
deduced_part f change mask known bits content None same filled = (content, filled, refl)
deduced_part f change mask known bits content (Some m) same filled = (mask, run_bits (edges mask), false ∷ bits, (refl, refl), (content, filled, refl), rw same refl)

pub deduced_mask_alone : (f : ℕ) (change : Change) (mask bits : List Bool) (sent : Option (List Bool)) → IfSome sent (λ m. m ≡ mask) → length bits ≡ count_by (λ bit. bit) (places_of change mask)
    → IsData f change (Some mask) None (Spelled (Some mask) None) (data_bits sent (Part bits))
deduced_mask_alone f change mask bits None same fits = (refl, fits)
deduced_mask_alone f change mask bits (Some m) same fits = (mask, run_bits (edges mask), false ∷ bits, (refl, refl), (refl, fits), rw same refl)

pub sent_whole : (f : ℕ) (change : Change) (mask content : List Bool) (known : Option (List Bool)) → length mask ≡ f → KeepsOutside f (places_of change mask) known content
    → IsData f change None known (Spelled (Some mask) (Some content)) (data_bits (Some mask) (Whole content))
sent_whole f change mask content known len agrees = (mask, run_bits (edges mask), true ∷ (count_bits (length content) ++ content), (len, refl), (content, (agrees, rw agrees.0 refl), refl), refl)

pub sent_part : (f : ℕ) (change : Change) (mask known bits content : List Bool) → length mask ≡ f → IsFilled (places_of change mask) known bits content
    → IsData f change None (Some known) (Spelled (Some mask) (Some content)) (data_bits (Some mask) (Part bits))
sent_part f change mask known bits content len filled = (mask, run_bits (edges mask), false ∷ bits, (len, refl), (content, filled, refl), refl)

pub sent_mask_alone : (f : ℕ) (change : Change) (mask bits : List Bool) → length mask ≡ f → length bits ≡ count_by (λ bit. bit) (places_of change mask)
    → IsData f change None None (Spelled (Some mask) None) (data_bits (Some mask) (Part bits))
sent_mask_alone f change mask bits len fits = (mask, run_bits (edges mask), false ∷ bits, (len, refl), (refl, fits), refl)

pub content_alone : (f : ℕ) (change : Change) (content : List Bool) (known : Option (List Bool)) → length content ≡ f → IsData f change None known (Spelled None (Some content)) (data_bits None (Whole content))
content_alone f change content known len = (content, ((len, tt), rw len refl), refl)

-- ---- any bits fill the extracted places

all_read : (bits word rest : List Bool) → bits ≡ word ++ rest → length word ≡ length bits → bits ≡ word
all_read bits word [] parts len = parts ∙ append-nil word
all_read bits word (bit ∷ rest) parts len = absurd (omega (arith, ap length parts, length-append word (bit ∷ rest)))

pub filled : (places known bits : List Bool) → length known ≡ length places → length bits ≡ count_by (λ bit. bit) places → (content : List Bool) × IsFilled places known bits content
filled places known bits len fits = by (parse_filled (places_down places) known bits) refl
  where
    by : (r : Parsed (List Bool)) → parse_filled (places_down places) known bits ≡ r → (content : List Bool) × IsFilled places known bits content
    by (Read content rest) read =
        let apart : AreApart (places_down places) (length known) = rw len (places_down_apart places) in
        let (word, is, parts) = (IsExact-filled_at (places_down places) known apart).read_is bits content rest read in
        let whole : bits ≡ word = all_read bits word rest parts (ap length is.1 ∙ length-extract content places ∙ sym fits) in
        (content, filled_by places known bits content (is.0, whole ∙ is.1))
    by (WrongBit rest) wrong = absurd (parse_filled-no_wrong (places_down places) known bits rest wrong)
    by TooShort short = absurd (omega (arith, parse_filled-short (places_down places) known bits short, length-places_down places))
