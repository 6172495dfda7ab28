-- Bits that are viable are the first of some data, and no others are.
use Rattle.std.proofs.Common.{◌≡◌, ℕ, ◌+◌, ◌-◌, ◌*◌, ◌≤◌, Bool, true, false, List, [], ◌∷◌, ◌++◌, length, replicate, Option, Some, None, refl, sym, ap, ◌∙◌, subst, append_assoc, arith, inl, inr, ◌⊎◌}
use Rattle.std.specs.Prelude.{IfSome, IfNone}
use Rattle.std.proofs.lemmas.Bool.{cases_lt}
use Rattle.std.proofs.lemmas.List.{length-append, append-nil}
use Rattle.bit_vectors.specs.Vectors.{byte_count, bits_of, padded, vector_bytes}
use Rattle.bit_vectors.proofs.NumberBits.{length-vector_bytes, AreBytes-vector_bytes, bits_of-vector_bytes}
use Rattle.bit_vectors.proofs.ExactReading.{cut_longer}
use Rattle.packet_encode.specs.Forms.{Content, Whole, Part, Form, HasPlaces, FitsPlaces, change_bits, form_bits, wide}
use Rattle.packet_encode.proofs.Packets.{HasMost, change_bits-most, form_bits-most, ones_most}
use Rattle.packet_decode.specs.declared.decoder.Reading.{Reading}
use Rattle.packet_decode.specs.State.{State, IsState, change_of, known_by}
use Rattle.packet_decode.specs.Spelling.{IsWholeContent, FitsMask, Spells, HasOpaqueFront}
use Rattle.packet_decode.specs.Answers.{SpellsPacket, IsOpaque, Viable, Says, BeginReadable}
use Rattle.packet_decode.specs.PacketReading.{Spelled, Opaque, outcome_answer}
use Rattle.packet_decode.specs.PartWords.{AllPlaces}
use Rattle.packet_decode.proofs.ExactPacket.{length-places_of}
use Rattle.packet_decode.proofs.ExactAnswers.{spelled_says, front_says}
use Rattle.packet_decode.proofs.OneAnswer.{says_means, spelled_places}

-- ---- how many bits a packet has, and a front

most_of : (f : ℕ) (places : List Bool) (content : Content) → length places ≡ f → HasPlaces f content → FitsPlaces places content → HasMost f content
most_of f places (Whole content) len has fits = has
most_of f places (Part bits) len has fits = omega (arith, fits, ones_most places)

part_most : (f : ℕ) (form : Form) (known mask : Option (List Bool)) (c : Content) → length form.recent ≡ f → HasPlaces f c → AllPlaces f mask → IfNone mask (IsWholeContent c) → IfSome mask (λ m. FitsPlaces (wide form m) c) → HasMost f c
part_most f form known mask (Whole whole) recent has all unmasked masked = has
part_most f form known None (Part bits) recent has all unmasked masked = absurd unmasked
part_most f form known (Some mask) (Part bits) recent has all unmasked masked = most_of f (wide form mask) (Part bits) (length-places_of f (change_of form) mask recent all) has masked

fits_of : (form : Form) (known mask : Option (List Bool)) → IfSome mask (FitsMask form known) → IfSome mask (λ m. FitsPlaces (wide form m) form.content)
fits_of form known None fits = tt
fits_of form known (Some mask) fits = fits.fits

spelled_most : (f : ℕ) (state : State) (t : ℕ) (bits : List Bool) (form : Form) (mask content : Option (List Bool)) → IsState f state → 1 ≤ f → f ≤ 49152 → Spells f state t bits form mask content → length (form_bits form) ≤ 10 * f + 42
spelled_most f state t bits form mask content has some most s =
    let is = s.is_form in
    let places = spelled_places f state t bits form mask content has s in
    let known = known_by state t (change_of form) in
    form_bits-most f form some most is.recent is.sent
    (part_most f form (known_by state t (change_of form)) mask form.content is.recent is.content places.0 s.unmasked (fits_of form (known_by state t (change_of form)) mask s.masked))

-- ---- data

module _ (f : ℕ) (state : State) (t : ℕ) (has : IsState f state) where
  abbrev zeros_after : List Bool → List Bool
  zeros_after bits = replicate (8 * byte_count (length bits) - length bits) false

  -- bits that begin some others, which say something once they are padded
  data_by : (bits rest all : List Bool) (reading : Reading) → all ≡ bits ++ rest → length all ≤ 524288 → Says f state t (padded all) reading → BeginReadable f state t bits
  data_by bits rest all reading parts most says = record {
    body = vector_bytes all;
    bytes = AreBytes-vector_bytes all;
    size = omega (arith, length-vector_bytes all);
    rest = rest ++ zeros_after all;
    begins = bits_of-vector_bytes all ∙ ap (λ (front : List Bool). front ++ zeros_after all) parts ∙ append_assoc bits rest (zeros_after all);
    reading = reading;
    says = subst (λ (b : List Bool). Says f state t b reading) (sym (bits_of-vector_bytes all)) says;
  }

  -- if a packet is spelled, it is whole bytes
  spelled_data : (bits rest : List Bool) → 1 ≤ f → f ≤ 49152 → SpellsPacket f state t (bits ++ rest) → BeginReadable f state t bits
  spelled_data bits rest some most (form, mask, content, s) =
      let word = form_bits form in
      let all = bits_of-vector_bytes (form_bits form) ∙ sym s.bits_are in
      record {
        body = vector_bytes (form_bits form);
        bytes = AreBytes-vector_bytes (form_bits form);
        size = omega (arith, length-vector_bytes (form_bits form), spelled_most f state t (bits ++ rest) form mask content has some most s);
        rest = rest;
        begins = all;
        reading = outcome_answer state form.level (Spelled mask content);
        says = spelled_says f state t has (bits_of (vector_bytes (form_bits form))) form mask content form.level (subst (λ (b : List Bool). Spells f state t b form mask content) (sym all) s) refl;
      }

  -- a front that is padded is still one
  front_by : (level : ℕ) (bits : List Bool) (o : HasOpaqueFront f state t bits level) (more others : List Bool) → more ≡ (change_bits o.form ++ true ∷ []) ++ others → HasOpaqueFront f state t more level
  front_by level bits o more others parts = record {
    form = o.form;
    is_form = o.is_form;
    level_is = o.level_is;
    out_of_reach = o.out_of_reach;
    no_mask = o.no_mask;
    not_whole = o.not_whole;
    rest = others;
    bits_are = parts ∙ append_assoc (change_bits o.form) (true ∷ []) others;
  }

  opaque_data : (bits rest : List Bool) → f ≤ 49152 → length bits ≤ 524288 → IsOpaque f state t (bits ++ rest) → BeginReadable f state t bits
  opaque_data bits rest most few (level, o) =
      let parts : bits ++ rest ≡ (change_bits o.form ++ true ∷ []) ++ o.rest = o.bits_are ∙ sym (append_assoc (change_bits o.form) (true ∷ []) o.rest) in
      let is = o.is_form in
      let short : length (change_bits o.form ++ true ∷ []) ≤ 524288 =
      omega (arith, length-append (change_bits o.form) (true ∷ []), change_bits-most o.form, is.recent) in
      elim (cases_lt (length (change_bits o.form ++ true ∷ [])) (length bits)) [
        | inl lt ↦
            let m = cut_longer (change_bits o.form ++ true ∷ []) o.rest bits rest (sym parts) (omega arith) in
            let front = front_by level (bits ++ rest) o (padded bits) (m.0 ++ zeros_after bits) (ap (λ (b : List Bool). b ++ zeros_after bits) m.1 ∙ append_assoc (change_bits o.form ++ true ∷ []) m.0 (zeros_after bits)) in
            data_by bits [] bits (outcome_answer state level Opaque) (sym (append-nil bits)) few (front_says f state t has (padded bits) level front)
        | inr le ↦
            let m = cut_longer bits rest (change_bits o.form ++ true ∷ []) o.rest parts le in
            let front = front_by level (bits ++ rest) o (padded (change_bits o.form ++ true ∷ [])) (zeros_after (change_bits o.form ++ true ∷ [])) refl in
            data_by bits m.0 (change_bits o.form ++ true ∷ []) (outcome_answer state level Opaque) m.1 short (front_says f state t has (padded (change_bits o.form ++ true ∷ [])) level front)
      ]

  pub viable_data : (bits : List Bool) → 1 ≤ f → f ≤ 49152 → length bits ≤ 524288 → Viable f state t bits → BeginReadable f state t bits
  viable_data bits some most few (rest, inl spelled) = spelled_data bits rest some most spelled
  viable_data bits some most few (rest, inr opaque) = opaque_data bits rest most few opaque

  pub data_viable : (bits : List Bool) → BeginReadable f state t bits → Viable f state t bits
  data_viable bits d = (d.rest, subst (λ (b : List Bool). SpellsPacket f state t b ⊎ IsOpaque f state t b) d.begins (says_means f state t has (bits_of d.body) d.reading d.says))
