-- A packet without recent changes, at another level or with another mask and content: which bits spell it.
use Rattle.std.specs.List.{list_any}
use Rattle.std.specs.Option.{option_map}
use Rattle.std.specs.Prelude.{IfSome, ◌&&◌, IsSome, nat_le, slice_index_or}
use Rattle.std.proofs.Common.{◌≡◌, ◌≢◌, ℕ, ◌+◌, ◌*◌, ◌/◌, ◌%◌, ◌<◌, Bool, true, false, List, [], ◌∷◌, ◌++◌, length, take, drop, replicate, Option, None, Some, refl, sym, ap, ◌∙◌, arith, ◌-◌, cond, Ok, subst}
use Rattle.std.proofs.lemmas.Bool.{true≢false}
use Rattle.std.proofs.lemmas.List.{get_or_default, drop_all}
use Rattle.std.proofs.lemmas.Option.{same_Some}
use Rattle.bit_vectors.specs.Reading.{Read}
use Rattle.bit_vectors.specs.Vectors.{IsOne, bits_of, number_bits, padded}
use Rattle.bit_vectors.proofs.NumberBits.{number_bits-mod, number_bits-split}
use Rattle.run_code.proofs.RunWords.{run_bits-zeros}
use Rattle.robust_window.proofs.Ranges.{list_any-zeros}
use Rattle.packet_encode.specs.Forms.{AreDirections, Directions, Form, data_bits, form_bits, Content, Whole, Part, IsForm, wide}
use Rattle.packet_encode.proofs.Packets.{change_bits-short, has_one-zeros, no_change}
use Rattle.packet_decode.specs.Answers.{SpellsContent}
use Rattle.packet_decode.specs.PacketReading.{Spelled, parse_whole_packet, answer_of}
use Rattle.packet_decode.specs.Parts.{IsAtLevel, with_level, LatestHasPlaces, SpellLatest, kept_state, part_by}
use Rattle.packet_decode.specs.Spelling.{IsKnownContent, IsKept, Spells}
use Rattle.packet_decode.specs.State.{State, Change, change_of, next_state, in_reach, deduced_by, known_by, mask_after, Decoding}
use Rattle.packet_decode.specs.declared.decoder.Reading.TheVariants.{Written}
use Rattle.packet_decode.specs.declared.latest.Latest.{Latest}
use Rattle.packet_decode.proofs.DecoderAnswers.{IsFound, decoding_of, found_is, has_state, reading_is, written_is}
use Rattle.packet_decode.proofs.ExactChange.{any_one}
use Rattle.packet_decode.proofs.OneAnswer.{spelled_places, spells_read}
use Rattle.packet_decode.proofs.PlaceByStep.{unchanged_mask}

-- ---- bytes

byte_parts : (byte : ℕ) → number_bits 8 byte ≡ number_bits 2 (byte / 64) ++ (number_bits 4 (byte / 4 % 16) ++ number_bits 2 (byte % 4))
byte_parts byte =
    number_bits-split 2 6 byte
    ∙ ap (λ bits. number_bits 2 (byte / 64) ++ bits) (number_bits-split 4 2 byte ∙ (λ i. sym (number_bits-mod 4 4 (byte / 4) (omega arith)) i ++ sym (number_bits-mod 2 2 byte (omega arith)) i))

replaced : (high level low other : ℕ) (rest : List Bool)
    → take 2 ((number_bits 2 high ++ (number_bits 4 level ++ number_bits 2 low)) ++ rest) ++ (number_bits 4 other ++ drop 6 ((number_bits 2 high ++ (number_bits 4 level ++ number_bits 2 low)) ++ rest)) ≡ (number_bits 2 high ++ (number_bits 4 other ++ number_bits 2 low)) ++ rest
unfolding number_bits
replaced high level low other rest = refl

-- bytes with another level differ in these four bits at most
pub level_bits : (level : ℕ) (others : List ℕ) → level < 16 → others ≢ [] → bits_of (with_level level others) ≡ take 2 (bits_of others) ++ (number_bits 4 level ++ drop 6 (bits_of others))
level_bits level [] below some = absurd (some refl)
level_bits level (kept ∷ rest) below some =
    let byte = kept / 64 * 64 + 4 * level + kept % 4 in
    let high : byte / 64 ≡ kept / 64 = omega arith in
    let middle : byte / 4 % 16 ≡ level = omega arith in
    let low : byte % 4 ≡ kept % 4 = omega arith in
    ap (λ bits. bits ++ bits_of rest) (byte_parts byte ∙ (λ i. number_bits 2 (high i) ++ (number_bits 4 (middle i) ++ number_bits 2 (low i))))
    ∙ sym (replaced (kept / 64) (kept / 4 % 16) (kept % 4) level (bits_of rest))
    ∙ sym (ap (λ bits. take 2 (bits ++ bits_of rest) ++ (number_bits 4 level ++ drop 6 (bits ++ bits_of rest))) (byte_parts kept))

-- the byte and the rest of bytes at a level
pub at_level : (level kept byte : ℕ) (others rest : List ℕ) → IsAtLevel level (kept ∷ others) (byte ∷ rest) → (byte / 64 ≡ kept / 64) × (byte % 4 ≡ kept % 4) × (rest ≡ others) × (byte / 4 % 16 ≡ level)
at_level level kept byte others rest is =
    let are : byte ∷ rest ≡ (kept / 64 * 64 + 4 * level + kept % 4) ∷ others = is.bytes_are in
    let value : byte ≡ kept / 64 * 64 + 4 * level + kept % 4 = cc in
    let same : rest ≡ others = cc in
    (omega (arith, value, is.below), omega (arith, value, is.below), same, omega (arith, value, is.below))

-- ---- forms

-- without recent changes there are no directions
pub no_directions : (form : Form) (o : Option Directions) → form.recent ≡ replicate (length form.recent) false → IfSome o (AreDirections form) → o ≡ None
no_directions form None quiet are = refl
no_directions form (Some directions) quiet are =
    let place = are.some.0 in
    let one : IsOne form.recent place = are.recent place (get_or_default directions.predictable place false true are.some.1 ∙ are.some.2) in
    absurd (true≢false (sym (any_one form.recent place one) ∙ ap (list_any (λ (bit : Bool). bit)) quiet ∙ list_any-zeros (length form.recent)))

-- the bits of such a packet
quiet_bits : ℕ → List Bool → List Bool
quiet_bits level rest = (number_bits 2 2 ++ (number_bits 4 level ++ [])) ++ rest

quiet_bits-are : (form : Form) → form.recent ≡ replicate (length form.recent) false → form_bits form ≡ quiet_bits form.level (data_bits form.sent form.content)
unfolding form_bits quiet_bits
quiet_bits-are form quiet =
    ap (λ bits. bits ++ data_bits form.sent form.content)
    (change_bits-short form (no_change form (has_one-zeros form.recent quiet)) ∙ ap (λ bits. bits ++ (number_bits 4 form.level ++ [])) (run_bits-zeros form.recent quiet))

replaced_form : (level other : ℕ) (rest : List Bool) → padded (quiet_bits other rest) ≡ take 2 (padded (quiet_bits level rest)) ++ (number_bits 4 other ++ drop 6 (padded (quiet_bits level rest)))
unfolding number_bits quiet_bits
replaced_form level other rest = refl

-- at another level
pub form_at_level : (form : Form) (level : ℕ) → form.recent ≡ replicate (length form.recent) false
    → padded (form_bits (record form { level = level })) ≡ take 2 (padded (form_bits form)) ++ (number_bits 4 level ++ drop 6 (padded (form_bits form)))
form_at_level form level quiet =
    let rest = data_bits form.sent form.content in
    ap padded (quiet_bits-are (record form { level = level }) quiet)
    ∙ replaced_form form.level level rest
    ∙ sym (ap (λ bits. take 2 (padded bits) ++ (number_bits 4 level ++ drop 6 (padded bits))) (quiet_bits-are form quiet))

-- ---- A packet without recent changes whose mask and content became known is spelled by the same bits, at any level, under each
-- state by which that mask is deduced and that content is known

-- its content agrees with itself, and has the bits that were sent
kept_again : (sent : Content) (places : List Bool) (reached : Option (List Bool)) (content : List Bool) → IsKnownContent sent (Some places) reached (Some content) → IsKept places (Some content) sent
kept_again (Whole whole) places reached content known = λ place out. ap (λ (v : List Bool). slice_index_or v place false) (sym (same_Some content whole known))
kept_again (Part bits) places reached content known = tt

known_again : (sent : Content) (places : List Bool) (reached : Option (List Bool)) (content : List Bool) → IsKnownContent sent (Some places) reached (Some content) → IsKnownContent sent (Some places) (Some content) (Some content)
known_again (Whole whole) places reached content known = known
known_again (Part bits) places (Some was) content known = record { same_length = refl; kept = λ place out. refl; bits_are = known.bits_are }
known_again (Part bits) places None content known = absurd cc

-- at any level
module _ (f : ℕ) (state : State) (t : ℕ) (bits : List Bool) (form : Form) (mask content : List Bool) (s : Spells f state t bits form (Some mask) (Some content)) (quiet : form.recent ≡ replicate (length form.recent) false) where
  module _ (level : ℕ) (below : level < 16) where
    abbrev levelled : Form
    levelled = record form { level = level }

    levelled_form : IsForm f levelled
    levelled_form = record {
      recent = s.is_form.recent;
      level = below;
      directions = rw (no_directions form form.directions quiet s.is_form.directions) tt;
      sent = s.is_form.sent;
      content = s.is_form.content;
    }

    pub spelled_again : (other : List Bool) → other ≡ take 2 bits ++ (number_bits 4 level ++ drop 6 bits) → (later : State) (n : ℕ) → deduced_by later n (change_of levelled) ≡ Some mask → known_by later n (change_of levelled) ≡ Some content → Spells f later n other levelled (Some mask) (Some content)
    spelled_again other is later n deduced known = record {
      is_form = levelled_form;
      bits_are = is ∙ ap (λ (b : List Bool). take 2 b ++ (number_bits 4 level ++ drop 6 b)) s.bits_are ∙ sym (form_at_level form level quiet);
      mask_is = rw deduced refl;
      unmasked = tt;
      masked = rw known (record { sent = s.masked.sent; fits = s.masked.fits; kept = kept_again form.content (wide form mask) (known_by state t (change_of form)) content s.content_is });
      content_is = rw known (known_again form.content (wide form mask) (known_by state t (change_of form)) content s.content_is);
    }

-- of two vectors with the same number, both are in reach or none is
reach_alike : (number : Option ℕ) (v other : List Bool) (t level : ℕ) → IsSome (in_reach (part_by number v) t level) → in_reach (part_by number other) t level ≡ Some other
reach_alike None v other t level some = absurd cc
reach_alike (Some last) v other t level some = by_reach (nat_le (t - 1 - last) level) some
  where
    by_reach : (within : Bool) → IsSome (cond within (Some v) None) → cond within (Some other) None ≡ Some other
    by_reach true some = refl
    by_reach false some = absurd cc

module _ (latest : Latest) (shown : Change) (bytes : List ℕ) (has : LatestHasPlaces (length latest.content) latest) (r : SpellLatest latest shown bytes) (t level : ℕ) (near : IsSome (in_reach (part_by latest.content_number latest.content) t level)) where
  -- the first part, without directions
  abbrev now : Change
  now = record { recent = shown.recent; level = level; directions = None }

  change_again : change_of (record r.form { level = level }) ≡ now
  change_again = (λ i. record { recent = r.recent i; level = level; directions = no_directions r.form r.form.directions r.quiet r.spells.is_form.directions i })

  shown_quiet : shown.recent ≡ replicate (length shown.recent) false
  shown_quiet = rw (← r.recent) r.quiet

  stays : mask_after latest.mask now ≡ latest.mask
  stays = unchanged_mask latest.mask shown.recent level None shown.recent (has.mask ∙ sym (ap length (sym r.recent) ∙ r.spells.is_form.recent)) refl shown_quiet

  mask_again : deduced_by (kept_state latest) t (change_of (record r.form { level = level })) ≡ Some latest.mask
  mask_again =
      let mask_near : IsSome (in_reach (part_by latest.mask_number latest.content) t level) =
      subst (λ (n : Option ℕ). IsSome (in_reach (part_by n latest.content) t level)) (sym r.numbers) near in
      ap (deduced_by (kept_state latest) t) change_again
      ∙ ap (option_map (λ mask. mask_after mask now)) (reach_alike latest.mask_number latest.content latest.mask t level mask_near)
      ∙ ap Some stays

  content_again : known_by (kept_state latest) t (change_of (record r.form { level = level })) ≡ Some latest.content
  content_again = reach_alike latest.content_number latest.content latest.content t level near

  -- if what is known is in reach, data at that level are read as what is known
  pub read_again : (others : List ℕ) → IsAtLevel level bytes others → parse_whole_packet (length latest.content) (kept_state latest) t (bits_of others) ≡ Read (record { change = now; outcome = Spelled (Some latest.mask) (Some latest.content) }) []
  read_again others at =
      spells_read (length latest.content) (kept_state latest) t (has_state (decoding_of latest shown) latest shown refl has) (bits_of others) (record r.form { level = level }) (Some latest.mask) (Some latest.content)
      (spelled_again (length latest.content) r.state r.t (bits_of bytes) r.form latest.mask latest.content r.spells r.quiet level at.below (bits_of others) (ap bits_of at.bytes_are ∙ level_bits level bytes at.below at.some) (kept_state latest) t mask_again content_again)
      ∙ ap (λ (x : Change). Read (record { change = x; outcome = Spelled (Some latest.mask) (Some latest.content) }) []) change_again

-- data that are read as what is known
module _ (d : Decoding) (latest : Latest) (shown : Change) (view : decoding_of latest shown ≡ d) (vectors : LatestHasPlaces (length latest.content) latest) (t : ℕ) (now : Change) (bytes : List ℕ)
    (read : parse_whole_packet (length latest.content) (kept_state latest) t (bits_of bytes) ≡ Read (record { change = now; outcome = Spelled (Some latest.mask) (Some latest.content) }) []) where
  pub answer_again : answer_of d.places d.state t (bits_of bytes) ≡ Ok Written
  answer_again =
      reading_is d latest shown view vectors (length latest.content) t (record { bits = bits_of bytes; place = 0 }) bytes refl refl refl
      (record { change = now; outcome = Spelled (Some latest.mask) (Some latest.content) }) (record { bits = bits_of bytes; place = length (bits_of bytes) }) refl
      (read ∙ ap (λ (b : List Bool). Read (record { change = now; outcome = Spelled (Some latest.mask) (Some latest.content) }) b) (sym (drop_all (length (bits_of bytes)) (bits_of bytes) (omega arith))))

  pub found_again : (form : Form) (mask content : Option (List Bool)) → Spells d.places d.state t (bits_of bytes) form mask content → IsFound now (Some latest.mask) (Some latest.content) form mask content
  found_again =
      found_is d latest shown view vectors (length latest.content) t (record { bits = bits_of bytes; place = 0 }) bytes refl refl refl now (Some latest.mask) (Some latest.content) [] read

  pub written_again : (form : Form) (mask : Option (List Bool)) (content : List Bool) → Spells d.places d.state t (bits_of bytes) form mask (Some content)
      → decoding_of (record { mask_number = Some t; mask = latest.mask; content_number = Some t; content = latest.content }) now ≡ record { places = d.places; state = next_state d.state t mask (Some content); recent = form.recent; level = form.level }
  written_again form mask content s =
      written_is d latest shown view vectors (length latest.content) t (record { bits = bits_of bytes; place = 0 }) bytes refl refl refl
      (record { mask_number = Some t; mask = latest.mask; content_number = Some t; content = latest.content }) now now (Some latest.mask) (Some latest.content) refl refl refl refl form mask content (found_again form mask (Some content) s)
      (spelled_places d.places d.state t (bits_of bytes) form mask (Some content) (has_state d latest shown view vectors) s).1

-- ---- what is remembered

-- something, only if it can be repeated, and then these bytes
pub kept_is : (can few : Bool) (bytes kept : List ℕ) → kept ≡ cond (can && few) bytes [] → kept ≢ [] → (can ≡ true) × (kept ≡ bytes)
kept_is true true bytes kept is some = (refl, is)
kept_is true false bytes kept is some = absurd (some is)
kept_is false few bytes kept is some = absurd (some is)

-- data that were read, if their mask and their content became known and they have no change
pub spell_latest : (f : ℕ) (state : State) (t : ℕ) (bytes kept : List ℕ) (new : Latest) (next : Change) (told : Option (List Bool)) (content : List Bool) → SpellsContent f state t (bits_of bytes)
    → ((form : Form) (mask read : Option (List Bool)) → Spells f state t (bits_of bytes) form mask read → IsFound next told (Some content) form mask read)
    → kept ≡ bytes → told ≡ Some new.mask → new.content ≡ content → length new.content ≡ f → next.recent ≡ replicate (length next.recent) false → new.mask_number ≡ new.content_number → SpellLatest new next kept
spell_latest f state t bytes kept new next told content (form, mask, read, s) found kept_is told_is content_is len quiet numbers =
    let is = found form mask (Some read) s in
    record {
      state = state;
      t = t;
      form = form;
      spells = rw (len, kept_is) (
          subst (λ (m : Option (List Bool)). Spells f state t (bits_of bytes) form m (Some new.content)) (sym is.mask_is ∙ told_is)
          (subst (λ (v : Option (List Bool)). Spells f state t (bits_of bytes) form mask v) (sym is.content_is ∙ ap Some (sym content_is)) s)
          );
      recent = sym (ap (λ (x : Change). x.recent) is.change_is);
      quiet = subst (λ (x : Change). x.recent ≡ replicate (length x.recent) false) is.change_is quiet;
      numbers = numbers;
    }
