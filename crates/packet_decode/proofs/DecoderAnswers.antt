-- What reading bytes answers, by the parts of a decoder and of a packet, and what the decoder is after it.
use Rattle.std.specs.Bool.{OnTrue}
use Rattle.std.specs.Borrow.{Bor}
use Rattle.std.specs.Option.{option_map}
use Rattle.std.specs.Prelude.{OnOk}
use Rattle.std.proofs.Common.{◌≡◌, ℕ, ◌-◌, List, Bool, length, Ok, Err, sym, ap, ◌∙◌, arith, ◌≢◌, ◌↔◌, [], true, false, cond, replicate, drop, Option, Some, None, Result, IfSome, IsSome, IsTrue, refl, subst, ◌≤◌, nat_le, if◌then◌else◌}
use Rattle.std.proofs.lemmas.Bool.{true≢false, false≢true}
use Rattle.std.proofs.lemmas.List.{length-drop}
use Rattle.std.proofs.lemmas.Option.{same_Some}
use Rattle.bit_vectors.specs.Reading.{EyeState, bits_left, Read, Parsed, Gives, MovesOn}
use Rattle.bit_vectors.specs.Vectors.{bits_of}
use Rattle.bit_vectors.specs.declared.fault.BitFault.{BitFault}
use Rattle.bit_vectors.specs.declared.fault.BitFault.TheVariants.{Wrong, EndsEarly}
use Rattle.bit_vectors.proofs.ExactReading.{read_same}
use Rattle.packet_encode.specs.Forms.{Form}
use Rattle.packet_decode.specs.Answers.{Says, IsExactAnswer}
use Rattle.packet_decode.specs.PacketReading.{Found, Tells, parse_whole_packet, outcome_answer, parsed_answer, answer_of, Spelled, Opaque, missed, parse_change, parse_data, parse_parts, parse_padding, parse_end, parse_packet}
use Rattle.packet_decode.specs.Parts.{IsDeduced, LatestHasPlaces, kept_state, outcome_of, part_by, tells_content, tells_mask, lent}
use Rattle.packet_decode.specs.Spelling.{Spells}
use Rattle.packet_decode.specs.State.{State, KnownVector, HasVector, IsState, Change, change_of, in_reach, deduced_by, known_if, mask_after, next_part, next_state, Decoding, tells_nothing, known_by}
use Rattle.packet_decode.specs.declared.decoder.Reading.{Reading}
use Rattle.packet_decode.specs.declared.latest.DataKind.{DataKind}
use Rattle.packet_decode.specs.declared.latest.DataKind.TheVariants.{Deduced as DeducedKind, Sent as SentKind, Maskless as MasklessKind, Opaque as OpaqueKind}
use Rattle.packet_decode.specs.declared.latest.Latest.{Latest}
use Rattle.packet_decode.proofs.ExactAnswers.{answer_of-exact, spelled_says}
use Rattle.packet_decode.proofs.OneAnswer.{spells_read, says_answer}

-- ---- what was told of all bits, as an answer

module _ {A : Type 0} (f : ℕ) (state : State) (t : ℕ) (bits : List Bool) (view : A → Found) (new : EyeState) (same : new.bits ≡ bits) where
  pub answer_ok : (x : A) → Tells view (Ok x) new (parse_whole_packet f state t bits) → answer_of f state t bits ≡ Ok (outcome_answer state (view x).change.level (view x).outcome)
  answer_ok x told = ap (parsed_answer state bits) told

  pub answer_err : (fault : BitFault) → Tells view (Err fault) new (parse_whole_packet f state t bits) → answer_of f state t bits ≡ Err fault
  answer_err (Wrong bit) told =
      let place : length bits - length told.0 - 1 ≡ bit = omega (arith, told.2, ap (λ (b : List Bool). length b) same) in
      ap (parsed_answer state bits) told.1 ∙ ap (λ (n : ℕ). Err (Wrong n)) place
  answer_err (EndsEarly bit) told =
      ap (parsed_answer state bits) told.0 ∙ ap (λ (n : ℕ). Err (EndsEarly n)) (sym (told.1 ∙ ap (λ (b : List Bool). length b) same))

-- ---- an answer that is the one of the reading function

missed_tells : (part : Option KnownVector) (level : ℕ) → tells_nothing (Ok (missed part level true)) ≡ true → ⊥
missed_tells None level none = cc
missed_tells (Some known) level none = cc

not_nothing : (state : State) (level : ℕ) (mask content : Option (List Bool)) → tells_nothing (Ok (outcome_answer state level (Spelled mask content))) ≡ true → ⊥
not_nothing state level mask None none = missed_tells state.content level none
not_nothing state level mask (Some content) none = cc

module _ (f : ℕ) (state : State) (t : ℕ) (bits : List Bool) (has : IsState f state) (result : Result Reading BitFault) (is : answer_of f state t bits ≡ result) where
  pub exact_by : IsExactAnswer f state t bits result
  exact_by = subst (λ (r : Result Reading BitFault). IsExactAnswer f state t bits r) is (answer_of-exact f state t has bits)

  pub says_by : (reading : Reading) → (result ≡ Ok reading) ↔ Says f state t bits reading
  says_by reading = (λ e. subst (λ (r : Result Reading BitFault). IsExactAnswer f state t bits r) (is ∙ e) (answer_of-exact f state t has bits), λ s. sym is ∙ says_answer f state t has bits reading s)

  -- a packet that is spelled is not told as a fault, nor as an opaque front
  pub spelled_by : (form : Form) (mask content : Option (List Bool)) → Spells f state t bits form mask content → tells_nothing result ≡ true → ⊥
  spelled_by form mask content s none =
      let told = sym (says_answer f state t has bits (outcome_answer state form.level (Spelled mask content)) (spelled_says f state t has bits form mask content form.level s refl)) ∙ is in
      not_nothing state form.level mask content (ap tells_nothing told ∙ none)

-- ---- the parts of a decoder

abbrev pub decoding_of : Latest → Change → Decoding
decoding_of latest shown = record { places = length latest.content; state = kept_state latest; recent = shown.recent; level = shown.level }

part_has : (f : ℕ) (number : Option ℕ) (vector : List Bool) → length vector ≡ f → HasVector f (part_by number vector)
part_has f None vector len = tt
part_has f (Some number) vector len = len

abbrev built : ℕ → Option KnownVector → Option KnownVector → List Bool → ℕ → Decoding
built places mask content recent level = record { places = places; state = record { mask = mask; content = content }; recent = recent; level = level }

-- what was read is what is spelled
pub record IsFound (next : Change) (read_mask read_content : Option (List Bool)) (form : Form) (mask content : Option (List Bool)) : Type 0 where
  pub change_is : next ≡ change_of form
  pub mask_is : read_mask ≡ mask
  pub content_is : read_content ≡ content

-- a decoder of these parts, and an eye at the first of these bytes
module _ (d : Decoding) (latest : Latest) (shown : Change) (view : decoding_of latest shown ≡ d) (vectors : LatestHasPlaces (length latest.content) latest) where
  pub has_state : IsState d.places d.state
  has_state = subst (λ (x : Decoding). IsState x.places x.state) view (record { mask = part_has (length latest.content) latest.mask_number latest.mask vectors.mask; content = part_has (length latest.content) latest.content_number latest.content refl })

  module _ (f t : ℕ) (eye : EyeState) (bytes : List ℕ) (places : f ≡ length latest.content) (bits : eye.bits ≡ bits_of bytes) (start : eye.place ≡ 0) where
    whole_is : parse_whole_packet f (kept_state latest) t (bits_left eye) ≡ parse_whole_packet d.places d.state t (bits_of bytes)
    whole_is =
        let left : bits_left eye ≡ bits_of bytes = ap (λ (n : ℕ). drop n eye.bits) start ∙ bits in
        ap (λ (n : ℕ). parse_whole_packet n (kept_state latest) t (bits_left eye)) places
        ∙ ap (λ (b : List Bool). parse_whole_packet (length latest.content) (kept_state latest) t b) left
        ∙ ap (λ (x : Decoding). parse_whole_packet x.places x.state t (bits_of bytes)) view

    pub fault_is : {A : Type 0} (see : A → Found) (fault : BitFault) (new : EyeState) → new.bits ≡ eye.bits → Tells see (Err fault) new (parse_whole_packet f (kept_state latest) t (bits_left eye))
        → answer_of d.places d.state t (bits_of bytes) ≡ Err fault
    fault_is see fault new same told =
        answer_err d.places d.state t (bits_of bytes) see new (same ∙ bits) fault (subst (λ r. Tells see (Err fault) new r) whole_is told)

    pub reading_is : (found : Found) (new : EyeState) → new.bits ≡ eye.bits → parse_whole_packet f (kept_state latest) t (bits_left eye) ≡ Read found (bits_left new)
        → answer_of d.places d.state t (bits_of bytes) ≡ Ok (outcome_answer (kept_state latest) found.change.level found.outcome)
    reading_is found new same told =
        answer_ok d.places d.state t (bits_of bytes) (λ (x : Found). x) new (same ∙ bits) found (sym whole_is ∙ told)
        ∙ ap (λ (x : Decoding). Ok (outcome_answer x.state found.change.level found.outcome)) (sym view)

    -- a packet that is spelled is read as its mask and its content
    pub found_is : (next : Change) (read_mask read_content : Option (List Bool)) (rest : List Bool) → parse_whole_packet f (kept_state latest) t (bits_left eye) ≡ Read (record { change = next; outcome = Spelled read_mask read_content }) rest
        → (form : Form) (mask content : Option (List Bool)) → Spells d.places d.state t (bits_of bytes) form mask content → IsFound next read_mask read_content form mask content
    found_is next read_mask read_content rest told form mask content s =
        let same : ◌≡◌ {A = Found} (record { change = next; outcome = Spelled read_mask read_content }) (record { change = change_of form; outcome = Spelled mask content }) =
        (read_same (record { change = next; outcome = Spelled read_mask read_content }) (record { change = change_of form; outcome = Spelled mask content }) rest []
        (sym told ∙ whole_is ∙ spells_read d.places d.state t has_state (bits_of bytes) form mask content s)).0 in
        let outcome_is : Spelled read_mask read_content ≡ Spelled mask content = ap (λ (x : Found). x.outcome) same in
        record { change_is = ap (λ (x : Found). x.change) same; mask_is = cc; content_is = cc }

    -- an opaque front is not spelled
    pub opaque_unspelled : (next : Change) (rest : List Bool) → parse_whole_packet f (kept_state latest) t (bits_left eye) ≡ Read (record { change = next; outcome = Opaque }) rest
        → (form : Form) (mask content : Option (List Bool)) → Spells d.places d.state t (bits_of bytes) form mask content → ⊥
    opaque_unspelled next rest told form mask content s =
        let same : ◌≡◌ {A = Found} (record { change = next; outcome = Opaque }) (record { change = change_of form; outcome = Spelled mask content }) =
        (read_same (record { change = next; outcome = Opaque }) (record { change = change_of form; outcome = Spelled mask content }) rest []
        (sym told ∙ whole_is ∙ spells_read d.places d.state t has_state (bits_of bytes) form mask content s)).0 in
        let outcome_is : Opaque ≡ Spelled mask content = ap (λ (x : Found). x.outcome) same in
        cc

    -- after a packet of which the mask alone becomes known
    pub alone_is : (new : Latest) (told mask : Option (List Bool)) → new.content ≡ latest.content → new.content_number ≡ latest.content_number → part_by new.mask_number new.mask ≡ next_part (part_by latest.mask_number latest.mask) t told → told ≡ mask
        → decoding_of new shown ≡ record { places = d.places; state = next_state d.state t mask None; recent = d.recent; level = d.level }
    alone_is new told mask content number part same =
        ap (λ (m : Option KnownVector). built (length new.content) m (part_by new.content_number new.content) shown.recent shown.level) (part ∙ ap (next_part (part_by latest.mask_number latest.mask) t) same)
        ∙ ap (λ (n : Option ℕ). built (length new.content) (next_part (part_by latest.mask_number latest.mask) t mask) (part_by n new.content) shown.recent shown.level) number
        ∙ ap (λ (v : List Bool). built (length v) (next_part (part_by latest.mask_number latest.mask) t mask) (part_by latest.content_number v) shown.recent shown.level) content
        ∙ ap (λ (x : Decoding). record { places = x.places; state = next_state x.state t mask None; recent = x.recent; level = x.level }) view

    -- after a packet whose content becomes known
    pub written_is : (new : Latest) (after next : Change) (told read_content : Option (List Bool)) → new.content_number ≡ Some t → Some new.content ≡ read_content → part_by new.mask_number new.mask ≡ next_part (part_by latest.mask_number latest.mask) t told → after ≡ next
        → (form : Form) (mask : Option (List Bool)) (content : List Bool) → IsFound next told read_content form mask (Some content) → length content ≡ d.places
        → decoding_of new after ≡ record { places = d.places; state = next_state d.state t mask (Some content); recent = form.recent; level = form.level }
    written_is new after next told read_content number content_is part after_is form mask content found len =
        let same : new.content ≡ content = same_Some new.content content (content_is ∙ found.content_is) in
        ap (λ (m : Option KnownVector). built (length new.content) m (part_by new.content_number new.content) after.recent after.level) (part ∙ ap (next_part (part_by latest.mask_number latest.mask) t) found.mask_is)
        ∙ ap (λ (n : Option ℕ). built (length new.content) (next_part (part_by latest.mask_number latest.mask) t mask) (part_by n new.content) after.recent after.level) number
        ∙ ap (λ (v : List Bool). built (length v) (next_part (part_by latest.mask_number latest.mask) t mask) (part_by (Some t) v) after.recent after.level) same
        ∙ ap (λ (x : Change). built (length content) (next_part (part_by latest.mask_number latest.mask) t mask) (part_by (Some t) content) x.recent x.level) (after_is ∙ found.change_is)
        ∙ ap (λ (n : ℕ). built n (next_part (part_by latest.mask_number latest.mask) t mask) (part_by (Some t) content) form.recent form.level) len
        ∙ ap (λ (x : Decoding). record { places = d.places; state = next_state x.state t mask (Some content); recent = form.recent; level = form.level }) view

-- ---- the mask of a packet that is spelled

-- if nothing changed, the mask that is deduced is the known one
stays_by : (within : Bool) (old : List Bool) (next : Change) → mask_after old next ≡ old → IfSome (option_map (λ mask. mask_after mask next) (cond within (Some old) None)) (λ m. old ≡ m)
stays_by true old next stays = sym stays
stays_by false old next stays = tt

stays_deduced : (number : Option ℕ) (mask : List Bool) (t : ℕ) (next : Change) → mask_after mask next ≡ mask → IfSome (option_map (λ m. mask_after m next) (in_reach (part_by number mask) t next.level)) (λ m. mask ≡ m)
stays_deduced None mask t next stays = tt
stays_deduced (Some last) mask t next stays = stays_by (nat_le (t - 1 - last) next.level) mask next stays

-- the mask that is made the latest one is the deduced one
pub deduced_is : (quiet : Bool) (latest : Latest) (t : ℕ) (next : Change) (deduced new : List Bool) → length latest.mask ≡ length next.recent → new ≡ cond quiet latest.mask deduced
    → (IsTrue quiet ↔ (next.recent ≡ replicate (length next.recent) false)) → OnTrue quiet ((mask : List Bool) → length mask ≡ length next.recent → mask_after mask next ≡ mask)
    → (next.recent ≢ replicate (length next.recent) false → IfSome (deduced_by (kept_state latest) t next) (λ m. deduced ≡ m)) → IfSome (deduced_by (kept_state latest) t next) (λ m. new ≡ m)
deduced_is true latest t next deduced new places is zero stays changed = rw is (stays_deduced latest.mask_number latest.mask t next (stays latest.mask places))
deduced_is false latest t next deduced new places is zero stays changed = rw is (changed (λ none. absurd (true≢false (sym (zero.1 none)))))

-- the mask that a packet tells is made the latest one
some_mask : (deduced : Option (List Bool)) (mask : List Bool) → IsSome deduced → IfSome deduced (λ m. mask ≡ m) → deduced ≡ Some mask
some_mask None mask has same = absurd cc
some_mask (Some m) mask has same = ap Some (sym same)

pub record IsTold (kind : DataKind) (latest new : Latest) (t : ℕ) (deduced : Option (List Bool)) (sent content : List Bool) : Type 0 where
  pub mask : Option (List Bool)
  pub outcome : outcome_of kind deduced sent content ≡ Spelled mask (known_if (tells_content kind) content)
  pub part : part_by new.mask_number new.mask ≡ next_part (part_by latest.mask_number latest.mask) t mask
  pub is_new : tells_mask kind ≡ true → mask ≡ Some new.mask

pub told_as : (kind : DataKind) (latest new : Latest) (t : ℕ) (deduced : Option (List Bool)) (sent content : List Bool) → (kind ≡ OpaqueKind → ⊥) → (IsDeduced kind → IsSome deduced) → ((known : Bool) → kind ≡ SentKind known → new.mask ≡ sent)
    → (IsDeduced kind → IfSome deduced (λ m. new.mask ≡ m)) → (tells_mask kind ≡ true → new.mask_number ≡ Some t) → (tells_mask kind ≡ false → new ≡ latest) → IsTold kind latest new t deduced sent content
told_as (DeducedKind known) latest new t deduced sent content some has by_sent by_deduced number untold = record {
  mask = Some new.mask;
  outcome = ap (λ (m : Option (List Bool)). Spelled m (known_if known content)) (some_mask deduced new.mask (has tt) (by_deduced tt));
  part = ap (λ (n : Option ℕ). part_by n new.mask) (number refl);
  is_new = λ tells. refl;
}
told_as (SentKind known) latest new t deduced sent content some has by_sent by_deduced number untold = record {
  mask = Some new.mask;
  outcome = ap (λ (m : List Bool). Spelled (Some m) (known_if known content)) (sym (by_sent known refl));
  part = ap (λ (n : Option ℕ). part_by n new.mask) (number refl);
  is_new = λ tells. refl;
}
told_as MasklessKind latest new t deduced sent content some has by_sent by_deduced number untold =
    record { mask = None; outcome = refl; part = ap (λ (x : Latest). part_by x.mask_number x.mask) (untold refl); is_new = λ tells. absurd (false≢true tells) }
told_as OpaqueKind latest new t deduced sent content some has by_sent by_deduced number untold = absurd (some refl)

-- ---- what a whole packet tells, by what its parts, its padding and its end tell, and what those parts tell, by the first of them and
-- the data

-- a fault that a call gives is told
pub fault_told : (fault : BitFault) (new : EyeState) (r : Parsed (Unit {0})) → Gives (λ (u : Unit {0}). u) (Err fault) new r → Tells (λ (u : Unit {0}). u) (Err fault) new r
fault_told (Wrong bit) new r given = (bits_left new, given.0, omega (arith, given.1, given.2, length-drop new.place new.bits))
fault_told (EndsEarly bit) new r given = (given.0, given.1)

-- one move after another
pub moves_on : (old mid new : EyeState) → MovesOn old mid → MovesOn mid new → MovesOn old new
moves_on old mid new first second = record { bits = rw (second.bits) first.bits; forward = omega (arith, first.forward, second.forward) }

-- as many bits were read as the place says, from the first one
pub used_is : (old new : EyeState) → old.place ≡ 0 → MovesOn old new → new.place ≤ length new.bits → length (bits_left old) - length (bits_left new) ≡ new.place
used_is old new start moved within = omega (arith, start, within, ap (λ (b : List Bool). length b) moved.bits, length-drop old.place old.bits, length-drop new.place new.bits)

module _ (view : DataKind → Found) (f : ℕ) (state : State) (t : ℕ) (bits : List Bool) where
  -- a fault of its parts
  pub whole_parts : (fault : BitFault) (new : EyeState) → Tells view (Err fault) new (parse_parts f state t bits) → Tells view (Err fault) new (parse_whole_packet f state t bits)
  unfolding parse_whole_packet parse_packet
  whole_parts (Wrong bit) new told = (told.0, rw told.1 refl, told.2)
  whole_parts (EndsEarly bit) new told = (rw told.0 refl, told.1)

  module _ (found : Found) (rest : List Bool) (used : ℕ) (read : parse_parts f state t bits ≡ Read found rest) (used_as : length bits - length rest ≡ used) where
    -- a fault of its padding
    pub whole_padding : (fault : BitFault) (new : EyeState) → Tells (λ (u : Unit {0}). u) (Err fault) new (parse_padding found.outcome used rest) → Tells view (Err fault) new (parse_whole_packet f state t bits)
    unfolding parse_whole_packet parse_packet
    whole_padding (Wrong bit) new told = (told.0, rw (read, used_as, told.1) refl, told.2)
    whole_padding (EndsEarly bit) new told = (rw (read, used_as, told.0) refl, told.1)

    module _ (last : List Bool) (padded : parse_padding found.outcome used rest ≡ Read tt last) where
      -- a fault at its end
      pub whole_end : (fault : BitFault) (new : EyeState) → Tells (λ (u : Unit {0}). u) (Err fault) new (parse_end found.outcome last) → Tells view (Err fault) new (parse_whole_packet f state t bits)
      unfolding parse_whole_packet parse_packet
      whole_end (Wrong bit) new told = (told.0, rw (read, used_as, padded, told.1) refl, told.2)
      whole_end (EndsEarly bit) new told = (rw (read, used_as, padded, told.0) refl, told.1)

      -- all of it
      pub whole_read : (after : List Bool) → parse_end found.outcome last ≡ Read tt after → parse_whole_packet f state t bits ≡ Read found after
      unfolding parse_whole_packet parse_packet
      whole_read after ended = rw (read, used_as, padded, ended) refl

-- ---- its parts

-- a known vector in reach, at a level that is the same
pub reach_is : (part : Option KnownVector) (t level same : ℕ) (vector : Option (Bor (List Bool))) → lent vector ≡ in_reach part t level → level ≡ same → in_reach part t same ≡ lent vector
reach_is part t level same vector is levels = sym (is ∙ ap (λ (l : ℕ). in_reach part t l) levels)

chosen : (within : Bool) (vector mask : List Bool) → (if within then Some vector else None) ≡ Some mask → mask ≡ vector
chosen true vector mask is = cc
chosen false vector mask is = absurd cc

-- the vector in reach is the known one
pub reach_vector : (number : Option ℕ) (vector : List Bool) (t level : ℕ) (mask : List Bool) → in_reach (part_by number vector) t level ≡ Some mask → mask ≡ vector
reach_vector None vector t level mask is = absurd cc
reach_vector (Some last) vector t level mask is = chosen (nat_le (t - 1 - last) level) vector mask is

module _ (f : ℕ) (state : State) (t : ℕ) (bits : List Bool) (change : Change) where
  -- a fault of the first part
  pub parts_change : (view : DataKind → Found) (fault : BitFault) (new : EyeState) → Gives (λ (u : Unit {0}). change) (Err fault) new (parse_change f bits) → Tells view (Err fault) new (parse_parts f state t bits)
  unfolding parse_parts
  parts_change view (Wrong bit) new given = (bits_left new, rw given.0 refl, omega (arith, given.1, given.2, length-drop new.place new.bits))
  parts_change view (EndsEarly bit) new given = (rw given.0 refl, given.1)

  module _ (rest : List Bool) (read : parse_change f bits ≡ Read change rest) (sent content : List Bool) (new : EyeState) where
    parts_by : (result : Result DataKind BitFault) → Tells (λ kind. outcome_of kind (deduced_by state t change) sent content) result new (parse_data f change (deduced_by state t change) (known_by state t change) rest)
        → Tells (λ kind. record { change = change; outcome = outcome_of kind (deduced_by state t change) sent content }) result new (parse_parts f state t bits)
    unfolding parse_parts
    parts_by (Ok kind) told = rw (read, told) refl
    parts_by (Err (Wrong bit)) told = (told.0, rw (read, told.1) refl, told.2)
    parts_by (Err (EndsEarly bit)) told = (rw (read, told.0) refl, told.1)

    -- the data, by the mask that is deduced and the content that is known
    pub parts_data : (deduced known : Option (List Bool)) → deduced_by state t change ≡ deduced → known_by state t change ≡ known → (result : Result DataKind BitFault)
        → Tells (λ kind. outcome_of kind deduced sent content) result new (parse_data f change deduced known rest)
        → Tells (λ kind. record { change = change; outcome = outcome_of kind (deduced_by state t change) sent content }) result new (parse_parts f state t bits)
    parts_data deduced known d k result told =
        parts_by result (subst (λ (x : Option (List Bool)). Tells (λ kind. outcome_of kind x sent content) result new (parse_data f change x (known_by state t change) rest)) (sym d)
        (subst (λ (y : Option (List Bool)). Tells (λ kind. outcome_of kind deduced sent content) result new (parse_data f change deduced y rest)) (sym k) told))

-- ---- of a call that gave a value

pub on_ok : {A E : Type 0} (result : Result A E) (P : Type 0) → P → OnOk result P
on_ok (Ok value) P p = p
on_ok (Err fault) P p = tt
