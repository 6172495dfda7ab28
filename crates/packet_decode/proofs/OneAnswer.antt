-- Only one answer is exact, and the bits and the state determine the packet.
use Rattle.std.proofs.Common.{◌≡◌, ℕ, ◌+◌, ◌*◌, ◌-◌, ◌≤◌, Bool, true, false, List, [], ◌∷◌, ◌++◌, length, take, replicate, Option, Some, None, Result, Ok, Err, refl, sym, ap, ◌∙◌, subst, append_assoc, arith, inl, inr}
use Rattle.std.specs.Prelude.{IfSome, IfNone, IsSome, IsNone, IsSomeAnd, count_by}
use Rattle.std.specs.Option.{option_map, option_or}
use Rattle.std.proofs.lemmas.Bool.{cases_lt}
use Rattle.std.proofs.lemmas.List.{length-append, append-nil, append_cancel_left, take_at}
use Rattle.std.proofs.lemmas.Option.{same_Some}
use Rattle.bit_vectors.specs.Vectors.{byte_count}
use Rattle.bit_vectors.specs.declared.fault.BitFault.{BitFault}
use Rattle.bit_vectors.specs.declared.fault.BitFault.TheVariants.{Wrong, EndsEarly}
use Rattle.bit_vectors.specs.Reading.{Parsed, Read, WrongBit, ◌>>=◌}
use Rattle.bit_vectors.proofs.ExactReading.{read_same}
use Rattle.run_code.specs.Runs.{edges, run_bits}
use Rattle.packet_encode.specs.Forms.{Content, Whole, Part, HasPlaces, Form, content_bits, data_bits, change_bits, form_bits, wide}
use Rattle.packet_decode.specs.declared.decoder.Reading.{Reading}
use Rattle.packet_decode.specs.declared.decoder.Reading.TheVariants.{Written, Unsynced, Gap}
use Rattle.packet_decode.specs.State.{KnownVector, State, IsState, HasVector, Change, change_of, next_part, next_state, deduced_by, known_by}
use Rattle.packet_decode.specs.Spelling.{IsKnownContent, IsWholeContent, FitsMask, Spells, HasOpaqueFront}
use Rattle.packet_decode.specs.Answers.{SpellsPacket, SpellsMaskAlone, Viable, IsHopeless, IsIncomplete, Says, IsSoundAnswer, IsExactAnswer}
use Rattle.packet_decode.specs.PacketReading.{Spelled, Opaque, Found, parse_end, parse_packet, parse_whole_packet, missed, parsed_answer, answer_of}
use Rattle.packet_decode.proofs.ExactChange.{change_word, change_bits_are}
use Rattle.packet_decode.specs.PartWords.{AllPlaces, places_of}
use Rattle.packet_decode.proofs.ExactPacket.{IsExact-packet_at, deduced_places, known_places}
use Rattle.packet_decode.proofs.SpelledWords.{IsSentBy, form_of, is_change, same_outcome, spelled_sent, spells_packet, opaque_packet}
use Rattle.packet_decode.proofs.ExactAnswers.{Means, means_viable, take_viable, fewer_viable, answer_of-exact}

-- an exact answer is sound
pub exact_sound : (f : ℕ) (state : State) (t : ℕ) (bits : List Bool) (answer : Result Reading BitFault) → IsExactAnswer f state t bits answer → IsSoundAnswer f state t bits answer
exact_sound f state t bits (Ok reading) h = h
exact_sound f state t bits (Err (Wrong bit)) h = h.0
exact_sound f state t bits (Err (EndsEarly bit)) h = h.0

-- nothing but a packet that is spelled must stand at the end
abbrev closed : Parsed Found → Parsed Found
closed r = r >>= λ found rest. parse_end found.outcome rest >>= λ u last. Read found last

whole_is : (f : ℕ) (state : State) (t : ℕ) (bits : List Bool) (r : Parsed Found) → parse_packet f state t bits ≡ r → parse_whole_packet f state t bits ≡ closed r
unfolding parse_whole_packet
whole_is f state t bits r e = ap closed e

module _ (f : ℕ) (state : State) (t : ℕ) (has : IsState f state) where
  -- ---- what is spelled is read

  spelled_end : (change : Change) (mask content : Option (List Bool)) → closed (Read (record { change = change; outcome = Spelled mask content }) []) ≡ Read (record { change = change; outcome = Spelled mask content }) []
  unfolding parse_end
  spelled_end change mask content = refl

  opaque_end : (change : Change) (rest : List Bool) → closed (Read (record { change = change; outcome = Opaque }) rest) ≡ Read (record { change = change; outcome = Opaque }) rest
  unfolding parse_end
  opaque_end change rest = refl

  -- bits that spell a packet are read whole, as its first part, its mask and its content
  pub spells_read : (bits : List Bool) (form : Form) (mask content : Option (List Bool)) → Spells f state t bits form mask content → parse_whole_packet f state t bits ≡ Read (record { change = change_of form; outcome = Spelled mask content }) []
  spells_read bits form mask content s =
      let found : Found = record { change = change_of form; outcome = Spelled mask content } in
      let read : parse_packet f state t bits ≡ Read (record { change = change_of form; outcome = Spelled mask content }) [] =
      ap (parse_packet f state t) (sym (append-nil bits)) ∙ (IsExact-packet_at f state t has).reads (record { change = change_of form; outcome = Spelled mask content }) bits [] (spells_packet f state t has bits form mask content s) in
      whole_is f state t bits (Read (record { change = change_of form; outcome = Spelled mask content }) []) read ∙ spelled_end (change_of form) mask content

  -- bits with an opaque front are read as opaque, with its level
  pub opaque_read : (bits : List Bool) (level : ℕ) → HasOpaqueFront f state t bits level → (change : Change) × (rest : List Bool) × (change.level ≡ level) × (parse_whole_packet f state t bits ≡ Read (record { change = change; outcome = Opaque }) rest)
  opaque_read bits level o =
      let p = opaque_packet f state t has bits level o in
      let read : parse_packet f state t bits ≡ Read (record { change = p.0; outcome = Opaque }) p.2 =
      ap (parse_packet f state t) p.5 ∙ (IsExact-packet_at f state t has).reads (record { change = p.0; outcome = Opaque }) p.1 p.2 p.3 in
      (p.0, p.2, p.4, whole_is f state t bits (Read (record { change = p.0; outcome = Opaque }) p.2) read ∙ opaque_end p.0 p.2)

  -- ---- answers

  some_part : (part : Option KnownVector) (level : ℕ) (mask : Bool) → IsSome part → missed part level mask ≡ Gap level mask
  some_part None level mask some = absurd cc
  some_part (Some known) level mask some = refl

  no_part : (part : Option KnownVector) (level : ℕ) (mask : Bool) → IsNone part → missed part level mask ≡ Unsynced mask
  no_part None level mask none = refl
  no_part (Some known) level mask none = absurd cc

  opaque_answer : (bits : List Bool) (level : ℕ) → HasOpaqueFront f state t bits level → answer_of f state t bits ≡ Ok (missed state.mask level false)
  opaque_answer bits level o =
      let r = opaque_read bits level o in
      ap (parsed_answer state bits) r.3 ∙ ap (λ (v : ℕ). Ok (missed state.mask v false)) r.2

  alone_answer : (bits : List Bool) (level : ℕ) → SpellsMaskAlone f state t bits level → answer_of f state t bits ≡ Ok (missed state.content level true)
  alone_answer bits level (form, mask, s, is) =
      ap (parsed_answer state bits) (spells_read bits form mask None s) ∙ ap (λ (v : ℕ). Ok (missed state.content v true)) is

  -- what the bits say is the answer
  pub says_answer : (bits : List Bool) (reading : Reading) → Says f state t bits reading → answer_of f state t bits ≡ Ok reading
  says_answer bits Written (form, mask, content, s) = ap (parsed_answer state bits) (spells_read bits form mask (Some content) s)
  says_answer bits (Unsynced true) ((level, s), none) = alone_answer bits level s ∙ ap Ok (no_part state.content level true none)
  says_answer bits (Unsynced false) ((level, o), none) = opaque_answer bits level o ∙ ap Ok (no_part state.mask level false none)
  says_answer bits (Gap level true) (s, some) = alone_answer bits level s ∙ ap Ok (some_part state.content level true some)
  says_answer bits (Gap level false) (o, some) = opaque_answer bits level o ∙ ap Ok (some_part state.mask level false some)

  same_ok : (a b : Reading) → ◌≡◌ {A = Result Reading BitFault} (Ok a) (Ok b) → a ≡ b
  same_ok a b e = cc

  -- at most one of the readings holds
  pub one_reading : (bits : List Bool) (reading other : Reading) → Says f state t bits reading → Says f state t bits other → reading ≡ other
  one_reading bits reading other a b = same_ok reading other (sym (says_answer bits reading a) ∙ says_answer bits other b)

  pub says_means : (bits : List Bool) (reading : Reading) → Says f state t bits reading → Means f state t has bits
  says_means bits Written (form, mask, content, s) = inl (form, mask, Some content, s)
  says_means bits (Unsynced true) ((level, s), none) = inl (s.0, s.1, None, s.2)
  says_means bits (Unsynced false) h = inr h.0
  says_means bits (Gap level true) (s, some) = inl (s.0, s.1, None, s.2)
  says_means bits (Gap level false) h = inr (level, h.0)

  says_viable : (bits : List Bool) (reading : Reading) → Says f state t bits reading → Viable f state t bits
  says_viable bits reading h = means_viable f state t has bits (says_means bits reading h)

  not_means : (bits : List Bool) (bit : ℕ) → IsIncomplete f state t bits bit → Means f state t has bits → ⊥
  not_means bits bit i (inl spelled) = i.not_spelled spelled
  not_means bits bit i (inr opaque) = i.not_opaque opaque

  complete : (bits : List Bool) (bit : ℕ) (reading : Reading) → IsIncomplete f state t bits bit → Says f state t bits reading → ⊥
  complete bits bit reading i h = not_means bits bit i (says_means bits reading h)

  viable_after : (bits : List Bool) (bit : ℕ) → IsHopeless f state t bits bit → Viable f state t bits → ⊥
  viable_after bits bit h v = h.hopeless (take_viable f state t has (bit + 1) bits v)

  -- all sound answers are alike, except for the places of faults
  pub sound_reading : (bits : List Bool) (reading : Reading) (answer : Result Reading BitFault) → Says f state t bits reading → IsSoundAnswer f state t bits answer → answer ≡ Ok reading
  sound_reading bits reading (Ok other) says sound = ap Ok (one_reading bits other reading sound says)
  sound_reading bits reading (Err (Wrong bit)) says sound = absurd (viable_after bits bit sound (says_viable bits reading says))
  sound_reading bits reading (Err (EndsEarly bit)) says sound = absurd (complete bits bit reading sound says)

  -- ---- one fault

  before_wrong : (bits : List Bool) (p q : ℕ) → IsHopeless f state t bits p → Viable f state t (take q bits) → q ≤ p
  before_wrong bits p q h v =
      elim (cases_lt p q) [ inl lt ↦ absurd (h.hopeless (fewer_viable f state t has (p + 1) q bits (omega arith) v)) | inr le ↦ le ]

  wrong_is : (bits : List Bool) (p : ℕ) (answer : Result Reading BitFault) → IsHopeless f state t bits p → Viable f state t (take p bits) → IsExactAnswer f state t bits answer → Err (Wrong p) ≡ answer
  wrong_is bits p (Ok reading) h v exact = absurd (viable_after bits p h (says_viable bits reading exact))
  wrong_is bits p (Err (Wrong q)) h v exact =
      let same : p ≡ q = omega (arith, before_wrong bits p q h exact.1, before_wrong bits q p exact.0 v) in
      rw same refl
  wrong_is bits p (Err (EndsEarly n)) h v exact = absurd (viable_after bits p h exact.1)

  early_is : (bits : List Bool) (n : ℕ) (answer : Result Reading BitFault) → IsIncomplete f state t bits n → Viable f state t bits → IsExactAnswer f state t bits answer → Err (EndsEarly n) ≡ answer
  early_is bits n (Ok reading) i v exact = absurd (complete bits n reading i exact)
  early_is bits n (Err (Wrong q)) i v exact = absurd (viable_after bits q exact.0 v)
  early_is bits n (Err (EndsEarly m)) i v exact = let same : n ≡ m = i.all ∙ sym exact.0.all in rw same refl

  pub one_answer : (bits : List Bool) (answer : Result Reading BitFault) → IsExactAnswer f state t bits answer → answer ≡ answer_of f state t bits
  one_answer bits (Ok reading) exact = sym (says_answer bits reading exact)
  one_answer bits (Err (Wrong p)) exact = wrong_is bits p (answer_of f state t bits) exact.0 exact.1 (answer_of-exact f state t has bits)
  one_answer bits (Err (EndsEarly n)) exact = early_is bits n (answer_of f state t bits) exact.0 exact.1 (answer_of-exact f state t has bits)

-- ---- one packet

-- what is sent, by the mask and the content that become known: the mask, if it is sent; the whole content; and a bit for
-- each extracted place
abbrev IsToldBy : Change → Option (List Bool) → Option (List Bool) → Content → Type 0
IsToldBy change mask content (Whole whole) = content ≡ Some whole
IsToldBy change mask content (Part bits) = IsSomeAnd mask (λ m. length bits ≡ count_by (λ bit. bit) (places_of change m))

mask_told : (deduced known sent content : Option (List Bool)) (change : Change) (c : Content) → IsSentBy change deduced known sent c content → IfSome sent (λ m. option_or deduced sent ≡ Some m)
mask_told deduced known None content change c s = tt
mask_told None known (Some m) content change c s = refl
mask_told (Some deduced) known (Some m) content change c s = ap Some (sym s.masked.sent)

part_told : (change : Change) (mask known sent : Option (List Bool)) (bits : List Bool) → IfNone mask (IsWholeContent (Part bits)) → IfSome mask (FitsMask (form_of change sent (Part bits)) known) → IsSomeAnd mask (λ m. length bits ≡ count_by (λ bit. bit) (places_of change m))
part_told change None known sent bits unmasked masked = absurd unmasked
part_told change (Some mask) known sent bits unmasked masked = masked.fits

content_told : (deduced known sent content : Option (List Bool)) (change : Change) (c : Content) → IsSentBy change deduced known sent c content → IsToldBy change (option_or deduced sent) content c
content_told deduced known sent content change (Whole whole) s = s.content_is
content_told deduced known sent content change (Part bits) s = part_told change (option_or deduced sent) known sent bits s.unmasked s.masked

front_same : (a b rest others : List Bool) → length a ≡ length b → a ++ rest ≡ b ++ others → a ≡ b
front_same a b rest others len e = sym (take_at a rest (length a) refl) ∙ ap (take (length a)) e ∙ take_at b others (length a) (sym len)

same_length : (change : Change) (mask : Option (List Bool)) (a b : List Bool) → IsSomeAnd mask (λ m. length a ≡ count_by (λ bit. bit) (places_of change m)) → IsSomeAnd mask (λ m. length b ≡ count_by (λ bit. bit) (places_of change m)) → length a ≡ length b
same_length change None a b p q = absurd p
same_length change (Some mask) a b p q = p ∙ sym q

after_one : (a : Bool) (xs ys : List Bool) → a ∷ xs ≡ a ∷ ys → xs ≡ ys
after_one a xs ys e = cc

same_part : (change : Change) (mask content : Option (List Bool)) (rest others a b : List Bool) → IsToldBy change mask content (Part a) → IsToldBy change mask content (Part b) → a ++ rest ≡ b ++ others → a ≡ b
same_part change mask content rest others a b p q e = front_same a b rest others (same_length change mask a b p q) e

-- with the same mask and the same content, what is sent of the content is told by its bits
same_kind : (change : Change) (mask content : Option (List Bool)) (front rest others : List Bool) (a b : Content) → IsToldBy change mask content a → IsToldBy change mask content b → (front ++ content_bits a) ++ rest ≡ (front ++ content_bits b) ++ others → a ≡ b
same_kind change mask content front rest others (Part a) (Part b) p q e =
    let tails = append_cancel_left front (content_bits (Part a) ++ rest) (content_bits (Part b) ++ others) (sym (append_assoc front (content_bits (Part a)) rest) ∙ e ∙ append_assoc front (content_bits (Part b)) others) in
    ap Part (same_part change mask content rest others a b p q (after_one false (a ++ rest) (b ++ others) tails))
same_kind change mask content front rest others (Whole a) (Whole b) p q e = ap Whole (same_Some a b (sym p ∙ q))
same_kind change mask content front rest others (Part a) (Whole b) p q e =
    let tails = append_cancel_left front (content_bits (Part a) ++ rest) (content_bits (Whole b) ++ others) (sym (append_assoc front (content_bits (Part a)) rest) ∙ e ∙ append_assoc front (content_bits (Whole b)) others) in absurd cc
same_kind change mask content front rest others (Whole a) (Part b) p q e =
    let tails = append_cancel_left front (content_bits (Whole a) ++ rest) (content_bits (Part b) ++ others) (sym (append_assoc front (content_bits (Whole a)) rest) ∙ e ∙ append_assoc front (content_bits (Part b)) others) in absurd cc

after_two : (a b : Bool) (xs ys : List Bool) → a ∷ b ∷ xs ≡ a ∷ b ∷ ys → xs ≡ ys
after_two a b xs ys e = cc

same_data : (change : Change) (mask content : Option (List Bool)) (rest others : List Bool) (sent other : Option (List Bool)) (a b : Content) → IfSome sent (λ m. mask ≡ Some m) → IfSome other (λ m. mask ≡ Some m) → IsToldBy change mask content a → IsToldBy change mask content b
    → data_bits sent a ++ rest ≡ data_bits other b ++ others → (sent ≡ other) × (a ≡ b)
same_data change mask content rest others None None (Part a) (Part b) m n p q e = (refl, ap Part (same_part change mask content rest others a b p q (after_one true (a ++ rest) (b ++ others) e)))
same_data change mask content rest others None None (Part a) (Whole b) m n p q e = absurd cc
same_data change mask content rest others None None (Whole a) (Part b) m n p q e = absurd cc
same_data change mask content rest others None None (Whole a) (Whole b) m n p q e = (refl, ap Whole (same_Some a b (sym p ∙ q)))
same_data change mask content rest others None (Some x) (Part a) b m n p q e = absurd cc
same_data change mask content rest others None (Some x) (Whole a) b m n p q e = absurd cc
same_data change mask content rest others (Some x) None a (Part b) m n p q e = absurd cc
same_data change mask content rest others (Some x) None a (Whole b) m n p q e = absurd cc
same_data change mask content rest others (Some x) (Some y) a b m n p q e =
    let same : x ≡ y = same_Some x y (sym m ∙ n) in
    let tails = after_two false true ((run_bits (edges x) ++ content_bits a) ++ rest) ((run_bits (edges y) ++ content_bits b) ++ others) e in
    (ap Some same, same_kind change mask content (run_bits (edges x)) rest others a b p q (rw (← same) at tails))

form_parts : (form : Form) → form_bits form ≡ change_word (change_of form) ++ data_bits form.sent form.content
unfolding form_bits
form_parts form = ap (λ (x : List Bool). x ++ data_bits form.sent form.content) (change_bits_are form)

abbrev built : Change → Option (List Bool) → Content → Form
built change sent content = record { recent = change.recent; level = change.level; directions = change.directions; sent = sent; content = content }

same_form : (form other : Form) → change_of form ≡ change_of other → form.sent ≡ other.sent → form.content ≡ other.content → form ≡ other
same_form form other change sent content =
    ap (λ (c : Change). built c form.sent form.content) change
    ∙ ap (λ (m : Option (List Bool)). built (change_of other) m form.content) sent
    ∙ ap (λ (c : Content). built (change_of other) other.sent c) content

abbrev zeros_after : List Bool → List Bool
zeros_after bits = replicate (8 * byte_count (length bits) - length bits) false

module _ (f : ℕ) (state : State) (t : ℕ) (has : IsState f state) (bits : List Bool) (form other : Form) (mask content other_mask other_content : Option (List Bool)) (a : Spells f state t bits form mask content) (b : Spells f state t bits other other_mask other_content) where
  both_read : ◌≡◌ {A = Found} (record { change = change_of form; outcome = Spelled mask content }) (record { change = change_of other; outcome = Spelled other_mask other_content })
  both_read = (read_same (record { change = change_of form; outcome = Spelled mask content }) (record { change = change_of other; outcome = Spelled other_mask other_content }) [] []
      (sym (spells_read f state t has bits form mask content a) ∙ spells_read f state t has bits other other_mask other_content b)).0

  one_change : change_of form ≡ change_of other
  one_change = ap (λ (x : Found). x.change) both_read

  vectors_same : (mask ≡ other_mask) × (content ≡ other_content)
  vectors_same = same_outcome mask other_mask content other_content (ap (λ (x : Found). x.outcome) both_read)

  data_same : data_bits form.sent form.content ++ zeros_after (form_bits form) ≡ data_bits other.sent other.content ++ zeros_after (form_bits other)
  data_same =
      let mine = data_bits form.sent form.content ++ zeros_after (form_bits form) in
      let theirs = data_bits other.sent other.content ++ zeros_after (form_bits other) in
      append_cancel_left (change_word (change_of other)) (data_bits form.sent form.content ++ zeros_after (form_bits form)) (data_bits other.sent other.content ++ zeros_after (form_bits other))
      (ap (λ (c : Change). change_word c ++ (data_bits form.sent form.content ++ zeros_after (form_bits form))) (sym one_change)
      ∙ sym (append_assoc (change_word (change_of form)) (data_bits form.sent form.content) (zeros_after (form_bits form)))
      ∙ ap (λ (x : List Bool). x ++ zeros_after (form_bits form)) (sym (form_parts form))
      ∙ sym a.bits_are ∙ b.bits_are
      ∙ ap (λ (x : List Bool). x ++ zeros_after (form_bits other)) (form_parts other)
      ∙ append_assoc (change_word (change_of other)) (data_bits other.sent other.content) (zeros_after (form_bits other)))

  told : (form : Form) (mask content : Option (List Bool)) → Spells f state t bits form mask content → IfSome form.sent (λ m. mask ≡ Some m) × IsToldBy (change_of form) mask content form.content
  told form mask content s =
      let sent = spelled_sent f state t has bits form mask content s in
      let deduced = deduced_by state t (change_of form) in
      let known = known_by state t (change_of form) in
      let same : mask ≡ option_or (deduced_by state t (change_of form)) form.sent = s.mask_is in (
        rw same (mask_told (deduced_by state t (change_of form)) (known_by state t (change_of form)) form.sent content (change_of form) form.content sent),
        rw same (content_told (deduced_by state t (change_of form)) (known_by state t (change_of form)) form.sent content (change_of form) form.content sent),
      )

  sent_same : (form.sent ≡ other.sent) × (form.content ≡ other.content)
  sent_same =
      let mine = told form mask content a in
      let theirs = told other other_mask other_content b in
      let content_sent : IsToldBy (change_of form) mask content other.content =
      subst (λ (c : Change). IsToldBy c mask content other.content) (sym one_change)
      (subst (λ (m : Option (List Bool)). IsToldBy (change_of other) m content other.content) (sym vectors_same.0)
      (subst (λ (i : Option (List Bool)). IsToldBy (change_of other) other_mask i other.content) (sym vectors_same.1) theirs.1)) in
      let mask_sent : IfSome other.sent (λ m. mask ≡ Some m) = subst (λ (m : Option (List Bool)). IfSome other.sent (λ n. m ≡ Some n)) (sym vectors_same.0) theirs.0 in
      same_data (change_of form) mask content (zeros_after (form_bits form)) (zeros_after (form_bits other)) form.sent other.sent form.content other.content mine.0 mask_sent mine.1 content_sent data_same

  -- the bits and the state determine the form, the mask and the content
  pub one_packet : (form ≡ other) × (mask ≡ other_mask) × (content ≡ other_content)
  one_packet = (same_form form other one_change sent_same.0 sent_same.1, vectors_same.0, vectors_same.1)

-- ---- what follows a packet, and what follows a front

module _ (f : ℕ) (state : State) (t : ℕ) (has : IsState f state) where
  further_end : (change : Change) (mask content : Option (List Bool)) (more : List Bool) (bit : Bool) → closed (Read (record { change = change; outcome = Spelled mask content }) (bit ∷ more)) ≡ WrongBit more
  unfolding parse_end
  further_end change mask content more bit = refl

  pub further_wrong : (bits more : List Bool) (bit : Bool) → SpellsPacket f state t bits → answer_of f state t (bits ++ bit ∷ more) ≡ Err (Wrong (length bits))
  further_wrong bits more bit (form, mask, content, s) =
      let found : Found = record { change = change_of form; outcome = Spelled mask content } in
      let read = (IsExact-packet_at f state t has).reads (record { change = change_of form; outcome = Spelled mask content }) bits (bit ∷ more) (spells_packet f state t has bits form mask content s) in
      let place : length (bits ++ bit ∷ more) - length more - 1 ≡ length bits = omega (arith, length-append bits (bit ∷ more)) in
      ap (parsed_answer state (bits ++ bit ∷ more)) (whole_is f state t (bits ++ bit ∷ more) (Read (record { change = change_of form; outcome = Spelled mask content }) (bit ∷ more)) read ∙ further_end (change_of form) mask content more bit)
      ∙ ap (λ (n : ℕ). Err (Wrong n)) place

pub front_goes_on : (f : ℕ) (state : State) (t : ℕ) (bits more : List Bool) (level : ℕ) → HasOpaqueFront f state t bits level → HasOpaqueFront f state t (bits ++ more) level
front_goes_on f state t bits more level o = record {
  form = o.form;
  is_form = o.is_form;
  level_is = o.level_is;
  out_of_reach = o.out_of_reach;
  no_mask = o.no_mask;
  not_whole = o.not_whole;
  rest = o.rest ++ more;
  bits_are = ap (λ (b : List Bool). b ++ more) o.bits_are ∙ append_assoc (change_bits o.form) (true ∷ o.rest) more;
}

-- ---- the next state

next_places : (f : ℕ) (part : Option KnownVector) (t : ℕ) (vector : Option (List Bool)) → HasVector f part → AllPlaces f vector → HasVector f (next_part part t vector)
next_places f part t None has all = has
next_places f part t (Some vector) has all = all

mask_places : (f : ℕ) (deduced sent : Option (List Bool)) → AllPlaces f deduced → AllPlaces f sent → AllPlaces f (option_or deduced sent)
mask_places f None sent all is = is
mask_places f (Some deduced) sent all is = all

content_places : (f : ℕ) (c : Content) (places known content : Option (List Bool)) → HasPlaces f c → AllPlaces f known → IsKnownContent c places known content → AllPlaces f content
content_places f (Whole whole) places known content has all is = rw is has
content_places f (Part bits) None known content has all is = rw is tt
content_places f (Part bits) (Some places) None content has all is = rw is tt
content_places f (Part bits) (Some places) (Some known) None has all is = absurd is
content_places f (Part bits) (Some places) (Some known) (Some content) has all is = is.same_length ∙ all

-- what becomes known has the same number of places
pub spelled_places : (f : ℕ) (state : State) (t : ℕ) (bits : List Bool) (form : Form) (mask content : Option (List Bool)) → IsState f state → Spells f state t bits form mask content → AllPlaces f mask × AllPlaces f content
spelled_places f state t bits form mask content has s =
    let same : mask ≡ option_or (deduced_by state t (change_of form)) form.sent = s.mask_is in (
      rw same (mask_places f (deduced_by state t (change_of form)) form.sent (deduced_places f state t (change_of form) has (is_change f form s.is_form)) s.is_form.sent),
      content_places f form.content (option_map (wide form) mask) (known_by state t (change_of form)) content s.is_form.content (known_places f state t (change_of form) has) s.content_is,
    )

pub next_state-is : (f : ℕ) (state : State) (t : ℕ) (bits : List Bool) (form : Form) (mask content : Option (List Bool)) → IsState f state → Spells f state t bits form mask content → IsState f (next_state state t mask content)
next_state-is f state t bits form mask content has s =
    let places = spelled_places f state t bits form mask content has s in
    record { mask = next_places f state.mask t mask has.mask places.0; content = next_places f state.content t content has.content places.1 }
