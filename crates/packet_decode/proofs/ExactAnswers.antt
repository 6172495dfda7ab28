-- What is read of all bits is the exact answer.
use Rattle.std.proofs.Common.{◌≡◌, ℕ, ◌+◌, ◌-◌, ◌≤◌, Bool, List, [], ◌∷◌, ◌++◌, length, take, drop, Option, Some, None, Err, true, false, refl, sym, ap, ◌∙◌, subst, append_assoc, arith, inl, inr, ◌⊎◌}
use Rattle.std.specs.Option.{is_some}
use Rattle.std.proofs.lemmas.Bool.{cases_lt}
use Rattle.std.proofs.lemmas.List.{length-append, append-nil, take_at, take-append-drop}
use Rattle.std.proofs.Math.Seq.{take-add}
use Rattle.bit_vectors.specs.declared.fault.BitFault.TheVariants.{Wrong}
use Rattle.bit_vectors.specs.Reading.{Parsed, Read, WrongBit, TooShort, ◌>>=◌, CanBegin, IsWrongBefore, IsExact}
use Rattle.bit_vectors.proofs.ExactReading.{cut_longer, read_same}
use Rattle.packet_encode.specs.Forms.{Form}
use Rattle.packet_decode.specs.State.{KnownVector, State, IsState, Change, change_of}
use Rattle.packet_decode.specs.Spelling.{Spells, HasOpaqueFront}
use Rattle.packet_decode.specs.Answers.{SpellsPacket, SpellsMaskAlone, IsOpaque, Viable, Says, IsExactAnswer}
use Rattle.packet_decode.specs.PacketReading.{Outcome, Spelled, Opaque, Found, parse_end, parse_packet, parse_whole_packet, missed, outcome_answer, parsed_answer, answer_of}
use Rattle.packet_decode.proofs.ExactPacket.{IsPacket, IsExact-packet_at}
use Rattle.packet_decode.proofs.SpelledWords.{packet_spells, spells_packet, packet_opaque, opaque_packet}

-- nothing but a packet that is spelled must stand at the end
abbrev IsClosed : Outcome → List Bool → Type 0
IsClosed (Spelled mask content) rest = rest ≡ []
IsClosed Opaque rest = Unit {0}

module _ (f : ℕ) (state : State) (t : ℕ) (has : IsState f state) where
  exact : IsExact (IsPacket f state t) (parse_packet f state t)
  exact = IsExact-packet_at f state t has

  -- bits that spell a packet or have an opaque front, as a word and what is left
  record IsRead (bits : List Bool) : Type 0 where
    found : Found
    word : List Bool
    rest : List Bool
    is : IsPacket f state t found word
    closed : IsClosed found.outcome rest
    parts : bits ≡ word ++ rest

  abbrev pub Means : List Bool → Type 0
  Means bits = SpellsPacket f state t bits ⊎ IsOpaque f state t bits

  read_of : (bits : List Bool) → Means bits → IsRead bits
  read_of bits (inl (form, mask, content, s)) =
      record { found = record { change = change_of form; outcome = Spelled mask content }; word = bits; rest = []; is = spells_packet f state t has bits form mask content s; closed = refl; parts = sym (append-nil bits) }
  read_of bits (inr (level, o)) =
      let p = opaque_packet f state t has bits level o in
      record { found = record { change = p.0; outcome = Opaque }; word = p.1; rest = p.2; is = p.3; closed = tt; parts = p.5 }

  reading_is : (bits : List Bool) (r : IsRead bits) → parse_packet f state t bits ≡ Read r.found r.rest
  reading_is bits r = ap (parse_packet f state t) r.parts ∙ exact.reads r.found r.word r.rest r.is

  means_of : (change : Change) (o : Outcome) (word rest : List Bool) → IsPacket f state t (record { change = change; outcome = o }) word → IsClosed o rest → Means (word ++ rest)
  means_of change (Spelled mask content) word rest is closed =
      let s = packet_spells f state t has change mask content word is in
      inl (s.0, mask, content, subst (λ (bits : List Bool). Spells f state t bits s.0 mask content) (sym (rw closed (append-nil word))) s.1)
  means_of change Opaque word rest is closed = inr (change.level, packet_opaque f state t has change word rest is)

  -- ---- viable

  closing : (o : Outcome) → IsClosed o []
  closing (Spelled mask content) = refl
  closing Opaque = tt

  abbrev IsAny : List Bool → Type 0
  IsAny word = (found : Found) × IsPacket f state t found word

  word_means : (word : List Bool) → IsAny word → Means word
  word_means word (found, is) = subst Means (append-nil word) (means_of found.change found.outcome word [] is (closing found.outcome))

  begins_viable : (front : List Bool) → CanBegin IsAny front → Viable f state t front
  begins_viable front (more, is) = (more, word_means (front ++ more) is)

  pub means_viable : (bits : List Bool) → Means bits → Viable f state t bits
  means_viable bits m = ([], subst Means (sym (append-nil bits)) m)

  front_viable : (a b : List Bool) → Viable f state t (a ++ b) → Viable f state t a
  front_viable a b (rest, m) = (b ++ rest, subst Means (append_assoc a b rest) m)

  pub take_viable : (p : ℕ) (bits : List Bool) → Viable f state t bits → Viable f state t (take p bits)
  take_viable p bits v = front_viable (take p bits) (drop p bits) (subst (λ (b : List Bool). Viable f state t b) (sym (take-append-drop p bits)) v)

  pub fewer_viable : (p q : ℕ) (bits : List Bool) → p ≤ q → Viable f state t (take q bits) → Viable f state t (take p bits)
  fewer_viable p q bits le v =
      let sum : p + (q - p) ≡ q = omega arith in
      front_viable (take p bits) (take (q - p) (drop p bits)) (subst (λ (b : List Bool). Viable f state t b) (ap (λ (n : ℕ). take n bits) (sym sum) ∙ take-add p (q - p) bits) v)

  -- ---- the reading is the exact answer

  record FirstWrong (bits rest : List Bool) : Type 0 where
    front : List Bool
    bit : Bool
    parts : bits ≡ front ++ bit ∷ rest
    hopeful : Viable f state t front
    hopeless : Viable f state t (front ++ bit ∷ []) → ⊥

  wrong_answer : (bits rest : List Bool) → FirstWrong bits rest → IsExactAnswer f state t bits (Err (Wrong (length bits - length rest - 1)))
  wrong_answer bits rest w =
      let len = ap (λ (b : List Bool). length b) w.parts in
      let place : length bits - length rest - 1 ≡ length w.front = omega (arith, len, length-append w.front (w.bit ∷ rest)) in
      let before : take (length bits - length rest - 1) bits ≡ w.front = ap (take (length bits - length rest - 1)) w.parts ∙ take_at w.front (w.bit ∷ rest) (length bits - length rest - 1) (sym place) in
      let and_it : take (length bits - length rest - 1 + 1) bits ≡ w.front ++ w.bit ∷ [] =
      ap (take (length bits - length rest - 1 + 1)) (w.parts ∙ sym (append_assoc w.front (w.bit ∷ []) rest)) ∙ take_at (w.front ++ w.bit ∷ []) rest (length bits - length rest - 1 + 1) (omega (arith, place, length-append w.front (w.bit ∷ []))) in
      (record { inside = omega (arith, len, length-append w.front (w.bit ∷ rest)); hopeless = λ v. w.hopeless (subst (λ (b : List Bool). Viable f state t b) and_it v) }, subst (λ (b : List Bool). Viable f state t b) (sym before) w.hopeful)

  read_or_wrong : (r : Parsed Found) (found : Found) (rest other : List Bool) → r ≡ Read found rest → r ≡ WrongBit other → ⊥
  read_or_wrong r found rest other read wrong = cc

  read_or_short : (r : Parsed Found) (found : Found) (rest : List Bool) → r ≡ Read found rest → r ≡ TooShort → ⊥
  read_or_short r found rest read short = cc

  -- after a wrong bit no word can stand, however short
  none_after : (bits rest : List Bool) → parse_packet f state t bits ≡ WrongBit rest → (w : IsWrongBefore IsAny bits rest) → Viable f state t (w.front ++ w.bit ∷ []) → ⊥
  none_after bits rest wrong w (more, m) =
      let r = read_of ((w.front ++ w.bit ∷ []) ++ more) m in
      elim (cases_lt (length w.front) (length r.word)) [
        | inl lt ↦
            let c = cut_longer (w.front ++ w.bit ∷ []) more r.word r.rest r.parts (omega (arith, length-append w.front (w.bit ∷ []))) in
            w.hopeless (c.0, (r.found, subst (λ (word : List Bool). IsPacket f state t r.found word) c.1 r.is))
        | inr le ↦
            let c = cut_longer r.word r.rest w.front (w.bit ∷ more) (sym r.parts ∙ append_assoc w.front (w.bit ∷ []) more) le in
            let parts : bits ≡ r.word ++ (c.0 ++ w.bit ∷ rest) = w.parts ∙ ap (λ (x : List Bool). x ++ w.bit ∷ rest) c.1 ∙ append_assoc r.word c.0 (w.bit ∷ rest) in
            read_or_wrong (parse_packet f state t bits) r.found (c.0 ++ w.bit ∷ rest) rest (ap (parse_packet f state t) parts ∙ exact.reads r.found r.word (c.0 ++ w.bit ∷ rest) r.is) wrong
      ]

  fault_first : (bits rest : List Bool) → parse_packet f state t bits ≡ WrongBit rest → FirstWrong bits rest
  fault_first bits rest wrong =
      let w = exact.wrong_is bits rest wrong in
      record { front = w.front; bit = w.bit; parts = w.parts; hopeful = begins_viable w.front w.hopeful; hopeless = none_after bits rest wrong w }

  -- a further bit after a packet is wrong
  not_closed : (found : Found) (change : Change) (mask content : Option (List Bool)) (rest : List Bool) (bit : Bool) → IsClosed found.outcome (bit ∷ rest) → found ≡ record { change = change; outcome = Spelled mask content } → ⊥
  not_closed found change mask content rest bit closed is = let no = subst (λ (x : Found). IsClosed x.outcome (bit ∷ rest)) is closed in cc

  further_bit : (change : Change) (mask content : Option (List Bool)) (word : List Bool) (bit : Bool) (rest : List Bool) → IsPacket f state t (record { change = change; outcome = Spelled mask content }) word → FirstWrong (word ++ bit ∷ rest) rest
  further_bit change mask content word bit rest is =
      let found : Found = record { change = change; outcome = Spelled mask content } in
      record {
        front = word;
        bit = bit;
        parts = refl;
        hopeful = means_viable word (word_means word (record { change = change; outcome = Spelled mask content }, is));
        hopeless = λ (more, m).
            let r = read_of ((word ++ bit ∷ []) ++ more) m in
            let same = read_same r.found (record { change = change; outcome = Spelled mask content }) r.rest (bit ∷ more)
            (sym (reading_is ((word ++ bit ∷ []) ++ more) r) ∙ ap (parse_packet f state t) (append_assoc word (bit ∷ []) more) ∙ exact.reads (record { change = change; outcome = Spelled mask content }) word (bit ∷ more) is) in
            not_closed r.found change mask content more bit (subst (λ (x : List Bool). IsClosed r.found.outcome x) same.1 r.closed) same.0;
      }

  -- ---- each case of the reading

  -- a part that did not become known: nothing of it was known before, or something was
  opaque_says : (bits : List Bool) (level : ℕ) → HasOpaqueFront f state t bits level → (part : Option KnownVector) → part ≡ state.mask → Says f state t bits (missed part level false)
  opaque_says bits level o None is = ((level, o), ap is_some (sym is))
  opaque_says bits level o (Some known) is = (o, ap is_some (sym is))

  alone_says : (bits : List Bool) (level : ℕ) → SpellsMaskAlone f state t bits level → (part : Option KnownVector) → part ≡ state.content → Says f state t bits (missed part level true)
  alone_says bits level s None is = ((level, s), ap is_some (sym is))
  alone_says bits level s (Some known) is = (s, ap is_some (sym is))

  pub spelled_says : (bits : List Bool) (form : Form) (mask content : Option (List Bool)) (level : ℕ) → Spells f state t bits form mask content → form.level ≡ level → Says f state t bits (outcome_answer state level (Spelled mask content))
  spelled_says bits form mask None level s is = alone_says bits level (form, mask, s, is) state.content refl
  spelled_says bits form mask (Some content) level s is = (form, mask, content, s)

  pub front_says : (bits : List Bool) (level : ℕ) → HasOpaqueFront f state t bits level → Says f state t bits (outcome_answer state level Opaque)
  front_says bits level o = opaque_says bits level o state.mask refl

  abbrev ended : Change → Outcome → List Bool → Parsed Found
  ended change o rest = parse_end o rest >>= λ u last. Read (record { change = change; outcome = o }) last

  read_exact : (bits : List Bool) (change : Change) (o : Outcome) (rest : List Bool) → parse_packet f state t bits ≡ Read (record { change = change; outcome = o }) rest → IsExactAnswer f state t bits (parsed_answer state bits (ended change o rest))
  unfolding parse_end
  read_exact bits change (Spelled mask content) [] read =
      let r = exact.read_is bits (record { change = change; outcome = Spelled mask content }) [] read in
      let s = packet_spells f state t has change mask content r.0 r.1 in
      spelled_says bits s.0 mask content change.level (subst (λ (b : List Bool). Spells f state t b s.0 mask content) (sym (r.2 ∙ append-nil r.0)) s.1) (ap (λ (x : Change). x.level) s.2)
  read_exact bits change (Spelled mask content) (bit ∷ rest) read =
      let r = exact.read_is bits (record { change = change; outcome = Spelled mask content }) (bit ∷ rest) read in
      wrong_answer bits rest (subst (λ (b : List Bool). FirstWrong b rest) (sym r.2) (further_bit change mask content r.0 bit rest r.1))
  read_exact bits change Opaque rest read =
      let r = exact.read_is bits (record { change = change; outcome = Opaque }) rest read in
      front_says bits change.level (subst (λ (b : List Bool). HasOpaqueFront f state t b change.level) (sym r.2) (packet_opaque f state t has change r.0 rest r.1))

  not_means : (bits : List Bool) → parse_packet f state t bits ≡ TooShort → Means bits → ⊥
  not_means bits short m = let r = read_of bits m in read_or_short (parse_packet f state t bits) r.found r.rest (reading_is bits r) short

  by_reading : (bits : List Bool) (r : Parsed Found) → parse_packet f state t bits ≡ r → IsExactAnswer f state t bits (parsed_answer state bits (r >>= λ found rest. parse_end found.outcome rest >>= λ u last. Read found last))
  by_reading bits (Read found rest) read = read_exact bits found.change found.outcome rest read
  by_reading bits (WrongBit rest) wrong = wrong_answer bits rest (fault_first bits rest wrong)
  by_reading bits TooShort short =
      (record { all = refl; not_spelled = λ s. not_means bits short (inl s); not_opaque = λ o. not_means bits short (inr o) }, begins_viable bits (exact.short_is bits short))

  pub answer_of-exact : (bits : List Bool) → IsExactAnswer f state t bits (answer_of f state t bits)
  unfolding parse_whole_packet
  answer_of-exact bits = by_reading bits (parse_packet f state t bits) refl
