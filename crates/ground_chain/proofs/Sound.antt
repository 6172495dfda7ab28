-- The run is exact, no other run is, and every sound run is the same except for its faults.
use Rattle.std.proofs.Common.{◌≡◌, ℕ, Bool, true, false, List, [], ◌∷◌, map, Option, Some, None, Result, Ok, Err, refl, sym, ap, ◌∙◌, subst}
use Rattle.bit_vectors.specs.declared.fault.BitFault.{BitFault}
use Rattle.bit_vectors.specs.Reading.{Parsed, Read, WrongBit, TooShort}
use Rattle.bit_vectors.specs.Vectors.{bits_of}
use Rattle.packet_decode.specs.declared.decoder.Reading.{Reading}
use Rattle.packet_decode.specs.declared.decoder.Reading.TheVariants.{Written, Unsynced, Gap}
use Rattle.packet_decode.specs.State.{KnownVector, State, IsState, Change}
use Rattle.packet_encode.specs.Forms.{Form}
use Rattle.packet_decode.specs.Spelling.{Spells}
use Rattle.packet_decode.specs.Answers.{Says, IsSoundAnswer, IsExactAnswer}
use Rattle.packet_decode.specs.PacketReading.{Outcome, Spelled, Opaque, Found, missed, parse_whole_packet, parsed_answer, answer_of}
use Rattle.packet_decode.proofs.ExactAnswers.{answer_of-exact}
use Rattle.packet_decode.proofs.OneAnswer.{next_state-is, spells_read, says_answer, one_answer, sound_reading}
use Rattle.ground_chain.specs.Run.{number_after, Arrival, Known, Judged, answer_kind, verdict_of, change_read, change_after, state_read, state_with, state_after, judge_as, judged_by, judge, run_from, run}
use Rattle.ground_chain.specs.Sound.{IsFirstPart, IsChangeAfter, IsSpelled, IsStateAfter, IsJudgedBy, AreJudged, without_fault, but_for_faults}

module _ (f : ℕ) (state : State) (t : ℕ) (has : IsState f state) where
  -- ---- one answer, one state

  -- the state after bits that spell a packet is that packet
  spelled_state : (bits : List Bool) (next : State) → IsSpelled f state t bits next → state_after f state t bits ≡ next
  spelled_state bits next s = ap (state_read state t) (spells_read f state t has bits s.form s.mask s.content s.spells) ∙ sym s.is

  -- what a packet tells of a part that is missing doesn't change the state if it is no packet
  missed_stays : (part : Option KnownVector) (level : ℕ) (bits : List Bool) → IsStateAfter f state t bits state (Ok (missed part level false))
  missed_stays None level bits = refl
  missed_stays (Some known) level bits = refl

  missed_spelled : (part : Option KnownVector) (level : ℕ) (bits : List Bool) (next : State) → IsSpelled f state t bits next → IsStateAfter f state t bits next (Ok (missed part level true))
  missed_spelled None level bits next s = s
  missed_spelled (Some known) level bits next s = s

  abbrev FollowsBy : List Bool → Parsed Found → Type 0
  FollowsBy bits r = parse_whole_packet f state t bits ≡ r → IsExactAnswer f state t bits (parsed_answer state bits r) → IsStateAfter f state t bits (state_read state t r) (parsed_answer state bits r)

  -- bits that are spelled, by what they are read as
  spelled_as : (bits rest : List Bool) (change : Change) (o : Outcome) → parse_whole_packet f state t bits ≡ Read (record { change = change; outcome = o }) rest → (form : Form) (mask content : Option (List Bool)) → Spells f state t bits form mask content
      → IsSpelled f state t bits (state_with state t o)
  spelled_as bits rest change o is form mask content spells =
      record { form = form; mask = mask; content = content; spells = spells; is = ap (state_read state t) (sym is ∙ spells_read f state t has bits form mask content spells) }

  alone_spelled : (part : Option KnownVector) (level : ℕ) (bits : List Bool) → Says f state t bits (missed part level true) → (form : Form) × (mask : Option (List Bool)) × Spells f state t bits form mask None
  alone_spelled None level bits (s, none) = (s.1.0, s.1.1, s.1.2)
  alone_spelled (Some known) level bits (s, some) = (s.0, s.1, s.2)

  follows_read : (bits rest : List Bool) (change : Change) (o : Outcome) → FollowsBy bits (Read (record { change = change; outcome = o }) rest)
  follows_read bits rest change (Spelled mask (Some content)) is (form, m, i, spells) = spelled_as bits rest change (Spelled mask (Some content)) is form m (Some i) spells
  follows_read bits rest change (Spelled mask None) is exact =
      let s = alone_spelled state.content change.level bits exact in
      missed_spelled state.content change.level bits (state_with state t (Spelled mask None)) (spelled_as bits rest change (Spelled mask None) is s.0 s.1 None s.2)
  follows_read bits rest change Opaque is exact = missed_stays state.mask change.level bits

  follows_by : (bits : List Bool) (r : Parsed Found) → FollowsBy bits r
  follows_by bits (Read found rest) is exact = follows_read bits rest found.change found.outcome is exact
  follows_by bits (WrongBit rest) is exact = refl
  follows_by bits TooShort is exact = refl

  -- the state of the run follows its answer
  pub follows_answer : (bits : List Bool) → IsStateAfter f state t bits (state_after f state t bits) (answer_of f state t bits)
  follows_answer bits = follows_by bits (parse_whole_packet f state t bits) refl (answer_of-exact f state t has bits)

  -- no other state does
  one_state : (bits : List Bool) (next other : State) (answer : Result Reading BitFault) → IsStateAfter f state t bits next answer → IsStateAfter f state t bits other answer → next ≡ other
  one_state bits next other (Ok Written) a b = sym (spelled_state bits next a) ∙ spelled_state bits other b
  one_state bits next other (Ok (Unsynced true)) a b = sym (spelled_state bits next a) ∙ spelled_state bits other b
  one_state bits next other (Ok (Unsynced false)) a b = a ∙ sym b
  one_state bits next other (Ok (Gap level true)) a b = sym (spelled_state bits next a) ∙ spelled_state bits other b
  one_state bits next other (Ok (Gap level false)) a b = a ∙ sym b
  one_state bits next other (Err fault) a b = a ∙ sym b

  pub state_is : (bits : List Bool) (next : State) → IsStateAfter f state t bits next (answer_of f state t bits) → next ≡ state_after f state t bits
  state_is bits next follows = one_state bits next (state_after f state t bits) (answer_of f state t bits) follows (follows_answer bits)

  -- a packet that is spelled has f places
  spelled_places : (bits : List Bool) (next : State) → IsSpelled f state t bits next → IsState f next
  spelled_places bits next s = subst (IsState f) (sym s.is) (next_state-is f state t bits s.form s.mask s.content has s.spells)

  pub IsState-follows : (bits : List Bool) (next : State) (answer : Result Reading BitFault) → IsStateAfter f state t bits next answer → IsState f next
  IsState-follows bits next (Ok Written) s = spelled_places bits next s
  IsState-follows bits next (Ok (Unsynced true)) s = spelled_places bits next s
  IsState-follows bits next (Ok (Unsynced false)) same = subst (IsState f) (sym same) has
  IsState-follows bits next (Ok (Gap level true)) s = spelled_places bits next s
  IsState-follows bits next (Ok (Gap level false)) same = subst (IsState f) (sym same) has
  IsState-follows bits next (Err fault) same = subst (IsState f) (sym same) has

  -- ---- one first part

  spelled_change : (bits : List Bool) (change : Option Change) → IsFirstPart f state t bits change → change_after f state t bits ≡ change
  spelled_change bits change s = ap change_read (spells_read f state t has bits s.form s.mask (Some s.content) s.spells) ∙ sym s.is

  no_change : (part : Option KnownVector) (level : ℕ) (mask : Bool) (bits : List Bool) → IsChangeAfter f state t bits None (Ok (missed part level mask))
  no_change None level mask bits = refl
  no_change (Some known) level mask bits = refl

  abbrev KeptBy : List Bool → Parsed Found → Type 0
  KeptBy bits r = parse_whole_packet f state t bits ≡ r → IsExactAnswer f state t bits (parsed_answer state bits r) → IsChangeAfter f state t bits (change_read r) (parsed_answer state bits r)

  kept_read : (bits rest : List Bool) (change : Change) (o : Outcome) → KeptBy bits (Read (record { change = change; outcome = o }) rest)
  kept_read bits rest change (Spelled mask (Some content)) is (form, m, i, spells) =
      record { form = form; mask = m; content = i; spells = spells; is = ap change_read (sym is) ∙ ap change_read (spells_read f state t has bits form m (Some i) spells) }
  kept_read bits rest change (Spelled mask None) is exact = no_change state.content change.level true bits
  kept_read bits rest change Opaque is exact = no_change state.mask change.level false bits

  kept_by : (bits : List Bool) (r : Parsed Found) → KeptBy bits r
  kept_by bits (Read found rest) is exact = kept_read bits rest found.change found.outcome is exact
  kept_by bits (WrongBit rest) is exact = refl
  kept_by bits TooShort is exact = refl

  -- the first part that the run keeps follows its answer
  pub kept_answer : (bits : List Bool) → IsChangeAfter f state t bits (change_after f state t bits) (answer_of f state t bits)
  kept_answer bits = kept_by bits (parse_whole_packet f state t bits) refl (answer_of-exact f state t has bits)

  -- no other first part does
  one_change : (bits : List Bool) (kept other : Option Change) (answer : Result Reading BitFault) → IsChangeAfter f state t bits kept answer → IsChangeAfter f state t bits other answer → kept ≡ other
  one_change bits kept other (Ok Written) a b = sym (spelled_change bits kept a) ∙ spelled_change bits other b
  one_change bits kept other (Ok (Unsynced mask)) a b = a ∙ sym b
  one_change bits kept other (Ok (Gap level mask)) a b = a ∙ sym b
  one_change bits kept other (Err fault) a b = a ∙ sym b

  change_is : (bits : List Bool) (kept : Option Change) → IsChangeAfter f state t bits kept (answer_of f state t bits) → kept ≡ change_after f state t bits
  change_is bits kept follows = one_change bits kept (change_after f state t bits) (answer_of f state t bits) follows (kept_answer bits)

  -- ---- sound answers

  -- a sound answer and the exact one differ only in a fault, and the states and first parts after them are the same
  record Alike (bits : List Bool) (next : State) (kept : Option Change) (answer exact : Result Reading BitFault) (after : State) (first : Option Change) : Type 0 where
    kind : without_fault (answer_kind answer) ≡ without_fault (answer_kind exact)
    same : next ≡ after
    first_same : kept ≡ first

  not_both : (fault : BitFault) (reading : Reading) → ◌≡◌ {A = Result Reading BitFault} (Err fault) (Ok reading) → ⊥
  not_both fault reading e = cc

  alike : (bits : List Bool) (next after : State) (kept first : Option Change) (answer exact : Result Reading BitFault) → answer_of f state t bits ≡ exact → IsExactAnswer f state t bits exact → IsSoundAnswer f state t bits answer
      → IsStateAfter f state t bits next answer → IsStateAfter f state t bits after exact → IsChangeAfter f state t bits kept answer → IsChangeAfter f state t bits first exact → Alike bits next kept answer exact after first
  alike bits next after kept first (Ok reading) exact is right sound a b k e =
      let same : exact ≡ Ok reading = sym is ∙ says_answer f state t has bits reading sound in
      record {
        kind = ap (λ (x : Result Reading BitFault). without_fault (answer_kind x)) (sym same);
        same = one_state bits next after (Ok reading) a (subst (IsStateAfter f state t bits after) same b);
        first_same = one_change bits kept first (Ok reading) k (subst (IsChangeAfter f state t bits first) same e);
      }
  alike bits next after kept first (Err fault) (Ok reading) is right sound a b k e = absurd (not_both fault reading (sound_reading f state t has bits reading (Err fault) right sound))
  alike bits next after kept first (Err fault) (Err other) is right sound a b k e = record { kind = refl; same = a ∙ sym b; first_same = k ∙ sym e }

-- ---- one arrival

module _ (f : ℕ) (known : Known) (has : IsState f known.state) where
  pub IsState-judged : (body : List ℕ) (number : Option ℕ) → IsState f (judged_by f known body number).after.state
  IsState-judged body None = has
  IsState-judged body (Some t) = IsState-follows f known.state t has (bits_of body) (state_after f known.state t (bits_of body)) (answer_of f known.state t (bits_of body)) (follows_answer f known.state t has (bits_of body))

  pub judged_exact : (body : List ℕ) (number : Option ℕ) → IsJudgedBy IsExactAnswer f known body (judged_by f known body number) number
  judged_exact body None = refl
  judged_exact body (Some t) = record {
    answer = answer_of f known.state t (bits_of body);
    right = answer_of-exact f known.state t has (bits_of body);
    verdict = refl;
    change = kept_answer f known.state t has (bits_of body);
    latest = refl;
    state = follows_answer f known.state t has (bits_of body);
  }

  read_same : (judged : Judged) (body : List ℕ) (t : ℕ) (answer : Result Reading BitFault) → answer ≡ answer_of f known.state t (bits_of body) → judged.verdict ≡ verdict_of known.latest t answer → judged.change ≡ change_after f known.state t (bits_of body)
      → judged.after.latest ≡ Some t → judged.after.state ≡ state_after f known.state t (bits_of body) → judged ≡ judge_as f known body t
  read_same judged body t answer same verdict change latest state =
      let v = verdict ∙ ap (verdict_of known.latest t) same in
      λ i. record { verdict = v i; change = change i; after = record { latest = latest i; state = state i } }

  pub judged_only : (body : List ℕ) (judged : Judged) (number : Option ℕ) → IsJudgedBy IsExactAnswer f known body judged number → judged ≡ judged_by f known body number
  judged_only body judged None is = is
  judged_only body judged (Some t) is =
      let bits = bits_of body in
      let same = one_answer f known.state t has bits is.answer is.right in
      let change = change_is f known.state t has bits judged.change (subst (IsChangeAfter f known.state t bits judged.change) same is.change) in
      read_same judged body t is.answer same is.verdict change is.latest (state_is f known.state t has bits judged.after.state (subst (IsStateAfter f known.state t bits judged.after.state) same is.state))

  judged_alike : (body : List ℕ) (judged : Judged) (number : Option ℕ) → IsJudgedBy IsSoundAnswer f known body judged number → but_for_faults judged ≡ but_for_faults (judged_by f known body number)
  judged_alike body judged None is = ap but_for_faults is
  judged_alike body judged (Some t) is =
      let bits = bits_of body in
      let exact = answer_of f known.state t bits in
      let both = alike f known.state t has bits judged.after.state (state_after f known.state t bits) judged.change (change_after f known.state t bits) is.answer exact refl (answer_of-exact f known.state t has bits) is.right
      is.state (follows_answer f known.state t has bits) is.change (kept_answer f known.state t has bits) in
      let v = is.verdict in
      λ i. record {
        verdict = record { lost = (v i).lost; t = (v i).t; kind = (ap (λ x. without_fault x.kind) v ∙ both.kind) i };
        change = both.first_same i;
        after = record { latest = is.latest i; state = both.same i };
      }

-- ---- all arrivals

pub AreJudged-run : (f : ℕ) (known : Known) (arrivals : List Arrival) → IsState f known.state → AreJudged IsExactAnswer f known arrivals (run_from f known arrivals)
AreJudged-run f known [] has = tt
AreJudged-run f known (a ∷ arrivals) has =
    let number = number_after known.latest a.count in
    (judged_exact f known has a.body number, AreJudged-run f (judge f known a).after arrivals (IsState-judged f known has a.body number))

pub AreJudged-only : (f : ℕ) (known : Known) (arrivals : List Arrival) (run : List Judged) → IsState f known.state → AreJudged IsExactAnswer f known arrivals run → run ≡ run_from f known arrivals
AreJudged-only f known [] [] has is = refl
AreJudged-only f known [] (j ∷ run) has is = absurd is
AreJudged-only f known (a ∷ arrivals) [] has is = absurd is
AreJudged-only f known (a ∷ arrivals) (j ∷ run) has is =
    let number = number_after known.latest a.count in
    let same = judged_only f known has a.body j number is.0 in
    let more = AreJudged-only f j.after arrivals run (subst (λ (x : Judged). IsState f x.after.state) (sym same) (IsState-judged f known has a.body number)) is.1 in
    λ i. same i ∷ (more ∙ ap (λ (x : Judged). run_from f x.after arrivals) same) i

pub AreJudged-alike : (f : ℕ) (known : Known) (arrivals : List Arrival) (run : List Judged) → IsState f known.state → AreJudged IsSoundAnswer f known arrivals run → map but_for_faults run ≡ map but_for_faults (run_from f known arrivals)
AreJudged-alike f known [] [] has is = refl
AreJudged-alike f known [] (j ∷ run) has is = absurd is
AreJudged-alike f known (a ∷ arrivals) [] has is = absurd is
AreJudged-alike f known (a ∷ arrivals) (j ∷ run) has is =
    let number = number_after known.latest a.count in
    let same = judged_alike f known has a.body j number is.0 in
    let after : j.after ≡ (judge f known a).after = ap (λ (x : Judged). x.after) same in
    let more = AreJudged-alike f j.after arrivals run (subst (λ (x : Known). IsState f x.state) (sym after) (IsState-judged f known has a.body number)) is.1 in
    λ i. same i ∷ (more ∙ ap (λ (k : Known). map but_for_faults (run_from f k arrivals)) after) i
