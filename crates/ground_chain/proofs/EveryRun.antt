-- What holds of every run: part by part, one more arrival, and the bounds of its contents and numbers.
use Rattle.std.specs.Option.{option_map}
use Rattle.std.specs.Prelude.{IfSome}
use Rattle.std.proofs.Common.{◌≡◌, ℕ, List, [], ◌∷◌, ◌++◌, refl, ap, ◌+◌, ◌<◌, ◌≤◌, Bool, true, false, Option, Some, None, Result, Ok, Err, sym, ◌∙◌, subst, arith, ◌-◌, ◌*◌, ◌^◌, ltb, if◌then◌else◌, length, All}
use Rattle.std.proofs.lemmas.Grind.{common_steps}
use Rattle.std.proofs.lemmas.List.Elements.{All-cons, All-nil, All-tail}
use Rattle.bit_vectors.specs.Vectors.{bits_of, byte_count}
use Rattle.bit_vectors.specs.declared.fault.BitFault.{BitFault}
use Rattle.bit_vectors.specs.declared.fault.BitFault.TheVariants.{Wrong, EndsEarly}
use Rattle.bit_vectors.proofs.NumberBits.{length-bits_of, length-vector_bytes}
use Rattle.packet_store.specs.SpacePackets.{period}
use Rattle.packet_encode.specs.Forms.{Form}
use Rattle.packet_decode.specs.Answers.{IsExactAnswer}
use Rattle.packet_decode.specs.PacketReading.{answer_of}
use Rattle.packet_decode.specs.Spelling.{Spells}
use Rattle.packet_decode.specs.State.{KnownVector, State, IsState, change_of, next_part, next_state, Decoding, latest_mask_number, latest_number, known_number, tells_nothing, HasVector}
use Rattle.packet_decode.specs.declared.decoder.Reading.{Reading}
use Rattle.packet_decode.specs.declared.decoder.Reading.TheVariants.{Written, Unsynced, Gap}
use Rattle.packet_decode.specs.declared.decoder.Reading.TheVariants as answer
use Rattle.packet_decode.proofs.ExactAnswers.{answer_of-exact}
use Rattle.packet_decode.proofs.OneAnswer.{one_answer, spells_read}
use Rattle.ground_chain.specs.Reception.{ShowsPacket, Reception, IsReception, AgreesWith, StandsFor, known_of, next_judged}
use Rattle.ground_chain.specs.Report.{HasContent, HasRowNumbers, content_bytes, is_written_kind, known_bytes, kind_value, written_bytes, AreArrivals}
use Rattle.ground_chain.specs.Run.{Arrival, Known, Judged, judge, run_from, known_from, number_after, expected, nothing_known, change_after, change_read, state_read, lost_from, answer_kind, judge_as, judged_by, repeat_judged, known_after}
use Rattle.ground_chain.specs.Sound.{IsChangeAfter, IsSpelled, IsStateAfter, IsJudgedBy}
use Rattle.ground_chain.specs.declared.verdict.Kind.{Kind}
use Rattle.ground_chain.specs.declared.verdict.Kind.TheVariants as kind
use Rattle.ground_chain.specs.declared.verdict.Lost.{Lost}
use Rattle.ground_chain.specs.declared.verdict.Verdict.{Verdict}
use Rattle.ground_chain.proofs.ListedRows.{number_after-above}
use Rattle.ground_chain.proofs.Sound.{IsState-follows, judged_only, kept_answer, IsState-judged}
use Rattle.ground_chain.proofs.Told.{IsLater, number_later, first_arrival, later_arrivals}

-- ---- the run over a list of arrivals, part by part

-- one list of arrivals and then another
pub known_from-append : (f : ℕ) (known : Known) (xs ys : List Arrival) → known_from f known (xs ++ ys) ≡ known_from f (known_from f known xs) ys
known_from-append f known [] ys = refl
known_from-append f known (x ∷ xs) ys = known_from-append f (judge f known x).after xs ys

pub run_from-append : (f : ℕ) (known : Known) (xs ys : List Arrival) → run_from f known (xs ++ ys) ≡ run_from f known xs ++ run_from f (known_from f known xs) ys
run_from-append f known [] ys = refl
run_from-append f known (x ∷ xs) ys = ap (λ (l : List Judged). judge f known x ∷ l) (run_from-append f (judge f known x).after xs ys)

-- ---- one more arrival: the verdict is the run's, and what is kept stands for the run over it

-- what a decoder does when it reads a packet: what becomes known, by its content or by its mask alone
abbrev pub Decodes : Decoding → Decoding → ℕ → List Bool → Type 0
Decodes old new t bits =
    (form : Form) (mask : Option (List Bool)) (content : List Bool) → Spells old.places old.state t bits form mask (Some content)
    → new ≡ record { places = old.places; state = next_state old.state t mask (Some content); recent = form.recent; level = form.level }

abbrev pub Masks : Decoding → Decoding → ℕ → List Bool → Type 0
Masks old new t bits =
    (form : Form) (mask : Option (List Bool)) → Spells old.places old.state t bits form mask None
    → new ≡ record { places = old.places; state = next_state old.state t mask None; recent = old.recent; level = old.level }

abbrev pub Unchanged : Decoding → Decoding → Result Reading BitFault → Type 0
Unchanged old new answer = tells_nothing answer ≡ true → new ≡ old

pub record Reads (old new : Decoding) (t : ℕ) (bits : List Bool) (answer : Result Reading BitFault) : Type 0 where
  pub decodes : Decodes old new t bits
  pub masks : Masks old new t bits
  pub unchanged : Unchanged old new answer

masked_state : (old new : Decoding) (t : ℕ) (bits : List Bool) (form : Form) (mask : Option (List Bool)) → Masks old new t bits → Spells old.places old.state t bits form mask None → IsSpelled old.places old.state t bits new.state
masked_state old new t bits form mask masks spells = record { form = form; mask = mask; content = None; spells = spells; is = ap (λ (d : Decoding). d.state) (masks form mask spells) }

follows_read : (old new : Decoding) (t : ℕ) (bits : List Bool) (answer : Result Reading BitFault) → IsExactAnswer old.places old.state t bits answer → Reads old new t bits answer → IsStateAfter old.places old.state t bits new.state answer
follows_read old new t bits (Ok Written) (form, mask, content, spells) reads =
    record { form = form; mask = mask; content = Some content; spells = spells; is = ap (λ (d : Decoding). d.state) (reads.decodes form mask content spells) }
follows_read old new t bits (Ok (Unsynced true)) ((level, s), none) reads = masked_state old new t bits s.0 s.1 reads.masks s.2
follows_read old new t bits (Ok (Unsynced false)) exact reads = ap (λ (d : Decoding). d.state) (reads.unchanged refl)
follows_read old new t bits (Ok (Gap level true)) (s, some) reads = masked_state old new t bits s.0 s.1 reads.masks s.2
follows_read old new t bits (Ok (Gap level false)) exact reads = ap (λ (d : Decoding). d.state) (reads.unchanged refl)
follows_read old new t bits (Err fault) exact reads = ap (λ (d : Decoding). d.state) (reads.unchanged refl)

-- ---- what is kept after it

-- a number that became known with the packet t or before it
number_next : (part : Option KnownVector) (t : ℕ) (vector : Option (List Bool)) → IfSome (known_number part) (λ n. n < t) → IfSome (known_number (next_part part t vector)) (λ n. n < t + 1)
number_next None t None before = tt
number_next (Some known) t None before = omega (arith, before)
number_next part t (Some vector) before = omega arith

record HasNumbers (state : State) (t : ℕ) : Type 0 where
  content : IfSome (latest_number state) (λ n. n < t)
  mask : IfSome (latest_mask_number state) (λ n. n < t)

later : (part : Option KnownVector) (t : ℕ) → IfSome (known_number part) (λ n. n < t) → IfSome (known_number part) (λ n. n < t + 1)
later None t before = tt
later (Some known) t before = omega (arith, before)

stays_later : (state next : State) (t : ℕ) → HasNumbers state t → next ≡ state → HasNumbers next (t + 1)
stays_later state next t has same = subst (λ (s : State). HasNumbers s (t + 1)) (sym same) (record { content = later state.content t has.content; mask = later state.mask t has.mask })

spelled_later : (f : ℕ) (state next : State) (t : ℕ) (bits : List Bool) → HasNumbers state t → IsSpelled f state t bits next → HasNumbers next (t + 1)
spelled_later f state next t bits has s =
    subst (λ (x : State). HasNumbers x (t + 1)) (sym s.is) (record { content = number_next state.content t s.content has.content; mask = number_next state.mask t s.mask has.mask })

numbers_after : (f : ℕ) (state next : State) (t : ℕ) (bits : List Bool) (answer : Result Reading BitFault) → HasNumbers state t → IsStateAfter f state t bits next answer → HasNumbers next (t + 1)
numbers_after f state next t bits (Ok Written) has s = spelled_later f state next t bits has s
numbers_after f state next t bits (Ok (Unsynced true)) has s = spelled_later f state next t bits has s
numbers_after f state next t bits (Ok (Unsynced false)) has same = stays_later state next t has same
numbers_after f state next t bits (Ok (Gap level true)) has s = spelled_later f state next t bits has s
numbers_after f state next t bits (Ok (Gap level false)) has same = stays_later state next t has same
numbers_after f state next t bits (Err fault) has same = stays_later state next t has same

below : (part : Option KnownVector) (bound t : ℕ) → bound ≤ t → IfSome (known_number part) (λ n. n < bound) → IfSome (known_number part) (λ n. n < t)
below None bound t le before = tt
below (Some known) bound t le before = omega (arith, le, before)

pub kept_read : (latest next : Option ℕ) (old new : Decoding) (t : ℕ) (bits : List Bool) (answer : Result Reading BitFault) → IsReception latest old → expected latest ≤ t → next ≡ Some t → new.places ≡ old.places
    → IsExactAnswer old.places old.state t bits answer → Reads old new t bits answer → IsReception next new
kept_read latest next old new t bits answer kept le next_is places exact reads =
    let after = follows_read old new t bits answer exact reads in
    let state = old.state in
    let numbers = numbers_after old.places old.state new.state t bits answer (record { content = below state.content (expected latest) t le kept.arrived; mask = below state.mask (expected latest) t le kept.mask_arrived }) after in
    subst (λ (n : Option ℕ). IsReception n new) (sym next_is) (record {
      places = subst (λ (f : ℕ). IsState f new.state) (sym places) (IsState-follows old.places old.state t kept.places bits new.state answer after);
      arrived = numbers.content;
      mask_arrived = numbers.mask;
    })

-- an arrival that is read
pub judged_read : (r : Reception) (new : Decoding) (count t : ℕ) (body : List ℕ) (verdict : Verdict) (answer : Result Reading BitFault) → IsReception r.latest r.decoder → number_after r.latest count ≡ Some t
    → verdict ≡ record { lost = lost_from (expected r.latest) t; t = t; kind = answer_kind answer }
    → IsExactAnswer r.decoder.places r.decoder.state t (bits_of body) answer → Reads r.decoder new t (bits_of body) answer
    → record { verdict = verdict; change = change_after r.decoder.places r.decoder.state t (bits_of body); after = record { latest = Some t; state = new.state } } ≡ next_judged r count body
judged_read r new count t body verdict answer kept number is exact reads =
    let known = known_of r in
    let f = r.decoder.places in
    let bits = bits_of body in
    let first = change_after r.decoder.places r.decoder.state t (bits_of body) in
    let judged : Judged = record { verdict = verdict; change = first; after = record { latest = Some t; state = new.state } } in
    let right : IsJudgedBy IsExactAnswer r.decoder.places known body judged (Some t) = record {
      answer = answer;
      right = exact;
      verdict = is;
      change = subst (IsChangeAfter f r.decoder.state t bits first) (sym (one_answer f r.decoder.state t kept.places bits answer exact)) (kept_answer f r.decoder.state t kept.places bits);
      latest = refl;
      state = follows_read r.decoder new t (bits_of body) answer exact reads;
    } in
    judged_only r.decoder.places known kept.places body judged (Some t) right ∙ ap (judged_by r.decoder.places known body) (sym number)

-- a repeat
pub judged_repeat : (r : Reception) (count : ℕ) (body : List ℕ) → number_after r.latest count ≡ None → repeat_judged (known_of r) ≡ next_judged r count body
judged_repeat r count body number = ap (judged_by r.decoder.places (known_of r) body) (sym number)

-- ---- what the decoder shows

module _ (r : Reception) (new : Decoding) (t : ℕ) (body : List ℕ) (has : IsState r.decoder.places r.decoder.state) (decodes : Decodes r.decoder new t (bits_of body)) where
  shows_by : (answer : Result Reading BitFault) → IsExactAnswer r.decoder.places r.decoder.state t (bits_of body) answer → answer_kind answer ≡ kind.Written → ShowsPacket new (judge_as r.decoder.places (known_of r) body t)
  shows_by (Ok Written) (form, mask, content, spells) written =
      let read = spells_read r.decoder.places r.decoder.state t has (bits_of body) form mask (Some content) spells in
      let is = decodes form mask content spells in
      record {
        known = record { number = t; vector = content };
        change = change_of form;
        content = ap (λ (s : State). s.content) (ap (state_read r.decoder.state t) read);
        recent = ap (λ (d : Decoding). d.recent) is;
        level = ap (λ (d : Decoding). d.level) is;
        first = ap change_read read;
      }
  shows_by (Ok (Unsynced mask)) exact written = absurd cc
  shows_by (Ok (Gap level mask)) exact written = absurd cc
  shows_by (Err fault) exact written = absurd cc

  -- after an arrival that is read the decoder shows it
  pub shows_read : (count : ℕ) → number_after r.latest count ≡ Some t → new.state ≡ (next_judged r count body).after.state → AgreesWith new (next_judged r count body)
  shows_read count number state = record {
    state = state;
    written = subst (λ (j : Judged). j.verdict.kind ≡ kind.Written → ShowsPacket new j) (ap (judged_by r.decoder.places (known_of r) body) (sym number))
        (shows_by (answer_of r.decoder.places r.decoder.state t (bits_of body)) (answer_of-exact r.decoder.places r.decoder.state t has (bits_of body)));
  }

-- a repeat is not written
pub shows_repeat : (r : Reception) (count : ℕ) (body : List ℕ) → number_after r.latest count ≡ None → AgreesWith r.decoder (next_judged r count body)
shows_repeat r count body number = record {
  state = ap (λ (j : Judged). j.after.state) (judged_repeat r count body number);
  written = λ written. absurd (not_written (ap (λ (j : Judged). j.verdict.kind) (judged_repeat r count body number) ∙ written));
}
  where
    not_written : kind.Repeat ≡ kind.Written → ⊥
    not_written e = cc

-- ---- what is kept

-- what is kept stands for the run with this arrival
pub stands_next : (arrivals : List Arrival) (r new : Reception) (count : ℕ) (body : List ℕ) → new.decoder.places ≡ r.decoder.places → known_of new ≡ (next_judged r count body).after → StandsFor arrivals r
    → StandsFor (arrivals ++ record { count = count; body = body } ∷ []) new
stands_next arrivals r new count body places known stands =
    let f = r.decoder.places in
    let arrival : Arrival = record { count = count; body = body } in
    let here : known_of new ≡ known_after f (arrivals ++ arrival ∷ []) =
    known ∙ ap (λ (k : Known). (judge f k arrival).after) stands ∙ sym (known_from-append f nothing_known arrivals (arrival ∷ [])) in
    here ∙ ap (λ (n : ℕ). known_after n (arrivals ++ arrival ∷ [])) (sym places)

-- ---- contents

places_of : (f : ℕ) (part : Option KnownVector) (known : KnownVector) → HasVector f part → part ≡ Some known → option_map (λ (k : KnownVector). length k.vector) part ≡ Some f
places_of f None known has is = absurd cc
places_of f (Some other) known has is = ap Some has

module _ (f : ℕ) (known : Known) (has : IsState f known.state) where
  content_by : (t : ℕ) (body : List ℕ) (a : Result Reading BitFault) → IsExactAnswer f known.state t (bits_of body) a → answer_kind a ≡ kind.Written → HasContent f (judged_by f known body (Some t)).after.state
  content_by t body (Ok answer.Written) (form, mask, content, spells) is =
      let read = spells_read f known.state t has (bits_of body) form mask (Some content) spells in
      let part = ap (λ (s : State). s.content) (ap (state_read known.state t) read) in
      places_of f (judged_by f known body (Some t)).after.state.content (record { number = t; vector = content }) (IsState-judged f known has body (Some t)).content part
  content_by t body (Ok (answer.Unsynced mask)) exact is = absurd cc
  content_by t body (Ok (answer.Gap level mask)) exact is = absurd cc
  content_by t body (Err fault) exact is = absurd cc

  content_judged : (body : List ℕ) (number : Option ℕ) → (judged_by f known body number).verdict.kind ≡ kind.Written → HasContent f (judged_by f known body number).after.state
  content_judged body None is = absurd cc
  content_judged body (Some t) is = content_by t body (answer_of f known.state t (bits_of body)) (answer_of-exact f known.state t has (bits_of body)) is

-- the content of each written arrival
pub contents_of : (f : ℕ) (known : Known) → IsState f known.state → (arrivals : List Arrival) → All (λ (j : Judged). j.verdict.kind ≡ kind.Written → HasContent f j.after.state) (run_from f known arrivals)
contents_of f known has [] = All-nil (λ (x : Judged). x.verdict.kind ≡ kind.Written → HasContent f x.after.state)
contents_of f known has (a ∷ arrivals) =
    let number = number_after known.latest a.count in
    let j = judge f known a in
    All-cons (λ (x : Judged). x.verdict.kind ≡ kind.Written → HasContent f x.after.state) j (run_from f j.after arrivals) (content_judged f known has a.body number) (contents_of f j.after (IsState-judged f known has a.body number) arrivals)

bytes_by : (f : ℕ) (part : Option KnownVector) → option_map (λ (k : KnownVector). length k.vector) part ≡ Some f → length (known_bytes part) ≡ byte_count f
bytes_by f None is = absurd cc
bytes_by f (Some known) is = let places : length known.vector ≡ f = cc in length-vector_bytes known.vector ∙ ap byte_count places

-- it is written in as many bytes as a vector has
pub content_size : (f : ℕ) (j : Judged) → j.verdict.kind ≡ kind.Written → HasContent f j.after.state → length (written_bytes j) ≡ byte_count f
content_size f j is has = ap (λ (k : Kind). length (if is_written_kind k then content_bytes j.after.state else [])) is ∙ bytes_by f j.after.state.content has

-- ---- numbers

-- the value of an answer is a level, or a place of the bits
value_by : (f : ℕ) (state : State) (t : ℕ) (bits : List Bool) (a : Result Reading BitFault) → length bits ≤ 524288 → IsExactAnswer f state t bits a → kind_value (answer_kind a) < 2 ^ 64
value_by f state t bits (Ok answer.Written) few exact = omega arith
value_by f state t bits (Ok (answer.Unsynced mask)) few exact = omega arith
value_by f state t bits (Ok (answer.Gap level true)) few ((form, mask, spells, is), some) = omega (arith, spells.is_form.level, is)
value_by f state t bits (Ok (answer.Gap level false)) few (front, some) = omega (arith, front.is_form.level, front.level_is)
value_by f state t bits (Err (Wrong bit)) few exact = omega (arith, few, exact.0.inside)
value_by f state t bits (Err (EndsEarly bit)) few exact = omega (arith, few, exact.0.all)

-- and so is that of an arrival, whose data are 65,536 bytes at most
pub value_judged : (f : ℕ) (known : Known) → IsState f known.state → (body : List ℕ) (number : Option ℕ) → length body ≤ 65536 → kind_value (judged_by f known body number).verdict.kind < 2 ^ 64
value_judged f known has body None size = omega arith
value_judged f known has body (Some t) size =
    value_by f known.state t (bits_of body) (answer_of f known.state t (bits_of body)) (omega (arith, size, length-bits_of body)) (answer_of-exact f known.state t has (bits_of body))

-- at most a period is passed with one arrival
near_after : (latest : Option ℕ) (count : ℕ) → count < period → (number : Option ℕ) → number_after latest count ≡ number → IfSome number (λ t. t < expected latest + period)
near_after latest count few None is = tt
near_after None count few (Some t) is = let same : count ≡ t = cc in omega (arith, few, same)
near_after (Some latest) count few (Some t) is = let above = number_after-above latest count t few is in omega (arith, above.1)

lost_below : (first t bound : ℕ) → t < bound → (lost : Bool) → ltb first t ≡ lost → IfSome (if lost then Some (record { first = first; last = t - 1 }) else None) (λ (l : Lost). (l.first < bound) × (l.last < bound))
lost_below first t bound few true is = let less : first < t = grind (arith, common_steps) in (omega arith, omega arith)
lost_below first t bound few false is = tt

module _ (f : ℕ) (known : Known) (has : IsState f known.state) (body : List ℕ) (size : length body ≤ 65536) (bound : ℕ) (most : bound ≤ 2 ^ 64) where
  numbers_judged : (number : Option ℕ) → IsLater known.latest number → IfSome number (λ t. t < expected known.latest + period) → expected known.latest + period ≤ bound → HasRowNumbers (judged_by f known body number).verdict
  numbers_judged None later near few = record { lost = tt; number = omega (arith, later, few, most); value = omega arith }
  numbers_judged (Some t) later near few =
      let small : t < 2 ^ 64 = omega (arith, near, few, most) in
      record {
        lost = lost_below (expected known.latest) t (2 ^ 64) small (ltb (expected known.latest) t) refl;
        number = small;
        value = value_judged f known has body (Some t) size;
      }

  expected_judged : (number : Option ℕ) → IfSome number (λ t. t < expected known.latest + period) → expected (judged_by f known body number).after.latest ≤ expected known.latest + period
  expected_judged None near = omega arith
  expected_judged (Some t) near = omega (arith, near)

-- the numbers in the rows of each arrival
pub row_numbers_of : (f : ℕ) (known : Known) → IsState f known.state → (arrivals : List Arrival) → AreArrivals arrivals → All (λ (a : Arrival). length a.body ≤ 65536) arrivals → (bound : ℕ) → bound ≤ 2 ^ 64 → expected known.latest + period * length arrivals ≤ bound
    → All (λ (j : Judged). HasRowNumbers j.verdict) (run_from f known arrivals)
row_numbers_of f known has [] counts sizes bound most few = All-nil (λ (x : Judged). HasRowNumbers x.verdict)
row_numbers_of f known has (a ∷ arrivals) counts sizes bound most few =
    let number = number_after known.latest a.count in
    let j = judge f known a in
    let count = first_arrival a arrivals counts in
    let size : length a.body ≤ 65536 = sizes 0 a (omega arith) in
    let near = near_after known.latest a.count count number refl in
    let here = numbers_judged f known has a.body size bound most number (number_later known.latest a.count count) near (omega (arith, few)) in
    let after = expected_judged f known has a.body size bound most number near in
    All-cons (λ (x : Judged). HasRowNumbers x.verdict) j (run_from f j.after arrivals) here
    (row_numbers_of f j.after (IsState-judged f known has a.body number) arrivals (later_arrivals a arrivals counts) (All-tail (λ (x : Arrival). length x.body ≤ 65536) a arrivals sizes) bound most (omega (arith, few, after)))
