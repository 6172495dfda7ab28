-- A packet that is not written acts as a lost one: the run without it and its repeats writes the same.
use Rattle.std.proofs.Common.{◌≡◌, ℕ, ◌+◌, ◌<◌, Bool, true, false, cond, List, [], ◌∷◌, ◌++◌, Option, Some, None, Ok, refl, sym, ap, ◌∙◌, arith}
use Rattle.std.specs.Prelude.{All}
use Rattle.std.specs.List.{flat_map}
use Rattle.std.proofs.lemmas.Grind.{flat_map-append}
use Rattle.std.proofs.lemmas.List.Concat.{flat_map-cons}
use Rattle.std.proofs.lemmas.List.Elements.{All-head, All-tail}
use Rattle.bit_vectors.specs.Vectors.{bits_of}
use Rattle.bit_vectors.specs.Reading.{Parsed, Read, WrongBit, TooShort}
use Rattle.packet_decode.specs.State.{KnownVector, State}
use Rattle.packet_decode.specs.PacketReading.{Outcome, Spelled, Opaque, Found, missed, outcome_answer, parse_whole_packet, parsed_answer}
use Rattle.packet_store.specs.SpacePackets.{period}
use Rattle.ground_chain.specs.declared.verdict.Kind.{Kind}
use Rattle.ground_chain.specs.declared.verdict.Kind.TheVariants.{Written, Repeat, Unsynced, Gap, Refused}
use Rattle.ground_chain.specs.Run.{HasCount, number_after, Arrival, Known, Judged, nothing_known, answer_kind, state_with, state_read, judge_as, judged_by, judge, run_from, run, known_from, known_after}
use Rattle.ground_chain.specs.Report.{is_written_kind, AreArrivals}
use Rattle.ground_chain.specs.Refusals.{is_untold, IsWithinPeriod, IsNearNext, CanBeTakenOut}
use Rattle.ground_chain.proofs.ListedRows.{number_after-above, number_after-count, number_after-least, number_after-repeat}
use Rattle.ground_chain.proofs.EveryRun.{known_from-append, run_from-append}
use Rattle.ground_chain.proofs.Told.{first_arrival, later_arrivals}

-- ---- an arrival that is not written

not_written : (kind : Kind) → is_untold kind ≡ true → is_written_kind kind ≡ false
not_written Written is = absurd cc
not_written Repeat is = refl
not_written (Unsynced mask) is = refl
not_written (Gap level mask) is = refl
not_written (Refused fault) is = refl

told_alone : (part : Option KnownVector) (level : ℕ) → is_untold (answer_kind (Ok (missed part level true))) ≡ true → ⊥
told_alone None level is = cc
told_alone (Some known) level is = cc

left_with : (s : State) (t level : ℕ) (o : Outcome) → is_untold (answer_kind (Ok (outcome_answer s level o))) ≡ true → state_with s t o ≡ s
left_with s t level (Spelled mask (Some content)) is = absurd cc
left_with s t level (Spelled mask None) is = absurd (told_alone s.content level is)
left_with s t level Opaque is = refl

left_by : (s : State) (t : ℕ) (bits : List Bool) (r : Parsed Found) → is_untold (answer_kind (parsed_answer s bits r)) ≡ true → state_read s t r ≡ s
left_by s t bits (Read found rest) is = left_with s t found.change.level found.outcome is
left_by s t bits (WrongBit rest) is = refl
left_by s t bits TooShort is = refl

-- it has a number, and leaves the state
record IsLeft (known : Known) (judged : Judged) (number : Option ℕ) : Type 0 where
  is : number ≡ Some judged.verdict.t
  after : judged.after ≡ record { latest = Some judged.verdict.t; state = known.state }

left : (f : ℕ) (known : Known) (body : List ℕ) (number : Option ℕ) → is_untold (judged_by f known body number).verdict.kind ≡ true → IsLeft known (judged_by f known body number) number
left f known body None is = absurd cc
left f known body (Some t) is = record {
  is = refl;
  after = ap (λ (s : State). record { latest = Some t; state = s }) (left_by known.state t (bits_of body) (parse_whole_packet f known.state t (bits_of body)) is);
}

-- ---- numbers

-- a number within a period that has the count is the one that comes after
number_is : (n count t : ℕ) → count < period → n < t → t < n + period → HasCount t count → number_after (Some n) count ≡ Some t
number_is n count t few above within has = by_number (number_after (Some n) count) refl
  where
    by_number : (number : Option ℕ) → number_after (Some n) count ≡ number → number_after (Some n) count ≡ Some t
    by_number None is =
        let same = (number_after-repeat n count few).0 is in
        absurd (omega (arith, same, has, above, within))
    by_number (Some s) is =
        let low = number_after-above n count s few is in
        let own = number_after-count n count s few is in
        let least = number_after-least n count s t few is above has in
        is ∙ ap Some (omega (arith, low, own, least, has, above, within))

-- the next number is told without the packet that is taken out
near_number : (latest : Option ℕ) (count t next number : ℕ) → count < period → next < period → number_after latest count ≡ Some t → number_after (Some t) next ≡ Some number → IsWithinPeriod latest number → number_after latest next ≡ Some number
near_number None count t next number few below is after near =
    let own = number_after-count t next number below after in
    ap Some (omega (arith, own, near, below))
near_number (Some n) count t next number few below is after near =
    let first = number_after-above n count t few is in
    let second = number_after-above t next number below after in
    number_is n next number below (omega (arith, first.0, second.0)) near (number_after-count t next number below after)

-- ---- what is written

module _ {A : Type 0} (g : State → List A) where
  abbrev pub told : Judged → List A
  told judged = cond (is_written_kind judged.verdict.kind) (g judged.after.state) []

  none_told : (judged : Judged) → is_written_kind judged.verdict.kind ≡ false → told judged ≡ []
  none_told judged is = ap (λ (b : Bool). cond b (g judged.after.state) []) is

  -- repeats of the latest number write nothing and change nothing
  repeated : (f t : ℕ) (known : Known) (repeats : List Arrival) → known.latest ≡ Some t → All (λ (r : Arrival). number_after (Some t) r.count ≡ None) repeats
      → (flat_map told (run_from f known repeats) ≡ []) × (known_from f known repeats ≡ known)
  repeated f t known [] latest all = (refl, refl)
  repeated f t known (r ∷ repeats) latest all =
      let here : number_after known.latest r.count ≡ None = ap (λ (n : Option ℕ). number_after n r.count) latest ∙ All-head (λ (r : Arrival). number_after (Some t) r.count ≡ None) r repeats all in
      let same : judge f known r ≡ judged_by f known r.body None = ap (judged_by f known r.body) here in
      let after : (judge f known r).after ≡ known = ap (λ (j : Judged). j.after) same in
      let rest = repeated f t known repeats latest (All-tail (λ (r : Arrival). number_after (Some t) r.count ≡ None) r repeats all) in (
        flat_map-cons told (judge f known r) (run_from f (judge f known r).after repeats)
            ∙ ap (λ (l : List A). l ++ flat_map told (run_from f (judge f known r).after repeats)) (ap told same)
            ∙ ap (λ (k : Known). flat_map told (run_from f k repeats)) after ∙ rest.0,
        ap (λ (k : Known). known_from f k repeats) after ∙ rest.1,
      )

  -- the next arrival has the same number with the packet and without it
  abbrev NextSame : ℕ → Option ℕ → List Arrival → Type 0
  NextSame t latest [] = Unit {0}
  NextSame t latest (next ∷ more) = (number : ℕ) × (number_after (Some t) next.count ≡ Some number) × (number_after latest next.count ≡ Some number)

  -- what follows is read alike with the packet and without it
  follows : (f t : ℕ) (known : Known) (after : List Arrival) → NextSame t known.latest after
      → (flat_map told (run_from f (record { latest = Some t; state = known.state }) after) ≡ flat_map told (run_from f known after))
      × ((known_from f (record { latest = Some t; state = known.state }) after).state ≡ (known_from f known after).state)
  follows f t known [] same = (refl, refl)
  follows f t known (next ∷ more) (number, there, here) =
      let late : Known = record { latest = Some t; state = known.state } in
      let first = judge_as f (record { latest = Some t; state = known.state }) next.body number in
      let second = judge_as f known next.body number in
      let first_is : judge f (record { latest = Some t; state = known.state }) next ≡ judge_as f (record { latest = Some t; state = known.state }) next.body number = ap (judged_by f (record { latest = Some t; state = known.state }) next.body) there in
      let second_is : judge f known next ≡ judge_as f known next.body number = ap (judged_by f known next.body) here in
      let after : (judge f (record { latest = Some t; state = known.state }) next).after ≡ (judge f known next).after = ap (λ (j : Judged). j.after) first_is ∙ sym (ap (λ (j : Judged). j.after) second_is) in
      let told_same : told (judge f (record { latest = Some t; state = known.state }) next) ≡ told (judge f known next) = ap told first_is ∙ sym (ap told second_is) in (
        flat_map-cons told (judge f (record { latest = Some t; state = known.state }) next) (run_from f (judge f (record { latest = Some t; state = known.state }) next).after more)
            ∙ (λ i. told_same i ++ flat_map told (run_from f (after i) more))
            ∙ sym (flat_map-cons told (judge f known next) (run_from f (judge f known next).after more)),
        ap (λ (k : Known). (known_from f k more).state) after,
      )

  -- from the packet on
  taken_out : (f : ℕ) (known : Known) (arrival : Arrival) (repeats after : List Arrival) → is_untold (judge f known arrival).verdict.kind ≡ true
      → All (λ (r : Arrival). number_after (Some (judge f known arrival).verdict.t) r.count ≡ None) repeats → NextSame (judge f known arrival).verdict.t known.latest after
      → (flat_map told (run_from f known (arrival ∷ (repeats ++ after))) ≡ flat_map told (run_from f known after))
      × ((known_from f known (arrival ∷ (repeats ++ after))).state ≡ (known_from f known after).state)
  taken_out f known arrival repeats after unwritten all same =
      let j = judge f known arrival in
      let l = left f known arrival.body (number_after known.latest arrival.count) unwritten in
      let latest : (judge f known arrival).after.latest ≡ Some (judge f known arrival).verdict.t = ap (λ (k : Known). k.latest) l.after in
      let r = repeated f (judge f known arrival).verdict.t (judge f known arrival).after repeats latest all in
      let rest = follows f (judge f known arrival).verdict.t known after same in (
        flat_map-cons told (judge f known arrival) (run_from f (judge f known arrival).after (repeats ++ after))
            ∙ ap (λ (l : List A). l ++ flat_map told (run_from f (judge f known arrival).after (repeats ++ after))) (none_told (judge f known arrival) (not_written (judge f known arrival).verdict.kind unwritten))
            ∙ ap (λ (l : List Judged). flat_map told l) (run_from-append f (judge f known arrival).after repeats after)
            ∙ flat_map-append told (run_from f (judge f known arrival).after repeats) (run_from f (known_from f (judge f known arrival).after repeats) after)
            ∙ ap (λ (l : List A). l ++ flat_map told (run_from f (known_from f (judge f known arrival).after repeats) after)) r.0
            ∙ ap (λ (k : Known). flat_map told (run_from f k after)) (r.1 ∙ l.after)
            ∙ rest.0,
        ap (λ (k : Known). k.state) (known_from-append f (judge f known arrival).after repeats after)
            ∙ ap (λ (k : Known). (known_from f k after).state) (r.1 ∙ l.after)
            ∙ rest.1,
      )

  -- ---- by the definition

  all_right : (xs ys : List Arrival) → AreArrivals (xs ++ ys) → AreArrivals ys
  all_right [] ys all = all
  all_right (x ∷ xs) ys all = all_right xs ys (later_arrivals x (xs ++ ys) all)

  are_repeats : (t count : ℕ) (repeats : List Arrival) → number_after (Some t) count ≡ None → All (λ (r : Arrival). r.count ≡ count) repeats → All (λ (r : Arrival). number_after (Some t) r.count ≡ None) repeats
  are_repeats t count repeats none all = λ k d within. ap (number_after (Some t)) (all k d within) ∙ none

  near_same : (latest : Option ℕ) (count t : ℕ) (after : List Arrival) → count < period → AreArrivals after → number_after latest count ≡ Some t → IsNearNext latest t after → NextSame t latest after
  near_same latest count t [] few all is near = tt
  near_same latest count t (next ∷ more) few all is (number, there, within) =
      (number, there, near_number latest count t next.count number few (first_arrival next more all) is there within)

  own_count : (latest : Option ℕ) (count t : ℕ) → count < period → number_after latest count ≡ Some t → HasCount t count
  own_count None count t few is = let same : count ≡ t = cc in omega (arith, same, few)
  own_count (Some n) count t few is = number_after-count n count t few is

  pub without : (f : ℕ) (before repeats after : List Arrival) (arrival : Arrival) → AreArrivals (before ++ arrival ∷ (repeats ++ after)) → CanBeTakenOut f before arrival repeats after
      → (flat_map told (run f (before ++ arrival ∷ (repeats ++ after))) ≡ flat_map told (run f (before ++ after)))
      × ((known_after f (before ++ arrival ∷ (repeats ++ after))).state ≡ (known_after f (before ++ after)).state)
  without f before repeats after arrival all can =
      let known = known_after f before in
      let these = all_right before (arrival ∷ (repeats ++ after)) all in
      let few = first_arrival arrival (repeats ++ after) these in
      let l = left f (known_after f before) arrival.body (number_after (known_after f before).latest arrival.count) can.untold in
      let t = (judge f (known_after f before) arrival).verdict.t in
      let none = (number_after-repeat (judge f (known_after f before) arrival).verdict.t arrival.count few).1 (own_count (known_after f before).latest arrival.count (judge f (known_after f before) arrival).verdict.t few l.is) in
      let later = all_right repeats after (later_arrivals arrival (repeats ++ after) these) in
      let same = near_same (known_after f before).latest arrival.count (judge f (known_after f before) arrival).verdict.t after few later l.is can.near in
      let out = taken_out f (known_after f before) arrival repeats after can.untold (are_repeats (judge f (known_after f before) arrival).verdict.t arrival.count repeats none can.repeated) same in (
        ap (λ (l : List Judged). flat_map told l) (run_from-append f nothing_known before (arrival ∷ (repeats ++ after)))
            ∙ flat_map-append told (run f before) (run_from f (known_after f before) (arrival ∷ (repeats ++ after)))
            ∙ ap (λ (l : List A). flat_map told (run f before) ++ l) out.0
            ∙ sym (flat_map-append told (run f before) (run_from f (known_after f before) after))
            ∙ sym (ap (λ (l : List Judged). flat_map told l) (run_from-append f nothing_known before after)),
        ap (λ (k : Known). k.state) (known_from-append f nothing_known before (arrival ∷ (repeats ++ after)))
            ∙ out.1
            ∙ sym (ap (λ (k : Known). k.state) (known_from-append f nothing_known before after)),
      )
