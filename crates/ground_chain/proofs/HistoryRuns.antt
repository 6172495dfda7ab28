-- The run over the packets of a history, packet by packet, and what is restored of it.
use Rattle.std.specs.List.{flat_map, last_or, range_with_len, filter}
use Rattle.std.specs.Prelude.{All}
use Rattle.std.proofs.Common.{◌≡◌, ℕ, zero, suc, ◌+◌, ◌%◌, ◌<◌, ◌≤◌, List, [], ◌∷◌, ◌++◌, length, map, replicate, Bool, true, false, if◌then◌else◌, Option, Some, None, refl, sym, ap, ◌∙◌, subst, arith, cond, append-nil}
use Rattle.std.proofs.lemmas.Grind.{flat_map-append}
use Rattle.std.proofs.lemmas.List.Elements.{All-append, All-cons, All-nil, All-replicate}
use Rattle.bit_vectors.specs.Vectors.{bits_of, vector_bytes}
use Rattle.bit_vectors.specs.declared.fault.BitFault.{BitFault}
use Rattle.mask_update.specs.Histories.{History, IsValid, input_at}
use Rattle.robust_window.specs.Histories.{level_at}
use Rattle.packet_store.specs.SpacePackets.{period}
use Rattle.packet_encode.specs.Deliveries.{arrivals, count_up_to, is_mask_known, is_written, latest_by, latest_mask_known, latest_of_missing, latest_written}
use Rattle.packet_decode.specs.State.{true_state}
use Rattle.flight_chain.specs.Compressing.{data_at}
use Rattle.loss_player.specs.Played.{AreGapsShort}
use Rattle.ground_chain.specs.Deliveries.{arrival_at, history_arrivals, restored_bytes}
use Rattle.ground_chain.specs.Report.{is_written_kind as is_kind_written, content_bytes, written_bytes, run_bytes}
use Rattle.ground_chain.specs.Run.{number_after, expected, Known, Judged, nothing_known, change_after, lost_from, judged_by, judge, repeat_judged, run_from, known_from, known_after, run}
use Rattle.ground_chain.specs.declared.verdict.Kind.TheVariants.{Written, Refused}
use Rattle.ground_chain.proofs.HistoryPackets.{missed_kind, kind_at, kind_read, state_next, latest_mask_known-dropped, latest_written-dropped, is_written-dropped, latest_written-more}
use Rattle.ground_chain.proofs.ListedRows.{copies_of, last_before, last-dropped, last-arrived, number-arrived, number-repeated}

-- ---- the run over the packets of a history, packet by packet

-- what is known before the packet t: the latest packet that arrived, and the state of the latest written one
abbrev pub known_at : History → (ℕ → ℕ) → ℕ → Known
known_at h copies t = record { latest = last_before copies t; state = true_state h (latest_mask_known h copies t) (latest_written h copies t) }

-- the verdict on the first copy of a packet, and what is known after it
abbrev pub judged_first : History → (ℕ → ℕ) → ℕ → Judged
judged_first h copies t = record {
  verdict = record { lost = lost_from (expected (last_before copies t)) t; t = t; kind = kind_at h copies t };
  change = change_after h.places (true_state h (latest_mask_known h copies t) (latest_written h copies t)) t (bits_of (data_at h t));
  after = known_at h copies (t + 1);
}

-- the verdicts on so many copies of a packet
abbrev pub judged_copies : History → (ℕ → ℕ) → ℕ → ℕ → List Judged
judged_copies h copies t zero = []
judged_copies h copies t (suc c) = judged_first h copies t ∷ replicate c (repeat_judged (known_at h copies (t + 1)))

-- the verdicts on all copies that arrive
abbrev pub judged_at : History → (ℕ → ℕ) → ℕ → List Judged
judged_at h copies t = judged_copies h copies t (copies t)

-- what is known if this is the latest packet that arrived
abbrev pub known_by : History → (ℕ → ℕ) → Option ℕ → Known
known_by h copies latest = record { latest = latest; state = true_state h (latest_mask_known h copies (count_up_to latest)) (latest_written h copies (count_up_to latest)) }

-- Before the packet t, if the latest one that arrived is this, each front of these arrivals leaves what is known at its
-- end.
abbrev IsKnownFrom : History → (ℕ → ℕ) → ℕ → Option ℕ → List ℕ → Type 0
IsKnownFrom h copies t latest numbers = (front rest : List ℕ) → front ++ rest ≡ numbers → known_from h.places (known_at h copies t) (map (arrival_at h) front) ≡ known_by h copies (last_or latest front)

module _ (h : History) (copies : ℕ → ℕ) where
  known-first : known_at h copies 0 ≡ nothing_known
  unfolding latest_by
  known-first = refl

  written-more : (t c : ℕ) → copies t ≡ c → latest_written h copies t ≡ latest_written h copies (count_up_to (last_before copies t))
      → latest_written h copies (t + 1) ≡ latest_written h copies (count_up_to (last_before copies (t + 1)))
  written-more t zero is same = latest_written-dropped h copies t is ∙ (same ∙ ap (λ (latest : Option ℕ). latest_written h copies (count_up_to latest)) (sym (last-dropped copies t is)))
  written-more t (suc c) is same = ap (λ (latest : Option ℕ). latest_written h copies (count_up_to latest)) (sym (last-arrived copies t c is))

  -- no packet after the latest one that arrived is written
  written-is : (t : ℕ) → latest_written h copies t ≡ latest_written h copies (count_up_to (last_before copies t))
  written-is zero = refl
  written-is (suc t) =
      let next : t + 1 ≡ suc t = omega arith in
      subst (λ (s : ℕ). latest_written h copies s ≡ latest_written h copies (count_up_to (last_before copies s))) next (written-more t (copies t) refl (written-is t))

  -- nor does its mask become known
  masked-more : (t c : ℕ) → copies t ≡ c → latest_mask_known h copies t ≡ latest_mask_known h copies (count_up_to (last_before copies t))
      → latest_mask_known h copies (t + 1) ≡ latest_mask_known h copies (count_up_to (last_before copies (t + 1)))
  masked-more t zero is same = latest_mask_known-dropped h copies t is ∙ (same ∙ ap (λ (latest : Option ℕ). latest_mask_known h copies (count_up_to latest)) (sym (last-dropped copies t is)))
  masked-more t (suc c) is same = ap (λ (latest : Option ℕ). latest_mask_known h copies (count_up_to latest)) (sym (last-arrived copies t c is))

  masked-is : (t : ℕ) → latest_mask_known h copies t ≡ latest_mask_known h copies (count_up_to (last_before copies t))
  masked-is zero = refl
  masked-is (suc t) =
      let next : t + 1 ≡ suc t = omega arith in
      subst (λ (s : ℕ). latest_mask_known h copies s ≡ latest_mask_known h copies (count_up_to (last_before copies s))) next (masked-more t (copies t) refl (masked-is t))

  known-is : (t : ℕ) → known_at h copies t ≡ known_by h copies (last_before copies t)
  known-is t = λ i. record { latest = last_before copies t; state = true_state h (masked-is t i) (written-is t i) }

  known-arrived : (t c : ℕ) → copies t ≡ suc c → known_at h copies (t + 1) ≡ known_by h copies (Some t)
  known-arrived t c is = known-is (t + 1) ∙ ap (known_by h copies) (last-arrived copies t c is)

module _ (h : History) (copies : ℕ → ℕ) (valid : IsValid h) (short : AreGapsShort copies (length h.steps)) where
  -- ---- one packet

  -- one that does not arrive changes nothing
  known-dropped : (t : ℕ) → copies t ≡ 0 → known_at h copies (t + 1) ≡ known_at h copies t
  known-dropped t none =
      let latest = last-dropped copies t none in
      let masked = latest_mask_known-dropped h copies t none in
      let written = latest_written-dropped h copies t none in
      λ i. record { latest = latest i; state = true_state h (masked i) (written i) }

  -- the first copy
  first-judged : (t c : ℕ) → t < length h.steps → copies t ≡ suc c → judge h.places (known_at h copies t) (arrival_at h t) ≡ judged_first h copies t
  first-judged t c lt is =
      let arrives : 1 ≤ copies t = omega (arith, is) in
      let number = number-arrived copies (length h.steps) t short lt arrives in
      let kind = kind_read h copies t c valid lt is in
      let latest = sym (last-arrived copies t c is) in
      let state = state_next h copies t c valid lt is in
      ap (judged_by h.places (known_at h copies t) (data_at h t)) number ∙ λ i. record {
        verdict = record { lost = lost_from (expected (last_before copies t)) t; t = t; kind = kind i };
        change = change_after h.places (true_state h (latest_mask_known h copies t) (latest_written h copies t)) t (bits_of (data_at h t));
        after = record { latest = latest i; state = state i };
      }

  -- any other copy
  repeat-judged : (t c : ℕ) → copies t ≡ suc c → judge h.places (known_at h copies (t + 1)) (arrival_at h t) ≡ repeat_judged (known_at h copies (t + 1))
  repeat-judged t c is =
      ap (judged_by h.places (known_at h copies (t + 1)) (data_at h t)) (ap (λ (latest : Option ℕ). number_after latest (t % period)) (last-arrived copies t c is) ∙ number-repeated t)

  -- ---- the run

  abbrev run_at : ℕ → List ℕ → List Judged
  run_at t numbers = run_from h.places (known_at h copies t) (map (arrival_at h) numbers)

  repeats-run : (t c : ℕ) → copies t ≡ suc c → (n : ℕ) (more : List ℕ) → run_at (t + 1) (replicate n t ++ more) ≡ replicate n (repeat_judged (known_at h copies (t + 1))) ++ run_at (t + 1) more
  repeats-run t c is zero more = refl
  repeats-run t c is (suc n) more =
      let here = repeat-judged t c is in
      let rest = repeats-run t c is n more in
      ap (λ (j : Judged). j ∷ run_from h.places j.after (map (arrival_at h) (replicate n t ++ more))) here ∙ ap (λ (l : List Judged). repeat_judged (known_at h copies (t + 1)) ∷ l) rest

  packet-run : (t c : ℕ) → t < length h.steps → copies t ≡ c → (more : List ℕ) → run_at t (replicate c t ++ more) ≡ judged_copies h copies t c ++ run_at (t + 1) more
  packet-run t zero lt is more = ap (λ (known : Known). run_from h.places known (map (arrival_at h) more)) (sym (known-dropped t is))
  packet-run t (suc c) lt is more =
      ap (λ (j : Judged). j ∷ run_from h.places j.after (map (arrival_at h) (replicate c t ++ more))) (first-judged t c lt is)
      ∙ ap (λ (l : List Judged). judged_first h copies t ∷ l) (repeats-run t c is c more)

  packets-run : (k t : ℕ) → t + k ≤ length h.steps → run_at t (flat_map (copies_of copies) (range_with_len t k)) ≡ flat_map (judged_at h copies) (range_with_len t k)
  packets-run zero t le = refl
  packets-run (suc k) t le =
      let lt : t < length h.steps = omega arith in
      let more : t + 1 + k ≤ length h.steps = omega arith in
      packet-run t (copies t) lt refl (flat_map (copies_of copies) (range_with_len (t + 1) k)) ∙ ap (λ (l : List Judged). judged_at h copies t ++ l) (packets-run k (t + 1) more)

  pub run-packets : run h.places (history_arrivals h copies) ≡ flat_map (judged_at h copies) (range_with_len 0 (length h.steps))
  run-packets =
      let all : 0 + length h.steps ≤ length h.steps = omega arith in
      ap (λ (known : Known). run_from h.places known (history_arrivals h copies)) (sym (known-first h copies)) ∙ packets-run (length h.steps) 0 all

  -- ---- what is known after each arrival

  known-repeats : (t c : ℕ) → copies t ≡ suc c → (more : List ℕ) → IsKnownFrom h copies (t + 1) (Some t) more → (n : ℕ) → IsKnownFrom h copies (t + 1) (Some t) (replicate n t ++ more)
  known-repeats t c is more later zero front rest e = later front rest e
  known-repeats t c is more later (suc n) [] rest e = known-arrived h copies t c is
  known-repeats t c is more later (suc n) (x ∷ front) rest e =
      let same : t ≡ x = cc in
      let others : front ++ rest ≡ replicate n t ++ more = cc in
      ap (λ (s : ℕ). known_from h.places (judge h.places (known_at h copies (t + 1)) (arrival_at h s)).after (map (arrival_at h) front)) (sym same)
      ∙ (ap (λ (j : Judged). known_from h.places j.after (map (arrival_at h) front)) (repeat-judged t c is)
      ∙ (known-repeats t c is more later n front rest others ∙ ap (λ (s : ℕ). known_by h copies (last_or (Some s) front)) same))

  known-packet : (t c : ℕ) → t < length h.steps → copies t ≡ c → (more : List ℕ) → IsKnownFrom h copies (t + 1) (last_before copies (t + 1)) more → IsKnownFrom h copies t (last_before copies t) (replicate c t ++ more)
  known-packet t zero lt is more later front rest e =
      ap (λ (known : Known). known_from h.places known (map (arrival_at h) front)) (sym (known-dropped t is))
      ∙ (later front rest e ∙ ap (λ (latest : Option ℕ). known_by h copies (last_or latest front)) (last-dropped copies t is))
  known-packet t (suc c) lt is more later [] rest e = known-is h copies t
  known-packet t (suc c) lt is more later (x ∷ front) rest e =
      let same : t ≡ x = cc in
      let others : front ++ rest ≡ replicate c t ++ more = cc in
      let after = subst (λ (latest : Option ℕ). IsKnownFrom h copies (t + 1) latest more) (last-arrived copies t c is) later in
      ap (λ (s : ℕ). known_from h.places (judge h.places (known_at h copies t) (arrival_at h s)).after (map (arrival_at h) front)) (sym same)
      ∙ (ap (λ (j : Judged). known_from h.places j.after (map (arrival_at h) front)) (first-judged t c lt is)
      ∙ (known-repeats t c is more after c front rest others ∙ ap (λ (s : ℕ). known_by h copies (last_or (Some s) front)) same))

  known-packets : (k t : ℕ) → t + k ≤ length h.steps → IsKnownFrom h copies t (last_before copies t) (flat_map (copies_of copies) (range_with_len t k))
  known-packets zero t le [] rest e = known-is h copies t
  known-packets zero t le (x ∷ front) rest e = absurd cc
  known-packets (suc k) t le front rest e =
      let lt : t < length h.steps = omega arith in
      let more : t + 1 + k ≤ length h.steps = omega arith in
      known-packet t (copies t) lt refl (flat_map (copies_of copies) (range_with_len (t + 1) k)) (known-packets k (t + 1) more) front rest e

  pub known-history : (front rest : List ℕ) → front ++ rest ≡ arrivals copies (length h.steps) → known_after h.places (map (arrival_at h) front) ≡ known_by h copies (last_or None front)
  known-history front rest e =
      let all : 0 + length h.steps ≤ length h.steps = omega arith in
      ap (λ (known : Known). known_from h.places known (map (arrival_at h) front)) (sym (known-first h copies)) ∙ known-packets (length h.steps) 0 all front rest e

-- ---- none refused

abbrev pub IsUnrefused : Judged → Type 0
IsUnrefused j = (fault : BitFault) → j.verdict.kind ≡ Refused fault → ⊥

unrefused-by : (written mask : Bool) (latest : Option ℕ) (level : ℕ) (fault : BitFault) → (if written then Written else missed_kind latest level mask) ≡ Refused fault → ⊥
unrefused-by true mask latest level fault is = cc
unrefused-by false mask None level fault is = cc
unrefused-by false mask (Some s) level fault is = cc

unrefused-repeat : (known : Known) → IsUnrefused (repeat_judged known)
unrefused-repeat known fault is = cc

unrefused-copies : (h : History) (copies : ℕ → ℕ) (t c : ℕ) → All IsUnrefused (judged_copies h copies t c)
unrefused-copies h copies t zero = All-nil (λ j. IsUnrefused j)
unrefused-copies h copies t (suc c) =
    All-cons (λ j. IsUnrefused j) (judged_first h copies t) (replicate c (repeat_judged (known_at h copies (t + 1)))) (unrefused-by (is_written h copies t) (is_mask_known h copies t) (latest_of_missing h copies t) (level_at h t))
    (All-replicate (λ j. IsUnrefused j) c (repeat_judged (known_at h copies (t + 1))) (unrefused-repeat (known_at h copies (t + 1))))

pub unrefused-packets : (h : History) (copies : ℕ → ℕ) (numbers : List ℕ) → All IsUnrefused (flat_map (judged_at h copies) numbers)
unrefused-packets h copies [] = All-nil (λ j. IsUnrefused j)
unrefused-packets h copies (t ∷ numbers) = All-append (λ j. IsUnrefused j) (judged_at h copies t) (flat_map (judged_at h copies) numbers) (unrefused-copies h copies t (copies t)) (unrefused-packets h copies numbers)

-- ---- lists

pub flat_map-flat_map : {A B C : Type 0} (g : B → List C) (f : A → List B) (xs : List A) → flat_map g (flat_map f xs) ≡ flat_map (λ x. flat_map g (f x)) xs
flat_map-flat_map g f [] = refl
flat_map-flat_map g f (x ∷ xs) = flat_map-append g (f x) (flat_map f xs) ∙ ap (λ l. flat_map g (f x) ++ l) (flat_map-flat_map g f xs)

flat_map-cond : {A B : Type 0} (g : A → List B) (test : Bool) (x : A) (xs : List A) → flat_map g (cond test (x ∷ xs) xs) ≡ cond test (g x) [] ++ flat_map g xs
flat_map-cond g true x xs = refl
flat_map-cond g false x xs = refl

flat_map-filter : {A B : Type 0} (g : A → List B) (test : A → Bool) (xs : List A) → flat_map g (filter test xs) ≡ flat_map (λ x. cond (test x) (g x) []) xs
flat_map-filter g test [] = refl
flat_map-filter g test (x ∷ xs) = flat_map-cond g (test x) x (filter test xs) ∙ ap (λ l. cond (test x) (g x) [] ++ l) (flat_map-filter g test xs)

-- ---- one packet

is_kind-missed : (latest : Option ℕ) (level : ℕ) (mask : Bool) → is_kind_written (missed_kind latest level mask) ≡ false
is_kind-missed None level mask = refl
is_kind-missed (Some s) level mask = refl

pub kind-written : (written : Bool) (latest : Option ℕ) (level : ℕ) (mask : Bool) → is_kind_written (if written then Written else missed_kind latest level mask) ≡ written
kind-written true latest level mask = refl
kind-written false latest level mask = is_kind-missed latest level mask

repeats-nothing : (known : Known) (n : ℕ) → flat_map (λ j. written_bytes j) (replicate n (repeat_judged known)) ≡ []
repeats-nothing known zero = refl
repeats-nothing known (suc n) = repeats-nothing known n

module _ (h : History) (copies : ℕ → ℕ) where
  bytes-by : (t : ℕ) (written mask : Bool) (missing : Option ℕ) (level : ℕ) (latest masks next : Option ℕ) → next ≡ (if written then Some t else latest)
      → (if is_kind_written (if written then Written else missed_kind missing level mask) then content_bytes (true_state h masks next) else []) ≡ cond written (vector_bytes (input_at h t)) []
  bytes-by t true mask missing level latest masks next is = ap (λ (o : Option ℕ). content_bytes (true_state h masks o)) is
  bytes-by t false mask missing level latest masks next is = ap (λ (b : Bool). if b then content_bytes (true_state h masks next) else []) (is_kind-missed missing level mask)

  bytes-first : (t : ℕ) → written_bytes (judged_first h copies t) ≡ cond (is_written h copies t) (vector_bytes (input_at h t)) []
  bytes-first t = bytes-by t (is_written h copies t) (is_mask_known h copies t) (latest_of_missing h copies t) (level_at h t) (latest_written h copies t) (latest_mask_known h copies (t + 1)) (latest_written h copies (t + 1)) (latest_written-more h copies t)

  bytes-copies : (t c : ℕ) → copies t ≡ c → flat_map (λ j. written_bytes j) (judged_copies h copies t c) ≡ cond (is_written h copies t) (vector_bytes (input_at h t)) []
  bytes-copies t zero is = ap (λ (b : Bool). cond b (vector_bytes (input_at h t)) []) (sym (is_written-dropped h copies t is))
  bytes-copies t (suc c) is =
      ap (λ (l : List ℕ). written_bytes (judged_first h copies t) ++ l) (repeats-nothing (known_at h copies (t + 1)) c) ∙ (append-nil (written_bytes (judged_first h copies t)) ∙ bytes-first t)

  bytes-packets : (numbers : List ℕ) → run_bytes (flat_map (judged_at h copies) numbers) ≡ flat_map (λ t. vector_bytes (input_at h t)) (filter (is_written h copies) numbers)
  bytes-packets numbers =
      flat_map-flat_map (λ (j : Judged). written_bytes j) (judged_at h copies) numbers
      ∙ (ap (λ (f : ℕ → List ℕ). flat_map f numbers) (λ i t. bytes-copies t (copies t) refl i) ∙ sym (flat_map-filter (λ t. vector_bytes (input_at h t)) (is_written h copies) numbers))

  pub bytes-history : IsValid h → AreGapsShort copies (length h.steps) → run_bytes (run h.places (history_arrivals h copies)) ≡ restored_bytes h copies
  bytes-history valid short = ap run_bytes (run-packets h copies valid short) ∙ bytes-packets (range_with_len 0 (length h.steps))
