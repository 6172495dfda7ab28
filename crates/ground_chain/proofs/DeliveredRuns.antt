-- The run over the played store of a history: how its packets arrive, and what it writes.
use Rattle.std.specs.Io.KnownBytes.{append_known}
use Rattle.std.specs.List.{count_by, filter, flat_map, range_with_len}
use Rattle.std.proofs.Common.{if◌then◌else◌, ◌≡◌, ℕ, zero, suc, ◌+◌, ◌%◌, ◌^◌, ◌<◌, ◌≤◌, ◌==◌, Bool, true, cond, List, [], ◌∷◌, ◌++◌, length, map, replicate, All, Some, None, refl, sym, ap, subst, ◌∙◌, arith, ◌⊎◌, Result, Ok, Err, IsOk, inl, inr}
use Rattle.std.proofs.lemmas.Bool.{cases_lt}
use Rattle.std.proofs.lemmas.Grind.{common_steps}
use Rattle.std.proofs.lemmas.List.{length-map, map-append}
use Rattle.std.proofs.lemmas.List.Concat.{flat_map-cons}
use Rattle.std.proofs.lemmas.List.FromFn.{length-map-range_with_len, length-range_with_len, get_or-map-range_with_len}
use Rattle.std.proofs.lemmas.List.Sums.{sum_by-cons}
use Rattle.std.proofs.lemmas.Simd.{map-map}
use Rattle.desk_ports.specs.Courses.{AfterRun, Finishes, HasCause, OutputTexts, Work, by_ending, by_stop, owed, texts_of, to_output}
use Rattle.desk_ports.specs.Meanings.{Stop, Data, ReadFault, WriteFault, Meanings, Counts, Rose, made}
use Rattle.desk_ports.specs.declared.desk.Outlet.TheVariants as outlet
use Rattle.desk_ports.proofs.Courses.{Ends-told, Finishes-told, to_outlet-append}
use Rattle.desk_ports.proofs.Desks.{Rose-reads, Rose-writes}
use Rattle.mask_update.specs.Histories.{History, IsValid}
use Rattle.packet_store.specs.SpacePackets.{Packet, period, is_chosen, plain_packet}
use Rattle.packet_store.specs.StoreReader.{stop_by}
use Rattle.packet_store.specs.Walks.{IsGood, Walk, walk}
use Rattle.packet_store.specs.declared.fault.RunFault.{RunFault}
use Rattle.packet_store.specs.declared.fault.WalkFault.{WalkFault}
use Rattle.packet_store.specs.declared.fault.WalkFault.TheVariants as fault
use Rattle.packet_store.proofs.Packets.{IsGood-plain}
use Rattle.packet_encode.specs.Deliveries.{arrivals}
use Rattle.flight_chain.specs.Compressing.{data_at, numbered_data, store_of}
use Rattle.flight_chain.proofs.CompressCourses.{IsPacket-at, walk-store_of}
use Rattle.loss_player.specs.Played.{chosen_count, times_of, place_after, played_bytes, played_from, played_packets, AreGapsShort}
use Rattle.loss_player.proofs.PlayCourses.{good_played, walk_from-many, walk_from-packets}
use Rattle.ground_chain.specs.Deliveries.{arrival_at, history_arrivals, IsDelivered, IsPlayed, delivered_numbers, report_text, restored_bytes}
use Rattle.ground_chain.specs.Listing.{end_line, listing_course, run_lines, run_listing}
use Rattle.ground_chain.specs.Report.{end_row, header_row, restored_of, run_bytes, run_report, verdict_rows, written_bytes}
use Rattle.ground_chain.specs.Restoring.{arrival_of, arrivals_of, restore_course, restore_work, store_run}
use Rattle.ground_chain.specs.Run.{Arrival, Judged, run}
use Rattle.ground_chain.specs.declared.restored.Restored.{Restored}
use Rattle.ground_chain.proofs.HistoryRows.{numbers-history, rows-history}
use Rattle.ground_chain.proofs.HistoryRuns.{bytes-history}
use Rattle.ground_chain.proofs.RestCourses.{texts-around}

-- ---- the packets of a history, as they arrive from its played store

-- the Space Packet of a step
abbrev plain_at : History → ℕ → ℕ → Packet
plain_at h apid t = plain_packet apid (t % period) (data_at h t)

same_apid : (n : ℕ) → (n == n) ≡ true
same_apid n = grind (arith, common_steps)

map-replicate : {X Y : Type 0} (f : X → Y) (n : ℕ) (x : X) → map f (replicate n x) ≡ replicate n (f x)
map-replicate f zero x = refl
map-replicate f (suc n) x = ap (λ ys. f x ∷ ys) (map-replicate f n x)

-- the packets of a store, from one number on, as they arrive
played-plain : (h : History) (copies : ℕ → ℕ) (apid t n : ℕ)
    → played_from (Some apid) copies t (map (plain_at h apid) (range_with_len t n)) ≡ map (plain_at h apid) (flat_map (λ s. replicate (copies s) s) (range_with_len t n))
played-plain h copies apid t zero = refl
played-plain h copies apid t (suc n) =
    let more : List Packet = map (plain_at h apid) (range_with_len (t + 1) n) in
    let numbers : List ℕ = flat_map (λ s. replicate (copies s) s) (range_with_len (t + 1) n) in
    ap (λ (own : Bool). replicate (times_of own copies t) (plain_at h apid t) ++ played_from (Some apid) copies (place_after own t) more) (same_apid apid)
    ∙ (ap (λ (later : List Packet). replicate (copies t) (plain_at h apid t) ++ later) (played-plain h copies apid (t + 1) n)
    ∙ (ap (λ (first : List Packet). first ++ map (plain_at h apid) numbers) (sym (map-replicate (plain_at h apid) (copies t) t))
    ∙ (sym (map-append (plain_at h apid) (replicate (copies t) t) numbers)
    ∙ ap (map (plain_at h apid)) (sym (flat_map-cons (λ s. replicate (copies s) s) t (range_with_len (t + 1) n))))))

walked_packets : (h : History) (apid : ℕ) → IsValid h → apid ≤ 2046
    → (walk (Some apid) (store_of h apid)).packets ≡ map (plain_at h apid) (range_with_len 0 (length h.steps))
walked_packets h apid valid chosen =
    ap (λ (w : Walk). w.packets) (walk-store_of (Some apid) h apid valid chosen)
    ∙ map-map (λ (p : ℕ × List ℕ). plain_packet apid p.0 p.1) (numbered_data h) (range_with_len 0 (length h.steps))

-- it is whole
pub whole-store_of : (h : History) (apid : ℕ) → IsValid h → apid ≤ 2046 → (walk (Some apid) (store_of h apid)).ending ≡ None
whole-store_of h apid valid chosen = ap (λ (w : Walk). w.ending) (walk-store_of (Some apid) h apid valid chosen)

count-plain : (h : History) (apid : ℕ) (numbers : List ℕ) → count_by (λ p. is_chosen (Some apid) p.header) (map (plain_at h apid) numbers) ≡ length numbers
count-plain h apid [] = refl
count-plain h apid (t ∷ numbers) =
    let one : Packet → ℕ = λ p. if is_chosen (Some apid) p.header then 1 else 0 in
    let more : ℕ = count_by (λ p. is_chosen (Some apid) p.header) (map (plain_at h apid) numbers) in
    sum_by-cons one (plain_at h apid t) (map (plain_at h apid) numbers)
    ∙ (ap (λ (own : Bool). (if own then 1 else 0) + more) (same_apid apid) ∙ (ap (λ k. 1 + k) (count-plain h apid numbers) ∙ omega arith))

-- all its packets are of the APID
pub count-chosen : (h : History) (apid : ℕ) → IsValid h → apid ≤ 2046 → chosen_count (Some apid) (walk (Some apid) (store_of h apid)).packets ≡ length h.steps
count-chosen h apid valid chosen =
    ap (chosen_count (Some apid)) (walked_packets h apid valid chosen) ∙ (count-plain h apid (range_with_len 0 (length h.steps)) ∙ length-range_with_len 0 (length h.steps))

-- the played packets are those of the numbers that arrive
pub played_packets-are : (h : History) (copies : ℕ → ℕ) (apid : ℕ) → IsValid h → apid ≤ 2046
    → played_packets copies apid (store_of h apid) ≡ map (plain_at h apid) (arrivals copies (length h.steps))
played_packets-are h copies apid valid chosen =
    ap (played_from (Some apid) copies 0) (walked_packets h apid valid chosen) ∙ played-plain h copies apid 0 (length h.steps)

-- they are good ones
good_packets : (h : History) (apid : ℕ) → IsValid h → apid ≤ 2046 → All (IsGood (Some apid)) (walk (Some apid) (store_of h apid)).packets
good_packets h apid valid chosen =
    subst (All (IsGood (Some apid))) (sym (walked_packets h apid valid chosen)) (λ k d within.
    let lt : k < length h.steps = omega (arith, within, length-map-range_with_len (plain_at h apid) 0 (length h.steps)) in
    subst (IsGood (Some apid)) (sym (get_or-map-range_with_len (plain_at h apid) 0 (length h.steps) k k d lt (omega arith)))
    (IsGood-plain (Some apid) apid (k % period) (data_at h k) (IsPacket-at h apid k valid chosen lt)))

-- all of them are of the chosen APID
chosen_arrivals : (h : History) (apid : ℕ) (numbers : List ℕ) → arrivals_of (Some apid) (map (plain_at h apid) numbers) ≡ map (arrival_at h) numbers
chosen_arrivals h apid [] = refl
chosen_arrivals h apid (t ∷ numbers) =
    let more : List Packet = filter (λ p. is_chosen (Some apid) p.header) (map (plain_at h apid) numbers) in
    ap (λ (own : Bool). map arrival_of (cond own (plain_at h apid t ∷ more) more)) (same_apid apid)
    ∙ ap (λ (later : List Arrival). arrival_at h t ∷ later) (chosen_arrivals h apid numbers)

-- the walk over the played store, if it is not too long
pub walk-played : (h : History) (copies : ℕ → ℕ) (apid : ℕ) → IsValid h → apid ≤ 2046 → length (arrivals copies (length h.steps)) ≤ 2 ^ 32
    → walk (Some apid) (played_bytes copies apid (store_of h apid)) ≡ record { packets = map (plain_at h apid) (arrivals copies (length h.steps)); rest = []; ending = None }
walk-played h copies apid valid chosen few =
    let is = played_packets-are h copies apid valid chosen in
    let size = length-map (arrivals copies (length h.steps)) (plain_at h apid) in
    walk_from-packets (Some apid) 0 0 (played_packets copies apid (store_of h apid))
    (good_played (Some apid) copies 0 (walk (Some apid) (store_of h apid)).packets (good_packets h apid valid chosen))
    (omega (arith, few, size, ap length is))
    ∙ ap (λ packets. record { packets = packets; rest = []; ending = None }) is

-- and if it is
pub walk-too_many : (h : History) (copies : ℕ → ℕ) (apid : ℕ) → IsValid h → apid ≤ 2046 → 2 ^ 32 < length (arrivals copies (length h.steps))
    → (walk (Some apid) (played_bytes copies apid (store_of h apid))).ending ≡ Some fault.TooMany
walk-too_many h copies apid valid chosen many =
    let is = played_packets-are h copies apid valid chosen in
    let size = length-map (arrivals copies (length h.steps)) (plain_at h apid) in
    walk_from-many (Some apid) 0 0 (played_packets copies apid (store_of h apid))
    (good_played (Some apid) copies 0 (walk (Some apid) (store_of h apid)).packets (good_packets h apid valid chosen))
    (omega arith) (omega (arith, many, size, ap length is))

-- the arrivals of a played store
pub arrivals-played : (h : History) (copies : ℕ → ℕ) (apid : ℕ) → IsValid h → apid ≤ 2046 → length (arrivals copies (length h.steps)) ≤ 2 ^ 32
    → arrivals_of (Some apid) (walk (Some apid) (played_bytes copies apid (store_of h apid))).packets ≡ history_arrivals h copies
arrivals-played h copies apid valid chosen few =
    ap (λ (w : Walk). arrivals_of (Some apid) w.packets) (walk-played h copies apid valid chosen few)
    ∙ chosen_arrivals h apid (arrivals copies (length h.steps))

-- ---- what a run over the played store of a history writes

-- what a whole store owes
pub owed-whole : (f apid : ℕ) (store : List ℕ) → (walk (Some apid) store).ending ≡ None → texts_of (owed (restore_course f apid store)) ≡ record { output = run_bytes (store_run f apid store); report = run_report (store_run f apid store) }
owed-whole f apid store whole =
    let judged = store_run f apid store in
    ap (λ ending. texts_of (by_ending ending (restore_course f apid store).before (restore_course f apid store).after)) whole
    ∙ texts-around (λ (j : Judged). verdict_rows j.verdict) written_bytes header_row (end_row (restored_of judged)) judged

-- and as a listing
pub owed-listed : (f apid : ℕ) (store : List ℕ) → (walk (Some apid) store).ending ≡ None → owed (listing_course f apid store) ≡ to_output (run_listing (store_run f apid store))
owed-listed f apid store whole =
    let judged = store_run f apid store in
    ap (λ ending. by_ending ending (listing_course f apid store).before (listing_course f apid store).after) whole ∙ sym (to_outlet-append outlet.Main (run_lines judged) (end_line (restored_of judged)))

module _ (h : History) (copies : ℕ → ℕ) (apid : ℕ) (valid : IsValid h) (chosen : apid ≤ 2046) where
  -- a played store that is whole is not too long
  few-whole : (walk (Some apid) (played_bytes copies apid (store_of h apid))).ending ≡ None → length (arrivals copies (length h.steps)) ≤ 2 ^ 32
  few-whole whole = by_size (cases_lt (2 ^ 32) (length (arrivals copies (length h.steps))))
    where
      by_size : (2 ^ 32 < length (arrivals copies (length h.steps))) ⊎ (length (arrivals copies (length h.steps)) ≤ 2 ^ 32) → length (arrivals copies (length h.steps)) ≤ 2 ^ 32
      by_size (inl many) = let too_many = sym (walk-too_many h copies apid valid chosen many) ∙ whole in absurd cc
      by_size (inr few) = few

  -- its run is that over the history's arrivals
  run-played : (walk (Some apid) (played_bytes copies apid (store_of h apid))).ending ≡ None
      → store_run h.places apid (played_bytes copies apid (store_of h apid)) ≡ run h.places (history_arrivals h copies)
  run-played whole = ap (run h.places) (arrivals-played h copies apid valid chosen (few-whole whole))

  module _ (short : AreGapsShort copies (length h.steps)) (whole : (walk (Some apid) (played_bytes copies apid (store_of h apid))).ending ≡ None) where
    pub owed-played : texts_of (owed (restore_course h.places apid (played_bytes copies apid (store_of h apid)))) ≡ record { output = restored_bytes h copies; report = report_text h copies }
    owed-played =
        owed-whole h.places apid (played_bytes copies apid (store_of h apid)) whole
        ∙ (ap (λ judged. record { output = run_bytes judged; report = run_report judged }) (run-played whole)
        ∙ λ i. record { output = bytes-history h copies valid short i; report = header_row ++ rows-history h copies valid short i ++ end_row (numbers-history h copies valid short i) })

    pub numbers-played : restored_of (store_run h.places apid (played_bytes copies apid (store_of h apid))) ≡ delivered_numbers h copies
    numbers-played = ap restored_of (run-played whole) ∙ numbers-history h copies valid short

-- what a run writes that is done
pub IsDelivered-done : (f apid : ℕ) (h : History) (copies : ℕ → ℕ) (restored : Restored) (a b : Meanings) → IsPlayed f apid h copies a
    → Finishes (restore_work f apid) a b restored → IsDelivered h copies restored a b
IsDelivered-done f apid h copies restored a b played done =
    let store : List ℕ = played_bytes copies apid (store_of h apid) in
    let told = Ends-told (restore_course f apid) a b None store played.input done.ends in
    let whole = told.2 in
    let owed_is = subst (λ places. texts_of (owed (restore_course places apid store)) ≡ record { output = restored_bytes h copies; report = report_text h copies }) played.places (owed-played h copies apid played.valid played.chosen played.gaps whole) in
    let numbers_are = subst (λ places. restored_of (store_run places apid store) ≡ delivered_numbers h copies) played.places (numbers-played h copies apid played.valid played.chosen played.gaps whole) in
    record {
      output = told.0 ∙ ap (λ (o : OutputTexts). append_known (made a outlet.Main) o.output) owed_is;
      report = told.1 ∙ ap (λ (o : OutputTexts). append_known (made a outlet.Report) o.report) owed_is;
      numbers = Finishes-told (restore_work f apid) a b restored store played.input done ∙ numbers_are;
    }

-- a run over a desk that doesn't fail is done, if the played store is not too long and the course ends as the walk does
pub IsOk-played : (f apid : ℕ) (work : Work Restored WalkFault) (h : History) (copies : ℕ → ℕ) (a b : Meanings) (old new : Counts) (result : Result Restored (Stop WalkFault)) → ((store : List ℕ) → (work.course store).ending ≡ (walk (Some apid) store).ending)
    → IsPlayed f apid h copies a → length (arrivals copies (length h.steps)) ≤ 2 ^ 32 → AfterRun work a b result → HasCause old new result
    → (Rose old.reads new.reads → ⊥) → (Rose old.writes new.writes → ⊥) → IsOk result
IsOk-played f apid work h copies a b old new (Ok restored) ends_so played few ran cause reads writes = refl
IsOk-played f apid work h copies a b old new (Err (Data reason)) ends_so played few ran cause reads writes =
    let store : List ℕ = played_bytes copies apid (store_of h apid) in
    let ends = (Ends-told work.course a b (Some reason) store played.input ran).2 in
    let whole = ends_so store ∙ ap (λ (w : Walk). w.ending) (walk-played h copies apid played.valid played.chosen few) in
    let both = sym whole ∙ ends in absurd cc
IsOk-played f apid work h copies a b old new (Err ReadFault) ends_so played few ran cause reads writes = absurd (reads (Rose-reads old new cause))
IsOk-played f apid work h copies a b old new (Err WriteFault) ends_so played few ran cause reads writes = absurd (writes (Rose-writes old new cause))

-- the same of an answer with a fault of a run
pub IsOk-run : (f apid : ℕ) (work : Work Restored WalkFault) (h : History) (copies : ℕ → ℕ) (a b : Meanings) (old new : Counts) (result : Result Restored RunFault) → ((store : List ℕ) → (work.course store).ending ≡ (walk (Some apid) store).ending)
    → IsPlayed f apid h copies a → length (arrivals copies (length h.steps)) ≤ 2 ^ 32 → AfterRun work a b (by_stop stop_by result) → HasCause old new (by_stop stop_by result)
    → (Rose old.reads new.reads → ⊥) → (Rose old.writes new.writes → ⊥) → IsOk result
IsOk-run f apid work h copies a b old new result ends_so played few ran cause reads writes =
    of_stop result (IsOk-played f apid work h copies a b old new (by_stop stop_by result) ends_so played few ran cause reads writes) where
      of_stop : (r : Result Restored RunFault) → IsOk (by_stop stop_by r) → IsOk r
      of_stop (Ok restored) ok = refl
      of_stop (Err fault) ok = absurd cc
