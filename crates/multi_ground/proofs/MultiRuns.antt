-- The run over the packets of several streams, part by part: what holds of every judged arrival, and the arrivals of a played store.
use Rattle.std.specs.List.{cons_option, filter, count_by, flat_map}
use Rattle.std.specs.Option.{option_map}
use Rattle.std.proofs.Common.{◌≡◌, ℕ, ◌+◌, ◌<◌, ◌≤◌, ◌==◌, Bool, true, false, cond, List, [], ◌∷◌, ◌++◌, map, length, Option, Some, None, refl, sym, ap, ◌∙◌, append-nil, append_assoc, arith, ◌-◌, ◌%◌, ◌^◌, get_or, All, subst, length-append, zero, suc, ◌&&◌, not, replicate}
use Rattle.std.proofs.lemmas.Bool.{and_left, and_right, ne_eqb, and_from, eq-eqb}
use Rattle.std.proofs.lemmas.Grind.{common_steps}
use Rattle.std.proofs.lemmas.List.{map-append, length-map, get_or-append_right, get_or_append_left, get_or_default}
use Rattle.std.proofs.lemmas.List.Elements.{filter-append, All-cons, All-filter, All-map, All-nil, All-get_or, All-append, All-replicate, All-weaker}
use Rattle.std.proofs.lemmas.List.Quantifiers.{position-Some}
use Rattle.std.proofs.lemmas.List.Sums.{count_by-le-length, length-filter, sum_by-append}
use Rattle.std.proofs.lemmas.Option.{none-some}
use Rattle.bit_vectors.specs.Vectors.{byte_count, vector_bytes}
use Rattle.bit_vectors.proofs.NumberBits.{AreBytes-vector_bytes}
use Rattle.desk_ports.specs.Courses.{Outputs}
use Rattle.mask_update.specs.Histories.{History, IsValid}
use Rattle.side_tables.specs.Streams.{AreStreams, stream_at, stream_of, IsStreamRow, has_apid, no_stream}
use Rattle.side_tables.specs.declared.rows.StreamRow.{StreamRow}
use Rattle.side_tables.proofs.StreamRows.{stream_of-index, stream_of-own}
use Rattle.packet_store.specs.SpacePackets.{Packet, IsPacket, period, plain_packet}
use Rattle.packet_store.specs.Walks.{IsGood, Walk, packets_bytes, walk}
use Rattle.packet_store.specs.declared.fault.WalkFault.TheVariants as fault
use Rattle.packet_store.proofs.Packets.{IsGood-plain}
use Rattle.packet_encode.specs.Deliveries.{arrivals}
use Rattle.packet_encode.proofs.Deliveries.{arrivals-suc}
use Rattle.packet_decode.specs.State.{KnownVector}
use Rattle.flight_chain.specs.Compressing.{data_at, store_of}
use Rattle.flight_chain.proofs.CompressCourses.{IsPacket-at}
use Rattle.loss_player.specs.Played.{AreGapsShort, played_bytes}
use Rattle.loss_player.proofs.PlayCourses.{walk_from-many, walk_from-packets}
use Rattle.ground_chain.specs.Deliveries.{arrival_at, delivered_numbers, history_arrivals, listed_rows, report_text, restored_bytes, row_text}
use Rattle.ground_chain.specs.Report.{is_written_kind, HasContent, HasRowNumbers, content_bytes, known_bytes, AreArrivals, end_row, header_row, restored_of, run_bytes, run_rows}
use Rattle.ground_chain.specs.Restoring.{arrival_of}
use Rattle.ground_chain.specs.Run.{Arrival, Judged, judge, known_after, nothing_known, run}
use Rattle.ground_chain.specs.declared.verdict.Kind.TheVariants.{Written}
use Rattle.ground_chain.proofs.DeliveredRuns.{played_packets-are}
use Rattle.ground_chain.proofs.EveryRun.{content_size, contents_of, row_numbers_of, run_from-append}
use Rattle.ground_chain.proofs.HistoryRows.{numbers-history, rows-history}
use Rattle.ground_chain.proofs.HistoryRuns.{bytes-history}
use Rattle.ground_chain.proofs.RestCourses.{kind_written}
use Rattle.multi_ground.specs.Apart.{HasStream, arrivals_on, contents_on, rows_on, stream_run}
use Rattle.multi_ground.specs.MultiOutputs.{arrival_texts, outputs_of}
use Rattle.multi_ground.specs.MultiRun.{StreamJudged, has_shape, is_arrival, is_other_shape, judged_after, multi_run, multi_run_from, shape_count, stream_arrivals, written_count, judged_of}

-- ---- the arrivals of a stream

arrivals-append : (apid : ℕ) (packets : List Packet) (p : Packet) (is : Bool) → is_arrival apid p ≡ is → stream_arrivals apid (packets ++ p ∷ []) ≡ stream_arrivals apid packets ++ map arrival_of (cond is (p ∷ []) [])
arrivals-append apid packets p is e =
    ap (map arrival_of) (filter-append (is_arrival apid) packets (p ∷ []))
    ∙ (map-append arrival_of (filter (is_arrival apid) packets) (filter (is_arrival apid) (p ∷ []))
    ∙ ap (λ b. stream_arrivals apid packets ++ map arrival_of (cond b (p ∷ []) [])) e)

-- one more arrival of it
pub arrivals-more : (apid : ℕ) (packets : List Packet) (p : Packet) → is_arrival apid p ≡ true → stream_arrivals apid (packets ++ p ∷ []) ≡ stream_arrivals apid packets ++ arrival_of p ∷ []
arrivals-more apid packets p is = arrivals-append apid packets p true is

-- a packet that is no arrival of it
pub arrivals-same : (apid : ℕ) (packets : List Packet) (p : Packet) → is_arrival apid p ≡ false → stream_arrivals apid (packets ++ p ∷ []) ≡ stream_arrivals apid packets
arrivals-same apid packets p is_not = arrivals-append apid packets p false is_not ∙ append-nil (stream_arrivals apid packets)

-- there are no more than packets
pub arrivals-few : (apid : ℕ) (packets : List Packet) → length (stream_arrivals apid packets) ≤ length packets
arrivals-few apid packets = omega (arith, length-map (filter (is_arrival apid) packets) arrival_of, length-filter (is_arrival apid) packets, count_by-le-length (is_arrival apid) packets)

-- ---- of which stream a packet is

-- it has another shape
pub no_arrival-shape : (apid : ℕ) (p : Packet) → has_shape p.header ≡ false → is_arrival apid p ≡ false
no_arrival-shape apid p other = and_right (p.header.apid == apid) (has_shape p.header) other

-- another APID
pub no_arrival-apid : (apid : ℕ) (p : Packet) → (p.header.apid ≡ apid → ⊥) → is_arrival apid p ≡ false
no_arrival-apid apid p other = and_left (p.header.apid == apid) (has_shape p.header) (ne_eqb p.header.apid apid other)

-- no stream has its APID
pub no_arrival-unlisted : (streams : List StreamRow) (p : Packet) → AreStreams streams → stream_of streams p.header.apid ≡ None → (index : ℕ) → index < length streams → is_arrival (stream_at streams index).apid p ≡ false
no_arrival-unlisted streams p are unlisted index within =
    no_arrival-apid (stream_at streams index).apid p (λ same. none-some index (sym unlisted ∙ stream_of-index streams p.header.apid index are within (sym same)))

-- it is of another stream
pub no_arrival-other : (streams : List StreamRow) (p : Packet) (index other : ℕ) → AreStreams streams → index < length streams → other < length streams → p.header.apid ≡ (stream_at streams index).apid → (other ≡ index → ⊥) → is_arrival (stream_at streams other).apid p ≡ false
no_arrival-other streams p index other are within inside own apart =
    no_arrival-apid (stream_at streams other).apid p (λ same. apart (are.apart other index inside within (sym same ∙ own)))

-- ---- the run

pub multi_run_from-append : (streams : List StreamRow) (before xs ys : List Packet) → multi_run_from streams before (xs ++ ys) ≡ multi_run_from streams before xs ++ multi_run_from streams (before ++ xs) ys
multi_run_from-append streams before [] ys = ap (λ l. multi_run_from streams l ys) (sym (append-nil before))
multi_run_from-append streams before (p ∷ xs) ys =
    ap (cons_option (judged_after streams before p)) (multi_run_from-append streams (before ++ p ∷ []) xs ys ∙ ap (λ l. multi_run_from streams (before ++ p ∷ []) xs ++ multi_run_from streams l ys) (append_assoc before (p ∷ []) xs))
    ∙ cons_option-append (judged_after streams before p) (multi_run_from streams (before ++ p ∷ []) xs) (multi_run_from streams (before ++ p ∷ xs) ys)
  where
    cons_option-append : (o : Option StreamJudged) (us vs : List StreamJudged) → cons_option o (us ++ vs) ≡ cons_option o us ++ vs
    cons_option-append None us vs = refl
    cons_option-append (Some j) us vs = refl

-- one more packet
pub multi_run-next : (streams : List StreamRow) (packets : List Packet) (p : Packet) → multi_run streams (packets ++ p ∷ []) ≡ multi_run streams packets ++ cons_option (judged_after streams packets p) []
multi_run-next streams packets p = multi_run_from-append streams [] packets (p ∷ [])

pub written_count-append : (xs ys : List StreamJudged) → written_count (xs ++ ys) ≡ written_count xs + written_count ys
written_count-append xs ys = sum_by-append (λ (j : StreamJudged). cond (is_written_kind j.judged.verdict.kind) 1 0) xs ys

pub written_count-next : (streams : List StreamRow) (packets : List Packet) (p : Packet) → written_count (multi_run streams (packets ++ p ∷ [])) ≡ written_count (multi_run streams packets) + written_count (cons_option (judged_after streams packets p) [])
written_count-next streams packets p = ap written_count (multi_run-next streams packets p) ∙ written_count-append (multi_run streams packets) (cons_option (judged_after streams packets p) [])

run-few : (o : Option StreamJudged) (xs : List StreamJudged) (n : ℕ) → length xs ≤ n → length (cons_option o xs) ≤ n + 1
run-few None xs n few = omega arith
run-few (Some j) xs n few = omega arith

pub multi_run_from-few : (streams : List StreamRow) (before packets : List Packet) → length (multi_run_from streams before packets) ≤ length packets
multi_run_from-few streams before [] = omega arith
multi_run_from-few streams before (p ∷ packets) =
    let more = run-few (judged_after streams before p) (multi_run_from streams (before ++ p ∷ []) packets) (length packets) (multi_run_from-few streams (before ++ p ∷ []) packets) in
    omega (arith, more)

-- no more packets are written than there are
pub written_count-few : (streams : List StreamRow) (packets : List Packet) → written_count (multi_run streams packets) ≤ length packets
written_count-few streams packets = omega (arith, count_by-le-length (λ (j : StreamJudged). is_written_kind j.judged.verdict.kind) (multi_run streams packets), multi_run_from-few streams [] packets)

-- ---- packets of another shape

pub shape_count-next : (streams : List StreamRow) (packets : List Packet) (p : Packet) → shape_count streams (packets ++ p ∷ []) ≡ shape_count streams packets + cond (is_other_shape streams p) 1 0
shape_count-next streams packets p = sum_by-append (λ (q : Packet). cond (is_other_shape streams q) 1 0) packets (p ∷ []) ∙ ap (λ (n : ℕ). shape_count streams packets + n) (one (is_other_shape streams p))
  where
    one : (b : Bool) → count_by (λ (c : Bool). c) (b ∷ []) ≡ cond b 1 0
    one true = refl
    one false = refl

pub shape_count-few : (streams : List StreamRow) (packets : List Packet) → shape_count streams packets ≤ length packets
shape_count-few streams packets = count_by-le-length (is_other_shape streams) packets

-- ---- what is written

pub outputs_of-cons : (o : Option StreamJudged) (xs : List StreamJudged) → outputs_of (cons_option o xs) ≡ outputs_of (cons_option o []) ++ outputs_of xs
outputs_of-cons None xs = refl
outputs_of-cons (Some j) xs = ap (λ (o : Outputs). o ++ outputs_of xs) (sym (append-nil (arrival_texts j)))

-- ---- what holds of every judged arrival of the streams in a store: its content is that of a Space Packet, and the numbers in
-- its rows are numbers of 64 bits

-- its APID, its content if it is written, and its numbers
pub record IsWellJudged (j : StreamJudged) : Type 0 where
  pub apid : j.apid ≤ 2046
  pub packet : is_written_kind j.judged.verdict.kind ≡ true → IsPacket j.apid (j.judged.verdict.t % period) (content_bytes j.judged.after.state)
  pub numbers : HasRowNumbers j.judged.verdict

-- ---- the last of a list

last_holds : {X : Type 0} (P : X → Type 0) (xs : List X) (x : X) → All P (xs ++ x ∷ []) → P x
last_holds P xs x all =
    let place : length xs - length xs ≡ 0 = omega arith in
    let at : get_or (xs ++ x ∷ []) (length xs) x ≡ x = get_or-append_right xs (x ∷ []) (length xs) (length xs) x refl (omega arith) ∙ ap (λ k. get_or (x ∷ []) k x) place in
    subst P at (All-get_or P (xs ++ x ∷ []) (length xs) x (omega (arith, length-append xs (x ∷ []))) all)

-- of a front of a list
front_holds : {X : Type 0} (P : X → Type 0) (xs ys : List X) → All P (xs ++ ys) → All P xs
front_holds P xs ys all = λ k d within. subst P (get_or_append_left xs ys d k within) (all k d (omega (arith, length-append xs ys)))

-- ---- the arrivals of good packets

arrivals-good : (apid : ℕ) (packets : List Packet) → All (IsGood None) packets → AreArrivals (stream_arrivals apid packets) × All (λ (a : Arrival). length a.body ≤ 65536) (stream_arrivals apid packets)
arrivals-good apid packets good =
    let some = All-filter (is_arrival apid) (IsGood None) packets good in (
      All-map (λ (a : Arrival). a.count < period) arrival_of (filter (is_arrival apid) packets) (λ k d within. (some k d within).fields.count_bits),
      All-map (λ (a : Arrival). length a.body ≤ 65536) arrival_of (filter (is_arrival apid) packets) (λ k d within. omega (arith, (some k d within).whole, (some k d within).fields.length_bits)),
    )

-- ---- one arrival

known_bytes-small : (part : Option KnownVector) (k d : ℕ) → k < length (known_bytes part) → get_or (known_bytes part) k d < 256
known_bytes-small None k d within = absurd (omega arith)
known_bytes-small (Some known) k d within = subst (λ n. n < 256) (get_or_default (vector_bytes known.vector) k 0 d within) (AreBytes-vector_bytes known.vector k)

-- the last arrival of a run
module _ (stream : StreamRow) (right : IsStreamRow stream) (arrivals : List Arrival) (a : Arrival) (counts : AreArrivals (arrivals ++ a ∷ [])) (sizes : All (λ (x : Arrival). length x.body ≤ 65536) (arrivals ++ a ∷ [])) (few : length (arrivals ++ a ∷ []) ≤ 2 ^ 32) where
  abbrev j : Judged
  j = judge stream.bits (known_after stream.bits arrivals) a

  content : is_written_kind j.verdict.kind ≡ true → length (content_bytes j.after.state) ≡ byte_count stream.bits
  content written =
      let kind : j.verdict.kind ≡ Written = kind_written j.verdict.kind written in
      let all = subst (All (λ (x : Judged). x.verdict.kind ≡ Written → HasContent stream.bits x.after.state)) (run_from-append stream.bits nothing_known arrivals (a ∷ [])) (contents_of stream.bits nothing_known (record { mask = tt; content = tt }) (arrivals ++ a ∷ [])) in
      let has = last_holds (λ (x : Judged). x.verdict.kind ≡ Written → HasContent stream.bits x.after.state) (run stream.bits arrivals) j all kind in
      ap (λ (b : Bool). length (cond b (content_bytes j.after.state) [])) (sym written) ∙ content_size stream.bits j kind has

  pub well : IsWellJudged (record { apid = stream.apid; judged = j })
  well = record {
    apid = right.apid;
    packet = λ written. record {
      chosen = right.apid;
      counted = omega arith;
      some = omega (arith, content written, right.some);
      most = omega (arith, content written, right.most);
      bytes = known_bytes-small j.after.state.content;
    };
    numbers =
        let all = subst (All (λ (x : Judged). HasRowNumbers x.verdict)) (run_from-append stream.bits nothing_known arrivals (a ∷ [])) (row_numbers_of stream.bits nothing_known (record { mask = tt; content = tt }) (arrivals ++ a ∷ []) counts sizes (2 ^ 64) (omega arith) (omega (arith, few))) in
        last_holds (λ (x : Judged). HasRowNumbers x.verdict) (run stream.bits arrivals) j all;
  }

-- ---- all of them

module _ (streams : List StreamRow) (are : AreStreams streams) where
  well_of : (before : List Packet) (p : Packet) (k : ℕ) → All (IsGood None) (before ++ p ∷ []) → length (before ++ p ∷ []) ≤ 2 ^ 32 → stream_of streams p.header.apid ≡ Some k → is_arrival (stream_at streams k).apid p ≡ true → IsWellJudged (judged_of (stream_at streams k) before p)
  well_of before p k good few is own =
      let stream = stream_at streams k in
      let right = All-get_or IsStreamRow streams k no_stream (position-Some (has_apid p.header.apid) streams k no_stream is).0 are.right in
      let more = arrivals-more stream.apid before p own in
      let both = arrivals-good stream.apid (before ++ p ∷ []) good in
      well stream right (stream_arrivals stream.apid before) (arrival_of p) (subst AreArrivals more both.0) (subst (All (λ (x : Arrival). length x.body ≤ 65536)) more both.1)
      (omega (arith, ap length more, arrivals-few stream.apid (before ++ p ∷ []), few))

  -- an arrival is one of the stream that it is found for
  own_of : (p : Packet) (k : ℕ) → has_shape p.header ≡ true → stream_of streams p.header.apid ≡ Some k → is_arrival (stream_at streams k).apid p ≡ true
  own_of p k shape is =
      let own : (stream_at streams k).apid ≡ p.header.apid = rw is at (stream_of-own streams p.header.apid) in
      and_from (p.header.apid == (stream_at streams k).apid) (has_shape p.header) (eq-eqb p.header.apid (stream_at streams k).apid (sym own)) shape

  module _ (before : List Packet) (p : Packet) (good : All (IsGood None) (before ++ p ∷ [])) (few : length (before ++ p ∷ []) ≤ 2 ^ 32) (rest : List StreamJudged) (well_rest : All IsWellJudged rest) where
    by_stream : (shape : has_shape p.header ≡ true) (o : Option ℕ) → stream_of streams p.header.apid ≡ o → All IsWellJudged (cons_option (option_map (λ k. judged_of (stream_at streams k) before p) o) rest)
    by_stream shape None is = well_rest
    by_stream shape (Some k) is = All-cons IsWellJudged (judged_of (stream_at streams k) before p) rest (well_of before p k good few is (own_of p k shape is)) well_rest

    by_shape : (shape : Bool) → has_shape p.header ≡ shape → All IsWellJudged (cons_option (cond shape (option_map (λ k. judged_of (stream_at streams k) before p) (stream_of streams p.header.apid)) None) rest)
    by_shape false is = well_rest
    by_shape true is = by_stream is (stream_of streams p.header.apid) refl

    one_more : All IsWellJudged (cons_option (judged_after streams before p) rest)
    one_more = by_shape (has_shape p.header) refl

  pub all_well : (before packets : List Packet) → All (IsGood None) (before ++ packets) → length (before ++ packets) ≤ 2 ^ 32 → All IsWellJudged (multi_run_from streams before packets)
  all_well before [] good few = All-nil IsWellJudged
  all_well before (p ∷ packets) good few =
      let split : (before ++ p ∷ []) ++ packets ≡ before ++ p ∷ packets = append_assoc before (p ∷ []) packets in
      let all : All (IsGood None) ((before ++ p ∷ []) ++ packets) = subst (All (IsGood None)) (sym split) good in
      let size : length ((before ++ p ∷ []) ++ packets) ≤ 2 ^ 32 = omega (arith, ap length split, few) in
      one_more before p (front_holds (IsGood None) (before ++ p ∷ []) packets all) (omega (arith, size, length-append (before ++ p ∷ []) packets)) (multi_run_from streams (before ++ p ∷ []) packets) (all_well (before ++ p ∷ []) packets all size)

-- ---- the arrivals of a played store in the walk for no APID, and what is restored of a stream that has them

-- the Space Packet of a step
abbrev plain_at : History → ℕ → ℕ → Packet
plain_at h apid t = plain_packet apid (t % period) (data_at h t)

same_apid : (n : ℕ) → (n == n) ≡ true
same_apid n = grind (arith, common_steps)

-- only packets of the history arrive
few_arrivals : (copies : ℕ → ℕ) (n : ℕ) → All (λ t. t < n) (arrivals copies n)
few_arrivals copies zero = All-nil (λ t. t < 0)
few_arrivals copies (suc n) =
    subst (All (λ t. t < suc n)) (sym (arrivals-suc copies n))
    (All-append (λ t. t < suc n) (arrivals copies n) (replicate (copies n) n)
    (All-weaker (λ t. t < n) (λ t. t < suc n) (λ t less. omega (arith, less)) (arrivals copies n) (few_arrivals copies n))
    (All-replicate (λ t. t < suc n) (copies n) n (omega arith)))

-- each is of the one shape
is_its_own : (h : History) (apid t : ℕ) → is_arrival apid (plain_at h apid t) ≡ true
is_its_own h apid t = ap (λ (own : Bool). own && not (own && false)) (same_apid apid)

own_arrivals : (h : History) (apid : ℕ) (numbers : List ℕ) → stream_arrivals apid (map (plain_at h apid) numbers) ≡ map (arrival_at h) numbers
own_arrivals h apid [] = refl
own_arrivals h apid (t ∷ numbers) =
    let more : List Packet = filter (is_arrival apid) (map (plain_at h apid) numbers) in
    ap (λ (own : Bool). map arrival_of (cond own (plain_at h apid t ∷ more) more)) (is_its_own h apid t)
    ∙ ap (λ (later : List Arrival). arrival_at h t ∷ later) (own_arrivals h apid numbers)

module _ (h : History) (copies : ℕ → ℕ) (apid : ℕ) (valid : IsValid h) (chosen : apid ≤ 2046) where
  abbrev packets : List Packet
  packets = map (plain_at h apid) (arrivals copies (length h.steps))

  played : played_bytes copies apid (store_of h apid) ≡ packets_bytes packets
  played = ap packets_bytes (played_packets-are h copies apid valid chosen)

  good : All (IsGood None) packets
  good = All-map (IsGood None) (plain_at h apid) (arrivals copies (length h.steps))
      (All-weaker (λ t. t < length h.steps) (λ t. IsGood None (plain_at h apid t)) (λ t less. IsGood-plain None apid (t % period) (data_at h t) (IsPacket-at h apid t valid chosen less))
      (arrivals copies (length h.steps)) (few_arrivals copies (length h.steps)))

  size : length packets ≡ length (arrivals copies (length h.steps))
  size = length-map (arrivals copies (length h.steps)) (plain_at h apid)

  -- the walk over the played store, if it is not too long
  walk-played : length (arrivals copies (length h.steps)) ≤ 2 ^ 32 → walk None (played_bytes copies apid (store_of h apid)) ≡ record { packets = packets; rest = []; ending = None }
  walk-played few = ap (walk None) played ∙ walk_from-packets None 0 0 packets good (omega (arith, few, size))

  pub whole-played : length (arrivals copies (length h.steps)) ≤ 2 ^ 32 → (walk None (played_bytes copies apid (store_of h apid))).ending ≡ None
  whole-played few = ap (λ (w : Walk). w.ending) (walk-played few)

  pub arrivals-played : length (arrivals copies (length h.steps)) ≤ 2 ^ 32 → arrivals_on apid (played_bytes copies apid (store_of h apid)) ≡ history_arrivals h copies
  arrivals-played few = ap (λ (w : Walk). stream_arrivals apid w.packets) (walk-played few) ∙ own_arrivals h apid (arrivals copies (length h.steps))

  -- and if it is
  pub many-played : 2 ^ 32 < length (arrivals copies (length h.steps)) → (walk None (played_bytes copies apid (store_of h apid))).ending ≡ Some fault.TooMany
  many-played many = ap (λ bytes. (walk None bytes).ending) played ∙ walk_from-many None 0 0 packets good (omega arith) (omega (arith, many, size))

-- a stream that has these arrivals is restored as the history alone would be
pub restored-played : (stream : StreamRow) (store output report : List ℕ) (h : History) (copies : ℕ → ℕ) → HasStream stream store output report → stream.apid ≤ 2046 → IsValid h → h.places ≡ stream.bits → AreGapsShort copies (length h.steps)
    → length (arrivals copies (length h.steps)) ≤ 2 ^ 32 → arrivals_on stream.apid store ≡ arrivals_on stream.apid (played_bytes copies stream.apid (store_of h stream.apid))
    → (contents_on stream.apid output ≡ restored_bytes h copies) × (header_row ++ rows_on stream.apid report ≡ report_text h copies)
restored-played stream store output report h copies has chosen valid places short few arrive =
    let arrived : arrivals_on stream.apid store ≡ history_arrivals h copies = arrive ∙ arrivals-played h copies stream.apid valid chosen few in
    let same : stream_run stream store ≡ run h.places (history_arrivals h copies) = (λ i. run (sym places i) (arrived i)) in
    let rows = rows-history h copies valid short in
    let numbers = numbers-history h copies valid short in (
      has.contents ∙ (ap run_bytes same ∙ bytes-history h copies valid short),
      ap (λ l. header_row ++ l) (has.rows ∙ (ap (λ (l : List Judged). run_rows l ++ end_row (restored_of l)) same ∙ (λ i. rows i ++ end_row (numbers i)))) ∙ sym (append_assoc header_row (flat_map row_text (listed_rows h copies)) (end_row (delivered_numbers h copies))),
    )
