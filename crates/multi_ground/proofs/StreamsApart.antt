-- Each stream by itself: its run, what the output has of it, and the last rows.
use Rattle.std.specs.List.{cons_option, filter, flat_map}
use Rattle.std.specs.Option.{option_map}
use Rattle.std.proofs.Common.{◌≡◌, ℕ, ◌<◌, ◌==◌, ◌&&◌, Bool, true, false, cond, List, [], ◌∷◌, ◌++◌, map, length, Option, Some, None, refl, sym, ap, ◌∙◌, ◌+◌, ◌%◌, ◌^◌, ◌≤◌, All, arith, take, drop, append-nil, append_assoc, subst}
use Rattle.std.proofs.lemmas.Bool.{and_parts, eq-eqb, eqb-true, ne_eqb, true≢false}
use Rattle.std.proofs.lemmas.Grind.{flat_map-append}
use Rattle.std.proofs.lemmas.List.{take-append-drop, take_more}
use Rattle.std.proofs.lemmas.List.Concat.{flat_map-cons}
use Rattle.std.proofs.lemmas.List.Elements.{All-cons, All-head, All-nil, All-tail}
use Rattle.desk_ports.specs.Courses.{Ends, OutputTexts, by_ending, owed, texts_of}
use Rattle.desk_ports.specs.Meanings.{Meanings, left}
use Rattle.desk_ports.specs.declared.desk.Inlet.TheVariants as inlet
use Rattle.desk_ports.proofs.Courses.{Ends-told}
use Rattle.side_tables.specs.Streams.{AreStreams, stream_at, stream_of, no_stream}
use Rattle.side_tables.specs.declared.rows.StreamRow.{StreamRow}
use Rattle.side_tables.proofs.StreamRows.{stream_of-index, stream_of-own}
use Rattle.packet_store.specs.SpacePackets.{Packet, packet_bytes, period, plain_packet}
use Rattle.packet_store.specs.Walks.{IsGood, Walk, packets_bytes, walk}
use Rattle.packet_store.proofs.Packets.{IsGood-plain}
use Rattle.packet_store.proofs.Walks.{IsWalk, IsWalk-walk_from}
use Rattle.loss_player.proofs.PlayCourses.{walk_from-packets}
use Rattle.ground_chain.specs.Report.{content_bytes, is_written_kind, run_bytes, written_bytes, end_row, restored_of, run_rows}
use Rattle.ground_chain.specs.Restoring.{arrival_of}
use Rattle.ground_chain.specs.Run.{Known, judge, known_after, nothing_known, run_from, run, Judged}
use Rattle.ground_chain.specs.declared.restored.Restored.{Restored}
use Rattle.ground_chain.proofs.EveryRun.{known_from-append}
use Rattle.ground_chain.proofs.RestCourses.{texts-around}
use Rattle.multi_ground.specs.Apart.{judged_with, contents_on, packets_from, AreRestored, HasStream, multi_report, stream_run}
use Rattle.multi_ground.specs.Grounds.{reckoning_at}
use Rattle.multi_ground.specs.MultiOutputs.{written_packet, end_rows, last_rows, shape_row, tagged, multi_course, multi_header, tagged_rows}
use Rattle.multi_ground.specs.MultiRun.{StreamJudged, has_shape, is_arrival, judged_after, judged_of, multi_run_from, stream_arrivals, shape_count, multi_run}
use Rattle.multi_ground.specs.Receiving.{HasReceived}
use Rattle.multi_ground.specs.declared.receiving.MultiReceiving.{MultiReceiving}
use Rattle.multi_ground.proofs.MultiRuns.{arrivals-more, arrivals-same, IsWellJudged, multi_run_from-few, all_well}
use Rattle.multi_ground.proofs.Received.{judged_after-arrival}
use Rattle.multi_ground.proofs.RowsApart.{report-apart}

-- ---- the run over the packets of several streams is, for each of them, the run over its own arrivals

-- one arrival and the others, by the APID
with_one : (apid : ℕ) (j : StreamJudged) (rest : List StreamJudged) (own : Bool) → (j.apid == apid) ≡ own → judged_with apid (j ∷ rest) ≡ cond own (j.judged ∷ judged_with apid rest) (judged_with apid rest)
with_one apid j rest own is = ap (λ (b : Bool). map (λ (x : StreamJudged). x.judged) (cond b (j ∷ filter (λ (x : StreamJudged). x.apid == apid) rest) (filter (λ (x : StreamJudged). x.apid == apid) rest))) is ∙ either own
  where
    either : (b : Bool) → map (λ (x : StreamJudged). x.judged) (cond b (j ∷ filter (λ (x : StreamJudged). x.apid == apid) rest) (filter (λ (x : StreamJudged). x.apid == apid) rest)) ≡ cond b (j.judged ∷ judged_with apid rest) (judged_with apid rest)
    either true = refl
    either false = refl

first_arrival : (apid : ℕ) (p : Packet) (packets : List Packet) (is : Bool) → is_arrival apid p ≡ is → stream_arrivals apid (p ∷ packets) ≡ cond is (arrival_of p ∷ stream_arrivals apid packets) (stream_arrivals apid packets)
first_arrival apid p packets is e = ap (λ (b : Bool). map arrival_of (cond b (p ∷ filter (is_arrival apid) packets) (filter (is_arrival apid) packets))) e ∙ either is
  where
    either : (b : Bool) → map arrival_of (cond b (p ∷ filter (is_arrival apid) packets) (filter (is_arrival apid) packets)) ≡ cond b (arrival_of p ∷ stream_arrivals apid packets) (stream_arrivals apid packets)
    either true = refl
    either false = refl

module _ (streams : List StreamRow) (are : AreStreams streams) (index : ℕ) (within : index < length streams) where
  abbrev own_apid : ℕ
  own_apid = (stream_at streams index).apid

  abbrev own_bits : ℕ
  own_bits = (stream_at streams index).bits

  -- an arrival of another stream
  others_by : (before : List Packet) (p : Packet) (rest : List StreamJudged) (o : Option ℕ) → stream_of streams p.header.apid ≡ o → (p.header.apid ≡ own_apid → ⊥)
      → judged_with own_apid (cons_option (option_map (λ k. judged_of (stream_at streams k) before p) o) rest) ≡ judged_with own_apid rest
  others_by before p rest None is other = refl
  others_by before p rest (Some k) is other =
      let of_k : (stream_at streams k).apid ≡ p.header.apid = rw is at (stream_of-own streams p.header.apid) in
      with_one own_apid (judged_of (stream_at streams k) before p) rest false (ne_eqb (stream_at streams k).apid own_apid (λ same. other (sym of_k ∙ same)))

  by_shape : (before : List Packet) (p : Packet) (rest : List StreamJudged) (shape : Bool) → has_shape p.header ≡ shape → is_arrival own_apid p ≡ false
      → judged_with own_apid (cons_option (cond shape (option_map (λ k. judged_of (stream_at streams k) before p) (stream_of streams p.header.apid)) None) rest) ≡ judged_with own_apid rest
  by_shape before p rest false is none = refl
  by_shape before p rest true is none =
      let apart : (p.header.apid == own_apid) ≡ true → ⊥ = λ same. true≢false (sym (λ i. same i && is i) ∙ none) in
      others_by before p rest (stream_of streams p.header.apid) refl (λ same. apart (eq-eqb p.header.apid own_apid same))

  -- a packet that is no arrival of the stream
  passed : (before : List Packet) (p : Packet) (rest : List StreamJudged) → is_arrival own_apid p ≡ false → judged_with own_apid (cons_option (judged_after streams before p) rest) ≡ judged_with own_apid rest
  passed before p rest none = by_shape before p rest (has_shape p.header) refl none

  -- an arrival of it
  taken : (before : List Packet) (p : Packet) (rest : List StreamJudged) → is_arrival own_apid p ≡ true
      → judged_with own_apid (cons_option (judged_after streams before p) rest) ≡ judge own_bits (known_after own_bits (stream_arrivals own_apid before)) (arrival_of p) ∷ judged_with own_apid rest
  taken before p rest own =
      let parts = and_parts (p.header.apid == own_apid) (has_shape p.header) own in
      let found = stream_of-index streams p.header.apid index are within (sym (eqb-true p.header.apid own_apid parts.0)) in
      ap (λ o. judged_with own_apid (cons_option o rest)) (judged_after-arrival streams before p index parts.1 found)
      ∙ with_one own_apid (judged_of (stream_at streams index) before p) rest true (eq-eqb own_apid own_apid refl)

  step : (before : List Packet) (p : Packet) (packets : List Packet) (is : Bool) → is_arrival own_apid p ≡ is
      → judged_with own_apid (multi_run_from streams (before ++ p ∷ []) packets) ≡ run_from own_bits (known_after own_bits (stream_arrivals own_apid (before ++ p ∷ []))) (stream_arrivals own_apid packets)
      → judged_with own_apid (multi_run_from streams before (p ∷ packets)) ≡ run_from own_bits (known_after own_bits (stream_arrivals own_apid before)) (stream_arrivals own_apid (p ∷ packets))
  step before p packets true is more =
      let known = known_after own_bits (stream_arrivals own_apid before) in
      let after : known_after own_bits (stream_arrivals own_apid (before ++ p ∷ [])) ≡ (judge own_bits known (arrival_of p)).after =
      ap (known_after own_bits) (arrivals-more own_apid before p is) ∙ known_from-append own_bits nothing_known (stream_arrivals own_apid before) (arrival_of p ∷ []) in
      taken before p (multi_run_from streams (before ++ p ∷ []) packets) is
      ∙ (ap (λ l. judge own_bits known (arrival_of p) ∷ l) (more ∙ ap (λ (k : Known). run_from own_bits k (stream_arrivals own_apid packets)) after)
      ∙ ap (run_from own_bits known) (sym (first_arrival own_apid p packets true is)))
  step before p packets false is more =
      passed before p (multi_run_from streams (before ++ p ∷ []) packets) is
      ∙ (more
      ∙ (ap (λ l. run_from own_bits (known_after own_bits l) (stream_arrivals own_apid packets)) (arrivals-same own_apid before p is)
      ∙ ap (run_from own_bits (known_after own_bits (stream_arrivals own_apid before))) (sym (first_arrival own_apid p packets false is))))

  -- after any packets
  pub apart_from : (before packets : List Packet) → judged_with own_apid (multi_run_from streams before packets) ≡ run_from own_bits (known_after own_bits (stream_arrivals own_apid before)) (stream_arrivals own_apid packets)
  apart_from before [] = refl
  apart_from before (p ∷ packets) = step before p packets (is_arrival own_apid p) refl (apart_from (before ++ p ∷ []) packets)

-- ---- the output is a store of Space Packets again, and has of each stream what its own run writes

-- the packet of an arrival
abbrev own_packet : StreamJudged → Packet
own_packet j = plain_packet j.apid (j.judged.verdict.t % period) (content_bytes j.judged.after.state)

abbrev is_written : StreamJudged → Bool
is_written j = is_written_kind j.judged.verdict.kind

-- ---- the output is the bytes of packets

first_bytes : (j : StreamJudged) (packets : List Packet) (written : Bool) → cond written (packet_bytes (own_packet j)) [] ++ packets_bytes packets ≡ packets_bytes (cons_option (cond written (Some (own_packet j)) None) packets)
first_bytes j packets true = sym (flat_map-cons packet_bytes (own_packet j) packets)
first_bytes j packets false = refl

pub output-packets : (judged : List StreamJudged) → flat_map written_packet judged ≡ packets_bytes (packets_from judged)
output-packets [] = refl
output-packets (j ∷ judged) =
    flat_map-cons written_packet j judged ∙ (ap (λ l. written_packet j ++ l) (output-packets judged) ∙ first_bytes j (packets_from judged) (is_written j))

-- ---- which are good, and no more than the arrivals

first_good : (j : StreamJudged) (packets : List Packet) → IsWellJudged j → All (IsGood None) packets → (written : Bool) → is_written j ≡ written → All (IsGood None) (cons_option (cond written (Some (own_packet j)) None) packets)
first_good j packets well good true is = All-cons (IsGood None) (own_packet j) packets (IsGood-plain None j.apid (j.judged.verdict.t % period) (content_bytes j.judged.after.state) (well.packet is)) good
first_good j packets well good false is = good

pub output-good : (judged : List StreamJudged) → All IsWellJudged judged → All (IsGood None) (packets_from judged)
output-good [] all = All-nil (IsGood None)
output-good (j ∷ judged) all = first_good j (packets_from judged) (All-head IsWellJudged j judged all) (output-good judged (All-tail IsWellJudged j judged all)) (is_written j) refl

first_few : (j : StreamJudged) (packets : List Packet) (n : ℕ) → length packets ≤ n → (written : Bool) → length (cons_option (cond written (Some (own_packet j)) None) packets) ≤ n + 1
first_few j packets n few true = omega arith
first_few j packets n few false = omega arith

output-few : (judged : List StreamJudged) → length (packets_from judged) ≤ length judged
output-few [] = omega arith
output-few (j ∷ judged) = let more = first_few j (packets_from judged) (length judged) (output-few judged) (is_written j) in omega (arith, more)

-- so it is a whole store of them
pub output-walk : (judged : List StreamJudged) → All IsWellJudged judged → length judged ≤ 2 ^ 32 → walk None (flat_map written_packet judged) ≡ record { packets = packets_from judged; rest = []; ending = None }
output-walk judged all few = ap (walk None) (output-packets judged) ∙ walk_from-packets None 0 0 (packets_from judged) (output-good judged all) (omega (arith, few, output-few judged))

-- ---- the contents on an APID

abbrev bodies_on : ℕ → List Packet → List ℕ
bodies_on apid packets = flat_map (λ (p : Packet). p.body) (filter (λ (p : Packet). p.header.apid == apid) packets)

body_first : (apid : ℕ) (p : Packet) (packets : List Packet) (own : Bool) → (p.header.apid == apid) ≡ own → bodies_on apid (p ∷ packets) ≡ cond own p.body [] ++ bodies_on apid packets
body_first apid p packets own is = ap (λ (b : Bool). flat_map (λ (q : Packet). q.body) (cond b (p ∷ filter (λ (q : Packet). q.header.apid == apid) packets) (filter (λ (q : Packet). q.header.apid == apid) packets))) is ∙ either own
  where
    either : (b : Bool) → flat_map (λ (q : Packet). q.body) (cond b (p ∷ filter (λ (q : Packet). q.header.apid == apid) packets) (filter (λ (q : Packet). q.header.apid == apid) packets)) ≡ cond b p.body [] ++ bodies_on apid packets
    either true = flat_map-cons (λ (q : Packet). q.body) p (filter (λ (q : Packet). q.header.apid == apid) packets)
    either false = refl

judged_first : (apid : ℕ) (j : StreamJudged) (judged : List StreamJudged) (own : Bool) → (j.apid == apid) ≡ own → run_bytes (judged_with apid (j ∷ judged)) ≡ cond own (written_bytes j.judged) [] ++ run_bytes (judged_with apid judged)
judged_first apid j judged own is = ap (λ (b : Bool). run_bytes (map (λ (x : StreamJudged). x.judged) (cond b (j ∷ filter (λ (x : StreamJudged). x.apid == apid) judged) (filter (λ (x : StreamJudged). x.apid == apid) judged)))) is ∙ either own
  where
    either : (b : Bool) → run_bytes (map (λ (x : StreamJudged). x.judged) (cond b (j ∷ filter (λ (x : StreamJudged). x.apid == apid) judged) (filter (λ (x : StreamJudged). x.apid == apid) judged))) ≡ cond b (written_bytes j.judged) [] ++ run_bytes (judged_with apid judged)
    either true = flat_map-cons written_bytes j.judged (judged_with apid judged)
    either false = refl

first_contents : (apid : ℕ) (j : StreamJudged) (packets : List Packet) (own written : Bool) → (j.apid == apid) ≡ own → bodies_on apid (cons_option (cond written (Some (own_packet j)) None) packets) ≡ cond own (cond written (content_bytes j.judged.after.state) []) [] ++ bodies_on apid packets
first_contents apid j packets own true is = body_first apid (own_packet j) packets own is
first_contents apid j packets true false is = refl
first_contents apid j packets false false is = refl

contents_judged : (apid : ℕ) (judged : List StreamJudged) → bodies_on apid (packets_from judged) ≡ run_bytes (judged_with apid judged)
contents_judged apid [] = refl
contents_judged apid (j ∷ judged) =
    first_contents apid j (packets_from judged) (j.apid == apid) (is_written j) refl
    ∙ (ap (λ l. cond (j.apid == apid) (written_bytes j.judged) [] ++ l) (contents_judged apid judged) ∙ sym (judged_first apid j judged (j.apid == apid) refl))

pub output-contents : (apid : ℕ) (judged : List StreamJudged) → All IsWellJudged judged → length judged ≤ 2 ^ 32 → contents_on apid (flat_map written_packet judged) ≡ run_bytes (judged_with apid judged)
output-contents apid judged all few = ap (λ (w : Walk). bodies_on apid w.packets) (output-walk judged all few) ∙ contents_judged apid judged

-- ---- the last rows of the streams, one after another

-- the last row of one stream
abbrev pub end_of : List Packet → StreamRow → List ℕ
end_of packets stream = tagged stream.apid (end_row (restored_of (run stream.bits (stream_arrivals stream.apid packets))))

pub more_rows : (streams : List StreamRow) (packets : List Packet) (index : ℕ) → index < length streams → end_rows (take (index + 1) streams) packets ≡ end_rows (take index streams) packets ++ end_of packets (stream_at streams index)
more_rows streams packets index within =
    ap (λ l. end_rows l packets) (take_more streams index no_stream within)
    ∙ (flat_map-append (end_of packets) (take index streams) (stream_at streams index ∷ [])
    ∙ ap (λ l. end_rows (take index streams) packets ++ l) (flat_map-cons (end_of packets) (stream_at streams index) [] ∙ append-nil (end_of packets (stream_at streams index))))

split_rows : (streams : List StreamRow) (packets : List Packet) (index : ℕ) → end_rows (take index streams) packets ++ end_rows (drop index streams) packets ≡ end_rows streams packets
split_rows streams packets index = sym (flat_map-append (end_of packets) (take index streams) (drop index streams)) ∙ ap (λ l. end_rows l packets) (take-append-drop index streams)

-- what is kept of a stream counts its arrivals
pub end_of-kept : (s : MultiReceiving) (packets : List Packet) (index apid : ℕ) (restored : Restored) → HasReceived s packets → index < length s.streams → restored ≡ (reckoning_at s.arrivals index).restored → apid ≡ (stream_at s.streams index).apid
    → tagged apid (end_row restored) ≡ end_of packets (stream_at s.streams index)
end_of-kept s packets index apid restored has within is own =
    let counted = is ∙ (has.reckoned.each index within).counted in
    λ i. tagged (own i) (end_row (counted i))

-- one row more, and all that come after it
pub rows_after : (streams : List StreamRow) (packets : List Packet) (index : ℕ) → index < length streams
    → (end_rows (take index streams) packets ++ end_of packets (stream_at streams index)) ++ (end_rows (drop (index + 1) streams) packets ++ shape_row (shape_count streams packets)) ≡ last_rows streams packets
rows_after streams packets index within =
    let rest = end_rows (drop (index + 1) streams) packets in
    let shapes = shape_row (shape_count streams packets) in
    ap (λ (l : List ℕ). l ++ (rest ++ shapes)) (sym (more_rows streams packets index within))
    ∙ (sym (append_assoc (end_rows (take (index + 1) streams) packets) rest shapes) ∙ ap (λ (l : List ℕ). l ++ shapes) (split_rows streams packets (index + 1)))

-- ---- what was added by a run that is done has each stream by itself

-- what a whole store owes
pub owed-whole : (streams : List StreamRow) (store : List ℕ) → (walk None store).ending ≡ None → texts_of (owed (multi_course streams store)) ≡ record { output = flat_map written_packet (multi_run streams (walk None store).packets); report = multi_report streams (walk None store).packets }
owed-whole streams store whole =
    let course = multi_course streams store in
    let packets = (walk None store).packets in
    ap (λ ending. texts_of (by_ending ending course.before course.after)) whole ∙ texts-around tagged_rows written_packet multi_header (last_rows streams packets) (multi_run streams packets)

module _ (streams : List StreamRow) (are : AreStreams streams) (store : List ℕ) (bytes : All (λ n. n < 256) store) (whole : (walk None store).ending ≡ None) where
  walked : IsWalk None 0 0 store (walk None store)
  walked = IsWalk-walk_from (length store) None 0 0 store (omega arith) (omega arith) bytes

  few : length (walk None store).packets ≤ 2 ^ 32
  few = omega (arith, walked.few)

  well : All IsWellJudged (multi_run streams (walk None store).packets)
  well = all_well streams are [] (walk None store).packets walked.good few

  size : length (multi_run streams (walk None store).packets) ≤ 2 ^ 32
  size = omega (arith, few, multi_run_from-few streams [] (walk None store).packets)

  -- it is a store of Space Packets
  pub owed-store : (walk None (texts_of (owed (multi_course streams store))).output).ending ≡ None
  owed-store = ap (λ (o : OutputTexts). (walk None o.output).ending) (owed-whole streams store whole) ∙ ap (λ (w : Walk). w.ending) (output-walk (multi_run streams (walk None store).packets) well size)

  -- and has each stream by itself
  pub owed-stream : (index : ℕ) → index < length streams → HasStream (stream_at streams index) store (texts_of (owed (multi_course streams store))).output (texts_of (owed (multi_course streams store))).report
  owed-stream index within =
      let stream = stream_at streams index in
      let judged = multi_run streams (walk None store).packets in
      let apart = apart_from streams are index within [] (walk None store).packets in
      subst (λ (o : OutputTexts). HasStream stream store o.output o.report) (sym (owed-whole streams store whole)) (record {
        contents = output-contents stream.apid judged well size ∙ ap run_bytes apart;
        rows = report-apart streams (walk None store).packets index are well few within ∙ ap (λ (l : List Judged). run_rows l ++ end_row (restored_of (stream_run stream store))) apart;
      })

-- so it is of what was added by a run that is done
pub AreRestored-done : (streams : List StreamRow) (store : List ℕ) (a b : Meanings) → AreStreams streams → All (λ n. n < 256) store → left a inlet.Main ≡ Some store → Ends (multi_course streams) a b None → AreRestored streams store a b
AreRestored-done streams store a b are bytes told ends =
    let all = Ends-told (multi_course streams) a b None store told ends in
    record {
      output = (texts_of (owed (multi_course streams store))).output;
      report = (texts_of (owed (multi_course streams store))).report;
      added = all.0;
      noted = all.1;
      whole = owed-store streams are store bytes all.2;
      each = owed-stream streams are store bytes all.2;
    }
