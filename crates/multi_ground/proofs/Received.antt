-- What is kept after one more packet.
use Rattle.std.proofs.Common.{◌≡◌, ℕ, ◌+◌, ◌<◌, ◌≤◌, ◌==◌, ◌&&◌, Bool, true, false, not, cond, List, [], ◌∷◌, ◌++◌, length, map, set, take, Option, Some, None, is_some, refl, sym, ap, ◌∙◌, subst, arith, inl, inr}
use mir.Val.{bool_byte}
use Rattle.std.specs.List.{cons_option}
use Rattle.std.specs.Option.{option_map}
use Rattle.std.proofs.lemmas.Bool.{and_from, cases_eq, eq-eqb}
use Rattle.std.proofs.lemmas.List.{get_or-map, get_or-set_other, length-map, length-set}
use Rattle.std.proofs.lemmas.List.Sums.{sum_by-cons}
use Rattle.packet_store.specs.SpacePackets.{IsHeader, Packet, header_at, header_of, packet_bytes}
use Rattle.packet_store.proofs.Packets.{header_at-header_of}
use Rattle.packet_store.specs.declared.header.Header.{Header}
use Rattle.side_tables.specs.declared.rows.StreamRow.{StreamRow}
use Rattle.side_tables.specs.Streams.{AreStreams, no_stream, stream_at, stream_of}
use Rattle.ground_chain.specs.declared.restored.Restored.{Restored}
use Rattle.ground_chain.specs.Run.{Arrival, judge, known_after, nothing_known}
use Rattle.ground_chain.specs.Reception.{known_of, HasJudged, Judges, Reckoning, nothing_judged}
use Rattle.ground_chain.specs.Report.{is_written_kind}
use Rattle.ground_chain.specs.Restoring.{arrival_of}
use Rattle.ground_chain.proofs.Reckonings.{run_packets, HasJudged-next}
use Rattle.multi_ground.specs.declared.receiving.MultiReceiving.{MultiReceiving}
use Rattle.multi_ground.specs.Grounds.{reckoning_at}
use Rattle.multi_ground.specs.MultiRun.{StreamJudged, has_shape, is_arrival, is_other_shape, judged_after, judged_of, stream_arrivals, written_count}
use Rattle.multi_ground.specs.Receiving.{AreReckoned, HasReceived, JudgesOne, next_of}
use Rattle.multi_ground.proofs.MultiRuns.{arrivals-few, arrivals-more, arrivals-same, no_arrival-other, no_arrival-shape, no_arrival-unlisted, shape_count-next, written_count-next}

-- a condition as a number is at most one
pub bool_byte-few : (b : Bool) → bool_byte b ≤ 1
bool_byte-few true = omega arith
bool_byte-few false = omega arith

-- ---- what is kept of each stream

-- the arrivals of a stream are no more than the packets
pub packets-few : (streams : List StreamRow) (packets : List Packet) (reckonings : List Reckoning) (index : ℕ) → AreReckoned streams packets reckonings → index < length streams → (reckoning_at reckonings index).restored.packets ≤ length packets
packets-few streams packets reckonings index are within =
    let stream = stream_at streams index in
    let counted = ap (λ (r : Restored). r.packets) (are.each index within).counted ∙ run_packets stream.bits nothing_known (stream_arrivals stream.apid packets) in
    omega (arith, counted, arrivals-few stream.apid packets)

-- what is kept of a stream says the same of an arrival as all its packets so far
pub next_of-judged : (s : MultiReceiving) (packets : List Packet) (p : Packet) (index : ℕ) → AreReckoned s.streams packets s.arrivals → index < length s.streams → next_of s index p.header.count p.body ≡ judged_of (stream_at s.streams index) packets p
next_of-judged s packets p index are within =
    let stream = stream_at s.streams index in
    let has = are.each index within in
    let places = has.places in
    let known : known_of (reckoning_at s.arrivals index).reception ≡ known_after stream.bits (stream_arrivals stream.apid packets) = has.stands ∙ ap (λ (f : ℕ). known_after f (stream_arrivals stream.apid packets)) places in
    λ i. record { apid = stream.apid; judged = judge (places i) (known i) (arrival_of p) }

-- before the first packet
pub reckoned-none : (streams : List StreamRow) → AreReckoned streams [] (map (λ (stream : StreamRow). nothing_judged stream.bits) streams)
reckoned-none streams = record {
  size = length-map streams (λ (stream : StreamRow). nothing_judged stream.bits);
  each = λ index within.
      subst (HasJudged (stream_at streams index).bits []) (sym (get_or-map (λ (stream : StreamRow). nothing_judged stream.bits) streams index no_stream (nothing_judged 0) within))
      (record { places = refl; stands = refl; counted = refl });
}

-- a packet that is no arrival of any stream changes nothing
pub reckoned-same : (streams : List StreamRow) (packets : List Packet) (p : Packet) (reckonings : List Reckoning) → ((index : ℕ) → index < length streams → is_arrival (stream_at streams index).apid p ≡ false) → AreReckoned streams packets reckonings → AreReckoned streams (packets ++ p ∷ []) reckonings
reckoned-same streams packets p reckonings none are = record {
  size = are.size;
  each = λ index within.
      let stream = stream_at streams index in
      subst (λ (l : List Arrival). HasJudged stream.bits l (reckoning_at reckonings index)) (sym (arrivals-same stream.apid packets p (none index within))) (are.each index within);
}

module _ (streams : List StreamRow) (packets : List Packet) (p : Packet) (old new : List Reckoning) (index : ℕ) (rows : AreStreams streams) (within : index < length streams) (own : p.header.apid ≡ (stream_at streams index).apid)
    (shape : has_shape p.header ≡ true) (are : AreReckoned streams packets old) (judges : Judges (reckoning_at old index) (reckoning_at new index) p.header.count p.body) (others : new ≡ set old index (reckoning_at new index)) where
  here : HasJudged (stream_at streams index).bits (stream_arrivals (stream_at streams index).apid (packets ++ p ∷ [])) (reckoning_at new index)
  here =
      let stream = stream_at streams index in
      let arrival = and_from (p.header.apid == stream.apid) (has_shape p.header) (eq-eqb p.header.apid stream.apid own) shape in
      subst (λ (l : List Arrival). HasJudged stream.bits l (reckoning_at new index)) (sym (arrivals-more stream.apid packets p arrival))
      (HasJudged-next judges stream.bits (stream_arrivals stream.apid packets) (are.each index within))

  there : (other : ℕ) → other < length streams → (other ≡ index → ⊥) → HasJudged (stream_at streams other).bits (stream_arrivals (stream_at streams other).apid (packets ++ p ∷ [])) (reckoning_at new other)
  there other inside apart =
      let stream = stream_at streams other in
      let same : reckoning_at new other ≡ reckoning_at old other = ap (λ (l : List Reckoning). reckoning_at l other) others ∙ get_or-set_other old index other (reckoning_at new index) (nothing_judged 0) apart in
      let arrivals = arrivals-same stream.apid packets p (no_arrival-other streams p index other rows within inside own apart) in
      subst (λ (r : Reckoning). HasJudged stream.bits (stream_arrivals stream.apid (packets ++ p ∷ [])) r) (sym same) (subst (λ (l : List Arrival). HasJudged stream.bits l (reckoning_at old other)) (sym arrivals) (are.each other inside))

  -- an arrival of a stream is judged by what is kept of it, and the others stay
  pub reckoned-more : AreReckoned streams (packets ++ p ∷ []) new
  reckoned-more = record {
    size = ap length others ∙ (length-set old index (reckoning_at new index) ∙ are.size);
    each = λ other inside. elim (cases_eq other index) [
      | inl same ↦ subst (λ (k : ℕ). HasJudged (stream_at streams k).bits (stream_arrivals (stream_at streams k).apid (packets ++ p ∷ [])) (reckoning_at new k)) (sym same) here
      | inr apart ↦ there other inside apart
    ];
  }

-- ---- what a packet is

-- the header that six bytes spell
abbrev spelled_by : List ℕ → Header → Header
spelled_by (a ∷ b ∷ c ∷ d ∷ e ∷ f ∷ []) h = header_at a b c d e f
spelled_by bytes h = h

-- the first six bytes of a packet spell its header
pub header-first : (h : Header) (p : Packet) (bytes : List ℕ) → IsHeader h → IsHeader p.header → bytes ≡ packet_bytes p → take 6 bytes ≡ header_of h → h ≡ p.header
header-first h p bytes fields others is spelled =
    let same : header_of p.header ≡ header_of h = sym (ap (take 6) is) ∙ spelled in
    sym (header_at-header_of h fields) ∙ (ap (λ l. spelled_by l h) (sym same) ∙ header_at-header_of p.header others)

-- no stream has its APID
pub judged_after-unlisted : (streams : List StreamRow) (packets : List Packet) (p : Packet) → stream_of streams p.header.apid ≡ None → judged_after streams packets p ≡ None
judged_after-unlisted streams packets p none = ap (λ o. cond (has_shape p.header) (option_map (λ index. judged_of (stream_at streams index) packets p) o) None) none ∙ either (has_shape p.header)
  where
    either : (b : Bool) → cond {A = Option StreamJudged} b None None ≡ None
    either true = refl
    either false = refl

-- it has another shape
pub judged_after-shape : (streams : List StreamRow) (packets : List Packet) (p : Packet) → has_shape p.header ≡ false → judged_after streams packets p ≡ None
judged_after-shape streams packets p other = ap (λ b. cond b (option_map (λ index. judged_of (stream_at streams index) packets p) (stream_of streams p.header.apid)) None) other

-- it is an arrival
pub judged_after-arrival : (streams : List StreamRow) (packets : List Packet) (p : Packet) (index : ℕ) → has_shape p.header ≡ true → stream_of streams p.header.apid ≡ Some index → judged_after streams packets p ≡ Some (judged_of (stream_at streams index) packets p)
judged_after-arrival streams packets p index shape is =
    ap (λ b. cond b (option_map (λ k. judged_of (stream_at streams k) packets p) (stream_of streams p.header.apid)) None) shape ∙ ap (option_map (λ k. judged_of (stream_at streams k) packets p)) is

-- ---- what is received

abbrev as_one : Bool → ℕ
as_one counted = cond counted 1 0

-- how many of no packet and of one are written
written_none : (o : Option StreamJudged) → o ≡ None → written_count (cons_option o []) ≡ 0
written_none o none = ap (λ (x : Option StreamJudged). written_count (cons_option x [])) none

written_one : (o : Option StreamJudged) (j : StreamJudged) → o ≡ Some j → written_count (cons_option o []) ≡ as_one (is_written_kind j.judged.verdict.kind)
written_one o j is =
    let one = sum_by-cons (λ (x : StreamJudged). as_one (is_written_kind x.judged.verdict.kind)) j [] in
    let count : written_count (j ∷ []) ≡ as_one (is_written_kind j.judged.verdict.kind) = omega (arith, one) in
    ap (λ (x : Option StreamJudged). written_count (cons_option x [])) is ∙ count

-- whether a packet is counted for its shape
shape_one : (streams : List StreamRow) (p : Packet) (o : Option ℕ) (shape : Bool) → stream_of streams p.header.apid ≡ o → has_shape p.header ≡ shape → as_one (is_other_shape streams p) ≡ as_one (is_some o && not shape)
shape_one streams p o shape is of_shape = λ i. as_one (is_some (is i) && not (of_shape i))

-- a packet of no stream
pub received-unlisted : (s : MultiReceiving) (packets : List Packet) (p : Packet) → stream_of s.streams p.header.apid ≡ None → HasReceived s packets → HasReceived s (packets ++ p ∷ [])
received-unlisted s packets p none has = record {
  streams = has.streams;
  reckoned = reckoned-same s.streams packets p s.arrivals (no_arrival-unlisted s.streams p has.streams none) has.reckoned;
  written = omega (arith, has.written, written_count-next s.streams packets p, written_none (judged_after s.streams packets p) (judged_after-unlisted s.streams packets p none));
  shapes = omega (arith, has.shapes, shape_count-next s.streams packets p, shape_one s.streams p None (has_shape p.header) none refl);
  room = has.room;
  taken = has.taken;
}

-- a packet of another shape
pub received-shape : (s : MultiReceiving) (packets : List Packet) (p : Packet) (index : ℕ) → stream_of s.streams p.header.apid ≡ Some index → has_shape p.header ≡ false → HasReceived s packets → HasReceived (record s { shapes = s.shapes + 1 }) (packets ++ p ∷ [])
received-shape s packets p index is other has = record {
  streams = has.streams;
  reckoned = reckoned-same s.streams packets p s.arrivals (λ k within. no_arrival-shape (stream_at s.streams k).apid p other) has.reckoned;
  written = omega (arith, has.written, written_count-next s.streams packets p, written_none (judged_after s.streams packets p) (judged_after-shape s.streams packets p other));
  shapes = omega (arith, has.shapes, shape_count-next s.streams packets p, shape_one s.streams p (Some index) false is other);
  room = has.room;
  taken = has.taken;
}

-- an arrival
pub received-arrival : (s t : MultiReceiving) (packets : List Packet) (p : Packet) (index : ℕ) → stream_of s.streams p.header.apid ≡ Some index → index < length s.streams → p.header.apid ≡ (stream_at s.streams index).apid → has_shape p.header ≡ true
    → JudgesOne s t index p.header.count p.body → HasReceived s packets → HasReceived t (packets ++ p ∷ [])
received-arrival s t packets p index is within own shape one has =
    let j = judged_of (stream_at s.streams index) packets p in
    let judged = next_of-judged s packets p index has.reckoned within in
    let all : HasReceived (record s { arrivals = t.arrivals; written = t.written; line = t.line }) (packets ++ p ∷ []) = record {
      streams = has.streams;
      reckoned = reckoned-more s.streams packets p s.arrivals t.arrivals index has.streams within own shape has.reckoned one.judges one.others;
      written =
          let counted = written_one (judged_after s.streams packets p) j (judged_after-arrival s.streams packets p index shape is) in
          let same = ap (λ (x : StreamJudged). as_one (is_written_kind x.judged.verdict.kind)) judged in
          omega (arith, has.written, one.written, same, counted, written_count-next s.streams packets p);
      shapes = omega (arith, has.shapes, shape_count-next s.streams packets p, shape_one s.streams p (Some index) true is shape);
      room = one.room ∙ has.room;
      taken = one.taken ∙ has.taken;
    } in
    subst (λ (r : MultiReceiving). HasReceived r (packets ++ p ∷ [])) (sym one.same) all
