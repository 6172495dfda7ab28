-- The report has of each stream the rows of its own run.
use Rattle.std.specs.Fmt.{decimal}
use Rattle.std.specs.List.{filter, flat_map}
use Rattle.std.specs.Prelude.{IfSome}
use Rattle.std.proofs.Common.{◌≡◌, ℕ, zero, suc, ◌^◌, ◌<◌, ◌≤◌, ◌==◌, Bool, true, false, cond, List, [], ◌∷◌, ◌++◌, map, length, get_or, All, codes, Option, Some, None, refl, sym, ap, ◌∙◌, subst, append-nil, append_assoc, arith, ◌%◌, if◌then◌else◌, Result}
use Rattle.std.proofs.lemmas.Bool.{eq-eqb, eqb-false, eqb-true, ne_eqb}
use Rattle.std.proofs.lemmas.List.{get_or_default}
use Rattle.std.proofs.lemmas.List.Concat.{flat_map-cons}
use Rattle.std.proofs.lemmas.List.Elements.{All-get_or, All-head, All-tail}
use Rattle.std.proofs.lemmas.List.Sums.{count_by-le-length}
use Rattle.bit_vectors.specs.declared.fault.BitFault.TheVariants.{Wrong, EndsEarly}
use Rattle.desk_ports.specs.Meanings.{Meanings, Counts}
use Rattle.desk_ports.specs.Turns.{Writes}
use Rattle.desk_ports.proofs.Steps.{Writes-is}
use Rattle.side_tables.specs.Streams.{AreStreams, IsStreamRow, no_stream, stream_at}
use Rattle.side_tables.specs.declared.rows.StreamRow.{StreamRow}
use Rattle.packet_store.specs.SpacePackets.{Packet, period, space_packet}
use Rattle.ground_chain.specs.Report.{end_row, header_row, is_repeat, is_written_kind, lost_row, number_row, own_row, restored_of, run_rows, kind_value, verdict_rows, content_bytes, written_bytes}
use Rattle.ground_chain.specs.Run.{Judged, nothing_known, run}
use Rattle.ground_chain.specs.declared.restored.Restored.{Restored}
use Rattle.ground_chain.specs.declared.verdict.Kind.{Kind}
use Rattle.ground_chain.specs.declared.verdict.Kind.TheVariants.{Written, Repeat, Unsynced, Gap, Refused}
use Rattle.ground_chain.specs.declared.verdict.Lost.{Lost}
use Rattle.ground_chain.proofs.Reckonings.{run_packets}
use Rattle.multi_ground.specs.Apart.{judged_with, multi_report, rows_on}
use Rattle.multi_ground.specs.MultiOutputs.{end_rows, multi_header, shape_row, tagged, tagged_rows, arrival_texts, outputs_of, written_packet}
use Rattle.multi_ground.specs.MultiRun.{StreamJudged, multi_run, shape_count, stream_arrivals}
use Rattle.multi_ground.proofs.Lines.{IsLine, lacks, lacks-append, lacks-decimal, no_decimal, rows-others, rows-tagged, rows-word}
use Rattle.multi_ground.proofs.MultiRuns.{arrivals-few, shape_count-few, IsWellJudged}

-- ---- the report has of each stream the rows of its own run

-- what holds at each place
All-get : {X : Type 0} (P : X → Type 0) (xs : List X) (d : X) → ((k : ℕ) → k < length xs → P (get_or xs k d)) → All P xs
All-get P xs d each = λ k e within. subst P (get_or_default xs k d e within) (each k within)

-- ---- rows are lines

line-number : (t : ℕ) (cause : List ℕ) (value : ℕ) → t < 2 ^ 64 → value < 2 ^ 64 → lacks 10 cause ≡ true → IsLine (number_row t cause value)
line-number t cause value small few plain =
    let number = lacks-decimal 10 t (omega arith) small in
    let one = lacks-append 10 (decimal t) (codes ",") number refl in
    let two = lacks-append 10 (decimal t ++ codes ",") (decimal t) one number in
    let three = lacks-append 10 (decimal t ++ codes "," ++ decimal t) (codes ",") two refl in
    let four = lacks-append 10 (decimal t ++ codes "," ++ decimal t ++ codes ",") cause three plain in
    let five = lacks-append 10 (decimal t ++ codes "," ++ decimal t ++ codes "," ++ cause) (codes ",") four refl in
    record {
      text = decimal t ++ codes "," ++ decimal t ++ codes "," ++ cause ++ codes "," ++ decimal value;
      plain = lacks-append 10 (decimal t ++ codes "," ++ decimal t ++ codes "," ++ cause ++ codes ",") (decimal value) five (lacks-decimal 10 value (omega arith) few);
      ends = refl;
    }

line-lost : (lost : Lost) → lost.first < 2 ^ 64 → lost.last < 2 ^ 64 → IsLine (lost_row (Some lost))
line-lost lost small few =
    let one = lacks-append 10 (decimal lost.first) (codes ",") (lacks-decimal 10 lost.first (omega arith) small) refl in
    let two = lacks-append 10 (decimal lost.first ++ codes ",") (decimal lost.last) one (lacks-decimal 10 lost.last (omega arith) few) in
    record {
      text = decimal lost.first ++ codes "," ++ decimal lost.last ++ codes ",lost,0";
      plain = lacks-append 10 (decimal lost.first ++ codes "," ++ decimal lost.last) (codes ",lost,0") two refl;
      ends = sym (append_assoc (decimal lost.first ++ codes "," ++ decimal lost.last) (codes ",lost,0") (10 ∷ []));
    }

line-end : (r : Restored) → r.packets < 2 ^ 64 → r.written < 2 ^ 64 → r.repeats < 2 ^ 64 → IsLine (end_row r)
line-end r packets written repeats =
    let one = lacks-append 10 (codes "end,") (decimal r.packets) refl (lacks-decimal 10 r.packets (omega arith) packets) in
    let two = lacks-append 10 (codes "end," ++ decimal r.packets) (codes ",") one refl in
    let three = lacks-append 10 (codes "end," ++ decimal r.packets ++ codes ",") (decimal r.written) two (lacks-decimal 10 r.written (omega arith) written) in
    let four = lacks-append 10 (codes "end," ++ decimal r.packets ++ codes "," ++ decimal r.written) (codes ",") three refl in
    record {
      text = codes "end," ++ decimal r.packets ++ codes "," ++ decimal r.written ++ codes "," ++ decimal r.repeats;
      plain = lacks-append 10 (codes "end," ++ decimal r.packets ++ codes "," ++ decimal r.written ++ codes ",") (decimal r.repeats) four (lacks-decimal 10 r.repeats (omega arith) repeats);
      ends = refl;
    }

-- ---- the rows of one arrival

module _ (apid : ℕ) (small : apid < 2 ^ 64) where
  -- a row, or none
  piece : (other : ℕ) (row rest : List ℕ) → other < 2 ^ 64 → IsLine row → (own : Bool) → (other == apid) ≡ own → rows_on apid (tagged other row ++ rest) ≡ cond own row [] ++ rows_on apid rest
  piece other row rest few line true test = rows-tagged apid other row rest small few line (eqb-true other apid test)
  piece other row rest few line false test = rows-others apid other row rest small few line (eqb-false other apid test)

  none_either : (own : Bool) (rest : List ℕ) → rest ≡ cond own [] [] ++ rest
  none_either true rest = refl
  none_either false rest = refl

  piece-lost : (other : ℕ) (lost : Option Lost) (rest : List ℕ) → other < 2 ^ 64 → IfSome lost (λ (l : Lost). (l.first < 2 ^ 64) × (l.last < 2 ^ 64)) → rows_on apid (tagged other (lost_row lost) ++ rest) ≡ cond (other == apid) (lost_row lost) [] ++ rows_on apid rest
  piece-lost other None rest few numbers = none_either (other == apid) (rows_on apid rest)
  piece-lost other (Some lost) rest few numbers = piece other (lost_row (Some lost)) rest few (line-lost lost numbers.0 numbers.1) (other == apid) refl

  piece-own : (other t : ℕ) (kind : Kind) (rest : List ℕ) → other < 2 ^ 64 → t < 2 ^ 64 → kind_value kind < 2 ^ 64 → rows_on apid (tagged other (own_row t kind) ++ rest) ≡ cond (other == apid) (own_row t kind) [] ++ rows_on apid rest
  piece-own other t Written rest few number value = none_either (other == apid) (rows_on apid rest)
  piece-own other t Repeat rest few number value = none_either (other == apid) (rows_on apid rest)
  piece-own other t (Unsynced mask) rest few number value = piece other (number_row t (codes "unsynced") 0) rest few (line-number t (codes "unsynced") 0 number (omega arith) refl) (other == apid) refl
  piece-own other t (Gap level mask) rest few number value = piece other (number_row t (codes "gap") level) rest few (line-number t (codes "gap") level number value refl) (other == apid) refl
  piece-own other t (Refused (Wrong bit)) rest few number value = piece other (number_row t (codes "wrong") bit) rest few (line-number t (codes "wrong") bit number value refl) (other == apid) refl
  piece-own other t (Refused (EndsEarly bit)) rest few number value = piece other (number_row t (codes "early") bit) rest few (line-number t (codes "early") bit number value refl) (other == apid) refl

  both : (own : Bool) (lost row rest : List ℕ) → cond own lost [] ++ (cond own row [] ++ rest) ≡ cond own (lost ++ row) [] ++ rest
  both true lost row rest = sym (append_assoc lost row rest)
  both false lost row rest = refl

  of_arrival : (j : StreamJudged) (rest : List ℕ) → IsWellJudged j → rows_on apid (tagged_rows j ++ rest) ≡ cond (j.apid == apid) (verdict_rows j.judged.verdict) [] ++ rows_on apid rest
  of_arrival j rest well =
      let v = j.judged.verdict in
      let few : j.apid < 2 ^ 64 = omega (arith, well.apid) in
      ap (rows_on apid) (append_assoc (tagged j.apid (lost_row v.lost)) (tagged j.apid (own_row v.t v.kind)) rest)
      ∙ (piece-lost j.apid v.lost (tagged j.apid (own_row v.t v.kind) ++ rest) few well.numbers.lost
      ∙ (ap (λ l. cond (j.apid == apid) (lost_row v.lost) [] ++ l) (piece-own j.apid v.t v.kind rest few well.numbers.number well.numbers.value)
      ∙ both (j.apid == apid) (lost_row v.lost) (own_row v.t v.kind) (rows_on apid rest)))

  judged_first : (j : StreamJudged) (judged : List StreamJudged) (own : Bool) → (j.apid == apid) ≡ own → run_rows (judged_with apid (j ∷ judged)) ≡ cond own (verdict_rows j.judged.verdict) [] ++ run_rows (judged_with apid judged)
  judged_first j judged own is = ap (λ (b : Bool). run_rows (map (λ (x : StreamJudged). x.judged) (cond b (j ∷ filter (λ (x : StreamJudged). x.apid == apid) judged) (filter (λ (x : StreamJudged). x.apid == apid) judged)))) is ∙ either own
    where
      either : (b : Bool) → run_rows (map (λ (x : StreamJudged). x.judged) (cond b (j ∷ filter (λ (x : StreamJudged). x.apid == apid) judged) (filter (λ (x : StreamJudged). x.apid == apid) judged))) ≡ cond b (verdict_rows j.judged.verdict) [] ++ run_rows (judged_with apid judged)
      either true = flat_map-cons (λ (x : Judged). verdict_rows x.verdict) j.judged (judged_with apid judged)
      either false = refl

  -- the rows of all arrivals
  pub of_arrivals : (judged : List StreamJudged) (rest : List ℕ) → All IsWellJudged judged → rows_on apid (flat_map tagged_rows judged ++ rest) ≡ run_rows (judged_with apid judged) ++ rows_on apid rest
  of_arrivals [] rest all = refl
  of_arrivals (j ∷ judged) rest all =
      let own = cond (j.apid == apid) (verdict_rows j.judged.verdict) [] in
      ap (λ l. rows_on apid (l ++ rest)) (flat_map-cons tagged_rows j judged)
      ∙ (ap (rows_on apid) (append_assoc (tagged_rows j) (flat_map tagged_rows judged) rest)
      ∙ (of_arrival j (flat_map tagged_rows judged ++ rest) (All-head IsWellJudged j judged all)
      ∙ (ap (λ l. own ++ l) (of_arrivals judged rest (All-tail IsWellJudged j judged all))
      ∙ (sym (append_assoc own (run_rows (judged_with apid judged)) (rows_on apid rest))
      ∙ ap (λ l. l ++ rows_on apid rest) (sym (judged_first j judged (j.apid == apid) refl))))))

  -- ---- the last rows

  module _ (packets : List Packet) (few : length packets ≤ 2 ^ 32) where
    abbrev end_of : StreamRow → List ℕ
    end_of stream = end_row (restored_of (run stream.bits (stream_arrivals stream.apid packets)))

    line-end_of : (stream : StreamRow) → IsLine (end_of stream)
    line-end_of stream =
        let judged = run stream.bits (stream_arrivals stream.apid packets) in
        let size : length judged < 2 ^ 64 = omega (arith, run_packets stream.bits nothing_known (stream_arrivals stream.apid packets), arrivals-few stream.apid packets, few) in
        line-end (restored_of judged) size (omega (arith, size, count_by-le-length (λ (j : Judged). is_written_kind j.verdict.kind) judged)) (omega (arith, size, count_by-le-length (λ (j : Judged). is_repeat j.verdict.kind) judged))

    first_end : (stream : StreamRow) (streams : List StreamRow) (rest : List ℕ) → IsStreamRow stream → (own : Bool) → (stream.apid == apid) ≡ own → rows_on apid (end_rows (stream ∷ streams) packets ++ rest) ≡ cond own (end_of stream) [] ++ rows_on apid (end_rows streams packets ++ rest)
    first_end stream streams rest right own test =
        ap (λ l. rows_on apid (l ++ rest)) (flat_map-cons (λ (s : StreamRow). tagged s.apid (end_of s)) stream streams)
        ∙ (ap (rows_on apid) (append_assoc (tagged stream.apid (end_of stream)) (end_rows streams packets) rest)
        ∙ piece stream.apid (end_of stream) (end_rows streams packets ++ rest) (omega (arith, right.apid)) (line-end_of stream) own test)

    -- of streams with other APIDs
    no_ends : (streams : List StreamRow) (rest : List ℕ) → All IsStreamRow streams → All (λ (s : StreamRow). (s.apid == apid) ≡ false) streams → rows_on apid (end_rows streams packets ++ rest) ≡ rows_on apid rest
    no_ends [] rest right others = refl
    no_ends (stream ∷ streams) rest right others =
        first_end stream streams rest (All-head IsStreamRow stream streams right) false (All-head (λ (s : StreamRow). (s.apid == apid) ≡ false) stream streams others)
        ∙ no_ends streams rest (All-tail IsStreamRow stream streams right) (All-tail (λ (s : StreamRow). (s.apid == apid) ≡ false) stream streams others)

    -- and of the one with this APID
    pub one_end : (streams : List StreamRow) (index : ℕ) (rest : List ℕ) → All IsStreamRow streams → index < length streams → (stream_at streams index).apid ≡ apid
        → ((k : ℕ) → k < length streams → (stream_at streams k).apid ≡ apid → k ≡ index) → rows_on apid (end_rows streams packets ++ rest) ≡ end_of (stream_at streams index) ++ rows_on apid rest
    one_end [] index rest right within own only = absurd (omega arith)
    one_end (stream ∷ streams) zero rest right within own only =
        first_end stream streams rest (All-head IsStreamRow stream streams right) true (eq-eqb stream.apid apid own)
        ∙ ap (λ l. end_of stream ++ l) (no_ends streams rest (All-tail IsStreamRow stream streams right)
        (All-get (λ (s : StreamRow). (s.apid == apid) ≡ false) streams no_stream (λ k inside. ne_eqb (stream_at streams k).apid apid (λ same. absurd (let one : suc k ≡ 0 = only (suc k) (omega arith) same in omega arith)))))
    one_end (stream ∷ streams) (suc index) rest right within own only =
        first_end stream streams rest (All-head IsStreamRow stream streams right) false (ne_eqb stream.apid apid (λ same. absurd (let one : 0 ≡ suc index = only 0 (omega arith) same in omega arith)))
        ∙ one_end streams index rest (All-tail IsStreamRow stream streams right) (omega arith) own (λ k inside same. let one : suc k ≡ suc index = only (suc k) (omega arith) same in omega arith)

  -- ---- the first line and the last one

  header_passed : (rest : List ℕ) → rows_on apid (multi_header ++ rest) ≡ rows_on apid rest
  header_passed rest =
      rows-word apid (codes "apid") header_row rest small refl (no_decimal 97 (codes "apid") apid (omega arith) small refl)
      (record { text = codes "apid,first,last,cause,value"; plain = refl; ends = refl })

  shapes_passed : (count : ℕ) → count < 2 ^ 64 → rows_on apid (shape_row count) ≡ []
  shapes_passed count few =
      ap (rows_on apid) (sym (append-nil (shape_row count)))
      ∙ rows-word apid (codes "shape") (decimal count ++ codes "\n") [] small refl (no_decimal 115 (codes "shape") apid (omega arith) small refl)
      (record { text = codes "shape," ++ decimal count; plain = lacks-append 10 (codes "shape,") (decimal count) refl (lacks-decimal 10 count (omega arith) few); ends = refl })

-- ---- the report

pub report-apart : (streams : List StreamRow) (packets : List Packet) (index : ℕ) → AreStreams streams → All IsWellJudged (multi_run streams packets) → length packets ≤ 2 ^ 32 → index < length streams
    → rows_on (stream_at streams index).apid (multi_report streams packets)
    ≡ run_rows (judged_with (stream_at streams index).apid (multi_run streams packets)) ++ end_row (restored_of (run (stream_at streams index).bits (stream_arrivals (stream_at streams index).apid packets)))
report-apart streams packets index are well few within =
    let apid = (stream_at streams index).apid in
    let small : apid < 2 ^ 64 = omega (arith, (All-get_or IsStreamRow streams index no_stream within are.right).apid) in
    let judged = multi_run streams packets in
    let own = end_row (restored_of (run (stream_at streams index).bits (stream_arrivals apid packets))) in
    let shapes = shape_row (shape_count streams packets) in
    let last = end_rows streams packets ++ shapes in
    let size : shape_count streams packets < 2 ^ 64 = omega (arith, shape_count-few streams packets, few) in
    ap (rows_on apid) (append_assoc multi_header (flat_map tagged_rows judged) last)
    ∙ (header_passed apid small (flat_map tagged_rows judged ++ last)
    ∙ (of_arrivals apid small judged last well
    ∙ ap (λ l. run_rows (judged_with apid judged) ++ l) (
    one_end apid small packets few streams index shapes are.right within refl (λ k inside same. are.apart k index inside within same)
    ∙ (ap (λ l. own ++ l) (shapes_passed apid small (shape_count streams packets) size) ∙ append-nil own))))

-- ---- what is written of one arrival of a stream: its rows, and then its Space Packet

-- a row that is not empty, after its APID and a comma
pub tagged-some : (apid : ℕ) (row : List ℕ) → 0 < length row → (decimal apid ++ codes ",") ++ row ≡ tagged apid row
tagged-some apid [] some = absurd (omega arith)
tagged-some apid (byte ∷ row) some = refl

-- what is written of one arrival alone
pub one_arrival : {D T E : Type 0} {meaning : D → Meanings} {counts : D → Counts} {a b : D} {r : Result T E} (j : StreamJudged) → Writes meaning counts a b (arrival_texts j) r → Writes meaning counts a b (outputs_of (j ∷ [])) r
one_arrival j writes = Writes-is (sym (append-nil (arrival_texts j))) writes

-- a packet that is not written, and one that is
pub no_packet : (j : StreamJudged) → is_written_kind j.judged.verdict.kind ≡ false → [] ≡ written_packet j
no_packet j other = ap (λ (b : Bool). if b then space_packet j.apid (j.judged.verdict.t % period) (content_bytes j.judged.after.state) else []) (sym other)

pub one_packet : (j : StreamJudged) (bytes : List ℕ) → is_written_kind j.judged.verdict.kind ≡ true → bytes ≡ written_bytes j.judged → space_packet j.apid (j.judged.verdict.t % period) bytes ≡ written_packet j
one_packet j bytes written is =
    let content : bytes ≡ content_bytes j.judged.after.state = is ∙ ap (λ (b : Bool). if b then content_bytes j.judged.after.state else []) written in
    ap (space_packet j.apid (j.judged.verdict.t % period)) content ∙ ap (λ (b : Bool). if b then space_packet j.apid (j.judged.verdict.t % period) (content_bytes j.judged.after.state) else []) (sym written)
