-- Held arrivals, judged one after another, what is written at the end of a store, and what is restored of a history.
use Rattle.std.specs.Io.KnownBytes.{append_known}
use Rattle.std.proofs.Common.{◌≡◌, ℕ, ◌+◌, ◌<◌, ◌≤◌, List, [], ◌∷◌, ◌++◌, length, take, Result, Ok, Err, IsErrAnd, refl, sym, ap, ◌∙◌, subst, append_assoc, length-append, arith, map, Some, None, IsOk, IfOk}
use Rattle.desk_ports.specs.Courses.{Outputs, to_report, AfterRun, Finishes, HasCause, OutputTexts, by_stop, owed, texts_of}
use Rattle.desk_ports.specs.Meanings.{Meanings, Counts, Stop, Data, ReadFault, WriteFault, Rose, left, made}
use Rattle.desk_ports.specs.Turns.{Writes}
use Rattle.desk_ports.specs.declared.desk.Failed.{Failed}
use Rattle.desk_ports.specs.declared.desk.Inlet.TheVariants as inlet
use Rattle.desk_ports.specs.declared.desk.Outlet.TheVariants as outlet
use Rattle.desk_ports.proofs.Courses.{Ends-told, Finishes-told}
use Rattle.desk_ports.proofs.Desks.{Rose-reads, Rose-writes}
use Rattle.desk_ports.proofs.Steps.{Writes-cut, Writes-is, Writes-then}
use Rattle.mask_update.specs.Histories.{History, IsValid}
use Rattle.packet_store.specs.StoreReader.{stop_by}
use Rattle.packet_store.specs.Walks.{walk}
use Rattle.packet_store.specs.declared.fault.RunFault.{RunFault}
use Rattle.packet_store.specs.declared.fault.WalkFault.{WalkFault}
use Rattle.ground_chain.specs.Deliveries.{arrival_at, delivered_numbers, history_arrivals, report_text, restored_bytes}
use Rattle.ground_chain.specs.Reception.{Reckoning}
use Rattle.ground_chain.specs.Report.{end_row, header_row, restored_of, run_bytes, run_report}
use Rattle.ground_chain.specs.Run.{Arrival, run}
use Rattle.ground_chain.proofs.HistoryRows.{numbers-history, rows-history}
use Rattle.ground_chain.proofs.HistoryRuns.{bytes-history}
use Rattle.late_window.specs.Deliveries.{IsLateDelivered, IsLateDelivery, IsLatePlayed}
use Rattle.late_window.specs.Late.{AreJudged, held_bytes, last_bytes}
use Rattle.late_window.specs.Lines.{Line, given_up, without_first}
use Rattle.late_window.specs.Order.{Numbered, late_row, numbered, late_count, ordered}
use Rattle.late_window.specs.Restoring.{late_course, late_done, late_work, ordered_run, store_arrivals}
use Rattle.late_window.specs.declared.done.LateDone.{LateDone}
use Rattle.late_window.specs.declared.late.LateArrivals.{LateArrivals}
use Rattle.late_window.proofs.LateDeliveries.{late-delivery, ordered-delivery, short-gaps}
use Rattle.late_window.proofs.Rests.{AreJudged-then, held_bytes-then, packets-judged, owed-whole}

-- ---- the held arrivals, judged one after another

-- the first of them were judged, and what there is to write of these was written
pub record JudgedPart {D : Type 0} (meaning : D → Meanings) (counts : D → Counts) (start now : LateArrivals) (a b : D) : Type 0 where
  pub done : List Numbered
  pub split : done ++ now.sorter.line.held ≡ start.sorter.line.held
  pub judged : AreJudged start.judging now.judging done
  pub written : Writes {T = Unit {0}} {E = Failed} meaning counts a b (held_bytes start.judging done) (Ok tt)
  pub late : now.late ≡ start.late

split : (line : Line) (held : List Numbered) → line.held ≡ held → take 1 held ++ (without_first line held).held ≡ held
split line [] is = is
split line (a ∷ held) is = refl

-- the first and the others, if there is one
pub held-split : (line : Line) → take 1 line.held ++ (given_up line).held ≡ line.held
held-split line = split line line.held refl

module _ {D : Type 0} {meaning : D → Meanings} {counts : D → Counts} {start now : LateArrivals} {a b : D} (part : JudgedPart meaning counts start now a b) where
  -- and then that of others
  written-then : {c : D} {r : Result (Unit {0}) Failed} (ys : List Numbered) → Writes meaning counts b c (held_bytes now.judging ys) r → Writes meaning counts a c (held_bytes start.judging (part.done ++ ys)) r
  written-then ys next = Writes-is (sym (held_bytes-then part.judged ys)) (Writes-then part.written next)

  -- one more was judged
  pub JudgedPart-next : {c : D} (next : LateArrivals) → next.sorter.line ≡ given_up now.sorter.line → AreJudged now.judging next.judging (take 1 now.sorter.line.held) → next.late ≡ now.late
      → Writes {T = Unit {0}} {E = Failed} meaning counts b c (held_bytes now.judging (take 1 now.sorter.line.held)) (Ok tt) → JudgedPart meaning counts start next a c
  JudgedPart-next next line judged late written =
      let one = take 1 now.sorter.line.held in
      record {
        done = part.done ++ one;
        split =
            append_assoc part.done one next.sorter.line.held
            ∙ (ap (λ (l : Line). part.done ++ (one ++ l.held)) line ∙ (ap (λ (l : List Numbered). part.done ++ l) (held-split now.sorter.line) ∙ part.split));
        judged = AreJudged-then start.judging now.judging next.judging part.done one part.judged judged;
        written = written-then one written;
        late = late ∙ part.late;
      }

  -- if a write of the next one failed, all of these and a prefix of it were written
  pub JudgedPart-cut : {c : D} {e : Failed} {r : Result (Unit {0}) Failed} (Q : Failed → Type 0) (mid : Reckoning) → IsErrAnd r Q → AreJudged now.judging mid (take 1 now.sorter.line.held)
      → Writes {T = Unit {0}} meaning counts b c (held_bytes now.judging (take 1 now.sorter.line.held)) (Err e) → Writes meaning counts a c (held_bytes start.judging start.sorter.line.held) r
  JudgedPart-cut {c = c} {r = r} Q mid failed judged cut =
      let others = (given_up now.sorter.line).held in
      let rest = sym (held_bytes-then judged others) ∙ ap (held_bytes now.judging) (held-split now.sorter.line) in
      subst (λ (l : List Numbered). Writes meaning counts a c (held_bytes start.judging l) r) part.split (written-then now.sorter.line.held (Writes-is rest (Writes-cut Q (held_bytes mid others) failed cut)))

  -- there is room for the next one in the numbers of the run
  pub few-left : (most : ℕ) → start.judging.restored.packets + length start.sorter.line.held ≤ most → 0 < length now.sorter.line.held → now.judging.restored.packets < most
  few-left most few some =
      let count = packets-judged part.judged in
      let size = ap length part.split in
      omega (arith, count, size, length-append part.done now.sorter.line.held, few, some)

-- ---- what is written at the end of a store: what is held then, and the last two rows

-- the last row of the run, and then that of the late arrivals
abbrev pub rows_of : LateArrivals → Outputs
rows_of s = to_report (end_row s.judging.restored ++ late_row s.late)

abbrev pub held_of : LateArrivals → Outputs
held_of s = held_bytes s.judging s.sorter.line.held

-- all that were held are judged
pub record IsEmptied (s t : LateArrivals) : Type 0 where
  pub judged : AreJudged s.judging t.judging s.sorter.line.held
  pub late : t.late ≡ s.late

module _ {s t : LateArrivals} (is : IsEmptied s t) where
  last-split : last_bytes s [] ≡ held_of s ++ rows_of t
  last-split =
      let restored = sym is.judged.restored in
      let late : s.late + 0 ≡ t.late = omega (arith, is.late) in
      λ i. held_of s ++ to_report (end_row (restored i) ++ late_row (late i))

  -- what is held was written, and then the rows or a front of them
  pub Writes-last : {D T E U F : Type 0} {meaning : D → Meanings} {counts : D → Counts} {a b c : D} {done : T} {r : Result U F} → Writes {E = E} meaning counts a b (held_of s) (Ok done)
      → Writes meaning counts b c (rows_of t) r → Writes meaning counts a c (last_bytes s []) r
  Writes-last held rows = Writes-is (sym last-split) (Writes-then held rows)

-- ---- what is restored of packets of a history that come late

module _ (h : History) (copies : ℕ → ℕ) (apid window : ℕ) (store numbers : List ℕ) (valid : IsValid h) (delivery : IsLateDelivery window (length h.steps) copies numbers) (arrives : store_arrivals apid store ≡ map (arrival_at h) numbers) where
  run-late : ordered_run h.places apid window store ≡ run h.places (history_arrivals h copies)
  run-late = ap (λ (l : List Arrival). run h.places (ordered window l)) arrives ∙ ap (run h.places) (ordered-delivery h delivery)

  count-late : (late_done h.places apid window store).late ≡ 0
  count-late = ap (λ (l : List Arrival). late_count window (numbered l)) arrives ∙ late-delivery h delivery

  pub done-late : late_done h.places apid window store ≡ record { restored = delivered_numbers h copies; late = 0 }
  done-late =
      let restored = ap restored_of run-late ∙ numbers-history h copies valid (short-gaps delivery) in
      λ i. record { restored = restored i; late = count-late i }

  -- a whole store owes what the headline says of the copies
  pub owed-late : (walk (Some apid) store).ending ≡ None → texts_of (owed (late_course h.places apid window store)) ≡ record { output = restored_bytes h copies; report = report_text h copies ++ late_row 0 }
  owed-late whole =
      let short = short-gaps delivery in
      let bytes = ap run_bytes run-late ∙ bytes-history h copies valid short in
      let report : run_report (ordered_run h.places apid window store) ≡ report_text h copies =
      ap run_report run-late ∙ (λ i. header_row ++ rows-history h copies valid short i ++ end_row (numbers-history h copies valid short i)) in
      owed-whole h.places apid window store whole ∙ λ i. record { output = bytes i; report = report i ++ late_row (count-late i) }

-- what a run writes that is done
IsLateDelivered-done : (f apid window : ℕ) (h : History) (copies : ℕ → ℕ) (done : LateDone) (a b : Meanings) → IsLatePlayed f apid window h copies a → Finishes (late_work f apid window) a b done → IsLateDelivered h copies done a b
IsLateDelivered-done f apid window h copies done a b played is =
    let store = played.store in
    let told = Ends-told (late_course f apid window) a b None store played.input is.ends in
    let owed_is = subst (λ (places : ℕ). texts_of (owed (late_course places apid window store)) ≡ record { output = restored_bytes h copies; report = report_text h copies ++ late_row 0 }) played.places
    (owed-late h copies apid window store played.numbers played.valid played.delivery played.arrives told.2) in
    let numbers_are = subst (λ (places : ℕ). late_done places apid window store ≡ record { restored = delivered_numbers h copies; late = 0 }) played.places
    (done-late h copies apid window store played.numbers played.valid played.delivery played.arrives) in
    record {
      output = told.0 ∙ ap (λ (o : OutputTexts). append_known (made a outlet.Main) o.output) owed_is;
      report = told.1 ∙ ap (λ (o : OutputTexts). append_known (made a outlet.Report) o.report) owed_is;
      numbers = Finishes-told (late_work f apid window) a b done store played.input is ∙ numbers_are;
    }

pub IsLateDelivered-run : (f apid window : ℕ) (h : History) (copies : ℕ → ℕ) (a b : Meanings) (result : Result LateDone RunFault) → IsLatePlayed f apid window h copies a → AfterRun (late_work f apid window) a b (by_stop stop_by result)
    → IfOk result (λ done. IsLateDelivered h copies done a b)
IsLateDelivered-run f apid window h copies a b (Ok done) played ran = IsLateDelivered-done f apid window h copies done a b played ran
IsLateDelivered-run f apid window h copies a b (Err fault) played ran = tt

-- a run of a whole store over a desk that doesn't fail is done
IsOk-whole : (f apid window : ℕ) (store : List ℕ) (a b : Meanings) (old new : Counts) (result : Result LateDone (Stop WalkFault)) → left a inlet.Main ≡ Some store → (walk (Some apid) store).ending ≡ None
    → AfterRun (late_work f apid window) a b result → HasCause old new result → (Rose old.reads new.reads → ⊥) → (Rose old.writes new.writes → ⊥) → IsOk result
IsOk-whole f apid window store a b old new (Ok done) input whole ran cause reads writes = refl
IsOk-whole f apid window store a b old new (Err (Data reason)) input whole ran cause reads writes =
    let ends = (Ends-told (late_course f apid window) a b (Some reason) store input ran).2 in
    let both = sym whole ∙ ends in absurd cc
IsOk-whole f apid window store a b old new (Err ReadFault) input whole ran cause reads writes = absurd (reads (Rose-reads old new cause))
IsOk-whole f apid window store a b old new (Err WriteFault) input whole ran cause reads writes = absurd (writes (Rose-writes old new cause))

pub IsOk-run : (f apid window : ℕ) (store : List ℕ) (a b : Meanings) (old new : Counts) (result : Result LateDone RunFault) → left a inlet.Main ≡ Some store → (walk (Some apid) store).ending ≡ None
    → AfterRun (late_work f apid window) a b (by_stop stop_by result) → HasCause old new (by_stop stop_by result) → (Rose old.reads new.reads → ⊥) → (Rose old.writes new.writes → ⊥) → IsOk result
IsOk-run f apid window store a b old new result input whole ran cause reads writes =
    of_stop result (IsOk-whole f apid window store a b old new (by_stop stop_by result) input whole ran cause reads writes) where
      of_stop : (r : Result LateDone RunFault) → IsOk (by_stop stop_by r) → IsOk r
      of_stop (Ok done) ok = refl
      of_stop (Err fault) ok = absurd cc
