-- What is owed for the rest of a store whose packets may come late: packet by packet and from its first on, by the arrivals that are judged.
use Rattle.std.proofs.Common.{◌≡◌, ℕ, ◌+◌, List, ◌++◌, length, map, sym, ap, ◌∙◌, ◌≤◌, ltb, Bool, true, false, if◌then◌else◌, [], ◌∷◌, take, drop, refl, append_assoc, length-append, arith, subst, ◌-◌, Some, None}
use Rattle.std.proofs.Math.Seq.{drop-append-add}
use Rattle.std.proofs.lemmas.Bool.{ltb-false}
use Rattle.std.proofs.lemmas.List.{length-map, map-append, take-append-drop, take_at}
use Rattle.std.proofs.lemmas.List.Concat.{flat_map-append}
use Rattle.desk_ports.specs.Courses.{to_report, Work, Outputs, by_ending, owed, texts_of, written_first}
use Rattle.desk_ports.specs.Meanings.{Meanings}
use Rattle.desk_ports.specs.Turns.{Steps}
use Rattle.desk_ports.proofs.Steps.{GoesOn, IsDone}
use Rattle.packet_store.specs.StoreReader.{ReaderState, TakesPacket}
use Rattle.packet_store.specs.Walks.{walk}
use Rattle.packet_store.specs.declared.fault.WalkFault.{WalkFault}
use Rattle.packet_store.specs.declared.reader.Taken.{Taken}
use Rattle.packet_store.proofs.StoreTurns.{packet_of}
use Rattle.ground_chain.specs.Reception.{known_of, Reckoning, nothing_judged}
use Rattle.ground_chain.specs.Report.{added, restored_of, all_parts, end_row, header_row, run_bytes, run_report, run_rows, verdict_rows, written_bytes}
use Rattle.ground_chain.specs.Restoring.{restored_texts, arrivals_of}
use Rattle.ground_chain.specs.Run.{Judged, known_from, run_from, Arrival, run}
use Rattle.ground_chain.specs.declared.restored.Restored.{Restored}
use Rattle.ground_chain.proofs.EveryRun.{known_from-append, run_from-append}
use Rattle.ground_chain.proofs.Reckonings.{added-assoc, restored_of-append, run_packets, none-added}
use Rattle.ground_chain.proofs.RestCourses.{arrivals-passed, arrivals-read, texts-around}
use Rattle.late_window.specs.Late.{AreJudged, held_bytes, run_of, IsWithinLimits, Sorts, arrival_bytes, done_of, given_up_for, given_left, held_left, last_bytes, last_rows, numbered_at, bytes_left, run_left, nothing_late}
use Rattle.late_window.specs.Lines.{Line, given_from, holding, is_below, late_from, line_after, next_line, settled, surplus, without_first}
use Rattle.late_window.specs.Order.{Numbered, arrival_of, highest_with, near_number, numbered_from, numbered, in_order, late_count, ordered, late_row}
use Rattle.late_window.specs.Restoring.{Owes, left_to_sort, rest_work, IsUnread, judged_before, late_course, late_done, late_state, late_work, nothing_read, ordered_run, store_arrivals}
use Rattle.late_window.specs.declared.done.LateDone.{LateDone}
use Rattle.late_window.specs.declared.late.LateArrivals.{LateArrivals}
use Rattle.late_window.specs.declared.run.LateRun.{LateRun}
use Rattle.late_window.proofs.Orders.{given-count, late-is-count, order-is}
use Rattle.late_window.proofs.Sortings.{length-placed}

-- ---- arrivals that are judged one after another: the run over them, what is written of it, and its numbers

module _ {a b : Reckoning} {xs : List Numbered} (first : AreJudged a b xs) where
  -- the run goes on after them
  pub run_of-then : (ys : List Numbered) → run_of a (xs ++ ys) ≡ run_of a xs ++ run_of b ys
  run_of-then ys =
      let places = sym first.places in
      let known = sym first.known in
      ap (run_from a.reception.decoder.places (known_of a.reception)) (map-append arrival_of xs ys)
      ∙ (run_from-append a.reception.decoder.places (known_of a.reception) (map arrival_of xs) (map arrival_of ys)
      ∙ λ i. run_of a xs ++ run_from (places i) (known i) (map arrival_of ys))

  pub held_bytes-then : (ys : List Numbered) → held_bytes a (xs ++ ys) ≡ held_bytes a xs ++ held_bytes b ys
  held_bytes-then ys = ap (all_parts restored_texts) (run_of-then ys) ∙ flat_map-append restored_texts.parts (run_of a xs) (run_of b ys)

  -- and so do its numbers
  pub added-then : (ys : List Numbered) → added a.restored (restored_of (run_of a (xs ++ ys))) ≡ added b.restored (restored_of (run_of b ys))
  added-then ys =
      ap (λ (l : List Judged). added a.restored (restored_of l)) (run_of-then ys)
      ∙ (ap (added a.restored) (restored_of-append (run_of a xs) (run_of b ys))
      ∙ (sym (added-assoc a.restored (restored_of (run_of a xs)) (restored_of (run_of b ys)))
      ∙ ap (λ (r : Restored). added r (restored_of (run_of b ys))) (sym first.restored)))

  -- they are counted
  pub packets-judged : b.restored.packets ≡ a.restored.packets + length xs
  packets-judged =
      let count = run_packets a.reception.decoder.places (known_of a.reception) (map arrival_of xs) ∙ length-map xs arrival_of in
      ap (λ (r : Restored). r.packets) first.restored ∙ ap (λ (n : ℕ). a.restored.packets + n) count

pub AreJudged-then : (a b c : Reckoning) (xs ys : List Numbered) → AreJudged a b xs → AreJudged b c ys → AreJudged a c (xs ++ ys)
AreJudged-then a b c xs ys first next =
    let places = first.places in
    let known = first.known in
    record {
      places = next.places ∙ first.places;
      known =
          next.known ∙ (λ i. known_from (places i) (known i) (map arrival_of ys))
          ∙ sym (ap (known_from a.reception.decoder.places (known_of a.reception)) (map-append arrival_of xs ys) ∙ known_from-append a.reception.decoder.places (known_of a.reception) (map arrival_of xs) (map arrival_of ys));
      restored = next.restored ∙ sym (added-then first ys);
    }

-- ---- what is owed for the rest of a store, after one more arrival

pub length-run_of : (r : Reckoning) (given : List Numbered) → length (run_of r given) ≡ length given
length-run_of r given = run_packets r.reception.decoder.places (known_of r.reception) (map arrival_of given) ∙ length-map given arrival_of

module _ {old new : LateArrivals} {a : Arrival} (is : Sorts old new a) (later : List Arrival) where
  given-next : given_left old (a ∷ later) ≡ given_up_for old a ++ given_left new later
  given-next = let line = sym is.line in let numbers = sym is.numbers in λ i. given_up_for old a ++ given_from (line i) (numbered_from (numbers i) later)

  held-next : held_left old (a ∷ later) ≡ held_left new later
  held-next = let line = sym is.line in let numbers = sym is.numbers in λ i. (line_after (line i) (numbered_from (numbers i) later)).held

  order-next : given_left old (a ∷ later) ++ held_left old (a ∷ later) ≡ given_up_for old a ++ (given_left new later ++ held_left new later)
  order-next = (λ i. given-next i ++ held-next i) ∙ append_assoc (given_up_for old a) (given_left new later) (held_left new later)

  run-next : run_left old (a ∷ later) ≡ run_of old.judging (given_up_for old a) ++ run_left new later
  run-next = ap (run_of old.judging) order-next ∙ run_of-then is.judged (given_left new later ++ held_left new later)

  pub bytes-next : bytes_left old (a ∷ later) ≡ arrival_bytes old a ++ bytes_left new later
  bytes-next = ap (held_bytes old.judging) given-next ∙ held_bytes-then is.judged (given_left new later)

  late-next : old.late + late_from old.sorter.line (numbered_from old.numbers (a ∷ later)) ≡ new.late + late_from new.sorter.line (numbered_from new.numbers later)
  late-next =
      let line = is.line in
      let numbers = is.numbers in
      let rest = late_from new.sorter.line (numbered_from new.numbers later) in
      let same : rest ≡ late_from (next_line old.sorter.line (numbered_at old a)) (numbered_from (highest_with old.numbers (near_number old.numbers a.count)) later) = λ i. late_from (line i) (numbered_from (numbers i) later) in
      omega (arith, same, is.late)

  pub done-next : done_of old (a ∷ later) ≡ done_of new later
  done-next =
      let restored = ap (λ (xs : List Numbered). added old.judging.restored (restored_of (run_of old.judging xs))) order-next ∙ added-then is.judged (given_left new later ++ held_left new later) in
      λ i. record { restored = restored i; late = late-next i }

  rest-next : drop (length (given_left old (a ∷ later))) (run_left old (a ∷ later)) ≡ drop (length (given_left new later)) (run_left new later)
  rest-next =
      let first = run_of old.judging (given_up_for old a) in
      let size : length (given_left old (a ∷ later)) ≡ length first + length (given_left new later) =
      ap length given-next ∙ (length-append (given_up_for old a) (given_left new later) ∙ ap (λ (n : ℕ). n + length (given_left new later)) (sym (length-run_of old.judging (given_up_for old a)))) in
      (λ i. drop (size i) (run-next i)) ∙ drop-append-add first (run_left new later) (length (given_left new later))

  pub last-next : last_bytes old (a ∷ later) ≡ last_bytes new later
  last-next = λ i. all_parts restored_texts (rest-next i) ++ to_report (last_rows (done-next i))

-- ---- its numbers stay within their limits

-- after what is given up no more are held than the window is large
record HasRoom (line next : Line) (given : List Numbered) : Type 0 where
  few : length next.held ≤ next.window
  count : length given + length next.held ≤ length line.held

settled-by : (line : Line) (held : List Numbered) → line.held ≡ held → (over : Bool) → ltb line.window (length line.held) ≡ over → length line.held ≤ line.window + 1
    → HasRoom line (if over then without_first line held else line) (if over then take 1 held else [])
settled-by line held is false over few = record { few = ltb-false line.window (length line.held) over; count = omega arith }
settled-by line [] is true over few = record { few = omega (arith, ap length is); count = omega (arith, ap length is) }
settled-by line (a ∷ held) is true over few = record { few = omega (arith, few, ap length is); count = omega (arith, ap length is) }

settled-room : (line : Line) → length line.held ≤ line.window + 1 → HasRoom line (settled line) (surplus line)
settled-room line few = settled-by line line.held refl (ltb line.window (length line.held)) refl few

-- of which there is one more after an arrival
record HasNextRoom (line taken : Line) : Type 0 where
  room : HasRoom taken (settled taken) (surplus taken)
  more : length taken.held ≤ length line.held + 1

next-room : (line : Line) (a : Numbered) (below : Bool) → length line.held ≤ line.window → HasNextRoom line (if below then line else holding line a)
next-room line a true few = record { room = settled-room line (omega (arith, few)); more = omega arith }
next-room line a false few =
    let size = length-placed a line.held in
    record { room = settled-room (holding line a) (omega (arith, few, size)); more = omega (arith, size) }

late-most : (below : Bool) → (if below then 1 else 0) ≤ 1
late-most true = omega arith
late-most false = omega arith

pub limits-next : (old new : LateArrivals) (a : Arrival) (taken : ℕ) → Sorts old new a → IsWithinLimits old taken → IsWithinLimits new (taken + 1)
limits-next old new a taken is limits =
    let line = old.sorter.line in
    let below = is_below (numbered_at old a).number line.released in
    let next = next-room line (numbered_at old a) below limits.held in
    let held = ap (λ (l : Line). length l.held) is.line in
    let window = ap (λ (l : Line). l.window) is.line in
    let packets = packets-judged is.judged in
    record {
      held = omega (arith, held, window, next.room.few);
      packets = omega (arith, held, packets, next.room.count, next.more, limits.packets);
      late = omega (arith, is.late, late-most below, limits.late);
      near = omega (arith, is.near, limits.near);
    }

-- ---- what is owed for the rest of a store, packet by packet, if its packets may come late

-- after a packet of another APID what is owed is what the packets after it owe
pub GoesOn-passed : (r : LateRun) (reader : ReaderState) (a b : Meanings) (given : Taken) (takes : TakesPacket r.reader reader a b given) → given.chosen ≡ false
    → GoesOn (left_to_sort r) (left_to_sort (record r { reader = reader })) (packet_of takes.header reader) []
GoesOn-passed r reader a b given takes other =
    let arrivals = arrivals-passed r.reader reader a b given takes other in
    record {
      before = λ packets. ap (bytes_left r.arrivals) (arrivals packets);
      answer = λ packets. ap (done_of r.arrivals) (arrivals packets);
      after = λ packets. ap (last_bytes r.arrivals) (arrivals packets);
    }

-- after one of the chosen APID what is written when it comes is owed, and after it what the packets after it owe
pub GoesOn-sorted : (r t : LateRun) (a b : Meanings) (given : Taken) (takes : TakesPacket r.reader t.reader a b given) → given.chosen ≡ true → Sorts r.arrivals t.arrivals (record { count = given.count; body = t.reader.body })
    → GoesOn (left_to_sort r) (left_to_sort t) (packet_of takes.header t.reader) (arrival_bytes r.arrivals (record { count = given.count; body = t.reader.body }))
GoesOn-sorted r t a b given takes own is =
    let arrivals = arrivals-read r.reader t.reader a b given takes own in
    record {
      before = λ packets. ap (bytes_left r.arrivals) (arrivals packets) ∙ bytes-next is (arrivals_of t.reader.chosen packets);
      answer = λ packets. ap (done_of r.arrivals) (arrivals packets) ∙ done-next is (arrivals_of t.reader.chosen packets);
      after = λ packets. ap (last_bytes r.arrivals) (arrivals packets) ∙ last-next is (arrivals_of t.reader.chosen packets);
    }

-- if nothing is left, the last part is owed
pub IsDone-sorted : (r : LateRun) → IsDone (left_to_sort r) (last_bytes r.arrivals []) (done_of r.arrivals [])
IsDone-sorted r = record { nothing = refl; last_is = refl; answer_is = refl }

-- after a packet the rest of the store is still to be restored
pub Owes-next : (r t : LateRun) (a b : Meanings) (given : Taken) (work : Work LateDone WalkFault) → Owes r work → TakesPacket r.reader t.reader a b given → IsWithinLimits t.arrivals (r.reader.taken + 1) → Owes t (rest_work t)
Owes-next r t a b given work owes takes limits =
    let taken : r.reader.taken + 1 ≡ t.reader.taken = sym (ap (λ (s : ReaderState). s.taken) takes.others) in
    record {
      work_is = refl;
      live = ap (λ (s : ReaderState). s.live) takes.others ∙ owes.live;
      limits = subst (IsWithinLimits t.arrivals) taken limits;
      few = omega (arith, taken, takes.few);
    }

-- the limits of fewer packets are also those of more
pub limits-more : (s : LateArrivals) (taken more : ℕ) → taken ≤ more → IsWithinLimits s taken → IsWithinLimits s more
limits-more s taken more le limits = record { held = limits.held; packets = omega (arith, le, limits.packets); late = omega (arith, le, limits.late); near = omega (arith, le, limits.near) }

-- ---- what a store owes is owed from its first packet on

-- the run over the first arrivals is the first part of the run
take-run : (r : Reckoning) (xs ys : List Numbered) → take (length xs) (run_of r (xs ++ ys)) ≡ run_of r xs
take-run r xs ys =
    let f = r.reception.decoder.places in
    let known = known_of r.reception in
    ap (λ (l : List Arrival). take (length xs) (run_from f known l)) (map-append arrival_of xs ys)
    ∙ (ap (take (length xs)) (run_from-append f known (map arrival_of xs) (map arrival_of ys))
    ∙ take_at (run_of r xs) (run_from f (known_from f known (map arrival_of xs)) (map arrival_of ys)) (length xs) (length-run_of r xs))

module _ (f window : ℕ) (arrivals : List Arrival) where
  -- the numbers of all arrivals
  abbrev pub done-by : LateDone
  done-by = record { restored = restored_of (run f (ordered window arrivals)); late = late_count window (numbered arrivals) }

  -- the run over all arrivals in order
  pub run-all : run f (ordered window arrivals) ≡ run_left (nothing_late f window) arrivals
  run-all = ap (run_of (nothing_judged f)) (order-is window (numbered arrivals))

  before-count : judged_before window (run f (ordered window arrivals)) ≡ length (given_left (nothing_late f window) arrivals)
  before-count = ap (λ (n : ℕ). n - window) (length-run_of (nothing_judged f) (in_order window (numbered arrivals))) ∙ given-count window (numbered arrivals)

  -- what is written before the end
  pub parts-all : all_parts restored_texts (take (judged_before window (run f (ordered window arrivals))) (run f (ordered window arrivals))) ≡ bytes_left (nothing_late f window) arrivals
  parts-all =
      let s = nothing_late f window in
      ap (all_parts restored_texts) ((λ i. take (before-count i) (run-all i)) ∙ take-run s.judging (given_left s arrivals) (held_left s arrivals))

  -- the numbers
  pub done-all : done-by ≡ done_of (nothing_late f window) arrivals
  done-all =
      let s = nothing_late f window in
      let restored = ap restored_of run-all ∙ sym (none-added (restored_of (run_left s arrivals))) in
      let count = late-is-count window (numbered arrivals) in
      let late : late_count window (numbered arrivals) ≡ (done_of s arrivals).late = omega (arith, count) in
      λ i. record { restored = restored i; late = late i }

  -- and what is written at the end
  pub last-all : all_parts restored_texts (drop (judged_before window (run f (ordered window arrivals))) (run f (ordered window arrivals))) ++ to_report (last_rows (done_of (nothing_late f window) arrivals)) ≡ last_bytes (nothing_late f window) arrivals
  last-all = λ i. all_parts restored_texts (drop (before-count i) (run-all i)) ++ to_report (last_rows (done_of (nothing_late f window) arrivals))

-- ---- a store

-- what it owes is owed after the report's first line
course-is : (f apid window : ℕ) (store : List ℕ) → late_course f apid window store ≡ written_first (to_report header_row) ((rest_work (nothing_read f apid window)).course store)
course-is f apid window store =
    let arrivals = store_arrivals apid store in
    let parts = parts-all f window arrivals in
    let last = last-all f window arrivals in
    let done = done-all f window arrivals in
    let judged = ordered_run f apid window store in
    let after = (λ i. all_parts restored_texts (drop (judged_before window judged) judged) ++ to_report (last_rows (done i))) ∙ last in
    λ i. record { before = to_report header_row ++ parts i; after = after i; ending = (walk (Some apid) store).ending }

Steps-none : (f apid window : ℕ) → Steps (late_work f apid window) (rest_work (nothing_read f apid window)) [] (to_report header_row)
Steps-none f apid window = record { course = course-is f apid window; answer = λ store. done-all f window (store_arrivals apid store) }

pub Steps-unread : (r : LateRun) → IsUnread r → let s = late_state r in Steps (late_work s.places s.apid s.window) (rest_work r) [] (to_report header_row)
Steps-unread r is =
    let s = late_state r in
    subst (λ (x : LateRun). Steps (late_work s.places s.apid s.window) (rest_work x) [] (to_report header_row)) (sym is) (Steps-none s.places s.apid s.window)

-- nothing is read
pub Owes-unread : (r : LateRun) → IsUnread r → Owes r (rest_work r)
Owes-unread r is = subst (λ (x : LateRun). Owes x (rest_work x)) (sym is) (record {
  work_is = refl;
  live = refl;
  limits = record { held = omega arith; packets = omega arith; late = omega arith; near = omega arith };
  few = omega arith;
})

-- ---- a whole store

owed-all : (header first rest last : Outputs) → (header ++ first) ++ (rest ++ last) ≡ (header ++ (first ++ rest)) ++ last
owed-all header first rest last = simp append_assoc

owed-rows : (header rows ending late : List ℕ) → header ++ rows ++ (ending ++ late) ≡ (header ++ rows ++ ending) ++ late
owed-rows header rows ending late = simp append_assoc

-- it owes the restored packets and the report of the run over its arrivals in order, and the row of those that are too late
pub owed-whole : (f apid window : ℕ) (store : List ℕ) → (walk (Some apid) store).ending ≡ None
    → texts_of (owed (late_course f apid window store)) ≡ record { output = run_bytes (ordered_run f apid window store); report = run_report (ordered_run f apid window store) ++ late_row (late_done f apid window store).late }
owed-whole f apid window store whole =
    let judged = ordered_run f apid window store in
    let n = judged_before window judged in
    let done = late_done f apid window store in
    let course = late_course f apid window store in
    let header = to_report header_row in
    let last = to_report (last_rows done) in
    let joined = sym (flat_map-append restored_texts.parts (take n judged) (drop n judged)) ∙ ap (all_parts restored_texts) (take-append-drop n judged) in
    ap (λ ending. texts_of (by_ending ending course.before course.after)) whole
    ∙ (ap texts_of (owed-all header (all_parts restored_texts (take n judged)) (all_parts restored_texts (drop n judged)) last ∙ ap (λ (o : Outputs). (header ++ o) ++ last) joined)
    ∙ (texts-around (λ (j : Judged). verdict_rows j.verdict) written_bytes header_row (last_rows done) judged ∙ λ i. record { output = run_bytes judged; report = owed-rows header_row (run_rows judged) (end_row done.restored) (late_row done.late) i }))
