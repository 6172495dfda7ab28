-- The rows of the report on the packets of a history, and the numbers of its run.
use Rattle.std.specs.Fmt.{decimal}
use Rattle.std.specs.List.{count_by, filter, flat_map, range_with_len, sum_by}
use Rattle.std.specs.Prelude.{codes}
use Rattle.std.proofs.Common.{◌≡◌, ℕ, zero, suc, ◌+◌, ◌-◌, ◌*◌, ◌%◌, ◌<◌, ◌≤◌, List, [], ◌∷◌, ◌++◌, length, map, replicate, Bool, true, false, not, cond, if◌then◌else◌, Option, Some, None, refl, sym, ap, ◌∙◌, append-nil, arith, ◌⊎◌, ◌==◌, ◌&&◌, append_assoc, inl, inr}
use Rattle.std.proofs.lemmas.Bool.{and_right, cases_lt, le-ltb, lt-ltb, ne_eqb, eq-eqb}
use Rattle.std.proofs.lemmas.Fmt.{decimal_digit}
use Rattle.std.proofs.lemmas.Grind.{flat_map-append}
use Rattle.std.proofs.lemmas.List.Elements.{All-cons, All-nil, filter-append}
use Rattle.std.proofs.lemmas.List.Filters.{length-filter_both}
use Rattle.std.proofs.lemmas.List.Folds.{sum_by-replicate}
use Rattle.std.proofs.lemmas.List.FromFn.{length-range_with_len}
use Rattle.std.proofs.lemmas.List.Sums.{length-filter, sum_by-append, sum_by-cons}
use Rattle.mask_update.specs.Histories.{History, IsValid}
use Rattle.robust_window.specs.Histories.{level_at}
use Rattle.packet_store.specs.SpacePackets.{period}
use Rattle.packet_encode.specs.Deliveries.{arrivals, count_to_last, is_mask_known, is_written, latest_of_missing, listed_numbers, written_numbers, Cause, Lost, cause_from, cause_at}
use Rattle.loss_player.specs.Played.{AreGapsShort, AreDropped}
use Rattle.ground_chain.specs.Deliveries.{arrival_at, history_arrivals, delivered_numbers, ListedRow, is_lost, before_rows, rows_of_numbers, listed_rows, row_text}
use Rattle.ground_chain.specs.Report.{is_written_kind as is_kind_written, is_repeat, restored_of, AreArrivals, lost_row, own_row, verdict_rows, run_rows}
use Rattle.ground_chain.specs.Run.{expected, Arrival, Known, Judged, nothing_known, repeat_judged, run, lost_from}
use Rattle.ground_chain.specs.declared.verdict.Kind.TheVariants.{Written}
use Rattle.ground_chain.specs.declared.verdict.Kind.TheVariants as kind
use Rattle.ground_chain.proofs.HistoryPackets.{missed_kind, is_written-dropped, kind_at}
use Rattle.ground_chain.proofs.HistoryRuns.{known_at, judged_first, judged_copies, judged_at, known-history, run-packets, kind-written}
use Rattle.ground_chain.proofs.ListedRows.{last_before, last_before-is, expected-below, last-dropped, last-arrived}
use Rattle.ground_chain.proofs.Reckonings.{run_counts, run_packets}
use Rattle.ground_chain.proofs.Told.{ranges, range_then}

-- ---- lists

sum_by-flat_map : {A B : Type 0} (g : B → ℕ) (f : A → List B) (xs : List A) → sum_by g (flat_map f xs) ≡ sum_by (λ x. sum_by g (f x)) xs
sum_by-flat_map g f [] = refl
sum_by-flat_map g f (x ∷ xs) =
    sum_by-append g (f x) (flat_map f xs) ∙ (ap (λ (n : ℕ). sum_by g (f x) + n) (sum_by-flat_map g f xs) ∙ sym (sum_by-cons (λ y. sum_by g (f y)) x xs))

length-map : {A B : Type 0} (f : A → B) (xs : List A) → length (map f xs) ≡ length xs
length-map f [] = refl
length-map f (x ∷ xs) = ap suc (length-map f xs)

filter-cond : {A : Type 0} (test : Bool) (x : A) (xs : List A) → test ≡ false → cond test (x ∷ xs) xs ≡ xs
filter-cond test x xs is = ap (λ (b : Bool). cond b (x ∷ xs) xs) is

filter-none : (test : ℕ → Bool) (k first : ℕ) → ((s : ℕ) → first ≤ s → s < first + k → test s ≡ false) → filter test (range_with_len first k) ≡ []
filter-none test zero first none = refl
filter-none test (suc k) first none =
    let from : first ≤ first = omega arith in
    let lt : first < first + suc k = omega arith in
    filter-cond (test first) first (filter test (range_with_len (first + 1) k)) (none first from lt)
    ∙ filter-none test k (first + 1) (λ s le less. none s (omega (arith, le)) (omega (arith, less)))

-- ---- one packet

kind-repeat : (written : Bool) (latest : Option ℕ) (level : ℕ) (mask : Bool) → is_repeat (if written then Written else missed_kind latest level mask) ≡ false
kind-repeat true latest level mask = refl
kind-repeat false None level mask = refl
kind-repeat false (Some s) level mask = refl

-- a count over all copies of a packet
count-copies : (h : History) (copies : ℕ → ℕ) (test : Judged → Bool) (t c : ℕ) → count_by test (judged_copies h copies t (suc c))
    ≡ cond (test (judged_first h copies t)) 1 0 + c * cond (test (repeat_judged (known_at h copies (t + 1)))) 1 0
count-copies h copies test t c =
    sum_by-cons (λ (j : Judged). cond (test j) 1 0) (judged_first h copies t) (replicate c (repeat_judged (known_at h copies (t + 1))))
    ∙ ap (λ (n : ℕ). cond (test (judged_first h copies t)) 1 0 + n) (sum_by-replicate (λ (j : Judged). cond (test j) 1 0) c (repeat_judged (known_at h copies (t + 1))))

module _ (h : History) (copies : ℕ → ℕ) where
  written-copies : (t c : ℕ) → copies t ≡ c → count_by (λ j. is_kind_written j.verdict.kind) (judged_copies h copies t c) ≡ cond (is_written h copies t) 1 0
  written-copies t zero is = ap (λ (b : Bool). cond b 1 0) (sym (is_written-dropped h copies t is))
  written-copies t (suc c) is =
      let first = kind-written (is_written h copies t) (latest_of_missing h copies t) (level_at h t) (is_mask_known h copies t) in
      let none : cond (is_written h copies t) 1 0 + c * 0 ≡ cond (is_written h copies t) 1 0 = omega arith in
      count-copies h copies (λ j. is_kind_written j.verdict.kind) t c ∙ (ap (λ (b : Bool). cond b 1 0 + c * 0) first ∙ none)

  repeat-copies : (t c : ℕ) → copies t ≡ c → count_by (λ j. is_repeat j.verdict.kind) (judged_copies h copies t c) ≡ copies t - 1
  repeat-copies t zero is = omega (arith, is)
  repeat-copies t (suc c) is =
      let first = kind-repeat (is_written h copies t) (latest_of_missing h copies t) (level_at h t) (is_mask_known h copies t) in
      let all : 0 + c * 1 ≡ copies t - 1 = omega (arith, is) in
      count-copies h copies (λ j. is_repeat j.verdict.kind) t c ∙ (ap (λ (b : Bool). cond b 1 0 + c * 1) first ∙ all)

  -- ---- all packets

  written-packets : (numbers : List ℕ) → count_by (λ j. is_kind_written j.verdict.kind) (flat_map (judged_at h copies) numbers) ≡ length (filter (is_written h copies) numbers)
  written-packets numbers =
      sum_by-flat_map (λ (j : Judged). cond (is_kind_written j.verdict.kind) 1 0) (judged_at h copies) numbers
      ∙ (ap (λ (f : ℕ → ℕ). sum_by f numbers) (λ i t. written-copies t (copies t) refl i) ∙ sym (length-filter (is_written h copies) numbers))

  repeat-packets : (numbers : List ℕ) → count_by (λ j. is_repeat j.verdict.kind) (flat_map (judged_at h copies) numbers) ≡ sum_by (λ t. copies t - 1) numbers
  repeat-packets numbers =
      sum_by-flat_map (λ (j : Judged). cond (is_repeat j.verdict.kind) 1 0) (judged_at h copies) numbers ∙ ap (λ (f : ℕ → ℕ). sum_by f numbers) (λ i t. repeat-copies t (copies t) refl i)

  -- ---- up to the last arrival

  last-below : (n : ℕ) → count_to_last copies n ≤ n
  last-below n = expected-below n (last_before copies n) (last_before-is copies n).before

  -- no later packet is written
  written-heard : (n : ℕ) → filter (is_written h copies) (range_with_len 0 n) ≡ filter (is_written h copies) (range_with_len 0 (count_to_last copies n))
  written-heard n =
      let le = last-below n in
      let later = filter-none (is_written h copies) (n - count_to_last copies n) (count_to_last copies n) (λ s from less. is_written-dropped h copies s ((last_before-is copies n).none s (omega (arith, less, le)) from)) in
      ap (λ (l : List ℕ). filter (is_written h copies) l) (sym (ranges (count_to_last copies n) n le))
      ∙ (filter-append (is_written h copies) (range_with_len 0 (count_to_last copies n)) (range_with_len (count_to_last copies n) (n - count_to_last copies n))
      ∙ (ap (λ (l : List ℕ). filter (is_written h copies) (range_with_len 0 (count_to_last copies n)) ++ l) later ∙ append-nil (filter (is_written h copies) (range_with_len 0 (count_to_last copies n)))))

  -- the written and the listed packets are all up to the last arrival
  all-heard : length (written_numbers h copies) + length (listed_numbers h copies) ≡ count_to_last copies (length h.steps)
  all-heard =
      ap (λ (l : List ℕ). length l + length (listed_numbers h copies)) (written-heard (length h.steps))
      ∙ (length-filter_both (is_written h copies) (λ t. not (is_written h copies t)) (λ t. refl) (range_with_len 0 (count_to_last copies (length h.steps))) ∙ length-range_with_len 0 (count_to_last copies (length h.steps)))

  arrivals-counts : (numbers : List ℕ) → AreArrivals (map (arrival_at h) numbers)
  arrivals-counts [] = All-nil (λ (a : Arrival). a.count < period)
  arrivals-counts (t ∷ numbers) = let few : t % period < period = omega arith in All-cons (λ (a : Arrival). a.count < period) (arrival_at h t) (map (arrival_at h) numbers) few (arrivals-counts numbers)

  module _ (valid : IsValid h) (short : AreGapsShort copies (length h.steps)) where
    run-counts : (restored_of (run h.places (history_arrivals h copies))).written + (restored_of (run h.places (history_arrivals h copies))).listed ≡ count_to_last copies (length h.steps)
    run-counts =
        let last = ap (λ (known : Known). expected known.latest) (known-history h copies valid short (arrivals copies (length h.steps)) [] (append-nil (arrivals copies (length h.steps)))) in
        let counts = run_counts h.places nothing_known (history_arrivals h copies) (arrivals-counts (arrivals copies (length h.steps))) in
        omega (arith, last, counts)

    pub numbers-history : restored_of (run h.places (history_arrivals h copies)) ≡ delivered_numbers h copies
    numbers-history =
        let packets = run_packets h.places nothing_known (history_arrivals h copies) ∙ length-map (arrival_at h) (arrivals copies (length h.steps)) in
        let written = ap (λ (judged : List Judged). count_by (λ j. is_kind_written j.verdict.kind) judged) (run-packets h copies valid short) ∙ written-packets (range_with_len 0 (length h.steps)) in
        let repeats = ap (λ (judged : List Judged). count_by (λ j. is_repeat j.verdict.kind) judged) (run-packets h copies valid short) ∙ repeat-packets (range_with_len 0 (length h.steps)) in
        let listed : (restored_of (run h.places (history_arrivals h copies))).listed ≡ length (listed_numbers h copies) = omega (arith, run-counts, all-heard, written) in
        λ i. record { packets = packets i; written = written i; repeats = repeats i; listed = listed i }

-- ---- one row before others

-- the first of these rows is of lost numbers that follow this one
abbrev joins : ℕ → List ListedRow → Bool
joins last [] = false
joins last (row ∷ rows) = is_lost row.cause && (row.first == last + 1)

lost-before : (first last : ℕ) (rows : List ListedRow) → joins last rows ≡ false → before_rows (record { first = first; last = last; cause = Lost }) rows ≡ record { first = first; last = last; cause = Lost } ∷ rows
lost-before first last [] apart = refl
lost-before first last (next ∷ rows) apart =
    ap (λ (b : Bool). if b then record next { first = first } ∷ rows else record { first = first; last = last; cause = Lost } ∷ next ∷ rows) apart

lost-joins : (first last : ℕ) (rows : List ListedRow)
    → before_rows (record { first = first; last = first; cause = Lost }) (record { first = first + 1; last = last; cause = Lost } ∷ rows) ≡ record { first = first; last = last; cause = Lost } ∷ rows
lost-joins first last rows = by (first + 1 == first + 1) (eq-eqb (first + 1) (first + 1) refl) where
  by : (b : Bool) → b ≡ true
      → (if b then record { first = first; last = last; cause = Lost } ∷ rows else record { first = first; last = first; cause = Lost } ∷ record { first = first + 1; last = last; cause = Lost } ∷ rows)
      ≡ record { first = first; last = last; cause = Lost } ∷ rows
  by true is = refl
  by false is = absurd cc

missed-before : (t : ℕ) (latest : Option ℕ) (level : ℕ) (rows : List ListedRow) → before_rows (record { first = t; last = t; cause = cause_from latest level }) rows ≡ record { first = t; last = t; cause = cause_from latest level } ∷ rows
missed-before t latest level [] = refl
missed-before t None level (next ∷ rows) = refl
missed-before t (Some s) level (next ∷ rows) = refl

missed-apart : (last t : ℕ) (latest : Option ℕ) (level : ℕ) (rows : List ListedRow) → joins last (record { first = t; last = t; cause = cause_from latest level } ∷ rows) ≡ false
missed-apart last t None level rows = refl
missed-apart last t (Some s) level rows = refl

three-texts : (a b c d : List ℕ) → a ++ b ++ c ++ d ≡ a ++ (b ++ c ++ d)
three-texts a b c d = ap (λ (l : List ℕ). l ++ d) (append_assoc a b c) ∙ append_assoc a (b ++ c) d

missed-text : (t : ℕ) (latest : Option ℕ) (level : ℕ) (mask : Bool) → row_text (record { first = t; last = t; cause = cause_from latest level }) ≡ own_row t (missed_kind latest level mask)
missed-text t None level mask =
    let before = decimal t ++ codes "," ++ decimal t ++ codes "," in
    ap (λ (zero_text : List ℕ). before ++ (codes "unsynced" ++ codes "," ++ zero_text) ++ codes "\n") (sym (decimal_digit 0 (omega arith)))
    ∙ ap (λ (l : List ℕ). l ++ codes "\n") (sym (three-texts before (codes "unsynced") (codes ",") (decimal 0)))
missed-text t (Some s) level mask =
    let before = decimal t ++ codes "," ++ decimal t ++ codes "," in
    ap (λ (l : List ℕ). l ++ codes "\n") (sym (three-texts before (codes "gap") (codes ",") (decimal level)))

later-apart : (last : ℕ) (row : ListedRow) (rows : List ListedRow) → (row.first == last + 1) ≡ false → joins last (before_rows row rows) ≡ false
later-apart last row [] other = and_right (is_lost row.cause) (row.first == last + 1) other
later-apart last row (next ∷ rows) other = by (is_lost row.cause && is_lost next.cause && (next.first == row.last + 1)) where
  by : (b : Bool) → joins last (if b then record next { first = row.first } ∷ rows else row ∷ next ∷ rows) ≡ false
  by true = and_right (is_lost next.cause) (row.first == last + 1) other
  by false = and_right (is_lost row.cause) (row.first == last + 1) other

-- the row of lost numbers up to the one before t
lost-text : (first t : ℕ) → first < t → row_text (record { first = first; last = t - 1; cause = Lost }) ≡ lost_row (lost_from first t)
lost-text first t less =
    let before = decimal first ++ codes "," ++ decimal (t - 1) in
    three-texts before (codes ",") (codes "lost,0") (codes "\n")
    ∙ ap (λ (b : Bool). lost_row (if b then Some (record { first = first; last = t - 1 }) else None)) (sym (lt-ltb first t less))

no-lost-text : (first t : ℕ) → t ≤ first → lost_row (lost_from first t) ≡ []
no-lost-text first t le = ap (λ (b : Bool). lost_row (if b then Some (record { first = first; last = t - 1 }) else None)) (le-ltb first t le)

-- ---- the numbers up to an arrival

filter-all : (test : ℕ → Bool) (k first : ℕ) → ((s : ℕ) → first ≤ s → s < first + k → test s ≡ true) → filter test (range_with_len first k) ≡ range_with_len first k
filter-all test zero first all = refl
filter-all test (suc k) first all =
    let here : test first ≡ true = all first (omega arith) (omega arith) in
    let rest = filter-all test k (first + 1) (λ s le less. all s (omega (arith, le)) (omega (arith, less))) in
    ap (λ (b : Bool). cond b (first ∷ filter test (range_with_len (first + 1) k)) (filter test (range_with_len (first + 1) k))) here ∙ ap (λ (l : List ℕ). first ∷ l) rest

range-split : (first t last : ℕ) → first ≤ t → t < last → range_with_len first (last - first) ≡ range_with_len first (t - first) ++ t ∷ range_with_len (t + 1) (last - (t + 1))
range-split first t last le lt =
    let count : t - first + suc (last - (t + 1)) ≡ last - first = omega arith in
    let place : first + (t - first) ≡ t = omega arith in
    ap (range_with_len first) (sym count)
    ∙ (sym (range_then (t - first) first (suc (last - (t + 1)))) ∙ ap (λ (k : ℕ). range_with_len first (t - first) ++ range_with_len k (suc (last - (t + 1)))) place)

-- repeats have no row
repeats-no-row : (known : Known) (n : ℕ) → flat_map (λ j. verdict_rows j.verdict) (replicate n (repeat_judged known)) ≡ []
repeats-no-row known zero = refl
repeats-no-row known (suc n) = repeats-no-row known n

module _ (h : History) (copies : ℕ → ℕ) where
  -- ---- the rows of listed numbers

  abbrev is_unwritten_at : ℕ → Bool
  is_unwritten_at t = not (is_written h copies t)

  abbrev rows_from : List ℕ → List ListedRow
  rows_from numbers = rows_of_numbers h copies numbers

  abbrev text_of : List ℕ → List ℕ
  text_of numbers = flat_map row_text (rows_of_numbers h copies numbers)

  -- the listed numbers from one up to the one before another
  abbrev listed_between : ℕ → ℕ → List ℕ
  listed_between first last = filter is_unwritten_at (range_with_len first (last - first))

  row-lost : (t : ℕ) → copies t ≡ 0 → cause_at h copies t ≡ Lost
  row-lost t none = ap (λ (n : ℕ). if n == 0 then Lost else cause_from (latest_of_missing h copies t) (level_at h t)) none

  row-missed : (t c : ℕ) → copies t ≡ suc c → cause_at h copies t ≡ cause_from (latest_of_missing h copies t) (level_at h t)
  row-missed t c is =
      let some : copies t ≡ 0 → ⊥ = λ e. omega (arith, e, is) in
      ap (λ (b : Bool). if b then Lost else cause_from (latest_of_missing h copies t) (level_at h t)) (ne_eqb (copies t) 0 some)

  -- lost numbers in a row stand as one
  lost-rows : (m first : ℕ) (more : List ℕ) → ((s : ℕ) → first ≤ s → s < first + suc m → copies s ≡ 0) → joins (first + m) (rows_from more) ≡ false
      → rows_from (range_with_len first (suc m) ++ more) ≡ record { first = first; last = first + m; cause = Lost } ∷ rows_from more
  lost-rows zero first more none apart =
      let last : first ≡ first + 0 = omega arith in
      let here = row-lost first (none first (omega arith) (omega arith)) in
      ap (λ (cause : Cause). before_rows (record { first = first; last = first; cause = cause }) (rows_from more)) here
      ∙ (ap (λ (n : ℕ). before_rows (record { first = first; last = n; cause = Lost }) (rows_from more)) last ∙ lost-before first (first + 0) (rows_from more) apart)
  lost-rows (suc m) first more none apart =
      let last : first + 1 + m ≡ first + suc m = omega arith in
      let here = row-lost first (none first (omega arith) (omega arith)) in
      let rest = lost-rows m (first + 1) more (λ s le less. none s (omega (arith, le)) (omega (arith, less))) (ap (λ (n : ℕ). joins n (rows_from more)) last ∙ apart) in
      ap (λ (cause : Cause). before_rows (record { first = first; last = first; cause = cause }) (rows_from (range_with_len (first + 1) (suc m) ++ more))) here
      ∙ (ap (λ (rows : List ListedRow). before_rows (record { first = first; last = first; cause = Lost }) rows) rest
      ∙ (lost-joins first (first + 1 + m) (rows_from more) ∙ ap (λ (n : ℕ). record { first = first; last = n; cause = Lost } ∷ rows_from more) last))

  -- a later number follows no earlier row
  apart-by : (last t : ℕ) (unwritten : Bool) (more : List ℕ) → last + 1 < t → joins last (rows_from more) ≡ false → joins last (rows_from (cond unwritten (t ∷ more) more)) ≡ false
  apart-by last t true more less apart =
      let other : (t == last + 1) ≡ false = ne_eqb t (last + 1) (λ e. omega (arith, e, less)) in
      later-apart last (record { first = t; last = t; cause = cause_at h copies t }) (rows_from more) other
  apart-by last t false more less apart = apart

  later-rows : (k last t : ℕ) → last + 1 < t → joins last (rows_from (filter is_unwritten_at (range_with_len t k))) ≡ false
  later-rows zero last t less = refl
  later-rows (suc k) last t less =
      apart-by last t (is_unwritten_at t) (filter is_unwritten_at (range_with_len (t + 1) k)) less (later-rows k last (t + 1) (omega (arith, less)))

  -- ---- the row of an arrival

  own-rows : (t c : ℕ) → copies t ≡ suc c → (more : List ℕ) → rows_from (t ∷ more) ≡ record { first = t; last = t; cause = cause_from (latest_of_missing h copies t) (level_at h t) } ∷ rows_from more
  own-rows t c is more =
      ap (λ (cause : Cause). before_rows (record { first = t; last = t; cause = cause }) (rows_from more)) (row-missed t c is)
      ∙ missed-before t (latest_of_missing h copies t) (level_at h t) (rows_from more)

  own-text : (t c : ℕ) → copies t ≡ suc c → (more : List ℕ) (written : Bool)
      → text_of (cond (not written) (t ∷ more) more) ≡ own_row t (if written then kind.Written else missed_kind (latest_of_missing h copies t) (level_at h t) (is_mask_known h copies t)) ++ text_of more
  own-text t c is more true = refl
  own-text t c is more false =
      ap (λ (rows : List ListedRow). flat_map row_text rows) (own-rows t c is more)
      ∙ ap (λ (l : List ℕ). l ++ text_of more) (missed-text t (latest_of_missing h copies t) (level_at h t) (is_mask_known h copies t))

  own-apart : (last t c : ℕ) → copies t ≡ suc c → (more : List ℕ) (written : Bool) → joins last (rows_from more) ≡ false → joins last (rows_from (cond (not written) (t ∷ more) more)) ≡ false
  own-apart last t c is more true apart = apart
  own-apart last t c is more false apart =
      ap (joins last) (own-rows t c is more) ∙ missed-apart last t (latest_of_missing h copies t) (level_at h t) (rows_from more)

  -- lost numbers before t, and then others
  lost-then : (d first t : ℕ) → t - first ≡ d → first ≤ t → AreDropped copies first t → (more : List ℕ) → ((last : ℕ) → last + 1 ≡ t → joins last (rows_from more) ≡ false)
      → text_of (range_with_len first d ++ more) ≡ lost_row (lost_from first t) ++ text_of more
  lost-then zero first t is le none more apart =
      let past : t ≤ first = omega (arith, is) in
      ap (λ (l : List ℕ). l ++ text_of more) (sym (no-lost-text first t past))
  lost-then (suc m) first t is le none more apart =
      let less : first < t = omega (arith, is) in
      let next : first + m + 1 ≡ t = omega (arith, is) in
      let last : first + m ≡ t - 1 = omega (arith, is) in
      let rows = lost-rows m first more (λ s from less_s. none s (omega (arith, less_s, is)) from) (apart (first + m) next) in
      ap (λ (rows : List ListedRow). flat_map row_text rows) rows
      ∙ (ap (λ (n : ℕ). flat_map row_text (record { first = first; last = n; cause = Lost } ∷ rows_from more)) last ∙ ap (λ (l : List ℕ). l ++ text_of more) (lost-text first t less))

  -- the rows of all copies of a packet that arrives
  arrived-text : (t c : ℕ) → run_rows (judged_copies h copies t (suc c)) ≡ lost_row (lost_from (expected (last_before copies t)) t) ++ own_row t (kind_at h copies t)
  arrived-text t c =
      ap (λ (l : List ℕ). verdict_rows (judged_first h copies t).verdict ++ l) (repeats-no-row (known_at h copies (t + 1)) c) ∙ append-nil (verdict_rows (judged_first h copies t).verdict)

  -- ---- the rows up to the last arrival

  module _ (n : ℕ) where
    -- what is reported when the packet t is the next
    abbrev text_after : Option ℕ → List ℕ
    text_after latest = text_of (listed_between (expected latest) (count_to_last copies n))

    is_heard : (t c : ℕ) → t < n → copies t ≡ suc c → t < count_to_last copies n
    is_heard t c lt is = by (cases_lt t (count_to_last copies n)) where
      by : (t < count_to_last copies n) ⊎ (count_to_last copies n ≤ t) → t < count_to_last copies n
      by (inl less) = less
      by (inr le) = let none = (last_before-is copies n).none t lt le in absurd (omega (arith, none, is))

    next-text : (t c : ℕ) → t < n → copies t ≡ suc c
        → text_after (last_before copies t) ≡ (lost_row (lost_from (expected (last_before copies t)) t) ++ own_row t (kind_at h copies t)) ++ text_after (Some t)
    next-text t c lt is =
        let first = expected (last_before copies t) in
        let last = count_to_last copies n in
        let dropped = (last_before-is copies t).none in
        let le = expected-below t (last_before copies t) (last_before-is copies t).before in
        let more = listed_between (t + 1) (count_to_last copies n) in
        let own = filter is_unwritten_at (t ∷ range_with_len (t + 1) (count_to_last copies n - (t + 1))) in
        let before = filter-all is_unwritten_at (t - first) first (λ s from less. ap not (is_written-dropped h copies s (dropped s (omega (arith, less, le)) from))) in
        let numbers : listed_between (expected (last_before copies t)) (count_to_last copies n) ≡ range_with_len first (t - first) ++ own =
        ap (λ (l : List ℕ). filter is_unwritten_at l) (range-split first t last le (is_heard t c lt is))
        ∙ (filter-append is_unwritten_at (range_with_len first (t - first)) (t ∷ range_with_len (t + 1) (last - (t + 1))) ∙ ap (λ (l : List ℕ). l ++ own) before) in
        let apart = λ (s : ℕ) (e : s + 1 ≡ t). own-apart s t c is more (is_written h copies t) (later-rows (last - (t + 1)) s (t + 1) (omega (arith, e))) in
        ap (λ (l : List ℕ). flat_map row_text (rows_of_numbers h copies l)) numbers
        ∙ (lost-then (t - first) first t refl le dropped own apart
        ∙ (ap (λ (l : List ℕ). lost_row (lost_from first t) ++ l) (own-text t c is more (is_written h copies t)) ∙ sym (append_assoc (lost_row (lost_from first t)) (own_row t (kind_at h copies t)) (text_after (Some t)))))

    packet-text : (t c : ℕ) → t < n → copies t ≡ c → (rest : List Judged) → run_rows rest ≡ text_after (last_before copies (t + 1)) → run_rows (judged_copies h copies t c ++ rest) ≡ text_after (last_before copies t)
    packet-text t zero lt is rest same = same ∙ ap text_after (last-dropped copies t is)
    packet-text t (suc c) lt is rest same =
        let here = lost_row (lost_from (expected (last_before copies t)) t) ++ own_row t (kind_at h copies t) in
        flat_map-append (λ (j : Judged). verdict_rows j.verdict) (judged_copies h copies t (suc c)) rest
        ∙ (ap (λ (l : List ℕ). l ++ run_rows rest) (arrived-text t c)
        ∙ (ap (λ (l : List ℕ). here ++ l) (same ∙ ap text_after (last-arrived copies t c is)) ∙ sym (next-text t c lt is)))

    packets-text : (k t : ℕ) → t + k ≡ n → run_rows (flat_map (judged_at h copies) (range_with_len t k)) ≡ text_after (last_before copies t)
    packets-text zero t is =
        let end : n ≡ t = omega (arith, is) in
        let none : 0 ≡ count_to_last copies n - count_to_last copies n = omega arith in
        ap (λ (k : ℕ). text_of (filter is_unwritten_at (range_with_len (count_to_last copies n) k))) none ∙ ap (λ (s : ℕ). text_after (last_before copies s)) end
    packets-text (suc k) t is =
        let lt : t < n = omega (arith, is) in
        let more : t + 1 + k ≡ n = omega (arith, is) in
        packet-text t (copies t) lt refl (flat_map (judged_at h copies) (range_with_len (t + 1) k)) (packets-text k (t + 1) more)

  pub rows-history : IsValid h → AreGapsShort copies (length h.steps) → run_rows (run h.places (history_arrivals h copies)) ≡ flat_map row_text (listed_rows h copies)
  rows-history valid short =
      let all : 0 + length h.steps ≡ length h.steps = omega arith in
      let count : count_to_last copies (length h.steps) - 0 ≡ count_to_last copies (length h.steps) = omega arith in
      ap run_rows (run-packets h copies valid short)
      ∙ (packets-text (length h.steps) (length h.steps) 0 all ∙ ap (λ (k : ℕ). text_of (filter is_unwritten_at (range_with_len 0 k))) count)
