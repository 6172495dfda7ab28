-- The history of a trial, its recording, script and copies, and what its three runs owe.
use Rattle.std.specs.List.{enumerate_from, flat_map, range_with_len}
use Rattle.std.specs.Option.{option_map_or}
use Rattle.std.specs.Prelude.{All}
use Rattle.std.proofs.Common.{◌≡◌, ℕ, ◌+◌, Bool, List, [], ◌∷◌, ◌++◌, sym, ap, ◌∙◌, append-nil, append_assoc, arith, ◌≢◌, zero, suc, true, false, cond, find, reverse, Option, Some, refl, inl, inr, ◌*◌, ◌%◌, ◌==◌, ◌<◌, ◌≤◌, ◌-◌, ◌/◌, ◌&&◌, ◌||◌, length, map, replicate, None}
use Rattle.std.proofs.lemmas.Bool.{cases_eq, eq-eqb, ne_eqb}
use Rattle.std.proofs.lemmas.Grind.{common_steps}
use Rattle.std.proofs.lemmas.List.{reverse-append, length-append, length-replicate, length-set}
use Rattle.std.proofs.lemmas.List.Concat.{flat_map-cons}
use Rattle.std.proofs.lemmas.List.FromFn.{map-range_with_len_more, length-map-range_with_len, get_or-map-range_with_len}
use Rattle.bit_vectors.specs.Vectors.{vector_bytes}
use Rattle.bit_vectors.specs.declared.flags.Flags.{Flags}
use Rattle.desk_ports.specs.Courses.{by_ending, bytes_for, owed, texts_of, to_output, to_report}
use Rattle.desk_ports.specs.declared.desk.Outlet.TheVariants as outlet
use Rattle.desk_ports.proofs.Courses.{bytes_for-first, bytes_for-last, bytes_for-own}
use Rattle.mask_update.specs.Histories.{IsValid, flags_after, history_of, step_of, History}
use Rattle.mask_update.proofs.StepByStep.{IsValid-history_of, length-history_of}
use Rattle.side_tables.specs.Rows.{copies_of, copy_span, names, flags_of}
use Rattle.side_tables.specs.declared.rows.CopyRow.{CopyRow}
use Rattle.packet_store.specs.Walks.{Walk, walk}
use Rattle.packet_encode.specs.Deliveries.{arrivals}
use Rattle.flight_chain.specs.Compressing.{Compression, compress_course, history_by, store_of}
use Rattle.flight_chain.specs.Recordings.{recording_of, RecordingWalk, recording_walk}
use Rattle.flight_chain.proofs.Recordings.{recording_walk_from-recording_of}
use Rattle.loss_player.specs.Played.{AreGapsShort, played_bytes, played_of, store_numbers}
use Rattle.loss_player.specs.Playing.{play_course}
use Rattle.loss_player.specs.Report.{play_report}
use Rattle.ground_chain.specs.Deliveries.{delivered_numbers, report_text, restored_bytes}
use Rattle.ground_chain.specs.Report.{restored_of}
use Rattle.ground_chain.specs.Restoring.{restore_course, store_run}
use Rattle.ground_chain.proofs.DeliveredRuns.{count-chosen, walk-played, whole-store_of, numbers-played, owed-played}
use Rattle.trial_chain.specs.Draws.{copies_draw, input_draw}
use Rattle.trial_chain.specs.Stages.{trial_played}
use Rattle.trial_chain.specs.Trials.{trial_input, trial_inputs, copies_by, row_of_one, rows_for, trial_copies, next_input, inverted_at, is_every, trial_flags, trial_history, trial_plan, IsTrial, trial_recording}

-- ---- the recording of a trial, packet by packet

recording-push : (inputs : List (List Bool)) (input : List Bool) → recording_of (inputs ++ input ∷ []) ≡ recording_of inputs ++ vector_bytes input
recording-push [] input = append-nil (vector_bytes input)
recording-push (first ∷ inputs) input = ap (λ bytes. vector_bytes first ++ bytes) (recording-push inputs input) ∙ sym (append_assoc (vector_bytes first) (recording_of inputs) (vector_bytes input))

-- one more packet
pub recording-more : (seed f t : ℕ) → recording_of (trial_inputs seed (t + 1) f) ≡ recording_of (trial_inputs seed t f) ++ vector_bytes (trial_input seed f t)
recording-more seed f t = ap recording_of (map-range_with_len_more (trial_input seed f) 0 t t (omega arith)) ∙ recording-push (trial_inputs seed t f) (trial_input seed f t)

-- ---- the rows of a trial's script, packet by packet

copies_of-push : (rows : List CopyRow) (row : CopyRow) (s : ℕ) → copies_of (rows ++ row ∷ []) s ≡ cond (names (copy_span row) s) row.copies (copies_of rows s)
copies_of-push rows row s =
    ap (λ (reversed : List CopyRow). option_map_or (λ (r : CopyRow). r.copies) (find (λ (r : CopyRow). names (copy_span r) s) reversed) 1) (reverse-append rows (row ∷ []))
    ∙ either (names (copy_span row) s)
  where
    found : Option CopyRow
    found = find (λ (r : CopyRow). names (copy_span r) s) (reverse rows)

    either : (named : Bool) → option_map_or (λ (r : CopyRow). r.copies) (cond named (Some row) found) 1 ≡ cond named row.copies (option_map_or (λ (r : CopyRow). r.copies) found 1)
    either true = refl
    either false = refl

names-row_of_one : (t copies : ℕ) → names (copy_span (row_of_one t copies)) t ≡ true
names-row_of_one t copies = grind (arith, common_steps)

names-others : (t copies s : ℕ) → s ≢ t → names (copy_span (row_of_one t copies)) s ≡ false
names-others t copies s other = grind (arith, common_steps, other)

-- what is said of the packet after the latest one, and of all others
copies-now : (seed latest : ℕ) → trial_copies seed (suc (suc latest)) (suc latest) ≡ copies_by (copies_draw seed latest)
copies-now seed latest = grind (arith, common_steps)

copies-others : (seed latest s : ℕ) → s ≢ suc latest → trial_copies seed (suc (suc latest)) s ≡ trial_copies seed (suc latest) s
copies-others seed latest zero other = refl
copies-others seed latest (suc s) other = grind (arith, common_steps, other)

copies-before : (seed latest : ℕ) → trial_copies seed (suc latest) (suc latest) ≡ 1
copies-before seed latest = grind (arith, common_steps)

copies-none : (seed s : ℕ) → trial_copies seed 1 s ≡ 1
copies-none seed zero = refl
copies-none seed (suc s) = grind (arith, common_steps)

-- one more row, or none if a packet arrives once
script-row : (seed latest copies : ℕ) (rows : List CopyRow) → copies ≡ copies_by (copies_draw seed latest) → ((s : ℕ) → copies_of rows s ≡ trial_copies seed (suc latest) s)
    → (s : ℕ) → copies_of (rows ++ row_of_one (suc latest) copies ∷ []) s ≡ trial_copies seed (suc (suc latest)) s
script-row seed latest copies rows is so s =
    copies_of-push rows (row_of_one (suc latest) copies) s ∙ elim (cases_eq s (suc latest)) [
      | inl same ↦
          ap (λ t. cond (names (copy_span (row_of_one (suc latest) copies)) t) copies (copies_of rows t)) same
          ∙ (ap (λ named. cond named copies (copies_of rows (suc latest))) (names-row_of_one (suc latest) copies) ∙ (is ∙ (sym (copies-now seed latest) ∙ ap (trial_copies seed (suc (suc latest))) (sym same))))
      | inr other ↦ ap (λ named. cond named copies (copies_of rows s)) (names-others (suc latest) copies s other) ∙ (so s ∙ sym (copies-others seed latest s other))
    ]

script-none : (seed latest copies : ℕ) (rows : List CopyRow) → copies ≡ copies_by (copies_draw seed latest) → copies ≡ 1 → ((s : ℕ) → copies_of rows s ≡ trial_copies seed (suc latest) s)
    → (s : ℕ) → copies_of rows s ≡ trial_copies seed (suc (suc latest)) s
script-none seed latest copies rows is one so s =
    so s ∙ elim (cases_eq s (suc latest)) [
      | inl same ↦ ap (trial_copies seed (suc latest)) same ∙ (copies-before seed latest ∙ (sym one ∙ (is ∙ (sym (copies-now seed latest) ∙ ap (trial_copies seed (suc (suc latest))) (sym same)))))
      | inr other ↦ sym (copies-others seed latest s other)
    ]

pub script-start : (seed : ℕ) (rows : List CopyRow) → rows ≡ [] → (s : ℕ) → copies_of rows s ≡ trial_copies seed 1 s
script-start seed rows none s = ap (λ (r : List CopyRow). copies_of r s) none ∙ sym (copies-none seed s)

-- the rows that the packet after the latest one needs
pub script-more : (seed latest copies : ℕ) (rows : List CopyRow) → copies ≡ copies_by (copies_draw seed latest) → ((s : ℕ) → copies_of rows s ≡ trial_copies seed (suc latest) s)
    → (s : ℕ) → copies_of (rows ++ rows_for (suc latest) copies) s ≡ trial_copies seed (suc (suc latest)) s
script-more seed latest copies rows is so s = elim (cases_eq copies 1) [
  | inl one ↦
      ap (λ once. copies_of (rows ++ cond once [] (row_of_one (suc latest) copies ∷ [])) s) (eq-eqb copies 1 one)
      ∙ (ap (λ (all : List CopyRow). copies_of all s) (append-nil rows) ∙ script-none seed latest copies rows is one so s)
  | inr more ↦ ap (λ once. copies_of (rows ++ cond once [] (row_of_one (suc latest) copies ∷ [])) s) (ne_eqb copies 1 more) ∙ script-row seed latest copies rows is so s
]

-- ---- inputs

length-next_input : (g : ℕ) (v : List Bool) → length (next_input g v) ≡ length v
length-next_input g v = either (g % 4 == 0)
  where
    moved : List Bool
    moved = inverted_at v (length v - 1)

    either : (also : Bool) → length (cond also (inverted_at moved (g / 4 % length v)) moved) ≡ length v
    either true = length-set _ _ _ ∙ length-set _ _ _
    either false = length-set _ _ _

length-input : (seed f t : ℕ) → length (trial_input seed f t) ≡ f
unfolding trial_input
length-input seed f zero = length-replicate f false
length-input seed f (suc t) = length-next_input (input_draw seed t) (trial_input seed f t) ∙ length-input seed f t

pub length-inputs : (seed packets f : ℕ) → length (trial_inputs seed packets f) ≡ packets
length-inputs seed packets f = length-map-range_with_len (trial_input seed f) 0 packets

pub places-inputs : (seed packets f : ℕ) → All (λ input. length input ≡ f) (trial_inputs seed packets f)
places-inputs seed packets f = λ k d within.
    let lt : k < packets = omega (arith, within, length-inputs seed packets f) in
    ap length (get_or-map-range_with_len (trial_input seed f) 0 packets k k d lt (omega arith)) ∙ length-input seed f k

-- ---- flags

every_20 : (t : ℕ) → t ≤ 4294967295 → names (record { first = 20; last = 4294967295; step = 20 }) t ≡ is_every 20 t
every_20 t most = grind (arith, common_steps, most)

every_50 : (t : ℕ) → t ≤ 4294967295 → names (record { first = 50; last = 4294967295; step = 50 }) t ≡ is_every 50 t
every_50 t most = grind (arith, common_steps, most)

every_100 : (t : ℕ) → t ≤ 4294967295 → names (record { first = 100; last = 4294967295; step = 100 }) t ≡ is_every 100 t
every_100 t most = grind (arith, common_steps, most)

-- ---- copies

pub most_copies : (seed packets t : ℕ) → trial_copies seed packets t ≤ 2
most_copies seed packets zero = omega arith
most_copies seed packets (suc t) = grind (arith, common_steps)

few_arrivals : (copies : ℕ → ℕ) → ((t : ℕ) → copies t ≤ 2) → (from n : ℕ) → length (flat_map (λ t. replicate (copies t) t) (range_with_len from n)) ≤ 2 * n
few_arrivals copies most from zero = omega arith
few_arrivals copies most from (suc n) =
    let first = length-replicate (copies from) from in
    let joined = ap length (flat_map-cons (λ t. replicate (copies t) t) from (range_with_len (from + 1) n)) ∙ length-append (replicate (copies from) from) (flat_map (λ t. replicate (copies t) t) (range_with_len (from + 1) n)) in
    omega (arith, joined, first, most from, few_arrivals copies most (from + 1) n)

pub few-arrivals : (seed packets n : ℕ) → length (arrivals (trial_copies seed packets) n) ≤ 2 * n
few-arrivals seed packets n = few_arrivals (trial_copies seed packets) (most_copies seed packets) 0 n

-- so few packets can have no long gap
pub AreGapsShort-few : (copies : ℕ → ℕ) (n : ℕ) → n ≤ 10000 → AreGapsShort copies n
AreGapsShort-few copies n few = record { first = λ t within first. omega (arith, within, few); between = λ s t within next. omega (arith, within, few) }

-- what the schedule says
plan_says : (t : ℕ) → t ≤ 4294967295 → flags_of trial_plan t ≡ trial_flags t
plan_says t most = λ i. record { p = p i; f = f i; r = r i }
  where
    p : (flags_of trial_plan t).p ≡ is_every 20 t
    p = ap (λ named. (named && true) || ((names (record { first = 50; last = 4294967295; step = 50 }) t && false) || ((names (record { first = 100; last = 4294967295; step = 100 }) t && false) || false))) (every_20 t most) ∙ grind (arith, common_steps)

    f : (flags_of trial_plan t).f ≡ is_every 50 t
    f = ap (λ named. (names (record { first = 20; last = 4294967295; step = 20 }) t && false) || ((named && true) || ((names (record { first = 100; last = 4294967295; step = 100 }) t && false) || false))) (every_50 t most) ∙ grind (arith, common_steps)

    r : (flags_of trial_plan t).r ≡ is_every 100 t
    r = ap (λ named. (names (record { first = 20; last = 4294967295; step = 20 }) t && false) || ((names (record { first = 50; last = 4294967295; step = 50 }) t && false) || ((named && true) || false))) (every_100 t most) ∙ grind (arith, common_steps)

-- the steps of inputs are the same under flags that are the same for them
same_steps : (inputs : List (List Bool)) (from : ℕ) (a b : ℕ → Flags) (robust : ℕ → ℕ) → ((t : ℕ) → t < from + length inputs → a t ≡ b t) → map (step_of a robust) (enumerate_from from inputs) ≡ map (step_of b robust) (enumerate_from from inputs)
same_steps [] from a b robust same = refl
same_steps (input ∷ inputs) from a b robust same = λ i.
    record { input = input; flags = flags_after (robust from) from (same from (omega arith) i); robust = robust from } ∷ same_steps inputs (from + 1) a b robust (λ t lt. same t (omega (arith, lt))) i

pub history-planned : (inputs : List (List Bool)) (robust : ℕ → ℕ) (f : ℕ) (mask : List Bool) → length inputs ≤ 10000 → history_of inputs (flags_of trial_plan) robust f mask ≡ history_of inputs trial_flags robust f mask
history-planned inputs robust f mask few = λ i. record { places = f; first_mask = mask; steps = same_steps inputs 0 (flags_of trial_plan) trial_flags robust (λ t lt. plan_says t (omega (arith, lt, few))) i }

-- the history of a trial is valid
pub IsValid-trial : (seed packets f robust : ℕ) → 1 ≤ f → f ≤ 4096 → packets ≤ 10000 → robust ≤ 7 → IsValid (trial_history seed packets f robust)
IsValid-trial seed packets f robust some most few least =
    let places = length-replicate f false in
    IsValid-history_of (trial_inputs seed packets f) trial_flags (λ _. robust) f (replicate f false) (omega (arith, places, some), omega (arith, places, most)) places (omega (arith, length-inputs seed packets f, few)) (places-inputs seed packets f)
    (λ t. least)

pub length-steps : (seed packets f robust : ℕ) → length (trial_history seed packets f robust).steps ≡ packets
length-steps seed packets f robust = length-history_of (trial_inputs seed packets f) trial_flags (λ _. robust) f (replicate f false) ∙ length-inputs seed packets f

-- ---- what the three runs of a trial owe

-- the flight of a trial
abbrev pub trial_flight : ℕ → ℕ → Compression
trial_flight f robust = record { places = f; robust = robust; apid = 100; mask = replicate f false; rows = record { flags = trial_plan; robust = [] } }

walk-trial : (seed packets f robust : ℕ) → IsTrial packets f robust → recording_walk f (trial_recording seed packets f) ≡ record { inputs = trial_inputs seed packets f; rest = []; ending = None }
walk-trial seed packets f robust trial =
    recording_walk_from-recording_of f 0 (trial_inputs seed packets f) trial.places (places-inputs seed packets f) (omega (arith, trial.few, length-inputs seed packets f))

pub whole-recording : (seed packets f robust : ℕ) → IsTrial packets f robust → (compress_course (trial_flight f robust) (trial_recording seed packets f)).ending ≡ None
whole-recording seed packets f robust trial = ap (λ (w : RecordingWalk). w.ending) (walk-trial seed packets f robust trial)

pub owed-recording : (seed packets f robust : ℕ) → IsTrial packets f robust → (texts_of (owed (compress_course (trial_flight f robust) (trial_recording seed packets f)))).output ≡ store_of (trial_history seed packets f robust) 100
owed-recording seed packets f robust trial =
    let k = trial_flight f robust in
    let store = store_of (history_by k (trial_inputs seed packets f)) 100 in
    ap (λ (w : RecordingWalk). (texts_of (by_ending w.ending (to_output (store_of (history_by k w.inputs) 100)) [])).output) (walk-trial seed packets f robust trial)
    ∙ (ap (bytes_for outlet.Main) (append-nil (to_output store)) ∙ bytes_for-own outlet.Main store
    ∙ ap (λ (h : History). store_of h 100) (history-planned (trial_inputs seed packets f) (λ _. robust) f (replicate f false) (omega (arith, trial.few, length-inputs seed packets f))))

-- ---- playing

valid_trial : (seed packets f robust : ℕ) → IsTrial packets f robust → IsValid (trial_history seed packets f robust)
valid_trial seed packets f robust trial = IsValid-trial seed packets f robust trial.places trial.most trial.few trial.required

pub whole-store : (seed packets f robust : ℕ) → IsTrial packets f robust → (walk (Some 100) (store_of (trial_history seed packets f robust) 100)).ending ≡ None
whole-store seed packets f robust trial = whole-store_of (trial_history seed packets f robust) 100 (valid_trial seed packets f robust trial) (omega arith)

pub numbers-store : (seed packets f robust : ℕ) (copies : ℕ → ℕ) → IsTrial packets f robust → store_numbers copies 100 (store_of (trial_history seed packets f robust) 100) ≡ played_of copies packets
numbers-store seed packets f robust copies trial =
    ap (played_of copies) (count-chosen (trial_history seed packets f robust) 100 (valid_trial seed packets f robust trial) (omega arith) ∙ length-steps seed packets f robust)

pub owed-store : (seed packets f robust : ℕ) (copies : ℕ → ℕ) → IsTrial packets f robust
    → texts_of (owed (play_course copies 100 (store_of (trial_history seed packets f robust) 100)))
    ≡ record { output = played_bytes copies 100 (store_of (trial_history seed packets f robust) 100); report = play_report (played_of copies packets) }
owed-store seed packets f robust copies trial =
    let store = store_of (trial_history seed packets f robust) 100 in
    ap (λ ending. texts_of (by_ending ending (to_output (played_bytes copies 100 store)) (to_report (play_report (store_numbers copies 100 store))))) (whole-store seed packets f robust trial)
    ∙ ((λ i. record { output = bytes_for-first outlet.Main (played_bytes copies 100 store) (play_report (store_numbers copies 100 store)) i; report = bytes_for-last outlet.Report (played_bytes copies 100 store) (play_report (store_numbers copies 100 store)) i })
    ∙ λ i. record { output = played_bytes copies 100 store; report = play_report (numbers-store seed packets f robust copies trial i) })

-- ---- restoring

pub whole-played : (seed packets f robust : ℕ) → IsTrial packets f robust → (walk (Some 100) (trial_played seed packets f robust)).ending ≡ None
whole-played seed packets f robust trial =
    let n = length-steps seed packets f robust in
    ap (λ (w : Walk). w.ending) (walk-played (trial_history seed packets f robust) (trial_copies seed packets) 100 (valid_trial seed packets f robust trial) (omega arith)
    (omega (arith, trial.few, n, few-arrivals seed packets (length (trial_history seed packets f robust).steps))))

pub owed-restored : (seed packets f robust : ℕ) → IsTrial packets f robust → texts_of (owed (restore_course f 100 (trial_played seed packets f robust)))
    ≡ record { output = restored_bytes (trial_history seed packets f robust) (trial_copies seed packets); report = report_text (trial_history seed packets f robust) (trial_copies seed packets) }
owed-restored seed packets f robust trial =
    owed-played (trial_history seed packets f robust) (trial_copies seed packets) 100 (valid_trial seed packets f robust trial) (omega arith)
    (AreGapsShort-few (trial_copies seed packets) (length (trial_history seed packets f robust).steps) (omega (arith, trial.few, length-steps seed packets f robust))) (whole-played seed packets f robust trial)

pub numbers-restored : (seed packets f robust : ℕ) → IsTrial packets f robust → restored_of (store_run f 100 (trial_played seed packets f robust)) ≡ delivered_numbers (trial_history seed packets f robust) (trial_copies seed packets)
numbers-restored seed packets f robust trial =
    numbers-played (trial_history seed packets f robust) (trial_copies seed packets) 100 (valid_trial seed packets f robust trial) (omega arith)
    (AreGapsShort-few (trial_copies seed packets) (length (trial_history seed packets f robust).steps) (omega (arith, trial.few, length-steps seed packets f robust))) (whole-played seed packets f robust trial)
