-- The names under which a trial holds what it makes, and the desk in memory for one run of it.
use Rattle.std.specs.Coded.{Coded, code_by, coded×}
use Rattle.std.specs.FinMap as map
use Rattle.std.specs.Prelude.{◌≡◌, ℕ, List, [], ◌∷◌, Contains, Some, IsSome, codes, true, None, refl}
use Rattle.std.specs.Str.{bytes_eq}
use Rattle.desk_ports.specs.Courses.{OutputTexts, Course}
use Rattle.desk_ports.specs.Meanings.{Kept, Meanings, Counts, kept_at}
use Rattle.desk_ports.specs.MemState.{MemState, NothingFails, bytes_code, mem_meanings, state_code}
use Rattle.flight_chain.specs.Compressing.{store_of}
use Rattle.loss_player.specs.Played.{played_bytes, played_of}
use Rattle.loss_player.specs.Report.{play_report}
use Rattle.ground_chain.specs.Deliveries.{report_text, restored_bytes}
use Rattle.trial_chain.specs.Trials.{trial_apid, trial_copies, trial_history, trial_recording}

-- ---- the names under which a trial holds what it makes

abbrev pub recording_name : List ℕ
recording_name = codes "recording"

abbrev pub store_name : List ℕ
store_name = codes "store"

abbrev pub played_name : List ℕ
played_name = codes "played"

abbrev pub play_name : List ℕ
play_name = codes "play"

abbrev pub restored_name : List ℕ
restored_name = codes "restored"

abbrev pub report_name : List ℕ
report_name = codes "report"

abbrev pub trial_names : List (List ℕ)
trial_names = recording_name ∷ store_name ∷ played_name ∷ play_name ∷ restored_name ∷ report_name ∷ []

-- both outputs of a run, held under these names
abbrev pub with_outputs : Kept → List ℕ → List ℕ → OutputTexts → Kept
with_outputs kept output report all = map.insert (map.insert kept output all.output) report all.report

-- ---- what is held after each step of a trial

abbrev pub trial_store : ℕ → ℕ → ℕ → ℕ → List ℕ
trial_store seed packets f robust = store_of (trial_history seed packets f robust) trial_apid

abbrev pub trial_played : ℕ → ℕ → ℕ → ℕ → List ℕ
trial_played seed packets f robust = played_bytes (trial_copies seed packets) trial_apid (trial_store seed packets f robust)

abbrev pub played_outputs : ℕ → ℕ → ℕ → ℕ → OutputTexts
played_outputs seed packets f robust = record { output = trial_played seed packets f robust; report = play_report (played_of (trial_copies seed packets) packets) }

abbrev pub restored_outputs : ℕ → ℕ → ℕ → ℕ → OutputTexts
restored_outputs seed packets f robust = record {
  output = restored_bytes (trial_history seed packets f robust) (trial_copies seed packets);
  report = report_text (trial_history seed packets f robust) (trial_copies seed packets);
}

abbrev pub held_recording : ℕ → ℕ → ℕ → Kept
held_recording seed packets f = map.insert map.empty recording_name (trial_recording seed packets f)

abbrev pub held_store : ℕ → ℕ → ℕ → ℕ → Kept
held_store seed packets f robust = map.insert (held_recording seed packets f) store_name (trial_store seed packets f robust)

abbrev pub held_played : ℕ → ℕ → ℕ → ℕ → Kept
held_played seed packets f robust = with_outputs (held_store seed packets f robust) played_name play_name (played_outputs seed packets f robust)

abbrev pub held_restored : ℕ → ℕ → ℕ → ℕ → Kept
held_restored seed packets f robust = with_outputs (held_played seed packets f robust) restored_name report_name (restored_outputs seed packets f robust)

-- ---- what a trial holds

-- What a trial holds: the recording of its history, the store of that for its APID, the played store of its copies with its
-- report, and what is restored of that with the report. Nothing is held under any other name.
pub record HoldsTrial (seed packets f robust : ℕ) (held : Kept) : Type 0 where
  pub recording : map.get held recording_name ≡ Some (trial_recording seed packets f)
  pub store : map.get held store_name ≡ Some (store_of (trial_history seed packets f robust) trial_apid)
  pub played : map.get held played_name ≡ Some (played_bytes (trial_copies seed packets) trial_apid (store_of (trial_history seed packets f robust) trial_apid))
  pub play : map.get held play_name ≡ Some (play_report (played_of (trial_copies seed packets) packets))
  pub restored : map.get held restored_name ≡ Some (restored_bytes (trial_history seed packets f robust) (trial_copies seed packets))
  pub report : map.get held report_name ≡ Some (report_text (trial_history seed packets f robust) (trial_copies seed packets))
  pub others : (name : List ℕ) → IsSome (map.get held name) → Contains trial_names name

-- ---- A desk in memory for one run, of which no call is told to fail: what it is seen as, and what it tells

-- the desk, and the name of the run's input
pub record RunState : Type 0 where
  pub desk : MemState
  pub input : List ℕ

abbrev pub run_code : Coded RunState
run_code = code_by (MemState × List ℕ) (coded× state_code bytes_code) (λ r. (r.desk, r.input)) (λ p. record { desk = p.0; input = p.1 }) (λ _. refl)

-- no call is told to fail, and this is held
abbrev pub HoldsJust : MemState → Kept → Type 0
HoldsJust desk kept = NothingFails desk.plan × (desk.held ≡ kept)

-- no call is told to fail, and the input is held
pub record IsRunDesk (desk : MemState) (input : List ℕ) : Type 0 where
  pub nothing : NothingFails desk.plan
  pub held : IsSome (map.get desk.held input)

-- the same, and the course of the input has no fault
abbrev pub HoldsWhole : {F : Type 0} → MemState → List ℕ → (List ℕ → Course F) → Type 0
HoldsWhole desk input course = IsRunDesk desk input × ((course (kept_at desk.held input)).ending ≡ None)

-- what it tells, which is everything. It grants the input's name, and every name of an output
abbrev pub run_meanings : RunState → Meanings
run_meanings run = record (mem_meanings run.desk) { grants_in = λ name. bytes_eq name run.input }

-- its faults: none of reading, and the growths that were refused
abbrev pub run_counts : RunState → Counts
run_counts run = record { reads = 0; writes = run.desk.faults.short }

-- what it tells once the run's input and its output are opened
abbrev pub run_opened : MemState → List ℕ → List ℕ → Meanings
run_opened desk input output = record (mem_meanings desk) {
  input = record { left = Some (kept_at desk.held input); ready = true };
  output = record { made = Some []; name = Some output; ready = true };
  grants_in = λ name. bytes_eq name input;
}

-- and its report is opened too
abbrev pub run_reported : MemState → List ℕ → List ℕ → List ℕ → Meanings
run_reported desk input output report = record (run_opened desk input output) { report = record { made = Some []; name = Some report; ready = true } }
