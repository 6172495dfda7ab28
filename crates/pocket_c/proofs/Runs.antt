-- What a command over its desk leaves, by the clauses of `pocket`, and by its exit number.
use Rattle.std.specs.Prelude.{◌↔◌}
use Rattle.std.proofs.Common.{rules, arith, ℕ, ◌⊎◌, inl, inr, ◌≡◌, ◌≢◌, Bool, true, false, List, [], drop, Option, Some, Ok, Err, sym, ap, subst, ◌∙◌, refl}
use Rattle.desk_ports.specs.Meanings.{Counts, Meanings, Rose, left, next_count}
use Rattle.desk_ports.specs.MemState.{MemFaults, MemState, no_faults}
use Rattle.desk_ports.specs.declared.desk.Inlet.{Inlet}
use Rattle.desk_ports.specs.declared.desk.Inlet.TheVariants as inlet
use Rattle.mask_update.specs.Histories.{History}
use Rattle.side_tables.specs.Grammar.{bad_copy_row}
use Rattle.ground_chain.specs.Deliveries.{report_text, restored_bytes}
use Rattle.pocket_cmd.specs.Apart.{AreKeptAsMade}
use Rattle.pocket_cmd.specs.Command.{Command, command_of, names_of}
use Rattle.pocket_cmd.specs.Courses.{DataFault, bad_row_of}
use Rattle.pocket_cmd.specs.Delivery.{HasWritten, IsPlayedStore, IsSideRight, IsInputWhole}
use Rattle.pocket_cmd.specs.Courses as fault
use Rattle.pocket_cmd.specs.Kept.{Leaves}
use Rattle.pocket_cmd.specs.Openings.{AreTold, side_given}
use Rattle.pocket_cmd.specs.Outcome.{AfterRefusal, IsScriptFirst, IsSideJudged, IsTextBad, IsTextFirst, NoneRose, Stands, answer_to}
use Rattle.pocket_cmd.specs.Status.{BadText, exit_number, refusal_for, refusal_of, HasStatusCause, status_of}
use Rattle.pocket_cmd.specs.Status as cmd
use Rattle.pocket_cmd.specs.Words.{Words}
use Rattle.pocket_cmd.specs.declared.status.Refusal.{Refusal}
use Rattle.pocket_cmd.specs.declared.status.Refusal.TheVariants as refusal
use Rattle.pocket_cmd.specs.declared.status.Status.{Status}
use Rattle.pocket_cmd.specs.declared.status.Status.TheVariants as status
use Rattle.pocket_cmd.specs.declared.verbs.Verb.TheVariants.{Forecast, Restore}
use Rattle.pocket_c.specs.Bench.{BenchState}
use Rattle.pocket_c.specs.CommandDesk.{CommandState, command_counts, command_meanings, counted_reads, give_name, lack_name}
use Rattle.pocket_c.specs.Running.{HasAnswered, HasRun}

-- ---- with the exit number of an answer, the clauses hold of an answer of its kind

module _ (old new : BenchState) where
  done : HasRun old new status.Done → HasAnswered old new 0
  done ran = record { most = omega arith; done = λ _. ran; outside = λ e. search rules; words = λ e. search rules; text = λ e. search rules; faults = λ e. search rules; memory = λ e. search rules }

  outside : HasRun old new (status.Refused refusal.ReadFault) ⊎ HasRun old new (status.Refused refusal.WriteFault) → HasAnswered old new 1
  outside ran = record { most = omega arith; done = λ e. search rules; outside = λ _. ran; words = λ e. search rules; text = λ e. search rules; faults = λ e. search rules; memory = λ e. search rules }

  words : (word : ℕ) → HasRun old new (status.Refused (refusal.BadWords word)) → HasAnswered old new 2
  words word ran = record { most = omega arith; done = λ e. search rules; outside = λ e. search rules; words = λ _. (word, ran); text = λ e. search rules; faults = λ e. search rules; memory = λ e. search rules }

  text : (place : Inlet) (bad : BadText) → HasRun old new (status.Refused (refusal_for place bad)) → HasAnswered old new 3
  text place bad ran = record { most = omega arith; done = λ e. search rules; outside = λ e. search rules; words = λ e. search rules; text = λ _. (place, bad, ran); faults = λ e. search rules; memory = λ e. search rules }

  faults : (why : DataFault) → HasRun old new (status.Refused (refusal_of why)) → HasAnswered old new 4
  faults why ran = record { most = omega arith; done = λ e. search rules; outside = λ e. search rules; words = λ e. search rules; text = λ e. search rules; faults = λ _. (why, ran); memory = λ e. search rules }

  memory : HasRun old new (status.Refused refusal.NoMemory) → HasAnswered old new 5
  memory ran = record { most = omega arith; done = λ e. search rules; outside = λ e. search rules; words = λ e. search rules; text = λ e. search rules; faults = λ e. search rules; memory = λ _. ran }

  pub has_answered : (answer : Status) → HasRun old new answer → HasAnswered old new (exit_number answer)
  has_answered status.Done ran = done ran
  has_answered (status.Refused refusal.ReadFault) ran = outside (inl ran)
  has_answered (status.Refused refusal.WriteFault) ran = outside (inr ran)
  has_answered (status.Refused (refusal.BadWords word)) ran = words word ran
  has_answered (status.Refused refusal.SideTooLong) ran = text inlet.Side cmd.Long ran
  has_answered (status.Refused (refusal.BadSide row)) ran = text inlet.Side (cmd.Row row) ran
  has_answered (status.Refused refusal.ScriptTooLong) ran = text inlet.Main cmd.Long ran
  has_answered (status.Refused (refusal.BadScript row)) ran = text inlet.Main (cmd.Row row) ran
  has_answered (status.Refused (refusal.CutRecord t)) ran = faults (fault.CutRecord t) ran
  has_answered (status.Refused (refusal.SpareBit t)) ran = faults (fault.SpareBit t) ran
  has_answered (status.Refused (refusal.BadStore byte kind)) ran = faults (fault.BadStore byte kind) ran
  has_answered (status.Refused refusal.TooMany) ran = faults fault.TooMany ran
  has_answered (status.Refused refusal.NoMemory) ran = memory ran

-- ---- what a command over its desk leaves, by the clauses of `pocket`

-- the clauses of `pocket` over a desk for one command
pub record Ran (words : Words) (start after : CommandState) (answer : Status) : Type 0 where
  pub bad_words : (word : ℕ) → (answer ≡ status.Refused (refusal.BadWords word)) ↔ (command_of words ≡ Err word)
  pub not_called : (word : ℕ) → answer ≡ status.Refused (refusal.BadWords word) → command_meanings after ≡ command_meanings start
  pub stands : (ending : Option DataFault) → answer ≡ status_of ending
      → (command : Command) × (command_of words ≡ Ok command) × Stands command (command_meanings start) (command_meanings after) ending
  pub refused : (why : Refusal) (command : Command) → answer ≡ status.Refused why → command_of words ≡ Ok command
      → AfterRefusal command (command_meanings start) (command_meanings after) why
  pub leaves : (why : Refusal) (command : Command) → answer ≡ status.Refused why → command_of words ≡ Ok command
      → Leaves command (command_meanings start) (command_meanings after) why
  pub kept : (command : Command) → answer ≡ status.Done → command_of words ≡ Ok command → AreKeptAsMade (names_of command) (command_meanings after)
  pub side_text : (command : Command) (text : List ℕ) → command_of words ≡ Ok command
      → side_given (command_meanings start) (names_of command).side ≡ Some text → answer ≢ status.Refused refusal.NoMemory
      → ¬ Rose (command_counts start).reads (command_counts after).reads → IsSideJudged command text answer
  pub read_no_further : (command : Command) (text : List ℕ) → command_of words ≡ Ok command
      → side_given (command_meanings start) (names_of command).side ≡ Some text → answer ≡ status.Refused refusal.SideTooLong
      → left (command_meanings after) inlet.Side ≡ Some (drop 1048577 text)
  pub bad_side : (command : Command) (text : List ℕ) (bad : BadText) → command_of words ≡ Ok command
      → side_given (command_meanings start) (names_of command).side ≡ Some text → IsTextBad (bad_row_of command) text bad
      → answer ≢ status.Refused refusal.NoMemory → IsTextFirst inlet.Side (command_meanings start) text bad (command_meanings after) answer
  pub bad_script : (given : Words) (plan script : List ℕ) (bad : BadText) → command_of words ≡ Ok (Forecast, given)
      → AreTold (names_of (Forecast, given)) (command_meanings start) plan script → IsSideRight (Forecast, given) plan → IsTextBad bad_copy_row script bad
      → answer ≢ status.Refused refusal.NoMemory
      → IsScriptFirst (names_of (Forecast, given)).side (command_meanings start) plan script bad (command_meanings after) answer
  pub ends : (command : Command) (text input : List ℕ) → command_of words ≡ Ok command → AreTold (names_of command) (command_meanings start) text input
      → answer ≢ status.Refused refusal.NoMemory → NoneRose (command_counts start) (command_counts after) → answer ≡ answer_to command text input
  pub complete : (command : Command) (text input : List ℕ) → command_of words ≡ Ok command → AreTold (names_of command) (command_meanings start) text input
      → IsSideRight command text → IsInputWhole command input → answer ≢ status.Refused refusal.NoMemory
      → NoneRose (command_counts start) (command_counts after) → answer ≡ status.Done
  pub headline : (given : Words) (h : History) (copies : ℕ → ℕ) → command_of words ≡ Ok (Restore, given) → IsPlayedStore given h copies (command_meanings start)
      → answer ≡ status.Done
      → HasWritten (names_of (Restore, given)) (record { output = restored_bytes h copies; report = report_text h copies }) (command_meanings after)
  pub cause : HasStatusCause (command_counts start) (command_counts after) answer

-- the counts of a desk that has counted none
module _ (start after : CommandState) (none : start.desk.faults ≡ no_faults) where
  before : command_counts start ≡ record { reads = counted_reads start.lacking 0; writes = 0 }
  before = ap (λ (faults : MemFaults). record { reads = counted_reads start.lacking faults.reads; writes = faults.short }) none

  -- no count rose if none changed
  not_risen : command_counts after ≡ command_counts start → NoneRose (command_counts start) (command_counts after)
  not_risen same = subst (NoneRose (command_counts start)) (sym same) (subst (λ counts. NoneRose counts counts) (sym before) (still start.lacking)) where
    still : (lacking : Bool) → NoneRose (record { reads = counted_reads lacking 0; writes = 0 }) (record { reads = counted_reads lacking 0; writes = 0 })
    still true = ((λ h. omega (arith, h)), λ h. omega (arith, h))
    still false = ((λ h. omega (arith, h)), λ h. omega (arith, h))

  reads_by : (a b : Bool) (n : ℕ) → counted_reads b n ≡ next_count (counted_reads a 0) → a ≡ true
  reads_by true b n e = refl
  reads_by false true n e = absurd (omega (arith, e))
  reads_by false false n e = absurd (omega (arith, e))

  -- reading failed: a name is lacking
  pub read_lacking : command_counts after ≡ record (command_counts start) { reads = next_count (command_counts start).reads } → start.lacking ≡ true
  read_lacking failed = reads_by start.lacking after.lacking after.desk.faults.reads (ap (λ (counts : Counts). counts.reads) failed ∙ ap (λ (counts : Counts). next_count counts.reads) before)

  short_same : command_counts after ≡ command_counts start → after.desk.faults.short ≡ 0
  short_same same = ap (λ (counts : Counts). counts.writes) same ∙ ap (λ (counts : Counts). counts.writes) before

  short_read : command_counts after ≡ record (command_counts start) { reads = next_count (command_counts start).reads } → after.desk.faults.short ≡ 0
  short_read failed = ap (λ (counts : Counts). counts.writes) failed ∙ ap (λ (counts : Counts). counts.writes) before

  -- writing failed: one allocation was refused
  short_written : command_counts after ≡ record (command_counts start) { writes = next_count (command_counts start).writes } → after.desk.faults.short ≡ 1
  short_written failed = ap (λ (counts : Counts). counts.writes) failed ∙ ap (λ (counts : Counts). next_count counts.writes) before

  zero≢one : {n : ℕ} → n ≡ 0 → n ≡ 1 → ⊥
  zero≢one zero one = absurd (omega (arith, zero, one))

  -- what the counts tell of an answer
  pub record Told (answer : Status) : Type 0 where
    pub reads : answer ≡ status.Refused refusal.ReadFault → start.lacking ≡ true
    pub writes : (answer ≡ status.Refused refusal.WriteFault) ↔ (after.desk.faults.short ≡ 1)
    pub none_read : answer ≢ status.Refused refusal.ReadFault → ¬ Rose (command_counts start).reads (command_counts after).reads
    pub none_rose : answer ≢ status.Refused refusal.ReadFault → answer ≢ status.Refused refusal.WriteFault → NoneRose (command_counts start) (command_counts after)

  same_reads : (command_counts after).reads ≡ (command_counts start).reads → ¬ Rose (command_counts start).reads (command_counts after).reads
  same_reads e = subst (λ n. ¬ Rose (command_counts start).reads n) (sym e) (subst (λ n. ¬ Rose n n) (sym (ap (λ (counts : Counts). counts.reads) before)) (still start.lacking)) where
    still : (lacking : Bool) → ¬ Rose (counted_reads lacking 0) (counted_reads lacking 0)
    still true = λ h. omega (arith, h)
    still false = λ h. omega (arith, h)

  -- after an answer of which no count changed
  quiet : (answer : Status) → answer ≢ status.Refused refusal.ReadFault → answer ≢ status.Refused refusal.WriteFault → command_counts after ≡ command_counts start → Told answer
  quiet answer not_read not_written same = record {
    reads = λ e. absurd (not_read e);
    writes = ((λ e. absurd (not_written e)), λ e. absurd (zero≢one (short_same same) e));
    none_read = λ _. (not_risen same).0;
    none_rose = λ _ _. not_risen same;
  }

  pub has_told : (answer : Status) → HasStatusCause (command_counts start) (command_counts after) answer → Told answer
  has_told status.Done cause = quiet status.Done (λ e. cc) (λ e. cc) cause
  has_told (status.Refused refusal.ReadFault) cause = record {
    reads = λ _. read_lacking cause;
    writes = ((λ e. cc), λ e. absurd (zero≢one (short_read cause) e));
    none_read = λ h. absurd (h refl);
    none_rose = λ h _. absurd (h refl);
  }
  has_told (status.Refused refusal.WriteFault) cause = record {
    reads = λ e. cc;
    writes = ((λ _. short_written cause), λ _. refl);
    none_read = λ _. same_reads (ap (λ (counts : Counts). counts.reads) cause);
    none_rose = λ _ h. absurd (h refl);
  }
  has_told (status.Refused (refusal.BadWords word)) cause = quiet _ (λ e. cc) (λ e. cc) cause
  has_told (status.Refused refusal.SideTooLong) cause = quiet _ (λ e. cc) (λ e. cc) cause
  has_told (status.Refused (refusal.BadSide row)) cause = quiet _ (λ e. cc) (λ e. cc) cause
  has_told (status.Refused refusal.ScriptTooLong) cause = quiet _ (λ e. cc) (λ e. cc) cause
  has_told (status.Refused (refusal.BadScript row)) cause = quiet _ (λ e. cc) (λ e. cc) cause
  has_told (status.Refused (refusal.CutRecord t)) cause = quiet _ (λ e. cc) (λ e. cc) cause
  has_told (status.Refused (refusal.SpareBit t)) cause = quiet _ (λ e. cc) (λ e. cc) cause
  has_told (status.Refused (refusal.BadStore byte kind)) cause = quiet _ (λ e. cc) (λ e. cc) cause
  has_told (status.Refused refusal.TooMany) cause = quiet _ (λ e. cc) (λ e. cc) cause
  has_told (status.Refused refusal.NoMemory) cause = quiet _ (λ e. cc) (λ e. cc) cause

  -- no reading fails if no name is lacking
  pub not_read : (answer : Status) → Told answer → start.lacking ≡ false → answer ≢ status.Refused refusal.ReadFault
  not_read answer told none read = differ (told.reads read) none where
    differ : {b : Bool} → b ≡ true → b ≡ false → ⊥
    differ one other = cc

  -- an answer is this one if no call failed and memory was found; so it is if no reading failed, or memory was wanting
  pub or_memory : (answer wanted : Status) → Told answer → answer ≢ status.Refused refusal.ReadFault
      → (answer ≢ status.Refused refusal.NoMemory → NoneRose (command_counts start) (command_counts after) → answer ≡ wanted)
      → (answer ≡ wanted) ⊎ ((answer ≡ status.Refused refusal.NoMemory) ⊎ ((answer ≡ status.Refused refusal.WriteFault) × (after.desk.faults.short ≡ 1)))
  or_memory answer wanted told read by = either answer told read by where
    Either : Status → Type 0
    Either answer = (answer ≡ wanted) ⊎ ((answer ≡ status.Refused refusal.NoMemory) ⊎ ((answer ≡ status.Refused refusal.WriteFault) × (after.desk.faults.short ≡ 1)))

    By : Status → Type 0
    By answer = answer ≢ status.Refused refusal.NoMemory → NoneRose (command_counts start) (command_counts after) → answer ≡ wanted

    is : (answer : Status) → Told answer → By answer → answer ≢ status.Refused refusal.NoMemory → answer ≢ status.Refused refusal.ReadFault → answer ≢ status.Refused refusal.WriteFault → Either answer
    is answer told by memory read written = inl (by memory (told.none_rose read written))

    either : (answer : Status) → Told answer → answer ≢ status.Refused refusal.ReadFault → By answer → Either answer
    either (status.Refused refusal.NoMemory) told read by = inr (inl refl)
    either (status.Refused refusal.WriteFault) told read by = inr (inr (refl, told.writes.0 refl))
    either (status.Refused refusal.ReadFault) told read by = absurd (read refl)
    either status.Done told read by = is _ told by (λ e. cc) read (λ e. cc)
    either (status.Refused (refusal.BadWords word)) told read by = is _ told by (λ e. cc) read (λ e. cc)
    either (status.Refused refusal.SideTooLong) told read by = is _ told by (λ e. cc) read (λ e. cc)
    either (status.Refused (refusal.BadSide row)) told read by = is _ told by (λ e. cc) read (λ e. cc)
    either (status.Refused refusal.ScriptTooLong) told read by = is _ told by (λ e. cc) read (λ e. cc)
    either (status.Refused (refusal.BadScript row)) told read by = is _ told by (λ e. cc) read (λ e. cc)
    either (status.Refused (refusal.CutRecord t)) told read by = is _ told by (λ e. cc) read (λ e. cc)
    either (status.Refused (refusal.SpareBit t)) told read by = is _ told by (λ e. cc) read (λ e. cc)
    either (status.Refused (refusal.BadStore byte kind)) told read by = is _ told by (λ e. cc) read (λ e. cc)
    either (status.Refused refusal.TooMany) told read by = is _ told by (λ e. cc) read (λ e. cc)

-- ---- from the desk before to the desk after

-- the desk for a command of these words, which has counted no fault
abbrev pub begun : MemState → Words → CommandState
begun desk words = record { desk = record desk { faults = no_faults }; words = words; lacking = lack_name desk.held words }

pub has_run : (desk end : MemState) (words : Words) (after : CommandState) (answer : Status) → end ≡ after.desk → Ran words (begun desk words) after answer
    → HasRun (record { desk = desk; words = words }) (record { desk = end; words = [] }) answer
has_run desk end words after answer is ran = subst (λ (end : MemState). HasRun (record { desk = desk; words = words }) (record { desk = end; words = [] }) answer) (sym is) (record {
  granted = give_name after.words;
  words = refl;
  bad_words = ran.bad_words;
  not_called = λ word e. ap (λ (m : Meanings). record m { grants_in = λ _. true }) (ran.not_called word e);
  stands = ran.stands;
  refused = ran.refused;
  leaves = ran.leaves;
  kept = ran.kept;
  side_text = λ command text is given memory read. ran.side_text command text is given memory (told.none_read read);
  read_no_further = ran.read_no_further;
  bad_side = ran.bad_side;
  bad_script = ran.bad_script;
  ends = λ command text input is given read. or_memory start after refl answer (answer_to command text input) told read (λ memory rose. ran.ends command text input is given memory rose);
  complete = λ command text input is given none right whole. or_memory start after refl answer status.Done told (not_read start after refl answer told none) (λ memory rose. ran.complete command text input is given right whole memory rose);
  headline = ran.headline;
  reads = told.reads;
  writes = told.writes;
}) where
  start : CommandState
  start = begun desk words

  told : Told start after refl answer
  told = has_told start after refl answer ran.cause
