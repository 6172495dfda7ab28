-- What running a command at a desk in memory leaves, by its answer: the clauses of `pocket` over this desk.
use Rattle.std.specs.Prelude.{◌≡◌, ◌≢◌, ◌≤◌, ◌↔◌, ◌⊎◌, ℕ, Bool, true, false, List, [], Option, drop, Ok, Err, Some}
use Rattle.mask_update.specs.Histories.{History}
use Rattle.ground_chain.specs.Deliveries.{report_text, restored_bytes}
use Rattle.side_tables.specs.Grammar.{bad_copy_row}
use Rattle.desk_ports.specs.declared.desk.Inlet.{Inlet}
use Rattle.desk_ports.specs.declared.desk.Inlet.TheVariants as inlet
use Rattle.desk_ports.specs.Meanings.{Meanings, left}
use Rattle.desk_ports.specs.MemState.{mem_meanings}
use Rattle.pocket_cmd.specs.Apart.{AreKeptAsMade}
use Rattle.pocket_cmd.specs.Command.{Command, command_of, names_of}
use Rattle.pocket_cmd.specs.Courses.{bad_row_of, DataFault}
use Rattle.pocket_cmd.specs.Delivery.{HasWritten, IsPlayedStore, IsSideRight, IsInputWhole}
use Rattle.pocket_cmd.specs.Kept.{Leaves}
use Rattle.pocket_cmd.specs.Openings.{AreTold, side_given}
use Rattle.pocket_cmd.specs.Outcome.{AfterRefusal, IsScriptFirst, IsSideJudged, IsTextBad, IsTextFirst, Stands, answer_to}
use Rattle.pocket_cmd.specs.Status.{BadText, refusal_for, refusal_of, status_of}
use Rattle.pocket_cmd.specs.Words.{Words}
use Rattle.pocket_cmd.specs.declared.status.Refusal.{Refusal}
use Rattle.pocket_cmd.specs.declared.status.Refusal.TheVariants as refusal
use Rattle.pocket_cmd.specs.declared.status.Status.{Status}
use Rattle.pocket_cmd.specs.declared.status.Status.TheVariants as status
use Rattle.pocket_cmd.specs.declared.verbs.Verb.TheVariants.{Forecast, Restore}
use Rattle.pocket_c.specs.Bench.{BenchState}
use Rattle.pocket_c.specs.CommandDesk.{give_name, lack_name, told}

-- the words give this command
abbrev pub GivesCommand : BenchState → Command → Type 0
GivesCommand bench command = command_of bench.words ≡ Ok command

-- what the desk tells the command before it runs
abbrev pub at_first : BenchState → Meanings
at_first bench = told (give_name bench.words) bench.desk

-- memory was wanting: for the run, or for what it writes, and then one allocation was refused
abbrev pub LacksMemory : BenchState → Status → Type 0
LacksMemory new answer = (answer ≡ status.Refused refusal.NoMemory) ⊎ ((answer ≡ status.Refused refusal.WriteFault) × (new.desk.faults.short ≡ 1))

-- A command was run. No call of the desk is told to fail: reading fails only if the words give a name to what is read under which
-- nothing is kept, and writing only if an allocation is refused. Which names the desk grants after it is no matter.
pub record HasRun (old new : BenchState) (answer : Status) : Type 0 where
  pub granted : List ℕ → Bool
  pub words : new.words ≡ []
  pub bad_words : (word : ℕ) → (answer ≡ status.Refused (refusal.BadWords word)) ↔ (command_of old.words ≡ Err word)
  pub not_called : (word : ℕ) → answer ≡ status.Refused (refusal.BadWords word) → mem_meanings new.desk ≡ mem_meanings old.desk
  pub stands : (ending : Option DataFault) → answer ≡ status_of ending
      → (command : Command) × GivesCommand old command × Stands command (at_first old) (told granted new.desk) ending
  pub refused : (why : Refusal) (command : Command) → answer ≡ status.Refused why → GivesCommand old command
      → AfterRefusal command (at_first old) (told granted new.desk) why
  pub leaves : (why : Refusal) (command : Command) → answer ≡ status.Refused why → GivesCommand old command
      → Leaves command (at_first old) (told granted new.desk) why
  pub kept : (command : Command) → answer ≡ status.Done → GivesCommand old command → AreKeptAsMade (names_of command) (told granted new.desk)
  pub side_text : (command : Command) (text : List ℕ) → GivesCommand old command
      → side_given (at_first old) (names_of command).side ≡ Some text → answer ≢ status.Refused refusal.NoMemory
      → answer ≢ status.Refused refusal.ReadFault → IsSideJudged command text answer
  pub read_no_further : (command : Command) (text : List ℕ) → GivesCommand old command
      → side_given (at_first old) (names_of command).side ≡ Some text → answer ≡ status.Refused refusal.SideTooLong
      → left (told granted new.desk) inlet.Side ≡ Some (drop 1048577 text)
  pub bad_side : (command : Command) (text : List ℕ) (bad : BadText) → GivesCommand old command
      → side_given (at_first old) (names_of command).side ≡ Some text → IsTextBad (bad_row_of command) text bad
      → answer ≢ status.Refused refusal.NoMemory → IsTextFirst inlet.Side (at_first old) text bad (told granted new.desk) answer
  pub bad_script : (given : Words) (plan script : List ℕ) (bad : BadText) → GivesCommand old (Forecast, given)
      → AreTold (names_of (Forecast, given)) (at_first old) plan script → IsSideRight (Forecast, given) plan → IsTextBad bad_copy_row script bad
      → answer ≢ status.Refused refusal.NoMemory
      → IsScriptFirst (names_of (Forecast, given)).side (at_first old) plan script bad (told granted new.desk) answer
  pub ends : (command : Command) (text input : List ℕ) → GivesCommand old command → AreTold (names_of command) (at_first old) text input
      → answer ≢ status.Refused refusal.ReadFault → (answer ≡ answer_to command text input) ⊎ LacksMemory new answer
  pub complete : (command : Command) (text input : List ℕ) → GivesCommand old command → AreTold (names_of command) (at_first old) text input
      → lack_name old.desk.held old.words ≡ false → IsSideRight command text → IsInputWhole command input
      → (answer ≡ status.Done) ⊎ LacksMemory new answer
  pub headline : (given : Words) (h : History) (copies : ℕ → ℕ) → GivesCommand old (Restore, given) → IsPlayedStore given h copies (at_first old)
      → answer ≡ status.Done
      → HasWritten (names_of (Restore, given)) (record { output = restored_bytes h copies; report = report_text h copies }) (told granted new.desk)
  pub reads : answer ≡ status.Refused refusal.ReadFault → lack_name old.desk.held old.words ≡ true
  pub writes : (answer ≡ status.Refused refusal.WriteFault) ↔ (new.desk.faults.short ≡ 1)

-- the answers that an exit number comes with: there are six, and with each of them the clauses hold of an answer of its kind
pub record HasAnswered (old new : BenchState) (exit : ℕ) : Type 0 where
  pub most : exit ≤ 5
  pub done : exit ≡ 0 → HasRun old new status.Done
  pub outside : exit ≡ 1 → HasRun old new (status.Refused refusal.ReadFault) ⊎ HasRun old new (status.Refused refusal.WriteFault)
  pub words : exit ≡ 2 → (word : ℕ) × HasRun old new (status.Refused (refusal.BadWords word))
  pub text : exit ≡ 3 → (place : Inlet) × (bad : BadText) × HasRun old new (status.Refused (refusal_for place bad))
  pub faults : exit ≡ 4 → (fault : DataFault) × HasRun old new (status.Refused (refusal_of fault))
  pub memory : exit ≡ 5 → HasRun old new (status.Refused refusal.NoMemory)
