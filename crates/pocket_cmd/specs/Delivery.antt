-- What a command that is done has written, and for which inputs it is done.
use Rattle.std.specs.Prelude.{◌≡◌, ℕ, List, length, Option, Some, None, IfSome}
use Rattle.desk_ports.specs.declared.desk.Outlet.TheVariants as outlet
use Rattle.desk_ports.specs.Courses.{OutputTexts}
use Rattle.desk_ports.specs.Meanings.{Meanings, made}
use Rattle.mask_update.specs.Histories.{History, IsValid}
use Rattle.flight_chain.specs.Recordings.{recording_walk}
use Rattle.flight_chain.specs.Compressing.{store_of, history_by}
use Rattle.loss_player.specs.Played.{AreGapsShort, played_bytes}
use Rattle.pocket_cmd.specs.declared.verbs.Verb.TheVariants.{Restore}
use Rattle.pocket_cmd.specs.Command.{Command, Names, names_of}
use Rattle.pocket_cmd.specs.Courses.{bad_row_of, bad_script_row_of, compression_by, course_of}
use Rattle.pocket_cmd.specs.Openings.{input_given}
use Rattle.pocket_cmd.specs.Outcome.{IsTextRight}
use Rattle.pocket_cmd.specs.Words.{Words, apid, bits}

-- the outputs of a command got this, if the desk tells what was written
pub record HasWritten (names : Names) (all : OutputTexts) (m : Meanings) : Type 0 where
  pub output : IfSome (made m outlet.Main) (λ bytes. bytes ≡ all.output)
  pub report : IfSome names.report (λ name. IfSome (made m outlet.Report) (λ bytes. bytes ≡ all.report))

-- a side text is within its limit, and each of its records is a row
abbrev pub IsSideRight : Command → List ℕ → Type 0
IsSideRight command text = IsTextRight (bad_row_of command) text

-- an input that is a text is right, too
abbrev pub IsScriptRight : Option (List ℕ → Option ℕ) → List ℕ → Type 0
IsScriptRight None input = Unit
IsScriptRight (Some bad_row) input = IsTextRight bad_row input

-- an input is whole: its course has no fault, whatever the side text is, and it is right if it is a text
pub record IsInputWhole (command : Command) (input : List ℕ) : Type 0 where
  pub right : IsScriptRight (bad_script_row_of command) input
  pub ends : (text : List ℕ) → (course_of command text input).ending ≡ None

-- The store that these words of `restore` name is the played store of a valid history: each packet arrives so many times, with gaps that
-- are shorter than the period of the sequence counts.
pub record IsPlayedStore (words : Words) (h : History) (copies : ℕ → ℕ) (m : Meanings) : Type 0 where
  pub valid : IsValid h
  pub places : h.places ≡ bits words
  pub gaps : AreGapsShort copies (length h.steps)
  pub told : input_given m (names_of (Restore, words)).input ≡ Some (played_bytes copies (apid words) (store_of h (apid words)))

-- the history of a recording under a schedule, by the words of `compress`
abbrev pub recorded_history : Words → List ℕ → List ℕ → History
recorded_history words text recording = history_by (compression_by words text) (recording_walk (bits words) recording).inputs
