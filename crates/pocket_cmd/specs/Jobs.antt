-- What a command owes once its texts are read and all memory of its run is taken.
use Rattle.std.specs.Prelude.{◌≡◌, ℕ, List, Bool, true, false, Option, Some, None, Result, Ok, Err, is_some}
use Rattle.desk_ports.specs.declared.desk.Inlet.TheVariants as inlet
use Rattle.desk_ports.specs.Courses.{Course}
use Rattle.desk_ports.specs.Meanings.{Counts, Meanings, Stop, Data, ReadFault, WriteFault}
use Rattle.side_tables.specs.Rows.{copies_of}
use Rattle.flight_chain.specs.Compressing.{compress_course}
use Rattle.loss_player.specs.Playing.{play_course}
use Rattle.ground_chain.specs.Listing.{listing_course}
use Rattle.ground_chain.specs.Restoring.{restore_course}
use Rattle.late_window.specs.Restoring.{late_course}
use Rattle.forecast.specs.Outlooks.{foresees, forecast_text}
use Rattle.multi_ground.specs.MultiOutputs.{multi_course}
use Rattle.param_table.specs.Tabling.{table_course}
use Rattle.pocket_cmd.specs.declared.job.Job.{Job}
use Rattle.pocket_cmd.specs.declared.job.Job.TheVariants as job
use Rattle.pocket_cmd.specs.declared.status.Refusal.{Refusal}
use Rattle.pocket_cmd.specs.Command.{Command, Names, names_of}
use Rattle.pocket_cmd.specs.Courses.{bad_row_of, bad_script_row_of, course_of, text_course, with_fault, DataFault, of_recording, of_store}
use Rattle.pocket_cmd.specs.Outcome.{IsNotBegun, OnceAllRead, OnceTextRead}
use Rattle.pocket_cmd.specs.Status.{HasClassCause, class_of}
use Rattle.pocket_cmd.specs.Unfed.{EndsBy, IsCutOffBy, IsCutShortBy}

-- what a job is to do: what it owes for an input, whether it reads one, and whether it writes a report
pub record Duty : Type 0 where
  pub course : List ℕ → Course DataFault
  pub reads : Bool
  pub reports : Bool

abbrev pub duty_of : Job → Duty
duty_of (job.Compress flight) = record { course = λ input. with_fault of_recording (compress_course flight input); reads = true; reports = false }
duty_of (job.Play player) = record { course = λ input. with_fault of_store (play_course (copies_of player.rows) player.apid input); reads = true; reports = true }
duty_of (job.Restore restorer) = record { course = λ input. with_fault of_store (restore_course restorer.places restorer.apid input); reads = true; reports = true }
duty_of (job.Show lister) = record { course = λ input. with_fault of_store (listing_course lister.places lister.apid input); reads = true; reports = false }
duty_of (job.Trial text) = record { course = λ input. text_course text.items; reads = false; reports = false }
duty_of (job.Multi restorer) = record { course = λ input. with_fault of_store (multi_course restorer input); reads = true; reports = true }
duty_of (job.Late restorer) = record { course = λ input. with_fault of_store (late_course restorer.places restorer.apid restorer.window input); reads = true; reports = true }
duty_of (job.Table tabler) = record { course = λ input. with_fault of_recording (table_course tabler input); reads = true; reports = true }
duty_of (job.Forecast forecast) = record { course = λ input. text_course (forecast_text (foresees forecast.outlook) forecast.packets); reads = false; reports = false }

abbrev pub job_course : Job → List ℕ → Course DataFault
job_course job = (duty_of job).course

abbrev pub reads_input : Job → Bool
reads_input job = (duty_of job).reads

abbrev pub writes_report : Job → Bool
writes_report job = (duty_of job).reports

-- after a job, which reads an input or has none, by its answer
abbrev pub AfterJob : Bool → (List ℕ → Course DataFault) → Meanings → Meanings → Result (Unit {0}) (Stop DataFault) → Type 0
AfterJob reads course old new (Ok done) = EndsBy reads course old new None
AfterJob reads course old new (Err (Data fault)) = EndsBy reads course old new (Some fault)
AfterJob reads course old new (Err ReadFault) = IsCutOffBy reads course old new
AfterJob reads course old new (Err WriteFault) = IsCutShortBy reads course old new

-- ---- before a job

-- names have an input exactly if a job reads one, and a report exactly if it writes one
abbrev pub AreNamesOf : Job → Names → Type 0
AreNamesOf job names = (reads_input job ≡ is_some names.input) × (writes_report job ≡ is_some names.report)

-- a job does what these names and this course say, and begins here
pub record IsJobOf (job : Job) (names : Names) (course : List ℕ → Course DataFault) (start new : Meanings) : Type 0 where
  pub owes : job_course job ≡ course
  pub named : AreNamesOf job names
  pub is : new ≡ start

-- after the making of a command's job, whose side input has this text
abbrev pub AfterMaking : Command → List ℕ → Meanings → Meanings → Result Job Refusal → Type 0
AfterMaking command text old new (Ok job) = (bad_row_of command text ≡ None)
    × OnceAllRead (bad_script_row_of command) (names_of command) (course_of command text) old (λ names course start. IsJobOf job names course start new)
AfterMaking command text old new (Err refusal) = IsNotBegun command text old new (class_of refusal)

-- why it was not made: reading failed, and otherwise both counts are as before
abbrev pub HasMakingCause : {T : Type 0} → Counts → Counts → Result T Refusal → Type 0
HasMakingCause old new (Ok job) = new ≡ old
HasMakingCause old new (Err refusal) = HasClassCause old new (class_of refusal)

-- an input of this name is a right text, which is read; and this holds of it
abbrev pub IsScriptRead : Option (List ℕ) → (List ℕ → Option ℕ) → Meanings → Meanings → (List ℕ → Type 0) → Type 0
IsScriptRead name bad_row old new Holds = OnceTextRead inlet.Main name old (λ text start. (bad_row text ≡ None) × Holds text × (new ≡ start))
