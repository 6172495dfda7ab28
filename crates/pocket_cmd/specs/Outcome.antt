-- What a command leaves of a desk, by the way it ended.
use Rattle.std.specs.Prelude.{◌≡◌, ◌≢◌, ◌<◌, ◌≤◌, ◌↔◌, ℕ, ◌⊎◌, nat_lt, List, length, Option, Some, None, Result, Ok, Err, is_some, IsSome, if◌then◌else◌}
use Rattle.desk_ports.specs.declared.desk.Inlet.{Inlet}
use Rattle.desk_ports.specs.declared.desk.Inlet.TheVariants as inlet
use Rattle.desk_ports.specs.Courses.{Course}
use Rattle.desk_ports.specs.Meanings.{Meanings, Counts, Rose, Stop, Data, ReadFault, WriteFault}
use Rattle.pocket_cmd.specs.Courses.{DataFault, course_of, bad_row_of, bad_script_row_of}
use Rattle.pocket_cmd.specs.declared.status.Status.{Status}
use Rattle.pocket_cmd.specs.declared.status.Status.TheVariants.{Refused}
use Rattle.pocket_cmd.specs.declared.status.Refusal.{Refusal}
use Rattle.pocket_cmd.specs.declared.status.Refusal.TheVariants as refusal
use Rattle.pocket_cmd.specs.Command.{Names, Command, names_of}
use Rattle.pocket_cmd.specs.Unfed.{EndsBy, IsCutOffBy, IsCutShortBy}
use Rattle.pocket_cmd.specs.Status.{BadText, Class, class_of, refusal_for, status_of, status_by}
use Rattle.pocket_cmd.specs.Status as class
use Rattle.pocket_cmd.specs.Openings.{AreKeptUnder, IsText, IsTextLong, IsTextReadTo, IsTextCutOff, IsTextUnread, KeepsAllBut, with_text, all_opened, all_finished, IsHalfOpened, IsHalfKept, input_given, side_given}

-- ---- after all texts

-- the input has these bytes, which are those kept under its name, if the desk tells them, and none if there is no input;
-- and this holds of the desk at which all names are opened
pub record OnceOpened (names : Names) (old : Meanings) (After : Meanings → Type 0) : Type 0 where
  pub input : List ℕ
  pub kept : AreKeptUnder old names.input input
  pub after : After (all_opened names old input)

-- all names are opened
pub record AreOpened (names : Names) (old start : Meanings) : Type 0 where
  pub input : List ℕ
  pub kept : AreKeptUnder old names.input input
  pub is : start ≡ all_opened names old input

-- if the run has no fault, the outputs are finished
abbrev pub finished_where : Option DataFault → Option (List ℕ) → Meanings → Meanings
finished_where None report m = all_finished report m
finished_where (Some fault) report m = m

-- the run is done, and the outputs are finished if it has no fault
pub record IsRunOut (names : Names) (course : List ℕ → Course DataFault) (ending : Option DataFault) (start new : Meanings) : Type 0 where
  pub end : Meanings
  pub ran : EndsBy (is_some names.input) course start end ending
  pub is : new ≡ finished_where ending names.report end

-- the outputs of a run that has no fault were not finished
pub record IsUnfinished (names : Names) (course : List ℕ → Course DataFault) (start new : Meanings) : Type 0 where
  pub end : Meanings
  pub ran : EndsBy (is_some names.input) course start end None
  pub is : IsHalfKept names.report end new

-- an output was not opened
pub record IsUnopened (names : Names) (old new : Meanings) : Type 0 where
  pub input : List ℕ
  pub kept : AreKeptUnder old names.input input
  pub is : IsHalfOpened names old new input

-- the course of the input ends so, and all that it owes stands
abbrev pub RunStands : Names → (List ℕ → Course DataFault) → Meanings → Meanings → Option DataFault → Type 0
RunStands names course old new ending = OnceOpened names old (λ start. IsRunOut names course ending start new)

-- reading failed: the input was not opened; or what is owed for the bytes that were moved before the failing read
-- stands, and nothing is kept
abbrev pub HasRunReadFailed : Names → (List ℕ → Course DataFault) → Meanings → Meanings → Type 0
HasRunReadFailed names course old new = (IsSome names.input × (new ≡ old)) ⊎ OnceOpened names old (λ start. IsCutOffBy (is_some names.input) course start new)

-- writing failed: an output was not opened; or a front of what is owed stands, and nothing is kept; or the outputs were not
-- finished
abbrev pub HasRunWriteFailed : Names → (List ℕ → Course DataFault) → Meanings → Meanings → Type 0
HasRunWriteFailed names course old new =
    IsUnopened names old new
    ⊎ (OnceOpened names old (λ start. IsCutShortBy (is_some names.input) course start new)
    ⊎ OnceOpened names old (λ start. IsUnfinished names course start new))

-- after a run, by its answer
abbrev pub AfterNames : Names → (List ℕ → Course DataFault) → Meanings → Meanings → Result (Unit {0}) (Stop DataFault) → Type 0
AfterNames names course old new (Ok done) = RunStands names course old new None
AfterNames names course old new (Err (Data fault)) = RunStands names course old new (Some fault)
AfterNames names course old new (Err ReadFault) = HasRunReadFailed names course old new
AfterNames names course old new (Err WriteFault) = HasRunWriteFailed names course old new

-- ---- after the side input

-- a text that comes over this inlet is this, if the desk tells it, is within its limit, and is read; and this holds by the
-- text from there on
pub record OnceTextRead (i : Inlet) (name : Option (List ℕ)) (old : Meanings) (After : List ℕ → Meanings → Type 0) : Type 0 where
  pub text : List ℕ
  pub told : IsText old i name text
  pub within : length text ≤ 1048576
  pub after : After text (with_text old i name)

-- it is too long, it was read to its limit and one byte, and nothing changed but that
pub record IsTooLong (i : Inlet) (name : Option (List ℕ)) (old new : Meanings) : Type 0 where
  pub long : IsTextLong old i name
  pub read : IsTextReadTo 1048577 old i name new
  pub keeps : KeepsAllBut i name old new

-- what is wrong with it, whose first record that is no row is this, and what stands then
abbrev pub HasBadText : Inlet → Option (List ℕ) → (List ℕ → Option ℕ) → Meanings → Meanings → BadText → Type 0
HasBadText i name bad_row old new class.Long = IsTooLong i name old new
HasBadText i name bad_row old new (class.Row row) = OnceTextRead i name old (λ text start. (bad_row text ≡ Some row) × (new ≡ start))

-- reading it failed, and nothing changed but what comes over this inlet, of which a front was read, if the desk tells it
abbrev pub HasTextReadFailed : Inlet → Option (List ℕ) → Meanings → Meanings → Type 0
HasTextReadFailed i name old new = KeepsAllBut i name old new × IsTextUnread 1048577 old i name new

-- it is within its limit, and each of its records is a row
abbrev pub IsTextRight : (List ℕ → Option ℕ) → List ℕ → Type 0
IsTextRight bad_row text = (length text ≤ 1048576) × (bad_row text ≡ None)

-- the names that a run opens: all but an input that is a text, which was read before
abbrev pub left_to_open : Option (List ℕ → Option ℕ) → Names → Names
left_to_open None names = names
left_to_open (Some bad_row) names = record names { input = None }

-- All texts are read, and this holds from there on, of the names that are left to open and of the course of an input. If the
-- input is a text, the course is that of this text.
abbrev pub OnceAllRead : Option (List ℕ → Option ℕ) → Names → (List ℕ → Course DataFault) → Meanings → (Names → (List ℕ → Course DataFault) → Meanings → Type 0) → Type 0
OnceAllRead None names course old After = After names course old
OnceAllRead (Some bad_row) names course old After =
    OnceTextRead inlet.Main names.input old (λ text start. (bad_row text ≡ None) × After (left_to_open (Some bad_row) names) (λ _. course text) start)

-- a side text is refused at its first record that is no row, if that is this; or memory was not found
abbrev pub IsRowRefused : Option ℕ → Class → Type 0
IsRowRefused bad_row (class.Text inlet.Side (class.Row row)) = bad_row ≡ Some row
IsRowRefused bad_row (class.Text inlet.Side class.Long) = ⊥
IsRowRefused bad_row (class.Text inlet.Main bad) = ⊥
IsRowRefused bad_row (class.Word word) = ⊥
IsRowRefused bad_row (class.Data fault) = ⊥
IsRowRefused bad_row class.Reading = ⊥
IsRowRefused bad_row class.Writing = ⊥
IsRowRefused bad_row class.Memory = Unit

-- an input that is a text is refused, or was not read, or memory was not found; and what stands then
abbrev pub IsTextRefused : (List ℕ → Option ℕ) → Option (List ℕ) → Meanings → Meanings → Class → Type 0
IsTextRefused bad_row input old new (class.Text inlet.Main bad) = HasBadText inlet.Main input bad_row old new bad
IsTextRefused bad_row input old new (class.Text inlet.Side bad) = ⊥
IsTextRefused bad_row input old new (class.Word word) = ⊥
IsTextRefused bad_row input old new (class.Data fault) = ⊥
IsTextRefused bad_row input old new class.Reading = HasTextReadFailed inlet.Main input old new
IsTextRefused bad_row input old new class.Writing = ⊥
IsTextRefused bad_row input old new class.Memory = KeepsAllBut inlet.Main input old new

abbrev pub IsScriptRefused : Option (List ℕ → Option ℕ) → Option (List ℕ) → Meanings → Meanings → Class → Type 0
IsScriptRefused None input old new why = ⊥
IsScriptRefused (Some bad_row) input old new why = IsTextRefused bad_row input old new why

-- after a command whose side input has this text, if its run was not begun: an input that is a text is read only after a side
-- text that is right
abbrev pub IsNotBegun : Command → List ℕ → Meanings → Meanings → Class → Type 0
IsNotBegun command text old new why =
    (IsRowRefused (bad_row_of command text) why × (new ≡ old))
    ⊎ ((bad_row_of command text ≡ None) × IsScriptRefused (bad_script_row_of command) (names_of command).input old new why)

-- the same, if its run was begun, by how that ended: a run is begun only after a side text that is right
abbrev pub IsBegun : Command → List ℕ → Meanings → Meanings → Result (Unit {0}) (Stop DataFault) → Type 0
IsBegun command text old new ended =
    (bad_row_of command text ≡ None)
    × OnceAllRead (bad_script_row_of command) (names_of command) (course_of command text) old (λ names course start. AfterNames names course start new ended)

abbrev pub AfterTextClass : Command → List ℕ → Meanings → Meanings → Class → Type 0
AfterTextClass command text old new (class.Word word) = ⊥
AfterTextClass command text old new (class.Text i bad) = IsNotBegun command text old new (class.Text i bad)
AfterTextClass command text old new (class.Data fault) = IsBegun command text old new (Err (Data fault))
AfterTextClass command text old new class.Reading = IsNotBegun command text old new class.Reading ⊎ IsBegun command text old new (Err ReadFault)
AfterTextClass command text old new class.Writing = IsBegun command text old new (Err WriteFault)
AfterTextClass command text old new class.Memory = IsNotBegun command text old new class.Memory

abbrev pub AfterText : Command → List ℕ → Meanings → Meanings → Result (Unit {0}) Refusal → Type 0
AfterText command text old new (Ok done) = IsBegun command text old new (Ok done)
AfterText command text old new (Err refusal) = AfterTextClass command text old new (class_of refusal)

-- ---- from the words on

-- the side input is read, and this holds by its text from there on
abbrev pub OnceSideRead : Command → Meanings → (List ℕ → Meanings → Type 0) → Type 0
OnceSideRead command old After = OnceTextRead inlet.Side (names_of command).side old After

-- The side text is right, the course of the input ends so, and all that it owes stands; nothing else changed but what reading
-- the texts, opening and finishing change.
abbrev pub Stands : Command → Meanings → Meanings → Option DataFault → Type 0
Stands command old new ending = OnceSideRead command old (λ text start.
    (bad_row_of command text ≡ None)
    × OnceAllRead (bad_script_row_of command) (names_of command) (course_of command text) start (λ names course start. RunStands names course start new ending))

-- reading failed: that of the side input, or of an input that is a text, and nothing changed but these; or what is owed for the
-- bytes that were moved before the failing read stands, and nothing is kept. So a command that reads nothing has no such answer.
abbrev pub HasReadFailed : Command → Meanings → Meanings → Type 0
HasReadFailed command old new =
    (IsSome (names_of command).side × HasTextReadFailed inlet.Side (names_of command).side old new)
    ⊎ OnceSideRead command old (λ text start. AfterTextClass command text start new class.Reading)

-- writing failed: an output was not opened; or a front of what is owed stands, and nothing is kept; or the outputs were not
-- finished
abbrev pub HasWriteFailed : Command → Meanings → Meanings → Type 0
HasWriteFailed command old new = OnceSideRead command old (λ text start. AfterTextClass command text start new class.Writing)

-- nothing changed but the side input, or but that and an input that is a text
abbrev pub IsUntouched : Command → Meanings → Meanings → Type 0
IsUntouched command old new =
    KeepsAllBut inlet.Side (names_of command).side old new ⊎ OnceSideRead command old (λ text start. IsNotBegun command text start new class.Memory)

-- ---- by the answer

-- after a command
abbrev pub AfterClass : Command → Meanings → Meanings → Class → Type 0
AfterClass command old new (class.Word word) = ⊥
AfterClass command old new (class.Text inlet.Side bad) = HasBadText inlet.Side (names_of command).side (bad_row_of command) old new bad
AfterClass command old new (class.Text inlet.Main bad) = OnceSideRead command old (λ text start. (bad_row_of command text ≡ None) × IsScriptRefused (bad_script_row_of command) (names_of command).input start new (class.Text inlet.Main bad))
AfterClass command old new (class.Data fault) = Stands command old new (Some fault)
AfterClass command old new class.Reading = HasReadFailed command old new
AfterClass command old new class.Writing = HasWriteFailed command old new
AfterClass command old new class.Memory = IsUntouched command old new

abbrev pub AfterRefusal : Command → Meanings → Meanings → Refusal → Type 0
AfterRefusal command old new refusal = AfterClass command old new (class_of refusal)

abbrev pub AfterCommand : Command → Meanings → Meanings → Result (Unit {0}) Refusal → Type 0
AfterCommand command old new (Ok done) = Stands command old new None
AfterCommand command old new (Err refusal) = AfterRefusal command old new refusal

-- ---- which answer

-- the answer that a text gives by its first record that is no row, and if it may be too long, or this one
abbrev pub by_row : Inlet → Option ℕ → Status → Status
by_row i None status = status
by_row i (Some row) status = Refused (refusal_for i (class.Row row))

abbrev pub by_text : Inlet → List ℕ → Option ℕ → Status → Status
by_text i text bad_row status = if nat_lt 1048576 (length text) then Refused (refusal_for i class.Long) else by_row i bad_row status

-- the same of an input that is a text
abbrev pub by_script : Option (List ℕ → Option ℕ) → List ℕ → Status → Status
by_script None input status = status
by_script (Some bad_row) input status = by_text inlet.Main input (bad_row input) status

-- the answer that the side text and the course of the input give
abbrev pub answer_by : Command → List ℕ → List ℕ → Status
answer_by command text input =
    by_row inlet.Side (bad_row_of command text) (by_script (bad_script_row_of command) input (status_of (course_of command text input).ending))

abbrev pub answer_to : Command → List ℕ → List ℕ → Status
answer_to command text input = if nat_lt 1048576 (length text) then Refused refusal.SideTooLong else answer_by command text input

-- no call failed, by the counts
abbrev pub NoneRose : Counts → Counts → Type 0
NoneRose old new = (¬ Rose old.reads new.reads) × (¬ Rose old.writes new.writes)

-- if the input is told, memory was found and no count rose, the answer is this one
abbrev pub IsAnsweredBy : Command → List ℕ → Meanings → Counts → Counts → Result (Unit {0}) Refusal → Type 0
IsAnsweredBy command text m old new result =
    (input : List ℕ) → input_given m (names_of command).input ≡ Some input → status_by result ≢ Refused refusal.NoMemory
    → ¬ Rose old.reads new.reads → ¬ Rose old.writes new.writes → status_by result ≡ answer_by command text input

-- the same if the side text is told too
abbrev pub IsAnswered : Command → Meanings → Counts → Counts → Result (Unit {0}) Refusal → Type 0
IsAnswered command m old new result =
    (text input : List ℕ) → side_given m (names_of command).side ≡ Some text → input_given m (names_of command).input ≡ Some input
    → status_by result ≢ Refused refusal.NoMemory → ¬ Rose old.reads new.reads → ¬ Rose old.writes new.writes
    → status_by result ≡ answer_to command text input

-- ---- a text in which something is wrong

-- this is wrong with a text
abbrev pub IsTextBad : (List ℕ → Option ℕ) → List ℕ → BadText → Type 0
IsTextBad bad_row text class.Long = 1048576 < length text
IsTextBad bad_row text (class.Row row) = (length text ≤ 1048576) × (bad_row text ≡ Some row)

-- an answer refuses a side text exactly for what is wrong with it
abbrev pub IsSideJudged : Command → List ℕ → Status → Type 0
IsSideJudged command text status = (bad : BadText) → (status ≡ Refused (refusal_for inlet.Side bad)) ↔ IsTextBad (bad_row_of command) text bad

-- reading this text failed, and then the desk is as before, or a front of the text was read and nothing else changed
abbrev pub IsTextLost : Inlet → Meanings → List ℕ → Meanings → Status → Type 0
IsTextLost i old text new status = (status ≡ Refused refusal.ReadFault) × IsTextCutOff 1048577 old i text new

-- what is wrong with this text is answered, or reading it failed
abbrev pub IsTextFirst : Inlet → Meanings → List ℕ → BadText → Meanings → Status → Type 0
IsTextFirst i old text bad new status = (status ≡ Refused (refusal_for i bad)) ⊎ IsTextLost i old text new status

-- The same of an input that is a text too, after the side text of this name: reading the side text failed, or it is read, and
-- what is wrong with the input is answered, or reading that failed.
abbrev pub IsScriptFirst : Option (List ℕ) → Meanings → List ℕ → List ℕ → BadText → Meanings → Status → Type 0
IsScriptFirst side old text input bad new status =
    IsTextLost inlet.Side old text new status ⊎ IsTextFirst inlet.Main (with_text old inlet.Side side) input bad new status
