-- What a command leaves and answers, from its steps: its side input, its run, and what it has written.
use Rattle.std.specs.Io.KnownBytes.{append_known, prepend_known}
use Rattle.std.specs.Option.{option_map}
use Rattle.std.proofs.Common.{◌≡◌, ℕ, List, ◌++◌, Option, Some, None, is_some, IfSome, Result, Ok, Err, inr, refl, sym, ap, ◌∙◌, subst, [], ◌≢◌, ◌<◌, ◌≤◌, inl, arith, true, false, cond, nat_lt, length}
use Rattle.std.proofs.lemmas.Bool.Decides.{nat_tests}
use Rattle.std.proofs.lemmas.Option.{same_Some}
use Rattle.desk_ports.specs.Courses.{Course, owed, texts_of}
use Rattle.desk_ports.specs.Meanings.{Stop, Data, ReadFault, WriteFault, Meanings, Counts, Kept, Rose, kept_at, left, made}
use Rattle.desk_ports.specs.declared.desk.Inlet.{Inlet}
use Rattle.desk_ports.specs.declared.desk.Inlet.TheVariants as inlet
use Rattle.desk_ports.specs.declared.desk.Outlet.TheVariants as outlet
use Rattle.desk_ports.proofs.Desks.{Rose-reads, Rose-writes}
use Rattle.pocket_cmd.specs.Command.{Names, Command, names_of}
use Rattle.pocket_cmd.specs.Courses.{DataFault, bad_script_row_of, course_of, bad_row_of}
use Rattle.pocket_cmd.specs.Delivery.{HasWritten}
use Rattle.pocket_cmd.specs.Jobs.{AfterMaking, IsJobOf, job_course}
use Rattle.pocket_cmd.specs.Openings.{AreKeptUnder, all_opened, told_bytes, input_given, with_report, with_output, with_input, all_finished, side_given, with_text, IsText, HasTextCause, IsTextLong}
use Rattle.pocket_cmd.specs.Outcome.{RunStands, AfterClass, AfterNames, AfterText, AfterTextClass, IsBegun, Stands, AfterCommand, AfterRefusal, OnceAllRead, left_to_open, IsAnsweredBy, IsNotBegun, IsScriptRefused, IsTextRight, answer_by, by_row, by_script, by_text, IsAnswered}
use Rattle.pocket_cmd.specs.Status.{HasStatusCause, IsEnded, refusal_of, refused_by, status_of, status_by, Class, HasClassCause, class_of, refusal_for, refusal_at}
use Rattle.pocket_cmd.specs.Status as class
use Rattle.pocket_cmd.specs.Unfed.{EndsBy}
use Rattle.pocket_cmd.specs.declared.job.Job.{Job}
use Rattle.pocket_cmd.specs.declared.status.Refusal.{Refusal}
use Rattle.pocket_cmd.specs.declared.status.Refusal.TheVariants as refusal
use Rattle.pocket_cmd.specs.declared.status.Status.{Status}
use Rattle.pocket_cmd.specs.declared.status.Status.TheVariants.{Done, Refused}
use Rattle.pocket_cmd.specs.declared.text.TextFault.{TextFault}
use Rattle.pocket_cmd.specs.declared.text.TextFault.TheVariants as unread
use Rattle.pocket_cmd.proofs.Faults.{class-refusal_of}

-- ---- what a command leaves and answers, from its steps

-- an input that is told is the one that was read
told_input : (held : Option Kept) (before after : Option (List ℕ)) (name input opened taken rest : List ℕ) → told_bytes held before name ≡ Some input → IfSome held (λ kept. opened ≡ kept_at kept name)
    → option_map (λ _. opened) before ≡ prepend_known taken after → IfSome after (λ bytes. bytes ≡ rest) → taken ++ rest ≡ input
told_input None before after name input opened taken rest e kept moved told = absurd cc
told_input (Some k) None after name input opened taken rest e kept moved told = absurd cc
told_input (Some k) (Some b) None name input opened taken rest e kept moved told = absurd cc
told_input (Some k) (Some b) (Some r) name input opened taken rest e kept moved told =
    ap (λ l. taken ++ l) (sym told) ∙ (sym (same_Some _ _ moved) ∙ (kept ∙ same_Some _ _ e))

left-with_report : (m : Meanings) (report : Option (List ℕ)) → left (with_report m report) inlet.Main ≡ left m inlet.Main
left-with_report m None = refl
left-with_report m (Some name) = refl

-- a run ended so, and added all that the course of this input owes to the outputs
pub record AddsOwed (course : List ℕ → Course DataFault) (start end : Meanings) (ending : Option DataFault) (input : List ℕ) : Type 0 where
  pub output : made end outlet.Main ≡ append_known (made start outlet.Main) (texts_of (owed (course input))).output
  pub report : made end outlet.Report ≡ append_known (made start outlet.Report) (texts_of (owed (course input))).report
  pub ends : (course input).ending ≡ ending

AddsOwed-by : (name : Option (List ℕ)) (names : Names) (course : List ℕ → Course DataFault) (old end : Meanings) (ending : Option DataFault) (opened input : List ℕ) → AreKeptUnder old name opened
    → EndsBy (is_some name) course (with_report (with_output (with_input old name opened) names.output) names.report) end ending → input_given old name ≡ Some input
    → AddsOwed course (with_report (with_output (with_input old name opened) names.output) names.report) end ending input
AddsOwed-by None names course old end ending opened input kept ran told =
    subst (AddsOwed course (with_report (with_output old names.output) names.report) end ending) (same_Some _ _ told) (record { output = ran.ran.output; report = ran.ran.report; ends = ran.ends })
AddsOwed-by (Some name) names course old end ending opened input kept ran told =
    let went = ran.went in
    let left_is = sym (left-with_report (with_output (with_input old (Some name) opened) names.output) names.report) in
    let input_is : ran.input ≡ input = sym went.split ∙ told_input old.held (left old inlet.Main) (left end inlet.Main) name input opened went.taken went.rest told kept (left_is ∙ went.ran.input) went.told in
    subst (AddsOwed course (with_report (with_output (with_input old (Some name) opened) names.output) names.report) end ending) input_is
    (record { output = went.ran.output; report = went.ran.report; ends = ran.ends })

-- and the input is the one that is told
pub AddsOwed-stands : (names : Names) (course : List ℕ → Course DataFault) (old new : Meanings) (ending : Option DataFault) (input : List ℕ) → (e : RunStands names course old new ending) → input_given old names.input ≡ Some input
    → AddsOwed course (all_opened names old e.input) e.after.end ending input
AddsOwed-stands names course old new ending input e told = AddsOwed-by names.input names course old e.after.end ending e.input input e.kept e.after.ran told

pub ending_is : (names : Names) (course : List ℕ → Course DataFault) (old new : Meanings) (ending : Option DataFault) (input : List ℕ) → RunStands names course old new ending → input_given old names.input ≡ Some input → (course input).ending ≡ ending
ending_is names course old new ending input e told = (AddsOwed-stands names course old new ending input e told).ends

pub status-run : (names : Names) (course : List ℕ → Course DataFault) (old new : Meanings) (counts after : Counts) (r : Result (Unit {0}) (Stop DataFault)) (input : List ℕ) → AfterNames names course old new r → HasStatusCause counts after (status_by (refused_by r)) → input_given old names.input ≡ Some input
    → ¬ Rose counts.reads after.reads → ¬ Rose counts.writes after.writes → status_by (refused_by r) ≡ status_of (course input).ending
status-run names course old new counts after (Ok done) input e cause told reads writes = ap status_of (sym (ending_is names course old new None input e told))
status-run names course old new counts after (Err (Data f)) input e cause told reads writes = ap status_of (sym (ending_is names course old new (Some f) input e told))
status-run names course old new counts after (Err ReadFault) input e cause told reads writes = absurd (reads (Rose-reads counts after cause))
status-run names course old new counts after (Err WriteFault) input e cause told reads writes = absurd (writes (Rose-writes counts after cause))

-- what stands after a run is by its answer
pub AfterText-run : (command : Command) (text : List ℕ) (old new : Meanings) (answer : Result (Unit {0}) Refusal) → IsEnded (IsBegun command text old new) answer → AfterText command text old new answer
AfterText-run command text old new answer e = subst (AfterText command text old new) (sym e.answered) (by_end e.ended e.over) where
  by_end : (r : Result (Unit {0}) (Stop DataFault)) → IsBegun command text old new r → AfterText command text old new (refused_by r)
  by_end (Ok done) e = e
  by_end (Err (Data f)) e = subst (AfterTextClass command text old new) (sym (class-refusal_of f)) e
  by_end (Err ReadFault) e = inr e
  by_end (Err WriteFault) e = e

-- ---- the answer

not_refused : {why : Refusal} → ◌≡◌ {A = Status} Done (Refused why) → ⊥
not_refused e = cc

-- what a refusal leaves
pub AfterRefusal-answer : (command : Command) (old new : Meanings) (r : Result (Unit {0}) Refusal) (why : Refusal) → AfterCommand command old new r → status_by r ≡ Refused why → AfterRefusal command old new why
AfterRefusal-answer command old new (Ok done) why e is = absurd (not_refused is)
AfterRefusal-answer command old new (Err x) why e is = subst (AfterRefusal command old new) (same_refusal is) e where
  same_refusal : {x y : Refusal} → ◌≡◌ {A = Status} (Refused x) (Refused y) → x ≡ y
  same_refusal e = cc

-- what the end of a course leaves
pub Stands-answer : (command : Command) (old new : Meanings) (r : Result (Unit {0}) Refusal) (ending : Option DataFault) → AfterCommand command old new r → status_by r ≡ status_of ending → Stands command old new ending
Stands-answer command old new (Ok done) None e is = e
Stands-answer command old new (Ok done) (Some f) e is = absurd (not_refused is)
Stands-answer command old new (Err x) None e is = absurd (not_refused (sym is))
Stands-answer command old new (Err x) (Some f) e is = subst (AfterClass command old new) (class-refusal_of f) (AfterRefusal-answer command old new (Err x) (refusal_of f) e is)

-- ---- what a command that is done has written

-- a text that was read is the one that is told
pub text_is : (o : Option (List ℕ)) (text told : List ℕ) → IfSome o (λ bytes. text ≡ bytes) → o ≡ Some told → text ≡ told
text_is None text told is e = absurd cc
text_is (Some bytes) text told is e = is ∙ same_Some _ _ e

-- and reading it leaves the input
pub given-with_side : (m : Meanings) (side input : Option (List ℕ)) → input_given (with_text m inlet.Side side) input ≡ input_given m input
given-with_side m None input = refl
given-with_side m (Some other) None = refl
given-with_side m (Some other) (Some name) = refl

-- finishing leaves what was written
pub made-finished : (report : Option (List ℕ)) (m : Meanings) → (made (all_finished report m) outlet.Main ≡ made m outlet.Main) × (made (all_finished report m) outlet.Report ≡ made m outlet.Report)
made-finished None m = (refl, refl)
made-finished (Some name) m = (refl, refl)

-- opening the report leaves the output
made-with_report : (m : Meanings) (report : Option (List ℕ)) → made (with_report m report) outlet.Main ≡ made m outlet.Main
made-with_report m None = refl
made-with_report m (Some name) = refl

-- an outlet that was opened, to which these bytes were added, has them, if it tells
written-told : (before after : Option (List ℕ)) (bytes : List ℕ) → after ≡ append_known (option_map (λ _. []) before) bytes → IfSome after (λ made. made ≡ bytes)
written-told None after bytes is = subst (λ o. IfSome o (λ made. made ≡ bytes)) (sym is) tt
written-told (Some before) after bytes is = subst (λ o. IfSome o (λ made. made ≡ bytes)) (sym is) refl

report-written : (names : Names) (report : Option (List ℕ)) (old end new : Meanings) (input bytes : List ℕ) → names.report ≡ report → new ≡ all_finished names.report end
    → made end outlet.Report ≡ append_known (made (all_opened names old input) outlet.Report) bytes → IfSome report (λ name. IfSome (made new outlet.Report) (λ made. made ≡ bytes))
report-written names None old end new input bytes is finished ran = tt
report-written names (Some name) old end new input bytes is finished ran =
    written-told (made (with_output (with_input old names.input input) names.output) outlet.Report) (made new outlet.Report) bytes
    (ap (λ m. made m outlet.Report) finished ∙ ((made-finished names.report end).1 ∙ (ran ∙ ap (λ report. append_known (made (with_report (with_output (with_input old names.input input) names.output) report) outlet.Report) bytes) is)))

run_written : (names : Names) (course : List ℕ → Course DataFault) (old new : Meanings) (input : List ℕ) → RunStands names course old new None → input_given old names.input ≡ Some input → HasWritten names (texts_of (owed (course input))) new
run_written names course old new input e told =
    let out = e.after in
    let done = AddsOwed-stands names course old new None input e told in
    record {
      output = written-told (made (with_input old names.input e.input) outlet.Main) (made new outlet.Main) (texts_of (owed (course input))).output
          (ap (λ m. made m outlet.Main) out.is ∙ ((made-finished names.report out.end).0 ∙ (done.output
          ∙ ap (λ o. append_known o (texts_of (owed (course input))).output) (made-with_report (with_output (with_input old names.input e.input) names.output) names.report))));
      report = report-written names names.report old out.end new e.input (texts_of (owed (course input))).report refl out.is done.report;
    }

-- so has one whose input is a text, which was read before
all_written : (names : Names) (course : List ℕ → Course DataFault) (script : Option (List ℕ → Option ℕ)) (old new : Meanings) (input : List ℕ) → OnceAllRead script names course old (λ names course start. RunStands names course start new None)
    → input_given old names.input ≡ Some input → HasWritten names (texts_of (owed (course input))) new
all_written names course None old new input e told = run_written names course old new input e told
all_written names course (Some bad_row) old new input e told =
    let written = run_written (left_to_open (Some bad_row) names) (λ _. course e.text) (with_text old inlet.Main names.input) new [] e.after.1 refl in
    subst (λ text. HasWritten names (texts_of (owed (course text))) new) (text_is (input_given old names.input) e.text input e.told told)
    (record { output = written.output; report = written.report })

-- a command that is done has written all that it owes
pub HasWritten-stands : (command : Command) (old new : Meanings) (text input : List ℕ) → Stands command old new None → side_given old (names_of command).side ≡ Some text → input_given old (names_of command).input ≡ Some input
    → HasWritten (names_of command) (texts_of (owed (course_of command text input))) new
HasWritten-stands command old new text input e side_told input_told =
    subst (λ t. HasWritten (names_of command) (texts_of (owed (course_of command t input))) new) (text_is (side_given old (names_of command).side) e.text text e.told side_told)
    (all_written (names_of command) (course_of command e.text) (bad_script_row_of command) (with_text old inlet.Side (names_of command).side) new input e.after.1 (given-with_side old (names_of command).side (names_of command).input ∙ input_told))

-- ---- a job that was made

module _ (job : Job) (names : Names) (course : List ℕ → Course DataFault) (old mid : Meanings) where
  abbrev pub IsMade : Option (List ℕ → Option ℕ) → Type 0
  IsMade script = OnceAllRead script names course old (λ names course start. IsJobOf job names course start mid)

  -- its run is that of the command
  run-made : (new : Meanings) (script : Option (List ℕ → Option ℕ)) → IsMade script → (r : Result (Unit {0}) (Stop DataFault)) → AfterNames (left_to_open script names) (job_course job) mid new r
      → OnceAllRead script names course old (λ names course start. AfterNames names course start new r)
  run-made new None made r e = moved names course old made e where
    moved : (names : Names) (course : List ℕ → Course DataFault) (start : Meanings) → IsJobOf job names course start mid → AfterNames names (job_course job) mid new r → AfterNames names course start new r
    moved names course start is e = subst (λ course. AfterNames names course start new r) is.owes (subst (λ m. AfterNames names (job_course job) m new r) is.is e)
  run-made new (Some bad_row) made r e = record { text = made.text; told = made.told; within = made.within; after = (made.after.0, moved (left_to_open (Some bad_row) names) (λ _. course made.text) (with_text old inlet.Main names.input) made.after.1 e) } where
    moved : (names : Names) (course : List ℕ → Course DataFault) (start : Meanings) → IsJobOf job names course start mid → AfterNames names (job_course job) mid new r → AfterNames names course start new r
    moved names course start is e = subst (λ course. AfterNames names course start new r) is.owes (subst (λ m. AfterNames names (job_course job) m new r) is.is e)

pub IsEnded-made : (command : Command) (text : List ℕ) (job : Job) (old mid new : Meanings) (answer : Result (Unit {0}) Refusal) → AfterMaking command text old mid (Ok job)
    → IsEnded (AfterNames (left_to_open (bad_script_row_of command) (names_of command)) (job_course job) mid new) answer → IsEnded (IsBegun command text old new) answer
IsEnded-made command text job old mid new answer made e =
    record { ended = e.ended; over = (made.0, run-made job (names_of command) (course_of command text) old mid new (bad_script_row_of command) made.1 e.ended e.over); answered = e.answered }

-- ---- the answer of a run

pub longer : (text : List ℕ) → 1048576 < length text → nat_lt 1048576 (length text) ≡ true
longer text h = grind (arith, nat_tests)

short : (text : List ℕ) → length text ≤ 1048576 → nat_lt 1048576 (length text) ≡ false
short text h = grind (arith, nat_tests)

-- a right text leaves the answer to what comes after it
pub by_text-right : (i : Inlet) (bad_row : List ℕ → Option ℕ) (text : List ℕ) (status : Status) → IsTextRight bad_row text → by_text i text (bad_row text) status ≡ status
by_text-right i bad_row text status right =
    ap (λ b. cond b (Refused (refusal_for i class.Long)) (by_row i (bad_row text) status)) (short text right.0) ∙ ap (λ o. by_row i o status) right.1

status-begun : (names : Names) (course : List ℕ → Course DataFault) (script : Option (List ℕ → Option ℕ)) (old new : Meanings) (counts after : Counts) (r : Result (Unit {0}) (Stop DataFault)) (input : List ℕ)
    → OnceAllRead script names course old (λ names course start. AfterNames names course start new r) → HasStatusCause counts after (status_by (refused_by r)) → input_given old names.input ≡ Some input
    → ¬ Rose counts.reads after.reads → ¬ Rose counts.writes after.writes → status_by (refused_by r) ≡ by_script script input (status_of (course input).ending)
status-begun names course None old new counts after r input e cause told reads writes = status-run names course old new counts after r input e cause told reads writes
status-begun names course (Some bad_row) old new counts after r input e cause told reads writes =
    let same : e.text ≡ input = text_is (input_given old names.input) e.text input e.told told in
    subst (λ text. status_by (refused_by r) ≡ by_script (Some bad_row) text (status_of (course text).ending)) same
    (status-run (left_to_open (Some bad_row) names) (λ _. course e.text) (with_text old inlet.Main names.input) new counts after r [] e.after.1 cause refl reads writes
    ∙ sym (by_text-right inlet.Main bad_row e.text (status_of (course e.text).ending) (e.within, e.after.0)))

-- if the side text is a table, the answer is that of the course
pub IsAnsweredBy-run : (command : Command) (text : List ℕ) (old new : Meanings) (counts after : Counts) (answer : Result (Unit {0}) Refusal) → IsEnded (IsBegun command text old new) answer
    → HasStatusCause counts after (status_by answer) → IsAnsweredBy command text old counts after answer
IsAnsweredBy-run command text old new counts after answer e cause = subst (IsAnsweredBy command text old counts after) (sym e.answered) (λ input told memory reads writes.
    status-begun (names_of command) (course_of command text) (bad_script_row_of command) old new counts after e.ended input e.over.1 (subst (λ r. HasStatusCause counts after (status_by r)) e.answered cause) told reads writes
    ∙ ap (λ o. by_row inlet.Side o (by_script (bad_script_row_of command) input (status_of (course_of command text input).ending))) (sym e.over.0))

-- ---- a run that was not begun

-- a side text is refused by its own refusals
not_side : (script : Option (List ℕ → Option ℕ)) (input : Option (List ℕ)) (old new : Meanings) (bad : class.BadText) → IsScriptRefused script input old new (class.Text inlet.Side bad) → ⊥
not_side None input old new bad e = e
not_side (Some bad_row) input old new bad e = e

not_word : (script : Option (List ℕ → Option ℕ)) (input : Option (List ℕ)) (old new : Meanings) (word : ℕ) → IsScriptRefused script input old new (class.Word word) → ⊥
not_word None input old new word e = e
not_word (Some bad_row) input old new word e = e

not_data : (script : Option (List ℕ → Option ℕ)) (input : Option (List ℕ)) (old new : Meanings) (fault : DataFault) → IsScriptRefused script input old new (class.Data fault) → ⊥
not_data None input old new fault e = e
not_data (Some bad_row) input old new fault e = e

not_writing : (script : Option (List ℕ → Option ℕ)) (input : Option (List ℕ)) (old new : Meanings) → IsScriptRefused script input old new class.Writing → ⊥
not_writing None input old new e = e
not_writing (Some bad_row) input old new e = e

pub AfterTextClass-not_begun : (command : Command) (text : List ℕ) (old new : Meanings) (why : Class) → IsNotBegun command text old new why → AfterTextClass command text old new why
AfterTextClass-not_begun command text old new (class.Word word) (inl e) = e.0
AfterTextClass-not_begun command text old new (class.Word word) (inr e) = not_word (bad_script_row_of command) (names_of command).input old new word e.1
AfterTextClass-not_begun command text old new (class.Text i bad) e = e
AfterTextClass-not_begun command text old new (class.Data fault) (inl e) = absurd e.0
AfterTextClass-not_begun command text old new (class.Data fault) (inr e) = absurd (not_data (bad_script_row_of command) (names_of command).input old new fault e.1)
AfterTextClass-not_begun command text old new class.Reading e = inl e
AfterTextClass-not_begun command text old new class.Writing (inl e) = absurd e.0
AfterTextClass-not_begun command text old new class.Writing (inr e) = absurd (not_writing (bad_script_row_of command) (names_of command).input old new e.1)
AfterTextClass-not_begun command text old new class.Memory e = e

module _ (command : Command) (text : List ℕ) (old new : Meanings) where
  abbrev pub IsRefused : Refusal → Type 0
  IsRefused why = IsNotBegun command text old new (class_of why)

  -- the answer to an input that is told
  abbrev pub IsAnswerTo : Counts → Counts → Refusal → Type 0
  IsAnswerTo counts after why = (input : List ℕ) → input_given old (names_of command).input ≡ Some input → status_by (Err why) ≢ Refused refusal.NoMemory → ¬ Rose counts.reads after.reads → Refused why ≡ answer_by command text input

  side-answer : (row input : List ℕ) (n : ℕ) → bad_row_of command text ≡ Some n → Refused (refusal.BadSide n) ≡ answer_by command text input
  side-answer row input n bad = sym (ap (λ o. by_row inlet.Side o (by_script (bad_script_row_of command) input (status_of (course_of command text input).ending))) bad)

  script-answer : (script : Option (List ℕ → Option ℕ)) (bad : class.BadText) (input : List ℕ) (status : Status) → IsScriptRefused script (names_of command).input old new (class.Text inlet.Main bad) → input_given old (names_of command).input ≡ Some input
      → Refused (refusal_for inlet.Main bad) ≡ by_script script input status
  script-answer None bad input status e told = absurd e
  script-answer (Some bad_row) class.Long input status e told =
      let long : 1048576 < length input = subst (λ o. IfSome o (λ bytes. 1048576 < length bytes)) told e.long in
      sym (ap (λ b. cond b (Refused refusal.ScriptTooLong) (by_row inlet.Main (bad_row input) status)) (longer input long))
  script-answer (Some bad_row) (class.Row n) input status e told =
      let same : e.text ≡ input = text_is (input_given old (names_of command).input) e.text input e.told told in
      let within : length input ≤ 1048576 = subst (λ text. length text ≤ 1048576) same e.within in
      let bad : bad_row input ≡ Some n = subst (λ text. bad_row text ≡ Some n) same e.after.0 in
      sym (ap (λ b. cond b (Refused refusal.ScriptTooLong) (by_row inlet.Main (bad_row input) status)) (short input within) ∙ ap (λ o. by_row inlet.Main o status) bad)

  main-answer : (bad : class.BadText) (input : List ℕ) → (bad_row_of command text ≡ None) × IsScriptRefused (bad_script_row_of command) (names_of command).input old new (class.Text inlet.Main bad) → input_given old (names_of command).input ≡ Some input
      → Refused (refusal_for inlet.Main bad) ≡ answer_by command text input
  main-answer bad input e told =
      let status = status_of (course_of command text input).ending in
      script-answer (bad_script_row_of command) bad input status e.1 told ∙ ap (λ o. by_row inlet.Side o (by_script (bad_script_row_of command) input status)) (sym e.0)

  pub answer-not_begun : (counts after : Counts) (why : Refusal) → IsRefused why → HasClassCause counts after (class_of why) → IsAnswerTo counts after why
  answer-not_begun counts after (refusal.BadSide n) (inl e) cause = λ input told memory reads. side-answer [] input n e.0
  answer-not_begun counts after (refusal.BadSide n) (inr e) cause = absurd (not_side (bad_script_row_of command) (names_of command).input old new (class.Row n) e.1)
  answer-not_begun counts after refusal.ScriptTooLong (inl e) cause = absurd e.0
  answer-not_begun counts after refusal.ScriptTooLong (inr e) cause = λ input told memory reads. main-answer class.Long input e told
  answer-not_begun counts after (refusal.BadScript n) (inl e) cause = absurd e.0
  answer-not_begun counts after (refusal.BadScript n) (inr e) cause = λ input told memory reads. main-answer (class.Row n) input e told
  answer-not_begun counts after refusal.ReadFault e cause = λ input told memory reads. absurd (reads (Rose-reads counts after cause))
  answer-not_begun counts after refusal.NoMemory e cause = λ input told memory reads. absurd (memory refl)
  answer-not_begun counts after (refusal.BadWords n) e cause = absurd (AfterTextClass-not_begun command text old new (class.Word n) e)
  answer-not_begun counts after refusal.SideTooLong (inl e) cause = absurd e.0
  answer-not_begun counts after refusal.SideTooLong (inr e) cause = absurd (not_side (bad_script_row_of command) (names_of command).input old new class.Long e.1)
  answer-not_begun counts after refusal.WriteFault (inl e) cause = absurd e.0
  answer-not_begun counts after refusal.WriteFault (inr e) cause = absurd (not_writing (bad_script_row_of command) (names_of command).input old new e.1)
  answer-not_begun counts after (refusal.CutRecord n) (inl e) cause = absurd e.0
  answer-not_begun counts after (refusal.CutRecord n) (inr e) cause = absurd (not_data (bad_script_row_of command) (names_of command).input old new _ e.1)
  answer-not_begun counts after (refusal.SpareBit n) (inl e) cause = absurd e.0
  answer-not_begun counts after (refusal.SpareBit n) (inr e) cause = absurd (not_data (bad_script_row_of command) (names_of command).input old new _ e.1)
  answer-not_begun counts after (refusal.BadStore byte kind) (inl e) cause = absurd e.0
  answer-not_begun counts after (refusal.BadStore byte kind) (inr e) cause = absurd (not_data (bad_script_row_of command) (names_of command).input old new _ e.1)
  answer-not_begun counts after refusal.TooMany (inl e) cause = absurd e.0
  answer-not_begun counts after refusal.TooMany (inr e) cause = absurd (not_data (bad_script_row_of command) (names_of command).input old new _ e.1)

-- ---- from the side text on

pub AfterCommand-read : (command : Command) (old new : Meanings) (text : List ℕ) (r : Result (Unit {0}) Refusal) → IsText old inlet.Side (names_of command).side text → length text ≤ 1048576
    → AfterText command text (with_text old inlet.Side (names_of command).side) new r → AfterCommand command old new r
AfterCommand-read command old new text (Ok done) told within e = record { text = text; told = told; within = within; after = e }
AfterCommand-read command old new text (Err refusal) told within e = by_class (class_of refusal) e where
  start : Meanings
  start = with_text old inlet.Side (names_of command).side

  by_class : (why : Class) → AfterTextClass command text start new why → AfterClass command old new why
  by_class (class.Word word) e = e
  by_class (class.Text inlet.Side class.Long) (inl e) = absurd e.0
  by_class (class.Text inlet.Side class.Long) (inr e) = absurd (not_side (bad_script_row_of command) (names_of command).input start new class.Long e.1)
  by_class (class.Text inlet.Side (class.Row row)) (inl e) = record { text = text; told = told; within = within; after = (e.0, e.1) }
  by_class (class.Text inlet.Side (class.Row row)) (inr e) = absurd (not_side (bad_script_row_of command) (names_of command).input start new (class.Row row) e.1)
  by_class (class.Text inlet.Main bad) (inl e) = absurd e.0
  by_class (class.Text inlet.Main bad) (inr e) = record { text = text; told = told; within = within; after = e }
  by_class (class.Data fault) e = record { text = text; told = told; within = within; after = e }
  by_class class.Reading e = inr (record { text = text; told = told; within = within; after = e })
  by_class class.Writing e = record { text = text; told = told; within = within; after = e }
  by_class class.Memory e = inr (record { text = text; told = told; within = within; after = e })

-- ---- what a command answers whose side input was not read

-- a text that is told is as long as that
long_told : (command : Command) (old : Meanings) (text : List ℕ) → IsTextLong old inlet.Side (names_of command).side → side_given old (names_of command).side ≡ Some text → 1048576 < length text
long_told command old text long told = subst (λ o. IfSome o (λ bytes. 1048576 < length bytes)) told long

-- the answer is that of the side text and of the input
pub IsAnswered-unread : (command : Command) (old : Meanings) (counts after : Counts) (fault : TextFault) → (fault ≡ unread.TooLong → IsTextLong old inlet.Side (names_of command).side) → HasTextCause {T = Unit {0}} counts after (Err fault)
    → IsAnswered command old counts after (Err (refusal_at inlet.Side fault))
IsAnswered-unread command old counts after unread.TooLong long cause = λ text input told given memory reads writes.
    sym (ap (λ b. cond b (Refused refusal.SideTooLong) (answer_by command text input)) (longer text (long_told command old text (long refl) told)))
IsAnswered-unread command old counts after unread.ReadFault long cause = λ text input told given memory reads writes. absurd (reads (Rose-reads counts after cause))
IsAnswered-unread command old counts after unread.NoMemory long cause = λ text input told given memory reads writes. absurd (memory refl)
