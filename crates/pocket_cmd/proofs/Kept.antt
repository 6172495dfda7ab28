-- What a refused command leaves, and a run from its opening on.
use Rattle.std.specs.Option.{option_map}
use Rattle.std.specs.Prelude.{IsSome}
use Rattle.std.proofs.Common.{◌≡◌, ◌⊎◌, ℕ, Bool, true, false, List, Option, Some, None, is_some, inl, inr, refl, sym, ap, ◌∙◌, Result, Ok, Err, subst}
use Rattle.desk_ports.specs.Courses.{Outputs, Ran, Course}
use Rattle.desk_ports.specs.Meanings.{Meanings, Incoming, kept_after, made, Stop, Data, ReadFault, WriteFault}
use Rattle.desk_ports.specs.declared.desk.Inlet.TheVariants as inlet
use Rattle.desk_ports.specs.declared.desk.Outlet.TheVariants as outlet
use Rattle.pocket_cmd.specs.Command.{Command, Names, names_of}
use Rattle.pocket_cmd.specs.Courses.{bad_script_row_of, course_of, DataFault}
use Rattle.pocket_cmd.specs.Jobs.{AfterJob}
use Rattle.pocket_cmd.specs.Kept.{IsOutputKept, KeepsAllButSide, KeepsAllButTexts, KeepsNames, LeavesByClass}
use Rattle.pocket_cmd.specs.Openings.{IsHalfKept, KeepsAllBut, LacksReport, all_finished, all_opened, with_input, with_output, with_output_kept, with_report, with_text}
use Rattle.pocket_cmd.specs.Outcome.{AfterClass, AfterTextClass, OnceAllRead, OnceOpened, HasRunReadFailed, HasRunWriteFailed, IsNotBegun, IsScriptRefused, IsUnfinished, IsUntouched, HasWriteFailed, RunStands, Stands, left_to_open, AreOpened, IsRunOut, AfterNames}
use Rattle.pocket_cmd.specs.Status.{Class, IsEnded, refused_by}
use Rattle.pocket_cmd.specs.Status as class
use Rattle.pocket_cmd.specs.Unfed.{EndsBy, IsCutOffBy, IsCutShortBy}
use Rattle.pocket_cmd.specs.declared.status.Refusal.{Refusal}
use Rattle.pocket_cmd.proofs.Performed.{made-finished}

-- ---- before an opening

only_texts : (old new : Meanings) (side input : Incoming) → new ≡ record old { side = side; input = input } → new ≡ record old { side = new.side; input = new.input }
only_texts old new side input e = e ∙ λ i. record old { side = (sym (ap (λ (m : Meanings). m.side) e)) i; input = (sym (ap (λ (m : Meanings). m.input) e)) i }

only_side : (old new : Meanings) (side : Incoming) → new ≡ record old { side = side } → KeepsAllButSide old new
only_side old new side e = e ∙ ap (λ s. record old { side = s }) (sym (ap (λ (m : Meanings). m.side) e))

keeps_side : (side : Option (List ℕ)) (old new : Meanings) → KeepsAllBut inlet.Side side old new → KeepsAllButSide old new
keeps_side None old new e = only_side old new old.side e
keeps_side (Some name) old new e = e

reads_side : (side : Option (List ℕ)) (old new : Meanings) → new ≡ with_text old inlet.Side side → KeepsAllButSide old new
reads_side None old new e = only_side old new old.side e
reads_side (Some name) old new e = only_side old new _ e

-- both texts
keeps_texts : (side input : Option (List ℕ)) (old new : Meanings) → KeepsAllBut inlet.Main input (with_text old inlet.Side side) new → new ≡ record old { side = new.side; input = new.input }
keeps_texts None None old new e = only_texts old new old.side old.input e
keeps_texts None (Some input) old new e = only_texts old new old.side new.input e
keeps_texts (Some side) None old new e = only_texts old new _ old.input e
keeps_texts (Some side) (Some input) old new e = only_texts old new _ new.input e

reads_input : (input : Option (List ℕ)) (start new : Meanings) → new ≡ with_text start inlet.Main input → KeepsAllBut inlet.Main input start new
reads_input None start new e = e
reads_input (Some name) start new e = e ∙ ap (λ i. record start { input = i }) (sym (ap (λ (m : Meanings). m.input) e))

side_alone : (script : Option (List ℕ → Option ℕ)) (old new : Meanings) → KeepsAllButSide old new → KeepsAllButTexts script old new
side_alone None old new e = e
side_alone (Some bad_row) old new e = only_texts old new new.side old.input e

refused_texts : (script : Option (List ℕ → Option ℕ)) (side input : Option (List ℕ)) (old new : Meanings) (bad : class.BadText) → IsScriptRefused script input (with_text old inlet.Side side) new (class.Text inlet.Main bad) → KeepsAllButTexts script old new
refused_texts None side input old new bad e = absurd e
refused_texts (Some bad_row) side input old new class.Long e = keeps_texts side input old new e.keeps
refused_texts (Some bad_row) side input old new (class.Row row) e = keeps_texts side input old new (reads_input input (with_text old inlet.Side side) new e.after.1)

unfound_texts : (script : Option (List ℕ → Option ℕ)) (side input : Option (List ℕ)) (old new : Meanings) → IsScriptRefused script input (with_text old inlet.Side side) new class.Memory → KeepsAllButTexts script old new
unfound_texts None side input old new e = absurd e
unfound_texts (Some bad_row) side input old new e = keeps_texts side input old new e

untouched_texts : (command : Command) (old new : Meanings) → IsUntouched command old new → KeepsAllButTexts (bad_script_row_of command) old new
untouched_texts command old new (inl e) = side_alone (bad_script_row_of command) old new (keeps_side (names_of command).side old new e)
untouched_texts command old new (inr e) = by_making e.after where
  by_making : IsNotBegun command e.text (with_text old inlet.Side (names_of command).side) new class.Memory → KeepsAllButTexts (bad_script_row_of command) old new
  by_making (inl e) = side_alone (bad_script_row_of command) old new (reads_side (names_of command).side old new e.1)
  by_making (inr e) = unfound_texts (bad_script_row_of command) (names_of command).side (names_of command).input old new e.1

-- ---- what is kept

held-with_side : (m : Meanings) (side : Option (List ℕ)) → (with_text m inlet.Side side).held ≡ m.held
held-with_side m None = refl
held-with_side m (Some name) = refl

held-with_script : (m : Meanings) (input : Option (List ℕ)) → (with_text m inlet.Main input).held ≡ m.held
held-with_script m None = refl
held-with_script m (Some name) = refl

held-with_input : (m : Meanings) (input : Option (List ℕ)) (bytes : List ℕ) → (with_input m input bytes).held ≡ m.held
held-with_input m None bytes = refl
held-with_input m (Some name) bytes = refl

held-with_report : (m : Meanings) (report : Option (List ℕ)) → (with_report m report).held ≡ m.held
held-with_report m None = refl
held-with_report m (Some name) = refl

held-opened : (names : Names) (m : Meanings) (bytes : List ℕ) → (all_opened names m bytes).held ≡ m.held
held-opened names m bytes = held-with_report (with_output (with_input m names.input bytes) names.output) names.report ∙ held-with_input m names.input bytes

held-ran : (a b : Meanings) (xs : List ℕ) (us : Outputs) → Ran a b xs us → b.held ≡ a.held
held-ran a b xs us p = ap (λ (m : Meanings). m.held) p.others

held-ends : (reads : Bool) (course : List ℕ → Course DataFault) (a b : Meanings) (ending : Option DataFault) → EndsBy reads course a b ending → b.held ≡ a.held
held-ends true course a b ending e = held-ran a b _ _ e.went.ran
held-ends false course a b ending e = held-ran a b _ _ e.ran

held-cut_off : (reads : Bool) (course : List ℕ → Course DataFault) (a b : Meanings) → IsCutOffBy reads course a b → b.held ≡ a.held
held-cut_off true course a b e = held-ran a b _ _ e.ran
held-cut_off false course a b e = absurd e

held-cut_short : (reads : Bool) (course : List ℕ → Course DataFault) (a b : Meanings) → IsCutShortBy reads course a b → b.held ≡ a.held
held-cut_short true course a b e = held-ran a b _ _ e.went.ran
held-cut_short false course a b e = held-ran a b _ _ e.ran

held-stands : (names : Names) (course : List ℕ → Course DataFault) (old new : Meanings) (why : DataFault) → RunStands names course old new (Some why) → new.held ≡ old.held
held-stands names course old new why e =
    ap (λ (m : Meanings). m.held) e.after.is ∙ (held-ends (is_some names.input) course _ _ _ e.after.ran ∙ held-opened names old e.input)

held-unread : (names : Names) (course : List ℕ → Course DataFault) (old new : Meanings) → HasRunReadFailed names course old new → new.held ≡ old.held
held-unread names course old new (inl e) = ap (λ (m : Meanings). m.held) e.1
held-unread names course old new (inr e) = held-cut_off (is_some names.input) course _ _ e.after ∙ held-opened names old e.input

held-keeps : (side : Option (List ℕ)) (old new : Meanings) → KeepsAllBut inlet.Side side old new → new.held ≡ old.held
held-keeps None old new e = ap (λ (m : Meanings). m.held) e
held-keeps (Some name) old new e = ap (λ (m : Meanings). m.held) e

held-keeps_script : (input : Option (List ℕ)) (old new : Meanings) → KeepsAllBut inlet.Main input old new → new.held ≡ old.held
held-keeps_script None old new e = ap (λ (m : Meanings). m.held) e
held-keeps_script (Some name) old new e = ap (λ (m : Meanings). m.held) e

-- what holds of each run holds of one that begins once all texts are read
held-all_read : (script : Option (List ℕ → Option ℕ)) (names : Names) (course : List ℕ → Course DataFault) (start new : Meanings) (After : Names → (List ℕ → Course DataFault) → Meanings → Type 0)
    → ((names : Names) (course : List ℕ → Course DataFault) (start : Meanings) → After names course start → new.held ≡ start.held) → OnceAllRead script names course start After → new.held ≡ start.held
held-all_read None names course start new After each e = each names course start e
held-all_read (Some bad_row) names course start new After each e =
    each (left_to_open (Some bad_row) names) (λ _. course e.text) (with_text start inlet.Main names.input) e.after.1 ∙ held-with_script start names.input

held-command : (command : Command) (old new : Meanings) (why : DataFault) → Stands command old new (Some why) → new.held ≡ old.held
held-command command old new why e =
    held-all_read (bad_script_row_of command) (names_of command) (course_of command e.text) (with_text old inlet.Side (names_of command).side) new (λ names course start. RunStands names course start new (Some why))
    (λ names course start run. held-stands names course start new why run) e.after.1
    ∙ held-with_side old (names_of command).side

held-script : (script : Option (List ℕ → Option ℕ)) (input : Option (List ℕ)) (start new : Meanings) → IsScriptRefused script input start new class.Reading → new.held ≡ start.held
held-script None input start new e = absurd e
held-script (Some bad_row) input start new e = held-keeps_script input start new e.0

held-reading : (command : Command) (text : List ℕ) (start new : Meanings) → AfterTextClass command text start new class.Reading → new.held ≡ start.held
held-reading command text start new (inl (inl e)) = absurd e.0
held-reading command text start new (inl (inr e)) = held-script (bad_script_row_of command) (names_of command).input start new e.1
held-reading command text start new (inr e) =
    held-all_read (bad_script_row_of command) (names_of command) (course_of command text) start new (λ names course start. HasRunReadFailed names course start new)
    (λ names course start run. held-unread names course start new run) e.1

-- ---- after a failed writing

held-lacks_report : (names : Names) (report : Option (List ℕ)) (old new : Meanings) (bytes : List ℕ) → LacksReport names report old new bytes → KeepsNames old new
held-lacks_report names None old new bytes e = ap (λ (m : Meanings). m.held) e ∙ held-with_input old names.input bytes
held-lacks_report names (Some name) old new bytes (inl e) = ap (λ (m : Meanings). m.held) e ∙ held-with_input old names.input bytes
held-lacks_report names (Some name) old new bytes (inr e) = ap (λ (m : Meanings). m.held) e ∙ held-with_input old names.input bytes

name-ran : (a b : Meanings) (xs : List ℕ) (us : Outputs) → Ran a b xs us → b.output.name ≡ a.output.name
name-ran a b xs us p = ap (λ (m : Meanings). m.output.name) p.others

name-ends : (reads : Bool) (course : List ℕ → Course DataFault) (a b : Meanings) (ending : Option DataFault) → EndsBy reads course a b ending → b.output.name ≡ a.output.name
name-ends true course a b ending e = name-ran a b _ _ e.went.ran
name-ends false course a b ending e = name-ran a b _ _ e.ran

name-with_side : (m : Meanings) (side : Option (List ℕ)) → (with_text m inlet.Side side).output.name ≡ m.output.name
name-with_side m None = refl
name-with_side m (Some name) = refl

name-with_script : (m : Meanings) (input : Option (List ℕ)) → (with_text m inlet.Main input).output.name ≡ m.output.name
name-with_script m None = refl
name-with_script m (Some name) = refl

name-with_input : (m : Meanings) (input : Option (List ℕ)) (bytes : List ℕ) → (with_input m input bytes).output.name ≡ m.output.name
name-with_input m None bytes = refl
name-with_input m (Some name) bytes = refl

name-with_report : (m : Meanings) (report : Option (List ℕ)) → (with_report m report).output.name ≡ m.output.name
name-with_report m None = refl
name-with_report m (Some name) = refl

-- the output's name once all names are opened
name-opened : (names : Names) (m : Meanings) (bytes : List ℕ) → (all_opened names m bytes).output.name ≡ option_map (λ _. names.output) m.output.name
name-opened names m bytes =
    name-with_report (with_output (with_input m names.input bytes) names.output) names.report ∙ ap (option_map (λ _. names.output)) (name-with_input m names.input bytes)

-- nothing was kept, or the output alone, if there is a report
half_kept : (report : Option (List ℕ)) (end new : Meanings) → IsHalfKept report end new → (new ≡ end) ⊎ (IsSome report × (new ≡ with_output_kept end))
half_kept None end new e = inl e
half_kept (Some name) end new (inl e) = inl e
half_kept (Some name) end new (inr e) = inr (refl, e)

-- A run that began here was done, the outputs were made so far, and what the output made is kept under its name. Of what is
-- done this holds.
record IsHalfDone (Done : Meanings → Type 0) (names : Names) (start new : Meanings) : Type 0 where
  pub report : IsSome names.report
  pub done : Meanings
  pub stands : Done done
  pub output : made new outlet.Main ≡ made done outlet.Main
  pub reported : made new outlet.Report ≡ made done outlet.Report
  pub kept : new.held ≡ kept_after start.held (option_map (λ _. names.output) start.output.name) (made new outlet.Main)

unfinished_leaves : (names : Names) (course : List ℕ → Course DataFault) (start new : Meanings) → OnceOpened names start (λ start. IsUnfinished names course start new)
    → KeepsNames start new ⊎ IsHalfDone (λ done. RunStands names course start done None) names start new
unfinished_leaves names course start new e = by_kept (half_kept names.report end new e.after.is) where
  end : Meanings
  end = e.after.end

  held : KeepsNames start end
  held = held-ends (is_some names.input) course _ _ _ e.after.ran ∙ held-opened names start e.input

  name : end.output.name ≡ option_map (λ _. names.output) start.output.name
  name = name-ends (is_some names.input) course _ _ _ e.after.ran ∙ name-opened names start e.input

  by_kept : (new ≡ end) ⊎ (IsSome names.report × (new ≡ with_output_kept end)) → KeepsNames start new ⊎ IsHalfDone (λ done. RunStands names course start done None) names start new
  by_kept (inl is) = inl (ap (λ (m : Meanings). m.held) is ∙ held)
  by_kept (inr (report, is)) = inr (record {
    report = report;
    done = all_finished names.report end;
    stands = record { input = e.input; kept = e.kept; after = record { end = end; ran = e.after.ran; is = refl } };
    output = ap (λ m. made m outlet.Main) is ∙ sym (made-finished names.report end).0;
    reported = ap (λ m. made m outlet.Report) is ∙ sym (made-finished names.report end).1;
    kept = ap (λ (m : Meanings). m.held) is ∙ λ i. kept_after (held i) (name i) (same_made i);
  }) where
    same_made : made end outlet.Main ≡ made new outlet.Main
    same_made = sym (ap (λ (m : Meanings). made m outlet.Main) is)

unwritten_run : (names : Names) (course : List ℕ → Course DataFault) (start new : Meanings) → HasRunWriteFailed names course start new → KeepsNames start new ⊎ IsHalfDone (λ done. RunStands names course start done None) names start new
unwritten_run names course start new (inl unopened) = inl (held-lacks_report names names.report start new unopened.input unopened.is)
unwritten_run names course start new (inr (inl short)) = inl (held-cut_short (is_some names.input) course _ _ short.after ∙ held-opened names start short.input)
unwritten_run names course start new (inr (inr unfinished)) = unfinished_leaves names course start new unfinished

-- the same of a run that begins once all texts are read
unwritten_all : (script : Option (List ℕ → Option ℕ)) (names : Names) (course : List ℕ → Course DataFault) (start new : Meanings) → OnceAllRead script names course start (λ names course start. HasRunWriteFailed names course start new)
    → KeepsNames start new ⊎ IsHalfDone (λ done. OnceAllRead script names course start (λ names course start. RunStands names course start done None)) names start new
unwritten_all None names course start new e = unwritten_run names course start new e
unwritten_all (Some bad_row) names course start new e = by_run (unwritten_run left (λ _. course e.text) read new e.after.1) where
  left : Names
  left = left_to_open (Some bad_row) names

  read : Meanings
  read = with_text start inlet.Main names.input

  by_run : KeepsNames read new ⊎ IsHalfDone (λ done. RunStands left (λ _. course e.text) read done None) left read new
      → KeepsNames start new ⊎ IsHalfDone (λ done. OnceAllRead (Some bad_row) names course start (λ names course start. RunStands names course start done None)) names start new
  by_run (inl kept) = inl (kept ∙ held-with_script start names.input)
  by_run (inr half) = inr (record {
    report = half.report;
    done = half.done;
    stands = record { text = e.text; told = e.told; within = e.within; after = (e.after.0, half.stands) };
    output = half.output;
    reported = half.reported;
    kept = half.kept ∙ λ i. kept_after (held-with_script start names.input i) (option_map (λ _. names.output) (name-with_script start names.input i)) (made new outlet.Main);
  })

unwritten_leaves : (command : Command) (old new : Meanings) → HasWriteFailed command old new → KeepsNames old new ⊎ IsOutputKept command old new
unwritten_leaves command old new e = by_run (unwritten_all (bad_script_row_of command) names (course_of command e.text) start new e.after.1) where
  names : Names
  names = names_of command

  start : Meanings
  start = with_text old inlet.Side names.side

  by_run : KeepsNames start new ⊎ IsHalfDone (λ done. OnceAllRead (bad_script_row_of command) names (course_of command e.text) start (λ names course start. RunStands names course start done None)) names start new
      → KeepsNames old new ⊎ IsOutputKept command old new
  by_run (inl kept) = inl (kept ∙ held-with_side old names.side)
  by_run (inr half) = inr (record {
    report = half.report;
    made_as_done = record { done = half.done; stands = record { text = e.text; told = e.told; within = e.within; after = (e.after.0, half.stands) }; output = half.output; report = half.reported };
    kept = half.kept ∙ λ i. kept_after (held-with_side old names.side i) (option_map (λ _. names.output) (name-with_side old names.side i)) (made new outlet.Main);
  })

-- ---- after each refusal

pub Leaves-refused : (command : Command) (old new : Meanings) (why : Class) → AfterClass command old new why → LeavesByClass command old new why
Leaves-refused command old new (class.Word word) e = absurd e
Leaves-refused command old new (class.Text inlet.Side class.Long) e = keeps_side (names_of command).side old new e.keeps
Leaves-refused command old new (class.Text inlet.Side (class.Row row)) e = reads_side (names_of command).side old new e.after.1
Leaves-refused command old new (class.Text inlet.Main bad) e = refused_texts (bad_script_row_of command) (names_of command).side (names_of command).input old new bad e.after.1
Leaves-refused command old new class.Reading (inl e) = held-keeps (names_of command).side old new e.1.0
Leaves-refused command old new class.Reading (inr e) =
    held-reading command e.text (with_text old inlet.Side (names_of command).side) new e.after ∙ held-with_side old (names_of command).side
Leaves-refused command old new class.Writing e = unwritten_leaves command old new e
Leaves-refused command old new (class.Data why) e = held-command command old new why e
Leaves-refused command old new class.Memory e = untouched_texts command old new e

-- ---- what a run leaves, from the opening of its names to the finishing of its outputs

-- an answer is Ok or a refusal
not_both : {done : Unit {0}} {refusal : Refusal} → ◌≡◌ {A = Result (Unit {0}) Refusal} (Err refusal) (Ok done) → ⊥
not_both e = cc

-- all names are opened, and the run ended before it was done
AfterNames-stop : (names : Names) (course : List ℕ → Course DataFault) (old start new : Meanings) → AreOpened names old start → (stop : Stop DataFault) → AfterJob (is_some names.input) course start new (Err stop) → AfterNames names course old new (Err stop)
AfterNames-stop names course old start new o (Data fault) e = record {
  input = o.input;
  kept = o.kept;
  after = subst (λ m. IsRunOut names course (Some fault) m new) o.is (record { end = new; ran = e; is = refl });
}
AfterNames-stop names course old start new o ReadFault e = inr (record { input = o.input; kept = o.kept; after = subst (λ m. IsCutOffBy (is_some names.input) course m new) o.is e })
AfterNames-stop names course old start new o WriteFault e = inr (inl (record { input = o.input; kept = o.kept; after = subst (λ m. IsCutShortBy (is_some names.input) course m new) o.is e }))

pub IsEnded-stopped : (names : Names) (course : List ℕ → Course DataFault) (old start new : Meanings) → AreOpened names old start → (refusal : Refusal) → IsEnded (AfterJob (is_some names.input) course start new) (Err refusal) → IsEnded (AfterNames names course old new) (Err refusal)
IsEnded-stopped names course old start new o refusal e = record { ended = e.ended; over = by_end e.ended e.over e.answered; answered = e.answered } where
  by_end : (r : Result (Unit {0}) (Stop DataFault)) → AfterJob (is_some names.input) course start new r → ◌≡◌ {A = Result (Unit {0}) Refusal} (Err refusal) (refused_by r) → AfterNames names course old new r
  by_end (Ok done) e is = absurd (not_both is)
  by_end (Err stop) e is = AfterNames-stop names course old start new o stop e

-- the run was done
pub EndsBy-ended : (reads : Bool) (course : List ℕ → Course DataFault) (start end : Meanings) (done : Unit {0}) → IsEnded (AfterJob reads course start end) (Ok done) → EndsBy reads course start end None
EndsBy-ended reads course start end done e = by_end e.ended e.over e.answered where
  by_end : (r : Result (Unit {0}) (Stop DataFault)) → AfterJob reads course start end r → ◌≡◌ {A = Result (Unit {0}) Refusal} (Ok done) (refused_by r) → EndsBy reads course start end None
  by_end (Ok done) e is = e
  by_end (Err stop) e is = absurd (not_both (sym is))

-- and the outputs are finished
pub RunStands-finished : (names : Names) (course : List ℕ → Course DataFault) (old start end new : Meanings) → AreOpened names old start → EndsBy (is_some names.input) course start end None → new ≡ all_finished names.report end → RunStands names course old new None
RunStands-finished names course old start end new o ran is = record {
  input = o.input;
  kept = o.kept;
  after = subst (λ m. IsRunOut names course None m new) o.is (record { end = end; ran = ran; is = is });
}

-- or they are not
pub HasRunWriteFailed-unfinished : (names : Names) (course : List ℕ → Course DataFault) (old start end new : Meanings) → AreOpened names old start → EndsBy (is_some names.input) course start end None → IsHalfKept names.report end new → HasRunWriteFailed names course old new
HasRunWriteFailed-unfinished names course old start end new o ran is = inr (inr (record {
  input = o.input;
  kept = o.kept;
  after = subst (λ m. IsUnfinished names course m new) o.is (record { end = end; ran = ran; is = is });
}))
