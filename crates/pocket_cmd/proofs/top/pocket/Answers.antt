use Rattle.std.proofs.Common.{None, map, sym, ◌∙◌, subst}
use Rattle.std.specs.String.{string_bytes}
use Rattle.desk_ports.specs.declared.desk.Inlet.TheVariants as inlet
use Rattle.pocket_cmd.specs.declared.status.Refusal.TheVariants as refusal
use Rattle.pocket_cmd.specs.declared.verbs.Verb.TheVariants.{Forecast, Restore}
use Rattle.pocket_cmd.specs.Command.{names_of, view_command}
use Rattle.pocket_cmd.specs.Outcome.{Stands, AfterCommand, AfterRefusal, IsScriptFirst, IsSideJudged, IsTextFirst}
use Rattle.pocket_cmd.proofs.Apart.{AreApart-command_of, kept_as_made, AreGranted-command, same_command, not_both, ends_for}
use Rattle.pocket_cmd.specs.Status.{class_of}
use Rattle.pocket_cmd.proofs.Given.{IsCommand-command_of}
use Rattle.pocket_cmd.proofs.Performed.{AfterRefusal-answer, Stands-answer}
use Rattle.pocket_cmd.proofs.Kept.{Leaves-refused}
use Rattle.pocket_cmd.proofs.TextsFirst.{IsSideJudged-answer, left-too_long, script-first, side-first}
use Rattle.pocket_cmd.proofs.Headline.{Done-whole, HasWritten-restored}
use Rattle.pocket_cmd.proofs.top.pocket.Goals as goal

pub perform-requires : goal.perform-requires
perform-requires g c = AreGranted-command _ (view_command c.in-Ok.command) (IsCommand-command_of (map string_bytes c.args.words.now) _ (sym c.in-Ok.ensures)).given (g.D.Desk.meaning c.args.desk.now) c.requires.granted

pub returns-in-Ok-clause-refused : goal.returns-in-Ok-clause-refused
returns-in-Ok-clause-refused g c = λ refusal command is given.
    subst (λ command. AfterRefusal command (g.D.Desk.meaning c.args.desk.now) (g.D.Desk.meaning c.perform.new.desk) refusal) (same_command (sym c.in-Ok.ensures) given)
    (AfterRefusal-answer (view_command c.in-Ok.command) (g.D.Desk.meaning c.args.desk.now) (g.D.Desk.meaning c.perform.new.desk) c.perform.result refusal c.perform.ensures.after (sym c.into.ensures ∙ is))

pub returns-in-Err-clause-refused : goal.returns-in-Err-clause-refused
returns-in-Err-clause-refused g c = λ refusal command is given. absurd (not_both given (sym c.in-Err.ensures))

pub returns-in-Ok-clause-stands : goal.returns-in-Ok-clause-stands
returns-in-Ok-clause-stands g c = λ ending e. (
  view_command c.in-Ok.command,
  sym c.in-Ok.ensures,
  Stands-answer (view_command c.in-Ok.command) (g.D.Desk.meaning c.args.desk.now) (g.D.Desk.meaning c.perform.new.desk) c.perform.result ending c.perform.ensures.after (sym c.into.ensures ∙ e),
)

pub returns-in-Ok-clause-kept : goal.returns-in-Ok-clause-kept
returns-in-Ok-clause-kept g c = λ command done is.
    let old = g.D.Desk.meaning c.args.desk.now in
    let new = g.D.Desk.meaning c.perform.new.desk in
    kept_as_made command old new (AreApart-command_of (map string_bytes c.args.words.now) command is)
    (subst (λ command. Stands command old new None) (same_command (sym c.in-Ok.ensures) is)
    (Stands-answer (view_command c.in-Ok.command) old new c.perform.result None c.perform.ensures.after (sym c.into.ensures ∙ done)))

pub returns-in-Ok-clause-bad_words : goal.returns-in-Ok-clause-bad_words
returns-in-Ok-clause-bad_words g c = λ word. (
  λ e. absurd (AfterRefusal-answer (view_command c.in-Ok.command) (g.D.Desk.meaning c.args.desk.now) (g.D.Desk.meaning c.perform.new.desk) c.perform.result (refusal.BadWords word) c.perform.ensures.after (sym c.into.ensures ∙ e)),
  λ e. absurd (not_both (sym c.in-Ok.ensures) e),
)

pub returns-in-Ok-clause-not_called : goal.returns-in-Ok-clause-not_called
returns-in-Ok-clause-not_called g c = λ word e.
    absurd (AfterRefusal-answer (view_command c.in-Ok.command) (g.D.Desk.meaning c.args.desk.now) (g.D.Desk.meaning c.perform.new.desk) c.perform.result (refusal.BadWords word) c.perform.ensures.after (sym c.into.ensures ∙ e))

pub returns-in-Ok-clause-ends : goal.returns-in-Ok-clause-ends
returns-in-Ok-clause-ends g c = λ command text input is told memory none.
    ends_for (view_command c.in-Ok.command) command (sym c.in-Ok.ensures) is (g.D.Desk.meaning c.args.desk.now) (g.D.Desk.counts c.args.desk.now) (g.D.Desk.counts c.perform.new.desk) c.perform.result c.into.result c.into.ensures c.perform.ensures.ends text input told memory none

pub returns-in-Ok-clause-complete : goal.returns-in-Ok-clause-complete
returns-in-Ok-clause-complete g c = λ command text input is told right whole memory none.
    returns-in-Ok-clause-ends g c command text input is told memory none ∙ Done-whole command text input right whole

pub returns-in-Ok-clause-headline : goal.returns-in-Ok-clause-headline
returns-in-Ok-clause-headline g c = λ r h copies is played done.
    HasWritten-restored (view_command c.in-Ok.command) r h copies (g.D.Desk.meaning c.args.desk.now) (g.D.Desk.meaning c.perform.new.desk) c.perform.result
    (same_command (sym c.in-Ok.ensures) is) (IsCommand-command_of (map string_bytes c.args.words.now) (Restore, r) is).right played c.perform.ensures.after (sym c.into.ensures ∙ done)

pub returns-in-Ok-clause-leaves : goal.returns-in-Ok-clause-leaves
returns-in-Ok-clause-leaves g c = λ refusal command is given.
    Leaves-refused command (g.D.Desk.meaning c.args.desk.now) (g.D.Desk.meaning c.perform.new.desk) (class_of refusal) (returns-in-Ok-clause-refused g c refusal command is given)

pub returns-in-Err-clause-leaves : goal.returns-in-Err-clause-leaves
returns-in-Err-clause-leaves g c = λ refusal command is given. absurd (not_both given (sym c.in-Err.ensures))

pub returns-in-Ok-clause-side_text : goal.returns-in-Ok-clause-side_text
returns-in-Ok-clause-side_text g c = λ command text is told memory reads.
    let old = g.D.Desk.meaning c.args.desk.now in
    let same = same_command (sym c.in-Ok.ensures) is in
    subst (IsSideJudged command text) (sym c.into.ensures)
    (IsSideJudged-answer command text old (g.D.Desk.meaning c.perform.new.desk) (g.D.Desk.counts c.args.desk.now) (g.D.Desk.counts c.perform.new.desk) c.perform.result
    (subst (λ command. AfterCommand command old (g.D.Desk.meaning c.perform.new.desk) c.perform.result) same c.perform.ensures.after)
    c.perform.ensures.cause told (λ e. memory (c.into.ensures ∙ e)) reads)

pub returns-in-Ok-clause-read_no_further : goal.returns-in-Ok-clause-read_no_further
returns-in-Ok-clause-read_no_further g c = λ command text is told long.
    let old = g.D.Desk.meaning c.args.desk.now in
    left-too_long command text old (g.D.Desk.meaning c.perform.new.desk) c.perform.result
    (subst (λ command. AfterCommand command old (g.D.Desk.meaning c.perform.new.desk) c.perform.result) (same_command (sym c.in-Ok.ensures) is) c.perform.ensures.after)
    told (sym c.into.ensures ∙ long)

pub returns-in-Err-clause-read_no_further : goal.returns-in-Err-clause-read_no_further
returns-in-Err-clause-read_no_further g c = λ command text is told long. absurd (not_both is (sym c.in-Err.ensures))

pub returns-in-Ok-clause-bad_side : goal.returns-in-Ok-clause-bad_side
returns-in-Ok-clause-bad_side g c = λ command text bad is told wrong memory.
    let old = g.D.Desk.meaning c.args.desk.now in
    let new = g.D.Desk.meaning c.perform.new.desk in
    subst (IsTextFirst inlet.Side old text bad new) (sym c.into.ensures)
    (side-first command old new text told bad wrong c.perform.result
    (subst (λ command. AfterCommand command old new c.perform.result) (same_command (sym c.in-Ok.ensures) is) c.perform.ensures.after) (λ e. memory (c.into.ensures ∙ e)))

pub returns-in-Err-clause-bad_side : goal.returns-in-Err-clause-bad_side
returns-in-Err-clause-bad_side g c = λ command text bad is told wrong memory. absurd (not_both is (sym c.in-Err.ensures))

pub returns-in-Ok-clause-bad_script : goal.returns-in-Ok-clause-bad_script
returns-in-Ok-clause-bad_script g c = λ f plan script bad is told right wrong memory.
    let old = g.D.Desk.meaning c.args.desk.now in
    let new = g.D.Desk.meaning c.perform.new.desk in
    subst (IsScriptFirst (names_of (Forecast, f)).side old plan script bad new) (sym c.into.ensures)
    (script-first f old new plan script told right bad wrong c.perform.result
    (subst (λ command. AfterCommand command old new c.perform.result) (same_command (sym c.in-Ok.ensures) is) c.perform.ensures.after) (λ e. memory (c.into.ensures ∙ e)))

pub returns-in-Err-clause-bad_script : goal.returns-in-Err-clause-bad_script
returns-in-Err-clause-bad_script g c = λ f plan script bad is told right wrong memory. absurd (not_both is (sym c.in-Err.ensures))
