use Rattle.std.proofs.Common.{subst}
use Rattle.pocket_cmd.specs.Command.{Names, view_command}
use Rattle.pocket_cmd.specs.Jobs.{job_course}
use Rattle.pocket_cmd.specs.Outcome.{AfterNames}
use Rattle.pocket_cmd.specs.Status.{HasStatusCause, IsEnded, class_of, status_by}
use Rattle.pocket_cmd.proofs.Performed.{AfterTextClass-not_begun, IsAnsweredBy-run, IsEnded-made, answer-not_begun, AfterText-run}
use Rattle.pocket_cmd.proofs.work.perform_with.Goals as goal

pub returns-in-Ok-clause-after : goal.returns-in-Ok-clause-after
returns-in-Ok-clause-after g c =
    let command = view_command c.args.command.now in
    let old = g.D.Desk.meaning c.args.desk.now in
    let mid = g.D.Desk.meaning c.of.new.desk in
    let new = g.D.Desk.meaning c.run.new.desk in
    let named = subst (λ (names : Names). IsEnded (AfterNames names (job_course c.in-Ok.job) mid new) c.run.result) c.names_left.ensures c.run.ensures.ran in
    AfterText-run command c.args.text.now.bytes.items old new c.run.result (IsEnded-made command c.args.text.now.bytes.items c.in-Ok.job old mid new c.run.result c.in-Ok.ensures.after named)

pub returns-in-Ok-clause-ends : goal.returns-in-Ok-clause-ends
returns-in-Ok-clause-ends g c =
    let command = view_command c.args.command.now in
    let old = g.D.Desk.meaning c.args.desk.now in
    let mid = g.D.Desk.meaning c.of.new.desk in
    let new = g.D.Desk.meaning c.run.new.desk in
    let after = g.D.Desk.counts c.run.new.desk in
    let named = subst (λ (names : Names). IsEnded (AfterNames names (job_course c.in-Ok.job) mid new) c.run.result) c.names_left.ensures c.run.ensures.ran in
    IsAnsweredBy-run command c.args.text.now.bytes.items old new (g.D.Desk.counts c.args.desk.now) after c.run.result
    (IsEnded-made command c.args.text.now.bytes.items c.in-Ok.job old mid new c.run.result c.in-Ok.ensures.after named)
    (subst (λ counts. HasStatusCause counts after (status_by c.run.result)) c.in-Ok.ensures.cause c.run.ensures.cause)

pub returns-in-Ok-clause-cause : goal.returns-in-Ok-clause-cause
returns-in-Ok-clause-cause g c =
    subst (λ counts. HasStatusCause counts (g.D.Desk.counts c.run.new.desk) (status_by c.run.result)) c.in-Ok.ensures.cause c.run.ensures.cause

pub returns-in-Err-clause-after : goal.returns-in-Err-clause-after
returns-in-Err-clause-after g c =
    AfterTextClass-not_begun (view_command c.args.command.now) c.args.text.now.bytes.items (g.D.Desk.meaning c.args.desk.now) (g.D.Desk.meaning c.of.new.desk) (class_of c.in-Err.refusal) c.in-Err.ensures.after

pub returns-in-Err-clause-ends : goal.returns-in-Err-clause-ends
returns-in-Err-clause-ends g c = λ input told memory reads writes.
    answer-not_begun (view_command c.args.command.now) c.args.text.now.bytes.items (g.D.Desk.meaning c.args.desk.now) (g.D.Desk.meaning c.of.new.desk) (g.D.Desk.counts c.args.desk.now) (g.D.Desk.counts c.of.new.desk)
    c.in-Err.refusal c.in-Err.ensures.after c.in-Err.ensures.cause input told memory reads
