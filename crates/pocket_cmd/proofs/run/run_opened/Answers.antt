use Rattle.std.proofs.Common.{is_some, Result, Ok, Err, refl, ◌∙◌, subst}
use Rattle.desk_ports.specs.Meanings.{FailsToWrite, Meanings, WriteFault}
use Rattle.pocket_cmd.specs.declared.job.Job.{Job}
use Rattle.pocket_cmd.specs.declared.status.Refusal.{Refusal}
use Rattle.pocket_cmd.specs.Command.{Names}
use Rattle.pocket_cmd.specs.Jobs.{AfterJob, AreNamesOf, job_course, reads_input}
use Rattle.pocket_cmd.specs.Openings.{view_names}
use Rattle.pocket_cmd.specs.Status.{IsEnded}
use Rattle.pocket_cmd.proofs.Kept.{EndsBy-ended, IsEnded-stopped, RunStands-finished, HasRunWriteFailed-unfinished}
use Rattle.pocket_cmd.proofs.run.run_opened.Goals as goal

-- the job reads an input if there is a name of one
ran_by : (job : Job) (names : Names) (start end : Meanings) (answer : Result (Unit {0}) Refusal) → AreNamesOf job names → IsEnded (AfterJob (reads_input job) (job_course job) start end) answer
    → IsEnded (AfterJob (is_some names.input) (job_course job) start end) answer
ran_by job names start end answer named e = subst (λ reads. IsEnded (AfterJob reads (job_course job) start end) answer) named.0 e

pub returns-in-Ok-finish_all-clause-ran : goal.returns-in-Ok-finish_all-clause-ran
returns-in-Ok-finish_all-clause-ran g c = λ old opened. record {
  ended = Ok tt;
  over = RunStands-finished (view_names c.args.names.now) (job_course c.args.job) old _ _ _ opened
      (EndsBy-ended (is_some (view_names c.args.names.now).input) (job_course c.args.job) _ _ tt (ran_by c.args.job (view_names c.args.names.now) _ _ _ c.requires.named c.in-Ok.ensures.ran)) c.in-Ok-finish_all.ensures.finished;
  answered = refl;
}

pub returns-in-Err-clause-ran : goal.returns-in-Err-clause-ran
returns-in-Err-clause-ran g c = λ old opened.
    IsEnded-stopped (view_names c.args.names.now) (job_course c.args.job) old _ _ opened c.in-Err.refusal (ran_by c.args.job (view_names c.args.names.now) _ _ _ c.requires.named c.in-Err.ensures.ran)

pub returns-in-Err-finish_all-clause-ran : goal.returns-in-Err-finish_all-clause-ran
returns-in-Err-finish_all-clause-ran g c = λ old opened. record {
  ended = Err WriteFault;
  over = HasRunWriteFailed-unfinished (view_names c.args.names.now) (job_course c.args.job) old _ _ _ opened
      (EndsBy-ended (is_some (view_names c.args.names.now).input) (job_course c.args.job) _ _ tt (ran_by c.args.job (view_names c.args.names.now) _ _ _ c.requires.named c.in-Ok.ensures.ran)) c.in-Err-finish_all.ensures.finished;
  answered = refl;
}

pub returns-in-Ok-finish_all-clause-cause : goal.returns-in-Ok-finish_all-clause-cause
returns-in-Ok-finish_all-clause-cause g c = c.in-Ok-finish_all.ensures.cause ∙ c.in-Ok.ensures.cause

pub returns-in-Err-finish_all-clause-cause : goal.returns-in-Err-finish_all-clause-cause
returns-in-Err-finish_all-clause-cause g c =
    subst (λ counts. FailsToWrite counts (g.D.Desk.counts c.finish_all.new.desk)) c.in-Ok.ensures.cause c.in-Err-finish_all.ensures.cause
