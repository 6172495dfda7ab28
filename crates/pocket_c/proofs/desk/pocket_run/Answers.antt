use Rattle.std.proofs.Common.{sym, subst}
use Rattle.pocket_c.specs.Running.{HasAnswered}
use Rattle.pocket_c.proofs.Runs.{has_answered}
use Rattle.pocket_c.proofs.desk.pocket_run.Goals as goal

pub returns-in-Ok-clause-ran : goal.returns-in-Ok-clause-ran
returns-in-Ok-clause-ran c = λ b is done. let ran = c.in-Ok.ensures.ran b is in (c.in-Ok.answer, ran.0, c.exit_code.ensures, c.write_text.ensures.text, ran.1, ran.2)

pub returns-in-Ok-clause-answers : goal.returns-in-Ok-clause-answers
returns-in-Ok-clause-answers c = λ b is done. let ran = c.in-Ok.ensures.ran b is in
    (ran.0, ran.1, subst (HasAnswered b ran.0) (sym c.exit_code.ensures) (has_answered b ran.0 c.in-Ok.answer ran.2))
