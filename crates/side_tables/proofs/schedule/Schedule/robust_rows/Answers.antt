use Rattle.std.proofs.Common.{◌∙◌, All, ap, subst}
use Rattle.side_tables.specs.Rows.{IsRobustRow, ScheduleRows}
use Rattle.side_tables.proofs.schedule.Schedule.robust_rows.Goals as goal

pub returns-clause-rows : goal.returns-clause-rows
returns-clause-rows c = c.rows.ensures.rows ∙ ap (λ (rows : ScheduleRows). rows.robust) c.self.view_is

pub returns-clause-right : goal.returns-clause-right
returns-clause-right c = subst (λ (rows : ScheduleRows). All IsRobustRow rows.robust) c.self.view_is c.rows.ensures.right
