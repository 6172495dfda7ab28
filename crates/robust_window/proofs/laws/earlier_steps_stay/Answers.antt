use Rattle.robust_window.proofs.OfHistories.{level_at-before, recent_at-before, twice_at-before}
use Rattle.robust_window.proofs.laws.earlier_steps_stay.Goals as goal

pub returns-clause-recent : goal.returns-clause-recent
returns-clause-recent c = recent_at-before

pub returns-clause-level : goal.returns-clause-level
returns-clause-level c = level_at-before

pub returns-clause-twice : goal.returns-clause-twice
returns-clause-twice c = twice_at-before
