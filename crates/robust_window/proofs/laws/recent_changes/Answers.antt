use Rattle.robust_window.proofs.OfHistories.{length-recent_at, recent_at-places}
use Rattle.robust_window.proofs.laws.recent_changes.Goals as goal

pub returns-clause-recent : goal.returns-clause-recent
returns-clause-recent c = recent_at-places

pub returns-clause-places : goal.returns-clause-places
returns-clause-places c = length-recent_at
