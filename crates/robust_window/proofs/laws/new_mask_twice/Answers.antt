use Rattle.robust_window.proofs.OfHistories.{twice_at-meaning}
use Rattle.robust_window.proofs.laws.new_mask_twice.Goals as goal

pub returns : goal.returns
returns c = twice_at-meaning
