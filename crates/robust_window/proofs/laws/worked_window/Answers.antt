use Rattle.std.proofs.Common.{refl}
use Rattle.mask_update.specs.Masks.{change_at, latest_new_mask, mask_at, second_latest_new_mask}
use Rattle.robust_window.specs.Changes.{level_of, recent_of, twice_of}
use Rattle.robust_window.proofs.laws.worked_window.Goals as goal

pub returns-clause-recent : goal.returns-clause-recent
unfolding recent_of change_at mask_at latest_new_mask second_latest_new_mask
returns-clause-recent c = refl

pub returns-clause-levels : goal.returns-clause-levels
unfolding level_of change_at mask_at latest_new_mask second_latest_new_mask
returns-clause-levels c = refl

pub returns-clause-twice : goal.returns-clause-twice
unfolding twice_of level_of change_at mask_at latest_new_mask second_latest_new_mask
returns-clause-twice c = refl
