use Rattle.std.proofs.Common.{refl}
use Rattle.mask_update.specs.Masks.{build_at, change_at, latest_new_mask, mask_at, second_latest_new_mask}
use Rattle.mask_update.proofs.laws.worked_masks.Goals as goal

pub returns-clause-masks : goal.returns-clause-masks
unfolding mask_at latest_new_mask second_latest_new_mask
returns-clause-masks c = refl

pub returns-clause-builds : goal.returns-clause-builds
unfolding build_at latest_new_mask
returns-clause-builds c = refl

pub returns-clause-changes : goal.returns-clause-changes
unfolding change_at mask_at latest_new_mask second_latest_new_mask
returns-clause-changes c = refl
