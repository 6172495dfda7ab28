use Rattle.std.proofs.Common.{add-one}
use Rattle.mask_update.proofs.StepByStep.{build_at-places, change_at-places, mask_at-places}
use Rattle.mask_update.proofs.laws.places_of_masks.Goals as goal

pub returns-clause-mask : goal.returns-clause-mask
returns-clause-mask c = mask_at-places

pub returns-clause-build : goal.returns-clause-build
returns-clause-build c = build_at-places

pub returns-clause-change : goal.returns-clause-change
returns-clause-change c = λ h t. rw add-one (change_at-places h t)
