use Rattle.mask_update.proofs.Standing.{build_at-before, change_at-before, mask_at-before}
use Rattle.mask_update.proofs.laws.earlier_steps_stay.Goals as goal

pub returns-clause-mask : goal.returns-clause-mask
returns-clause-mask c = mask_at-before

pub returns-clause-build : goal.returns-clause-build
returns-clause-build c = build_at-before

pub returns-clause-change : goal.returns-clause-change
returns-clause-change c = change_at-before
