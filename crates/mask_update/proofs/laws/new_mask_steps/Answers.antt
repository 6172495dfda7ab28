use Rattle.std.proofs.Common.{◌-◌, arith}
use Rattle.mask_update.specs.Masks.{latest_new_mask, second_latest_new_mask}
use Rattle.mask_update.proofs.StepByStep.{latest_new_mask-le, new_mask_at-after_latest, new_mask_at-latest}
use Rattle.mask_update.proofs.laws.new_mask_steps.Goals as goal

pub returns-clause-latest : goal.returns-clause-latest
returns-clause-latest c = new_mask_at-latest

pub returns-clause-latest_within : goal.returns-clause-latest_within
returns-clause-latest_within c = latest_new_mask-le

pub returns-clause-none_after : goal.returns-clause-none_after
returns-clause-none_after c = new_mask_at-after_latest

pub returns-clause-second : goal.returns-clause-second
unfolding second_latest_new_mask
returns-clause-second c = λ h t. new_mask_at-latest h (latest_new_mask h t - 1)

pub returns-clause-second_below : goal.returns-clause-second_below
unfolding second_latest_new_mask
returns-clause-second_below c = λ h t some. omega (arith, latest_new_mask-le h (latest_new_mask h t - 1))

pub returns-clause-none_between : goal.returns-clause-none_between
unfolding second_latest_new_mask
returns-clause-none_between c = λ h t step above below. new_mask_at-after_latest h (latest_new_mask h t - 1) step above (omega arith)

pub returns-clause-no_second : goal.returns-clause-no_second
unfolding second_latest_new_mask
returns-clause-no_second c = λ h t none. omega (arith, latest_new_mask-le h (latest_new_mask h t - 1))
