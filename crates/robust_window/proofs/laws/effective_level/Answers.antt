use Rattle.std.proofs.Common.{arith}
use Rattle.robust_window.proofs.OfHistories.{IsLevel-level_at, level_at-greatest, level_at-stops}
use Rattle.robust_window.proofs.laws.effective_level.Goals as goal

pub returns-clause-level : goal.returns-clause-level
returns-clause-level c = IsLevel-level_at

pub returns-clause-greatest : goal.returns-clause-greatest
returns-clause-greatest c = level_at-greatest

pub returns-clause-stops : goal.returns-clause-stops
returns-clause-stops c = level_at-stops

pub returns-clause-start : goal.returns-clause-start
returns-clause-start c = λ h t lt start. let is = IsLevel-level_at h t lt in omega (arith, is.least, is.most)

pub returns-clause-most : goal.returns-clause-most
returns-clause-most c = λ h t valid lt. let is = IsLevel-level_at h t lt in omega (arith, is.most, valid.robust t lt)
