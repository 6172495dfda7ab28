use Rattle.std.proofs.Common.{refl}
use Rattle.trial_chain.proofs.trial.every.Goals as goal

pub returns : goal.returns
returns c = refl
