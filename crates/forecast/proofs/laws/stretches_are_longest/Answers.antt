use Rattle.forecast.proofs.Stretches.{longest-from, longest-to}
use Rattle.forecast.proofs.laws.stretches_are_longest.Goals as goal

pub returns : goal.returns
returns c = λ fate n s. (longest-from fate n s, longest-to fate n s)
