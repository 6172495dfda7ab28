use Rattle.forecast.proofs.Foresight.{IsForeseen-history_of}
use Rattle.forecast.proofs.laws.prospects_of_histories.Goals as goal

pub returns : goal.returns
returns c = IsForeseen-history_of
