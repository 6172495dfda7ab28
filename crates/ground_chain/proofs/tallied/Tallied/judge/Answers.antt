use Rattle.std.proofs.Common.{rules}
use Rattle.ground_chain.proofs.Reckonings.{HasJudged-next}
use Rattle.ground_chain.proofs.tallied.Tallied.judge.Goals as goal

pub returns-clause-judges : goal.returns-clause-judges
returns-clause-judges c = search rules

pub returns-clause-stands : goal.returns-clause-stands
returns-clause-stands c = λ f arrivals has. HasJudged-next (returns-clause-judges c) f arrivals has
