use Rattle.ground_chain.specs.Run.{nothing_known}
use Rattle.ground_chain.proofs.Sound.{AreJudged-alike}
use Rattle.ground_chain.proofs.laws.sound_runs_agree.Goals as goal

pub returns : goal.returns
returns c = λ f arrivals judged is. AreJudged-alike f nothing_known arrivals judged (record { mask = tt; content = tt }) is
