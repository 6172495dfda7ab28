use Rattle.ground_chain.specs.Run.{nothing_known}
use Rattle.ground_chain.proofs.Sound.{AreJudged-run, AreJudged-only}
use Rattle.ground_chain.proofs.laws.one_exact_run.Goals as goal

pub returns : goal.returns
returns c = record {
  exact = λ f arrivals. AreJudged-run f nothing_known arrivals (record { mask = tt; content = tt });
  only = λ f arrivals judged is. AreJudged-only f nothing_known arrivals judged (record { mask = tt; content = tt }) is;
}
