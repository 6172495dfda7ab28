use Rattle.std.proofs.Common.{[], ◌∷◌}
use Rattle.ground_chain.specs.Run.{nothing_known}
use Rattle.ground_chain.proofs.EveryRun.{known_from-append, run_from-append}
use Rattle.ground_chain.proofs.laws.runs_grow.Goals as goal

pub returns : goal.returns
returns c = record {
  place = λ f before after arrival. run_from-append f nothing_known before (arrival ∷ after);
  verdicts = λ f arrivals arrival. run_from-append f nothing_known arrivals (arrival ∷ []);
  known = λ f arrivals arrival. known_from-append f nothing_known arrivals (arrival ∷ []);
}
