use Rattle.std.proofs.Common.{refl}
use Rattle.bit_vectors.specs.Vectors.{number_bits}
use Rattle.trial_chain.specs.Draws.{generator_at}
use Rattle.trial_chain.specs.Trials.{trial_input}
use Rattle.trial_chain.proofs.laws.worked_trial.Goals as goal

pub returns-clause-inputs : goal.returns-clause-inputs
unfolding number_bits generator_at trial_input
returns-clause-inputs c = refl

pub returns-clause-copies : goal.returns-clause-copies
unfolding generator_at
returns-clause-copies c = refl
