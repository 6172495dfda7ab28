use Rattle.trial_chain.specs.Trials.{trial_copies}
use Rattle.trial_chain.proofs.TrialHistories.{AreGapsShort-few, IsValid-trial, most_copies}
use Rattle.trial_chain.proofs.laws.trials_are_valid.Goals as goal

pub returns-clause-valid : goal.returns-clause-valid
returns-clause-valid c = IsValid-trial

pub returns-clause-gaps : goal.returns-clause-gaps
returns-clause-gaps c = λ seed packets few. AreGapsShort-few (trial_copies seed packets) packets few

pub returns-clause-copies : goal.returns-clause-copies
returns-clause-copies c = most_copies
