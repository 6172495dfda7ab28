use Rattle.mask_update.proofs.StepByStep.{IsValid-history_of, history_of-push, length-history_of, step_at-history_of}
use Rattle.mask_update.specs.Histories.{Step, forced_flags}
use Rattle.std.proofs.Common.{ap, ◌∙◌}
use Rattle.std.proofs.lemmas.Bool.{cond-false, cond-true, le-leb, lt-leb}
use Rattle.mask_update.proofs.laws.histories_of_inputs.Goals as goal

pub returns-clause-steps : goal.returns-clause-steps
returns-clause-steps c = length-history_of

pub returns-clause-input : goal.returns-clause-input
returns-clause-input c = λ inputs flags robust f first_mask t lt. ap (λ (s : Step). s.input) (step_at-history_of inputs flags robust f first_mask t lt)

pub returns-clause-flags : goal.returns-clause-flags
returns-clause-flags c = λ inputs flags robust f first_mask t lt above.
    ap (λ (s : Step). s.flags) (step_at-history_of inputs flags robust f first_mask t lt)
    ∙ cond-false _ forced_flags (flags t) (lt-leb t (robust t) above)

pub returns-clause-forced : goal.returns-clause-forced
returns-clause-forced c = λ inputs flags robust f first_mask t lt up_to.
    ap (λ (s : Step). s.flags) (step_at-history_of inputs flags robust f first_mask t lt)
    ∙ cond-true _ forced_flags (flags t) (le-leb t (robust t) up_to)

pub returns-clause-robust : goal.returns-clause-robust
returns-clause-robust c = λ inputs flags robust f first_mask t lt. ap (λ (s : Step). s.robust) (step_at-history_of inputs flags robust f first_mask t lt)

pub returns-clause-valid : goal.returns-clause-valid
returns-clause-valid c = IsValid-history_of

pub returns-clause-one_more : goal.returns-clause-one_more
returns-clause-one_more c = history_of-push
