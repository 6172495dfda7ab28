use Rattle.std.proofs.Common.{◌≡◌, IfOk, subst}
use Rattle.trial_chain.specs.Trials.{trial_summary}
use Rattle.pocket_cmd.proofs.summary.summary_of.Goals as goal

pub returns : goal.returns
returns c =
    subst (λ told. IfOk c.run_trial.result (λ summary. summary ≡ told))
    (λ i. trial_summary (c.number_at-seed.ensures i) (c.number_at-packets.ensures i) (c.number_at-f.ensures i) (c.number_at.ensures i)) c.run_trial.ensures.summary
