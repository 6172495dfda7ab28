use Rattle.std.proofs.Common.{◌≡◌}
use Rattle.std.proofs.lemmas.Result.{IfOk-at_ok}
use Rattle.trial_chain.specs.Stages.{run_meanings, run_opened, recording_name, store_name}
use Rattle.trial_chain.proofs.TrialHeld.{run_opened-own}
use Rattle.trial_chain.proofs.stages.compress.Goals as goal

pub compress_on-done-requires-clause-opened : goal.compress_on-done-requires-clause-opened
compress_on-done-requires-clause-opened c =
    run_opened-own c.args.desk recording_name store_name c.in_ok-run.run' (IfOk-at_ok (λ run. run_meanings run ≡ run_opened c.args.desk recording_name store_name) c.in_ok-run.ensures.run c.open.ensures)
