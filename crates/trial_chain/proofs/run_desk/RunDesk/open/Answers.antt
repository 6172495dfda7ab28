use Rattle.std.proofs.Common.{subst}
use Rattle.desk_ports.specs.declared.desk.Inlet.TheVariants as inlet
use Rattle.desk_ports.specs.Meanings.{Opens}
use Rattle.trial_chain.specs.Stages.{RunState, run_meanings}
use Rattle.trial_chain.proofs.TrialHeld.{run_opened-is}
use Rattle.trial_chain.proofs.run_desk.RunDesk.open.Goals as goal

pub returns : goal.returns
returns c =
    run_opened-is c.args.desk c.args.input.now c.args.output.now (run_meanings c.open_in.new.self) (run_meanings c.begin.new.self)
    (subst (λ (r : RunState). Opens (run_meanings r) (run_meanings c.open_in.new.self) inlet.Main c.args.input.now) c.over-run.ensures c.in-Ok.ensures.opened) c.in_ok-begin.ensures
