use Rattle.std.proofs.Common.{refl}
use Rattle.std.proofs.lemmas.Result.{on_ok_weaker}
use Rattle.flight_chain.specs.Compressing.{compress_course}
use Rattle.trial_chain.specs.Stages.{run_meanings, recording_name, store_name}
use Rattle.trial_chain.proofs.TrialHeld.{kept_output}
use Rattle.trial_chain.proofs.stages.compress_on.Goals as goal

pub returns : goal.returns
returns c =
    on_ok_weaker c.keep.result
    (λ keeps. kept_output c.args.run.now.desk c.keep.new.self.desk.held recording_name store_name (compress_course c.args.flight) (run_meanings c.args.run.now) (run_meanings c.compress.new.desk) (run_meanings c.keep.new.self)
    c.requires.opened c.in-Ok.ensures.ran.ends keeps refl)
    c.keep.ensures
