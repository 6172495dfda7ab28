use Rattle.std.proofs.Common.{refl, ap}
use Rattle.desk_ports.specs.Meanings.{Meanings, kept_at}
use Rattle.desk_ports.proofs.Courses.{Finishes-told}
use Rattle.ground_chain.specs.Restoring.{restore_course, restore_work}
use Rattle.trial_chain.specs.Stages.{run_meanings, played_name, report_name, restored_name}
use Rattle.trial_chain.proofs.TrialHeld.{kept_outputs}
use Rattle.trial_chain.proofs.stages.restore_on.Goals as goal

pub returns-clause-held : goal.returns-clause-held
returns-clause-held c =
    kept_outputs c.args.run.now.desk c.keep-2.new.self.desk.held played_name restored_name report_name (restore_course c.args.restorer.places c.args.restorer.apid) (run_meanings c.args.run.now) (run_meanings c.restore.new.desk) (run_meanings c.keep.new.self) (run_meanings c.keep-2.new.self)
    c.requires.opened c.in-Ok.ensures.ran.ends c.in_ok-keep.ensures c.in_ok-keep-2.ensures refl

pub returns-clause-numbers : goal.returns-clause-numbers
returns-clause-numbers c =
    Finishes-told (restore_work c.args.restorer.places c.args.restorer.apid) (run_meanings c.args.run.now) (run_meanings c.restore.new.desk) c.in-Ok.restored (kept_at c.args.run.now.desk.held played_name) (ap (λ (m : Meanings). m.input.left) c.requires.opened) c.in-Ok.ensures.ran
