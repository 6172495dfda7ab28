use Rattle.std.proofs.Common.{refl, ap}
use Rattle.desk_ports.specs.Meanings.{Meanings, kept_at}
use Rattle.desk_ports.proofs.Courses.{Finishes-told}
use Rattle.side_tables.specs.Rows.{copies_of}
use Rattle.loss_player.specs.Playing.{play_course, play_work}
use Rattle.trial_chain.specs.Stages.{run_meanings, play_name, played_name, store_name}
use Rattle.trial_chain.proofs.TrialHeld.{kept_outputs}
use Rattle.trial_chain.proofs.stages.play_on.Goals as goal

pub returns-clause-held : goal.returns-clause-held
returns-clause-held c =
    kept_outputs c.args.run.now.desk c.keep-2.new.self.desk.held store_name played_name play_name (play_course (copies_of c.args.player.rows) c.args.player.apid) (run_meanings c.args.run.now) (run_meanings c.play.new.desk) (run_meanings c.keep.new.self) (run_meanings c.keep-2.new.self)
    c.requires.opened c.in-Ok.ensures.ran.ends c.in_ok-keep.ensures c.in_ok-keep-2.ensures refl

pub returns-clause-numbers : goal.returns-clause-numbers
returns-clause-numbers c =
    Finishes-told (play_work (copies_of c.args.player.rows) c.args.player.apid) (run_meanings c.args.run.now) (run_meanings c.play.new.desk) c.in-Ok.played (kept_at c.args.run.now.desk.held store_name) (ap (λ (m : Meanings). m.input.left) c.requires.opened) c.in-Ok.ensures.ran
