use Rattle.std.proofs.Common.{subst}
use Rattle.desk_ports.specs.Courses.{AfterRun, by_stop}
use Rattle.side_tables.specs.Rows.{copies_of}
use Rattle.packet_store.specs.StoreReader.{stop_by}
use Rattle.loss_player.specs.Playing.{PlayerState, play_work, player_state}
use Rattle.loss_player.proofs.PlayCourses.{Owes-unread}
use Rattle.loss_player.proofs.player.Player.play.Goals as goal

pub returns-clause-ran : goal.returns-clause-ran
returns-clause-ran g c =
    let a = g.D.Desk.meaning c.args.desk.now in
    let b = g.D.Desk.meaning c.drive.new.desk in
    let p = player_state c.self.inside.playing in
    subst (λ (r : PlayerState). AfterRun (play_work (copies_of r.rows) r.apid) a b (by_stop stop_by c.drive.result)) c.self.view_is (c.drive.ensures.ran (play_work (copies_of p.rows) p.apid) (Owes-unread c.self.inside.playing c.self.invariant))
