use Rattle.std.proofs.Common.{ap}
use Rattle.desk_ports.specs.Courses.{by_ending}
use Rattle.loss_player.specs.Playing.{play_course}
use Rattle.loss_player.proofs.laws.whole_stores_owe_their_report.Goals as goal

pub returns : goal.returns
returns c = λ copies apid store whole. ap (λ ending. by_ending ending (play_course copies apid store).before (play_course copies apid store).after) whole
