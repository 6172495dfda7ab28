use Rattle.std.proofs.Common.{refl}
use Rattle.std.specs.Fmt.{digits}
use Rattle.loss_player.proofs.laws.worked_reports.Goals as goal

pub returns : goal.returns
unfolding digits
returns c = record { dropped = refl; repeated = refl; empty = refl; short = refl; long = refl; late = refl }
