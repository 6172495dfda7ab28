use Rattle.std.proofs.Common.{refl}
use Rattle.std.specs.Fmt.{digits}
use Rattle.packet_encode.specs.Deliveries.{latest_by}
use Rattle.forecast.specs.Stretches.{first_alike}
use Rattle.forecast.proofs.laws.worked_forecasts.Goals as goal

pub returns : goal.returns
unfolding digits latest_by first_alike
returns c = refl
