use Rattle.std.proofs.Common.{sym}
use Rattle.packet_encode.proofs.Deliveries.{latest_by-zero}
use Rattle.forecast.specs.Prospects.{is_mask_sure_from, is_sure_from}
use Rattle.forecast.proofs.latest.LatestSure.none.Goals as goal

pub returns : goal.returns
returns c = λ p i. record { mask = sym (latest_by-zero (is_mask_sure_from p)) i; packet = sym (latest_by-zero (is_sure_from p)) i }
