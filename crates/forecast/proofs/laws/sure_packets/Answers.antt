use Rattle.std.proofs.Common.{Some, subst}
use Rattle.forecast.specs.Prospects.{IsMaskSure, IsSure, latest_mask_sure, latest_sure}
use Rattle.packet_encode.proofs.Deliveries.{IsLatestOr, latest-only}
use Rattle.forecast.proofs.Foresight.{mask_sure-right, latest_sure-right, mask_sure-from, mask_sure-to, sure-from, sure-to}
use Rattle.forecast.proofs.laws.sure_packets.Goals as goal

pub returns-clause-is : goal.returns-clause-is
returns-clause-is c = λ p t. (sure-from p t, sure-to p t)

pub returns-clause-latest : goal.returns-clause-latest
returns-clause-latest c = λ p t latest. (
  (λ is. subst (IsLatestOr (IsSure p) t) is (latest_sure-right p t)),
  (λ is. latest-only (IsSure p) t (latest_sure p t) (Some latest) (latest_sure-right p t) is),
)

pub returns-clause-mask : goal.returns-clause-mask
returns-clause-mask c = λ p t. (mask_sure-from p t, mask_sure-to p t)

pub returns-clause-latest_mask : goal.returns-clause-latest_mask
returns-clause-latest_mask c = λ p t latest. (
  (λ is. subst (IsLatestOr (IsMaskSure p) t) is (mask_sure-right p t)),
  (λ is. latest-only (IsMaskSure p) t (latest_mask_sure p t) (Some latest) (mask_sure-right p t) is),
)
