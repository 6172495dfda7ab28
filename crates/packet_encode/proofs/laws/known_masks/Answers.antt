use Rattle.std.proofs.Common.{Some, None, subst}
use Rattle.packet_encode.specs.Deliveries.{latest_mask_known, MaskKnownAt}
use Rattle.packet_encode.proofs.Deliveries.{IsLatestOr, latest-only, latest_mask-right, mask_known-from, mask_known-to}
use Rattle.packet_encode.proofs.laws.known_masks.Goals as goal

pub returns-clause-latest : goal.returns-clause-latest
returns-clause-latest c = λ h copies t latest. (
  (λ is. subst (IsLatestOr (MaskKnownAt h copies) t) is (latest_mask-right h copies t)),
  (λ is. latest-only (MaskKnownAt h copies) t (latest_mask_known h copies t) (Some latest) (latest_mask-right h copies t) is),
)

pub returns-clause-none : goal.returns-clause-none
returns-clause-none c = λ h copies t. (
  (λ is. subst (IsLatestOr (MaskKnownAt h copies) t) is (latest_mask-right h copies t)),
  (λ none. latest-only (MaskKnownAt h copies) t (latest_mask_known h copies t) None (latest_mask-right h copies t) none),
)

pub returns-clause-is : goal.returns-clause-is
returns-clause-is c = λ h copies t. (mask_known-from h copies t, mask_known-to h copies t)
