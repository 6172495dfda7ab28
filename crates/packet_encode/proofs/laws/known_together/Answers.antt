use Rattle.std.proofs.Common.{Some, None, subst}
use Rattle.packet_encode.specs.Deliveries.{latest_known_together, KnownTogetherAt}
use Rattle.packet_encode.proofs.Deliveries.{IsLatestOr, latest-only, latest_together-right, together-from, together-to}
use Rattle.packet_encode.proofs.laws.known_together.Goals as goal

pub returns-clause-latest : goal.returns-clause-latest
returns-clause-latest c = λ h copies t latest. (
  (λ is. subst (IsLatestOr (KnownTogetherAt h copies) t) is (latest_together-right h copies t)),
  (λ is. latest-only (KnownTogetherAt h copies) t (latest_known_together h copies t) (Some latest) (latest_together-right h copies t) is),
)

pub returns-clause-none : goal.returns-clause-none
returns-clause-none c = λ h copies t. (
  (λ is. subst (IsLatestOr (KnownTogetherAt h copies) t) is (latest_together-right h copies t)),
  (λ none. latest-only (KnownTogetherAt h copies) t (latest_known_together h copies t) None (latest_together-right h copies t) none),
)

pub returns-clause-is : goal.returns-clause-is
returns-clause-is c = λ h copies t. (together-from h copies t, together-to h copies t)
