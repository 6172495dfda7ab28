use Rattle.std.proofs.Common.{Some, None, subst}
use Rattle.packet_encode.specs.Deliveries.{latest_written, WrittenAt}
use Rattle.packet_encode.proofs.Deliveries.{IsLatestOr, latest-only, latest_written-right, written-from, written-to}
use Rattle.packet_encode.proofs.laws.written_packets.Goals as goal

pub returns-clause-latest : goal.returns-clause-latest
returns-clause-latest c = λ h copies t latest. (
  (λ is. subst (IsLatestOr (WrittenAt h copies) t) is (latest_written-right h copies t)),
  (λ is. latest-only (WrittenAt h copies) t (latest_written h copies t) (Some latest) (latest_written-right h copies t) is),
)

pub returns-clause-none : goal.returns-clause-none
returns-clause-none c = λ h copies t. (
  (λ is. subst (IsLatestOr (WrittenAt h copies) t) is (latest_written-right h copies t)),
  (λ none. latest-only (WrittenAt h copies) t (latest_written h copies t) None (latest_written-right h copies t) none),
)

pub returns-clause-is : goal.returns-clause-is
returns-clause-is c = λ h copies t. (written-from h copies t, written-to h copies t)
