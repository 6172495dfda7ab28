use Rattle.std.proofs.Common.{not, length, ap, arith}
use Rattle.std.proofs.lemmas.Bool.{false_from_ne_true}
use Rattle.std.proofs.lemmas.Grind.{common_steps}
use Rattle.packet_encode.specs.Deliveries.{count_to_last, is_written}
use Rattle.packet_encode.proofs.Deliveries.{arrived-heard, passing-from, passing-to, written-from, written-to, written_or_listed}
use Rattle.packet_encode.proofs.laws.listed_packets.Goals as goal

pub returns-clause-written : goal.returns-clause-written
returns-clause-written c = λ h copies t. (
  (λ has. let (below, passes) = passing-to (is_written h copies) (length h.steps) t has in (below, written-from h copies t passes)),
  (λ (below, written). passing-from (is_written h copies) (length h.steps) t below (written-to h copies t written)),
)

pub returns-clause-listed : goal.returns-clause-listed
returns-clause-listed c = λ h copies t. (
  (λ has. let (below, passes) = passing-to (λ t. not (is_written h copies t)) (count_to_last copies (length h.steps)) t has in
      record { heard = below; unwritten = λ written. let is = written-to h copies t written in grind (arith, common_steps) }),
  (λ listed. passing-from (λ t. not (is_written h copies t)) (count_to_last copies (length h.steps)) t listed.heard
      (ap not (false_from_ne_true (is_written h copies t) (λ is. listed.unwritten (written-from h copies t is))))),
)

pub returns-clause-heard : goal.returns-clause-heard
returns-clause-heard c = λ h copies t below written. arrived-heard copies (length h.steps) t below written.arrives

pub returns-clause-each : goal.returns-clause-each
returns-clause-each c = λ h copies t heard. written_or_listed h copies t heard
