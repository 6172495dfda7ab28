use Rattle.packet_encode.specs.Deliveries.{listed_numbers}
use Rattle.ground_chain.proofs.ListedRows.{rows-apart, rows-numbers, rows-tell}
use Rattle.ground_chain.proofs.deliveries.rows_tell_of_listed_packets.Goals as goal

pub returns : goal.returns
returns c = record {
  numbers = λ h copies. rows-numbers h copies (listed_numbers h copies);
  causes = λ h copies. rows-tell h copies (listed_numbers h copies);
  together = λ h copies. rows-apart h copies (listed_numbers h copies);
}
