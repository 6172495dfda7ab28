use Rattle.std.proofs.Common.{◌++◌}
use Rattle.ground_chain.specs.Report.{header_row, end_row}
use Rattle.ground_chain.proofs.HistoryRows.{numbers-history, rows-history}
use Rattle.ground_chain.proofs.deliveries.unwritten_packets_are_reported.Goals as goal

pub returns-clause-rows : goal.returns-clause-rows
returns-clause-rows c = rows-history

pub returns-clause-numbers : goal.returns-clause-numbers
returns-clause-numbers c = numbers-history

pub returns-clause-report : goal.returns-clause-report
returns-clause-report c = λ h copies valid short i. header_row ++ rows-history h copies valid short i ++ end_row (numbers-history h copies valid short i)
