use Rattle.ground_chain.proofs.HistoryRuns.{bytes-history}
use Rattle.ground_chain.proofs.deliveries.written_packets_are_restored.Goals as goal

pub returns : goal.returns
returns c = bytes-history
