use Rattle.ground_chain.proofs.HistoryRuns.{known-history}
use Rattle.ground_chain.proofs.deliveries.histories_are_known.Goals as goal

pub returns : goal.returns
returns c = λ h copies valid short. known-history h copies valid short
