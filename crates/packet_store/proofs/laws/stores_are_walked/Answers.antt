use Rattle.packet_store.proofs.Walks.{walk-store_bytes}
use Rattle.packet_store.proofs.laws.stores_are_walked.Goals as goal

pub returns : goal.returns
returns c = walk-store_bytes
