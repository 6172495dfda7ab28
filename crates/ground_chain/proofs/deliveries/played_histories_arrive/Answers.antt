use Rattle.std.proofs.Common.{ap}
use Rattle.packet_store.specs.Walks.{Walk}
use Rattle.ground_chain.proofs.DeliveredRuns.{arrivals-played, walk-played, walk-too_many}
use Rattle.ground_chain.proofs.deliveries.played_histories_arrive.Goals as goal

pub returns : goal.returns
returns c = record {
  whole = λ h copies apid valid chosen few. ap (λ (w : Walk). w.ending) (walk-played h copies apid valid chosen few);
  arrive = arrivals-played;
  too_many = walk-too_many;
}
