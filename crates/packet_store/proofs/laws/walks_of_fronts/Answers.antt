use Rattle.std.proofs.Common.{length, arith}
use Rattle.packet_store.proofs.Walks.{IsLonger-walk_from}
use Rattle.packet_store.proofs.laws.walks_of_fronts.Goals as goal

pub returns : goal.returns
returns c = λ chosen bytes more all.
    let longer = IsLonger-walk_from (length bytes) chosen 0 0 bytes more (omega arith) (omega arith) all in
    (longer.later, longer.joined)
