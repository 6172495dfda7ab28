use Rattle.std.proofs.Common.{◌<◌, ◌^◌, arith}
use Rattle.multi_ground.specs.Grounds.{reckoning_at}
use Rattle.multi_ground.proofs.MultiRuns.{written_count-few}
use Rattle.multi_ground.proofs.Received.{bool_byte-few, packets-few}
use Rattle.multi_ground.proofs.receiving.MultiReceiving.arrive.Goals as goal

pub arrive-verdict-requires-clause-next : goal.arrive-verdict-requires-clause-next
arrive-verdict-requires-clause-next g c =
    let s = c.args.self.now in
    let received = c.requires.receiving.received in
    let few : (reckoning_at s.arrivals c.args.index).restored.packets < 2 ^ 32 = omega (arith, c.requires.receiving.few, packets-few s.streams c.requires.receiving.packets s.arrivals c.args.index received.reckoned c.requires.stream) in
    (rw c.body.ensures c.requires.arrival, few)

pub overflow_add-self : goal.overflow_add-self
overflow_add-self g c =
    let s = c.args.self.now in
    let received = c.requires.receiving.received in
    omega (arith, c.requires.receiving.few, received.written, written_count-few s.streams c.requires.receiving.packets, c.from.ensures, bool_byte-few c.is_written.result)
