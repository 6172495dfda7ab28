use Rattle.std.proofs.Common.{[]}
use Rattle.multi_ground.proofs.StreamsApart.{apart_from}
use Rattle.multi_ground.proofs.laws.streams_are_apart.Goals as goal

pub returns : goal.returns
returns c = λ streams packets index are within. apart_from streams are index within [] packets
