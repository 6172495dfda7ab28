use Rattle.packet_encode.proofs.Deliveries.{packet_at-before, packet_at-same}
use Rattle.packet_encode.proofs.laws.packets_of_the_past.Goals as goal

pub returns-clause-more : goal.returns-clause-more
returns-clause-more c = packet_at-before

pub returns-clause-same : goal.returns-clause-same
returns-clause-same c = packet_at-same
