use Rattle.packet_store.proofs.Packets.{front-good}
use Rattle.packet_store.proofs.Walks.{walk_from-good}
use Rattle.packet_store.proofs.laws.good_packets_are_walked.Goals as goal

pub returns : goal.returns
returns c = record { read = front-good; walked = walk_from-good }
