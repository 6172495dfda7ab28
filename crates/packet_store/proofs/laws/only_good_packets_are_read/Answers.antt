use Rattle.packet_store.proofs.Packets.{front-Good}
use Rattle.packet_store.proofs.laws.only_good_packets_are_read.Goals as goal

pub returns : goal.returns
returns c = front-Good
