use Rattle.packet_store.proofs.Packets.{packet_bytes-same}
use Rattle.packet_store.proofs.laws.packets_are_told_apart.Goals as goal

pub returns : goal.returns
returns c = packet_bytes-same
