use Rattle.std.proofs.Common.{Some}
use Rattle.packet_store.specs.Walks.{walk}
use Rattle.loss_player.proofs.PlayedPackets.{played_others, played_own}
use Rattle.loss_player.proofs.laws.packets_arrive_by_their_copies.Goals as goal

pub returns : goal.returns
returns c = record {
  chosen = λ copies apid store. played_own (Some apid) copies 0 (walk (Some apid) store).packets;
  others = λ copies apid store. played_others (Some apid) copies 0 (walk (Some apid) store).packets;
}
