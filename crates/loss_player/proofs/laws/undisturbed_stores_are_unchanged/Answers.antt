use Rattle.std.proofs.Common.{List, ◌++◌, length, Some, refl, ap, ◌∙◌, arith}
use Rattle.packet_store.specs.SpacePackets.{Packet}
use Rattle.packet_store.specs.Walks.{walk, packets_bytes}
use Rattle.packet_store.proofs.Walks.{IsWalk-walk_from}
use Rattle.loss_player.proofs.PlayedPackets.{played_from-once}
use Rattle.loss_player.proofs.laws.undisturbed_stores_are_unchanged.Goals as goal

pub returns : goal.returns
returns c = record {
  unchanged = λ copies apid store once all.
      let joined = (IsWalk-walk_from (length store) (Some apid) 0 0 store (omega arith) (omega arith) all).joined in
      ap (λ (l : List Packet). packets_bytes l ++ (walk (Some apid) store).rest) (played_from-once (Some apid) copies 0 (walk (Some apid) store).packets once) ∙ joined;
  no_rows = λ t. refl;
}
