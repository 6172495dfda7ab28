use Rattle.std.proofs.Common.{refl}
use Rattle.packet_store.specs.Walks.{walk_by, walk_from}
use Rattle.loss_player.proofs.laws.worked_stores.Goals as goal

pub returns : goal.returns
unfolding walk_by walk_from
returns c = record { played = refl; numbers = refl }
