use Rattle.std.proofs.Common.{refl}
use Rattle.packet_store.specs.Walks.{walk_by, walk_from}
use Rattle.packet_store.proofs.laws.worked_walks.Goals as goal

pub returns : goal.returns
unfolding walk_by walk_from
returns c = record { cut = refl; cut_by_one = refl; version = refl; shape = refl; any_shape = refl; passed = refl }
