use Rattle.std.proofs.Common.{◌≡◌, map, take}
use Rattle.std.specs.Vec.{vec_capacity}
use Rattle.side_tables.specs.declared.rows.StreamRow.{StreamRow}
use Rattle.ground_chain.specs.Reception.{nothing_judged}
use Rattle.multi_ground.proofs.ground.MultiGround.open.Given as goal

abbrev pub invariant-loop-index : goal.invariant-loop-index
invariant-loop-index l = record {
  made : l.grounds.items ≡ map (λ (row : StreamRow). nothing_judged row.bits) (take l.index l.streams);
  room : vec_capacity l.grounds ≡ l.count;
}
