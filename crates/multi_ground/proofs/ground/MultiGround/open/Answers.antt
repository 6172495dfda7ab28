use Rattle.std.proofs.Common.{◌<◌, ◌++◌, ◌∷◌, [], length, ap, sym, ◌∙◌, arith}
use Rattle.std.proofs.lemmas.List.{map_more}
use Rattle.side_tables.specs.declared.rows.StreamRow.{StreamRow}
use Rattle.side_tables.specs.Streams.{no_stream}
use Rattle.ground_chain.specs.Reception.{nothing_judged}
use Rattle.multi_ground.proofs.ground.MultiGround.open.Goals as goal

pub loop-index-preserved : goal.loop-index-preserved
loop-index-preserved c =
    let rows = c.args.streams.now in
    let index = c.loop-index.index in
    let within : index < length rows = omega (arith, c.count-count.ensures.count, c.loop-index-test.true) in
    let opened = c.in_ok-open.ensures.opened ∙ ap nothing_judged c.bits.ensures.bits in
    record {
      made = c.push_reserved.ensures.items ∙ ((λ i. c.loop-index.invariant.made i ++ opened i ∷ []) ∙ sym (map_more (λ (row : StreamRow). nothing_judged row.bits) rows index no_stream within));
      room = c.push_reserved.ensures.capacity ∙ c.loop-index.invariant.room;
    }
