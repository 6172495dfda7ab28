use Rattle.std.proofs.Common.{◌≡◌, length, arith}
use Rattle.side_tables.proofs.StreamRows.{AreIndexes-more, AreIndexes-end}
use Rattle.side_tables.proofs.streams.indexes_of.Goals as goal

pub loop-index-preserved : goal.loop-index-preserved
loop-index-preserved c = rw c.from.ensures (AreIndexes-more c.args.rows.now c.loop-index.index c.loop-index.indexes.items c.requires c.loop-index-test.true c.loop-index.invariant)

pub returns : goal.returns
returns c = AreIndexes-end c.args.rows.now c.loop-index.index c.loop-index.indexes.items (let all : c.loop-index.index ≡ length c.args.rows.now = omega arith in all) c.loop-index.invariant
