use Rattle.std.proofs.Common.{◌∙◌, ap, sym, subst}
use Rattle.side_tables.specs.Streams.{AreStreams, stream_of}
use Rattle.side_tables.specs.Texts.{records_of}
use Rattle.side_tables.proofs.StreamRows.{rows_of-streams}
use Rattle.side_tables.proofs.streams.Streams.read.Goals as goal

pub indexes_of-requires : goal.indexes_of-requires
indexes_of-requires c = subst AreStreams (sym (c.deref.ensures.value ∙ c.in_ok-rows.ensures.rows.are)) (rows_of-streams (records_of c.args.text.now))

pub invariant_of-result : goal.invariant_of-result
invariant_of-result c = (subst AreStreams (sym c.in_ok-rows.ensures.rows.are) (rows_of-streams (records_of c.args.text.now)), λ apid. c.in_ok-indexes.ensures apid ∙ ap (λ rows. stream_of rows apid) c.deref.ensures.value)
