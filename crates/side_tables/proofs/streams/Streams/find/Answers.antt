use Rattle.std.proofs.Common.{◌≡◌, rules}
use Rattle.side_tables.specs.Streams.{stream_of}
use Rattle.side_tables.proofs.StreamRows.{stream_of-own}
use Rattle.side_tables.proofs.streams.Streams.find.Goals as goal

pub returns-clause-own : goal.returns-clause-own
returns-clause-own c =
    let is : c.in_ok-get.field-0.now ≡ stream_of c.args.self.now c.args.apid = search rules in
    rw is (stream_of-own c.args.self.now c.args.apid)
