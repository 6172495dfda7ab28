use Rattle.std.proofs.Common.{arith, rules}
use Rattle.side_tables.proofs.Claimed.{RunHolds-joined}
use Rattle.side_tables.proofs.ranks.longer.Goals as goal

pub returns : goal.returns
returns c =
    let cells = c.args.cells.now in
    let next = c.in-Some.next in
    let further = c.requires.cells.runs next (omega arith) in
    let serves = c.serves.ensures c.if-not-serves.false in
    record {
      serves = search rules;
      holds = RunHolds-joined c.args.claim.now cells c.args.t next c.args.run _ c.requires.cells.few c.requires.run.holds further c.requires.run.serves serves c.in-Some.ensures.named c.in-Some.ensures.first;
    }
