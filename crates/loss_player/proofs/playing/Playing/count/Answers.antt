use Rattle.std.proofs.Common.{refl}
use Rattle.side_tables.specs.Rows.{copies_of}
use Rattle.loss_player.proofs.Tallies.{tally_counted, tally_packets}
use Rattle.loss_player.proofs.playing.Playing.count.Goals as goal

pub returns-clause-counts : goal.returns-clause-counts
returns-clause-counts c =
    let s = c.args.self.now in
    record {
      reader_is = refl;
      script_is = c.at-copies.ensures.same;
      packets = tally_packets (copies_of s.script) s.tally c.count.new.self c.at-copies.result c.requires.counted.counted c.at-copies.ensures.copies c.count.ensures.counted;
    }

pub returns-clause-counted : goal.returns-clause-counted
returns-clause-counted c =
    let s = c.args.self.now in
    rw c.at-copies.ensures.same (record {
      counted = tally_counted (copies_of s.script) s.tally c.count.new.self c.at-copies.result c.requires.counted.counted c.at-copies.ensures.copies c.count.ensures.counted;
      right = c.count.ensures.right;
    })
