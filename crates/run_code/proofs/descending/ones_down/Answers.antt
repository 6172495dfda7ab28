use Rattle.std.proofs.Common.{◌-◌, ◌/◌, arith}
use Rattle.run_code.proofs.Gathering.{all_left}
use Rattle.run_code.proofs.descending.ones_down.Goals as goal

pub returns : goal.returns
returns c =
    let len = c.len.ensures.len in
    all_left c.args.v.now ((c.len.result - 1) / 64) c.word-ones.result (omega (arith, len, c.len.ensures.vector)) (omega (arith, len, c.len.ensures.vector)) c.word-ones.ensures
