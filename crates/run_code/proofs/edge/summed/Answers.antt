use Rattle.std.proofs.Common.{arith}
use Rattle.run_code.proofs.EdgeWords.{summed_by}
use Rattle.run_code.proofs.edge.summed.Goals as goal

pub returns : goal.returns
returns c =
    summed_by c.args.word _ _ _ _ _ _ (omega arith) c.with_shifted-sum.ensures c.with_shifted-sum-2.ensures c.with_shifted-sum-3.ensures c.with_shifted-sum-4.ensures c.with_shifted-sum-5.ensures c.with_shifted.ensures
