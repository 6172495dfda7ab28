use Rattle.std.proofs.Common.{arith}
use Rattle.std.proofs.lemmas.List.{drop_all}
use Rattle.param_table.proofs.line.Line.clear.Goals as goal

pub returns : goal.returns
returns c = drop_all 8481 c.self.inside.bytes.items (omega (arith, c.self.invariant.whole))
