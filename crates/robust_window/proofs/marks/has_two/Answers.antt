use Rattle.std.proofs.Common.{ap}
use Rattle.std.specs.Prelude.{nat_le}
use Rattle.robust_window.proofs.Marking.{ones_shifted}
use Rattle.robust_window.proofs.marks.has_two.Goals as goal

pub returns : goal.returns
returns c = ap (nat_le 2) (ones_shifted c.args.marks c.args.count c.requires.1)
