use Rattle.std.proofs.Common.{refl}
use Rattle.side_tables.proofs.text.refused.Goals as goal

pub returns : goal.returns
returns c = refl
