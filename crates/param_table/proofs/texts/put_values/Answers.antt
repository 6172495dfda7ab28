use Rattle.std.proofs.Common.{ℤ, unsigned_abs, ◌<◌, ◌^◌, sym, subst}
use Rattle.param_table.proofs.Words.{same-wide}
use Rattle.param_table.proofs.texts.put_values.Goals as goal

pub put_signed-requires-clause-small : goal.put_signed-requires-clause-small
put_signed-requires-clause-small c = subst (λ (z : ℤ). unsigned_abs z < 2 ^ 64) (sym (same-wide c.cell.result c.cell.ensures.small)) c.cell.ensures.small
