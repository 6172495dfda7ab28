use Rattle.std.proofs.Common.{ℤ, unsigned_abs, ◌<◌, ◌^◌, sym, subst}
use Rattle.param_table.proofs.Words.{same-wide}
use Rattle.param_table.proofs.writing.write_violation.Goals as goal

pub put_violation-requires-clause-value : goal.put_violation-requires-clause-value
put_violation-requires-clause-value g c = subst (λ (z : ℤ). unsigned_abs z < 2 ^ 64) (sym (same-wide c.cell-value.result c.cell-value.ensures.small)) c.cell-value.ensures.small
