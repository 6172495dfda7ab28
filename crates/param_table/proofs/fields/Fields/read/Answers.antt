use Rattle.std.proofs.Common.{map, sym, ◌∙◌, subst}
use Rattle.param_table.specs.Rows.{AreColumns, column_of}
use Rattle.param_table.proofs.TextRows.{AreColumns-rows}
use Rattle.param_table.proofs.fields.Fields.read.Goals as goal

pub returns-clause-fit : goal.returns-clause-fit
returns-clause-fit c =
    let kinds = c.in_ok-kinds.ensures in
    let rows = c.in_ok-rows.ensures in
    subst (AreColumns c.args.f) (sym (c.in_ok-columns.ensures ∙ λ i. map (column_of (kinds.limits i)) (kinds.fields i))) (AreColumns-rows c.args.f c.args.text.now c.in_ok-rows.rows.items rows.rows.are rows.right)
