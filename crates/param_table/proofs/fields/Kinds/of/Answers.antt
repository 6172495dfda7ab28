use Rattle.param_table.specs.Rows.{field_of, limit_of}
use Rattle.param_table.proofs.TextRows.{kinds-more}
use Rattle.param_table.proofs.fields.Kinds.of.Goals as goal

pub loop-row-preserved : goal.loop-row-preserved
loop-row-preserved c =
    let inv = c.loop-row.invariant in
    let put = c.in_ok-put.ensures in
    record {
      fields = kinds-more field_of c.loop-row.yielded c.in-Some.row c.loop-row.kinds.fields.items c.put.new.self.fields.items inv.fields put.fields;
      limits = kinds-more limit_of c.loop-row.yielded c.in-Some.row c.loop-row.kinds.limits.items c.put.new.self.limits.items inv.limits put.limits;
    }
