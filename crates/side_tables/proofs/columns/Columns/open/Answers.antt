use Rattle.std.proofs.Common.{List, subst}
use Rattle.side_tables.specs.declared.rows.RobustRow.{RobustRow}
use Rattle.side_tables.specs.Columns.{AreLatestRanks}
use Rattle.side_tables.specs.Rows.{robust_span}
use Rattle.side_tables.proofs.columns.Columns.open.Goals as goal

pub returns : goal.returns
returns c = record {
  new_masks = c.in_ok-flag_ranks.ensures;
  masks = c.in_ok-flag_ranks-2.ensures;
  contents = c.in_ok-flag_ranks-3.ensures;
  robusts = subst (λ (rows : List RobustRow). AreLatestRanks robust_span rows c.in_ok-latest_ranks.field-0.claims) c.robust_table.ensures c.in_ok-latest_ranks.ensures;
}
