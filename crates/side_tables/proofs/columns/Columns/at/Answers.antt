use Rattle.std.proofs.Common.{◌∙◌, ap, sym}
use Rattle.std.specs.Option.{option_map}
use Rattle.side_tables.specs.declared.rows.RobustRow.{RobustRow}
use Rattle.side_tables.proofs.columns.Columns.at.Goals as goal

pub robust_at-robust-requires : goal.robust_at-robust-requires
robust_at-robust-requires c =
    let latest = c.requires.robusts c.args.t c.at-4.result c.at-4.ensures.rank in
    let inside = latest.inside in
    rw c.robust_table.ensures inside

pub returns-clause-flags : goal.returns-clause-flags
returns-clause-flags c =
    let p = c.requires.new_masks c.args.t c.at.result c.at.ensures.rank in
    let f = c.requires.masks c.args.t c.at-2.result c.at-2.ensures.rank in
    let r = c.requires.contents c.args.t c.at-3.result c.at-3.ensures.rank in
    λ i. record { p = p i; f = f i; r = r i }

pub returns-clause-robust : goal.returns-clause-robust
returns-clause-robust c =
    let latest = c.requires.robusts c.args.t c.at-4.result c.at-4.ensures.rank in
    c.robust_at-robust.ensures.robust ∙ (rw c.robust_table.ensures (ap (option_map (λ (row : RobustRow). row.value)) (sym latest.row)))
