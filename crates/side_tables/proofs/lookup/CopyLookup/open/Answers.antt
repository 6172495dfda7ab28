use Rattle.std.proofs.Common.{◌≡◌, List, Option, Some, None, subst, sym, ◌∙◌}
use Rattle.side_tables.specs.declared.rows.CopyRow.{CopyRow}
use Rattle.side_tables.specs.Columns.{AreLatestRanks, IsCopyLookup}
use Rattle.side_tables.specs.Ranks.{RankState}
use Rattle.side_tables.specs.Rows.{copy_span}
use Rattle.side_tables.proofs.lookup.CopyLookup.open.Goals as goal
use Rattle.side_tables.proofs.lookup.CopyLookup.open.Goals.{then-rows-le-FEW, else-rows-le-FEW+in_ok-latest_ranks}

none_kept : (script : List CopyRow) (ranks : Option RankState) → ranks ≡ None → IsCopyLookup script ranks
none_kept script ranks none found is = absurd (let no : ◌≡◌ {A = Option RankState} None (Some found) = sym none ∙ is in cc)

some_kept : (script : List CopyRow) (ranks : Option RankState) (own : RankState) → ranks ≡ Some own → AreLatestRanks copy_span script own.claims → IsCopyLookup script ranks
some_kept script ranks own same are found is = let eq : own ≡ found = cc in subst (λ (ranks : RankState). AreLatestRanks copy_span script ranks.claims) eq are

pub invariant_of-result : goal.invariant_of-result
invariant_of-result c = elim c.if-rows-le-FEW.branch [
  | then-rows-le-FEW w ↦ none_kept c.args.script c.if-rows-le-FEW.ranks w.ranks-is
  | else-rows-le-FEW+in_ok-latest_ranks w ↦ some_kept c.args.script c.if-rows-le-FEW.ranks _ w.ranks-is w.in_ok-latest_ranks.ensures
]
