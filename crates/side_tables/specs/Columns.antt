-- What the ranks that rows claim say of the rows.
use Rattle.std.specs.Prelude.{◌≡◌, ℕ, zero, suc, ◌≤◌, nat_lt, List, length, slice_get, Option, None, Some}
use Rattle.side_tables.specs.declared.claims.Claim.{Claim}
use Rattle.side_tables.specs.declared.claims.Flag.{Flag}
use Rattle.side_tables.specs.declared.claims.Flag.TheVariants.{NewMask, SendMask, WholeContent}
use Rattle.side_tables.specs.declared.columns.Columns.{Columns}
use Rattle.side_tables.specs.declared.rows.CopyRow.{CopyRow}
use Rattle.side_tables.specs.declared.rows.FlagRow.{FlagRow}
use Rattle.side_tables.specs.declared.span.Span.{Span}
use Rattle.side_tables.specs.Ranks.{IsRank, RankState, flag_in}
use Rattle.side_tables.specs.Rows.{GiveNothing, ScheduleRows, copy_span, flags_of, last_row, robust_span}

-- the ranks by a flag: 0 exactly of the numbers for which no row sets it
abbrev pub AreFlagRanks : Flag → List FlagRow → List Claim → Type 0
AreFlagRanks flag rows claims = (n rank : ℕ) → IsRank claims n rank → nat_lt 0 rank ≡ flag_in flag (flags_of rows n)

-- the row at a place that is counted from 1
abbrev pub ranked_row : {R : Type 0} → List R → ℕ → Option R
ranked_row rows zero = None
ranked_row rows (suc place) = slice_get rows place

-- the last row that names the number has this rank
pub record IsLatestRank {R : Type 0} (span_of : R → Span) (rows : List R) (n rank : ℕ) : Type 0 where
  pub inside : rank ≤ length rows
  pub row : last_row span_of rows n ≡ ranked_row rows rank

-- the ranks of the last rows that name the numbers
abbrev pub AreLatestRanks : {R : Type 0} → (R → Span) → List R → List Claim → Type 0
AreLatestRanks span_of rows claims = (n rank : ℕ) → IsRank claims n rank → IsLatestRank span_of rows n rank

-- the ranks by the three flags, and those of the last rows of required robustness
pub record AreColumns (plan : ScheduleRows) (columns : Columns) : Type 0 where
  pub new_masks : AreFlagRanks NewMask plan.flags columns.new_masks.claims
  pub masks : AreFlagRanks SendMask plan.flags columns.masks.claims
  pub contents : AreFlagRanks WholeContent plan.flags columns.contents.claims
  pub robusts : AreLatestRanks robust_span plan.robust columns.robusts.claims

-- of few rows, numbers that they give nothing; of many, the ranks that they claim
pub record IsLookup (plan : ScheduleRows) (idle_from idle_until : ℕ) (columns : Option Columns) : Type 0 where
  pub idle : GiveNothing plan idle_from idle_until
  pub many : (found : Columns) → columns ≡ Some found → AreColumns plan found

-- the ranks of the rows of a script, if it has many
abbrev pub IsCopyLookup : List CopyRow → Option RankState → Type 0
IsCopyLookup script ranks = (found : RankState) → ranks ≡ Some found → AreLatestRanks copy_span script found.claims
