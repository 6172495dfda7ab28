use Rattle.std.proofs.Common.{All, take}
use Rattle.side_tables.specs.Rows.{IsSpan}
use Rattle.side_tables.specs.Ranks.{AreClaims, row_claim}
use Rattle.side_tables.specs.declared.claims.Claim.{Claim}
use Rattle.side_tables.proofs.claims.row_claims.Given as goal

abbrev pub invariant-loop-place : goal.invariant-loop-place
invariant-loop-place g l = record {
  are : AreClaims (row_claim g.R.TableRow.span_of) (take l.place l.row-items) l.claims.items;
  right : All (λ (claim : Claim). IsSpan claim.span) l.claims.items;
}
