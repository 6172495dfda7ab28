use Rattle.std.proofs.Common.{All, take}
use Rattle.side_tables.specs.Rows.{IsSpan}
use Rattle.side_tables.specs.Ranks.{AreClaims, flag_claim}
use Rattle.side_tables.specs.declared.claims.Claim.{Claim}
use Rattle.side_tables.proofs.claims.flag_claims.Given as goal

abbrev pub invariant-loop-row : goal.invariant-loop-row
invariant-loop-row l = record {
  are : AreClaims (flag_claim l.flag) (take l.row-index l.row-items) l.claims.items;
  right : All (λ (claim : Claim). IsSpan claim.span) l.claims.items;
}
