use Rattle.std.proofs.Common.{◌≡◌, All, cond, get_or, refl, rules, subst, sym}
use Rattle.std.proofs.lemmas.List.{get_or_default}
use Rattle.std.proofs.lemmas.List.Elements.{All-get_or, All-push}
use Rattle.side_tables.specs.Ranks.{flag_claim, flag_in}
use Rattle.side_tables.specs.Rows.{IsFlagRow, IsSpan}
use Rattle.side_tables.specs.declared.claims.Claim.{Claim}
use Rattle.side_tables.proofs.Claimed.{AreClaims-more, no_row}
use Rattle.side_tables.proofs.claims.flag_claims.Goals as goal

pub loop-row-preserved : goal.loop-row-preserved
loop-row-preserved c =
    let rows = c.flag_rows-row-items.result.now in
    let place = c.loop-row.row-index in
    let claims = c.loop-row.claims.items in
    let row = get_or rows place no_row in
    let claim : Claim = record { span = c.span.result; rank = c.from.result } in
    let all : All IsFlagRow rows = subst (All IsFlagRow) (sym c.flag_rows-row-items.ensures.rows) c.flag_rows-row-items.ensures.right in
    let rank : c.from.result ≡ cond (flag_in c.args.flag row.flags) 1 0 = search rules in
    rw c.in_ok-push.ensures.items (record {
      are = AreClaims-more (flag_claim c.args.flag) rows claims place row claim c.loop-row-test.true (get_or_default rows place no_row row c.loop-row-test.true)
          (rw (c.span.ensures, rank) refl) c.loop-row.invariant.are;
      right = All-push (λ (claim : Claim). IsSpan claim.span) claims claim c.loop-row.invariant.right (rw c.span.ensures (All-get_or IsFlagRow rows place no_row c.loop-row-test.true all));
    })
