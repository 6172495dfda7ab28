use Rattle.std.proofs.Common.{◌+◌, All, ap, subst, sym}
use Rattle.std.proofs.lemmas.List.Elements.{All-get_or, All-push}
use Rattle.side_tables.specs.Ranks.{row_claim}
use Rattle.side_tables.specs.Rows.{IsSpan}
use Rattle.side_tables.specs.declared.claims.Claim.{Claim}
use Rattle.side_tables.specs.declared.span.Span.{Span}
use Rattle.side_tables.proofs.Claimed.{AreClaims-more}
use Rattle.side_tables.proofs.claims.row_claims.Goals as goal

pub loop-place-preserved : goal.loop-place-preserved
loop-place-preserved g c =
    let rows = c.rows-row-items.result.now in
    let place = c.loop-place.place in
    let claims = c.loop-place.claims.items in
    let row = c.row-item.result in
    let claim : Claim = record { span = c.span.result; rank = place + 1 } in
    let all : All g.R.TableRow.is_right rows = subst (All g.R.TableRow.is_right) (sym c.rows-row-items.ensures.rows) c.rows-row-items.ensures.right in
    let right : g.R.TableRow.is_right row = subst g.R.TableRow.is_right (sym c.row-item.is) (All-get_or g.R.TableRow.is_right rows place row c.loop-place-test.true all) in
    rw c.in_ok-push.ensures.items (record {
      are = AreClaims-more (row_claim g.R.TableRow.span_of) rows claims place row claim c.loop-place-test.true c.row-item.is
          (ap (λ (span : Span). record { span = span; rank = place + 1 }) c.span.ensures) c.loop-place.invariant.are;
      right = All-push (λ (claim : Claim). IsSpan claim.span) claims claim c.loop-place.invariant.right (rw c.span.ensures (g.met.R.TableRow.names_packets row right));
    })
