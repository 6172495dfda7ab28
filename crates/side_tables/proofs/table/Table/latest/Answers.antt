use Rattle.std.proofs.Common.{◌≡◌, ℕ, ◌+◌, ◌∙◌, Bool, true, false, cond, List, [], ◌∷◌, ◌++◌, All, Some, take, refl, ap, subst, sym}
use Rattle.std.proofs.lemmas.List.{reverse-append, take_more}
use Rattle.std.proofs.lemmas.List.Elements.{All-get_or}
use Rattle.side_tables.specs.Rows.{last_row, names}
use Rattle.side_tables.specs.declared.span.Span.{Span}
use Rattle.side_tables.proofs.table.Table.latest.Goals as goal
use Rattle.side_tables.proofs.table.Table.latest.Goals.{then-names, else-names}

last_row-push : {R : Type 0} (span_of : R → Span) (rows : List R) (row : R) (t : ℕ) (named : Bool) → names (span_of row) t ≡ named → last_row span_of (rows ++ row ∷ []) t ≡ cond named (Some row) (last_row span_of rows t)
last_row-push span_of rows row t true is = rw (reverse-append rows (row ∷ []), is) refl
last_row-push span_of rows row t false is = rw (reverse-append rows (row ∷ []), is) refl

pub loop-row-preserved : goal.loop-row-preserved
loop-row-preserved g c =
    let rows = c.rows-row-items.result.now in
    let k = c.loop-row.row-index in
    let row = c.row-item.result in
    let more : take (k + 1) rows ≡ take k rows ++ row ∷ [] = take_more rows k row c.loop-row-test.true ∙ ap (λ r. take k rows ++ r ∷ []) (sym c.row-item.is) in
    let all : All g.R.TableRow.is_right rows = subst (All g.R.TableRow.is_right) (sym c.rows-row-items.ensures.rows) c.rows-row-items.ensures.right in
    let right : g.R.TableRow.is_right row = subst g.R.TableRow.is_right (sym c.row-item.is) (All-get_or g.R.TableRow.is_right rows k row c.loop-row-test.true all) in
    let named : names (g.R.TableRow.span_of row) c.args.t ≡ c.names.result = ap (λ (span : Span). names span c.args.t) (sym c.span.ensures) ∙ sym c.names.ensures in
    elim c.if-names.branch [
      | then-names w ↦ rw (w.latest-is, more) (record {
        row = sym (last_row-push g.R.TableRow.span_of (take k rows) row c.args.t true (named ∙ w.if-names.true));
        right = right;
      })
      | else-names w ↦ rw (w.latest-is, more) (record {
        row = c.loop-row.invariant.row ∙ sym (last_row-push g.R.TableRow.span_of (take k rows) row c.args.t false (named ∙ w.if-names.false));
        right = c.loop-row.invariant.right;
      })
    ]
