use Rattle.std.proofs.Common.{◌≡◌, ◌+◌, [], ◌∷◌, ◌++◌, ℕ, ◌<◌, ◌≤◌, All, false, take, sym, ap, ◌∙◌, subst, arith}
use Rattle.std.proofs.lemmas.List.{take_all, take_more}
use Rattle.std.proofs.lemmas.List.Elements.{All-push}
use Rattle.side_tables.specs.Rows.{names}
use Rattle.side_tables.specs.declared.span.Span.{Span}
use Rattle.side_tables.proofs.table.Table.next_named.Goals as goal
use Rattle.side_tables.proofs.table.Table.next_named.Goals.{in-Some, in-None}

pub loop-row-preserved : goal.loop-row-preserved
loop-row-preserved g c =
    let rows = c.rows-row-items.result.now in
    let k = c.loop-row.row-index in
    let row = c.row-item.result in
    let kept = c.loop-row.invariant in
    let more : take (k + 1) rows ≡ take k rows ++ row ∷ [] = take_more rows k row c.loop-row-test.true ∙ ap (λ r. take k rows ++ r ∷ []) (sym c.row-item.is) in
    let least : c.args.t ≤ c.match-next.next = elim c.match-next.branch [
      | in-Some w ↦ let first = w.in-Some.ensures.least in let old = kept.least in rw w.next-is (omega (arith, first, old, w.min-next.ensures))
      | in-None w ↦ rw w.next-is kept.least
    ] in
    let less : c.match-next.next ≤ c.loop-row.next = elim c.match-next.branch [
      | in-Some w ↦ rw w.next-is (omega (arith, w.min-next.ensures))
      | in-None w ↦ rw w.next-is (omega arith)
    ] in
    let own : (n : ℕ) → c.args.t ≤ n → n < c.match-next.next → names c.span.result n ≡ false = elim c.match-next.branch [
      | in-Some w ↦ λ n from below. w.in-Some.ensures.first n from (let before = rw w.next-is at below in omega (arith, before, w.min-next.ensures))
      | in-None w ↦ λ n from below. w.in-None.ensures.none n from
    ] in
    record {
      least = least;
      none = λ n from below. subst (All (λ r. names (g.R.TableRow.span_of r) n ≡ false)) (sym more)
          (All-push (λ r. names (g.R.TableRow.span_of r) n ≡ false) (take k rows) row (kept.none n from (omega (arith, below, less)))
          (ap (λ (span : Span). names span n) (sym c.span.ensures) ∙ own n from below));
    }

pub returns-clause-none : goal.returns-clause-none
returns-clause-none g c n from below =
    let rows = c.rows-row-items.result.now in
    let all : take c.loop-row.row-index rows ≡ c.args.self.now = take_all c.loop-row.row-index rows c.loop-row-test.false ∙ c.rows-row-items.ensures.rows in
    subst (All (λ row. names (g.R.TableRow.span_of row) n ≡ false)) all (c.loop-row.invariant.none n from below)
