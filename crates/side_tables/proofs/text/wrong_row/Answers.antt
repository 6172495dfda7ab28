use Rattle.std.proofs.Common.{◌≡◌, rules, true}
use Rattle.std.specs.Result.{is_ok}
use Rattle.std.proofs.lemmas.List.Elements.{All-push}
use Rattle.side_tables.proofs.text.wrong_row.Goals as goal

pub records-preserved : goal.records-preserved
records-preserved g c =
    let good : is_ok c.push.result ≡ true = search rules in
    let items = rw good at c.push.ensures.items in
    let right = rw c.in-Ok-row.is at c.row.ensures.right in
    rw items (All-push (g.G.RowGrammar.is_right c.args.grammar.now) c.records.rows.items c.in-Ok-row.row c.records.invariant right)
