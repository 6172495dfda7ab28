use Rattle.std.proofs.lemmas.Result.{IfOk-weaker}
use Rattle.side_tables.proofs.Claimed.{AreLatestRanks-from}
use Rattle.side_tables.proofs.columns.latest_ranks.Goals as goal

pub returns : goal.returns
returns g c =
    IfOk-weaker c.open.result _ _ (λ ranks are n rank is. AreLatestRanks-from g.R.TableRow.span_of c.args.table.now c.in_ok-claims.claims.items c.in_ok-claims.ensures.claims n rank (are n rank is)) c.open.ensures
