use Rattle.std.proofs.lemmas.Result.{IfOk-weaker}
use Rattle.side_tables.proofs.Claimed.{AreFlagRanks-from}
use Rattle.side_tables.proofs.columns.flag_ranks.Goals as goal

pub returns : goal.returns
returns c =
    IfOk-weaker c.open.result _ _ (λ ranks are n rank is. AreFlagRanks-from c.args.flag c.args.plan.now.flags c.in_ok-claims.claims.items c.in_ok-claims.ensures.claims n rank (are n rank is)) c.open.ensures
