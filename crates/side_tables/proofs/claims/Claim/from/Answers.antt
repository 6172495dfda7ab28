use Rattle.side_tables.proofs.Claimed.{names-from}
use Rattle.side_tables.proofs.claims.Claim.from.Goals as goal

pub returns-clause-names : goal.returns-clause-names
returns-clause-names c = λ n. names-from c.args.self.now.span c.args.base c.in_ok-first.first n c.in_ok-first.ensures.least c.in_ok-first.ensures.named c.in_ok-first.ensures.first
