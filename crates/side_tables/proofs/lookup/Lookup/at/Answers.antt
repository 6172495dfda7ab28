use Rattle.std.proofs.Common.{refl, rules}
use Rattle.side_tables.proofs.lookup.Lookup.at.Goals as goal

pub returns-then-t-self-clause-flags : goal.returns-then-t-self-clause-flags
returns-then-t-self-clause-flags c =
    let none = c.self.invariant.idle.flags c.args.t c.if-self-t.true c.if-t-self.true in
    rw (← c.self.view_is, none) (search rules)

pub returns-then-t-self-clause-robust : goal.returns-then-t-self-clause-robust
returns-then-t-self-clause-robust c =
    let none = c.self.invariant.idle.robust c.args.t c.if-self-t.true c.if-t-self.true in
    rw (← c.self.view_is, none) refl
