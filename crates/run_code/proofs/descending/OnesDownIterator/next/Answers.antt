use Rattle.std.proofs.Common.{sym, ◌∙◌, lt-suc_self}
use Rattle.run_code.proofs.Gathering.{next_left}
use Rattle.run_code.proofs.descending.OnesDownIterator.next.Goals as goal

pub returns-clause-steps : goal.returns-clause-steps
returns-clause-steps c =
    let found = c.in_ok-found.found in
    sym c.self.view_is ∙ sym c.in_ok-found.ensures.same ∙ next_left c.self.inside.vector.now found.index found.ones c.in_ok-found.ensures.some c.in_ok-found.ensures.within.ones

pub returns-clause-goes : goal.returns-clause-goes
returns-clause-goes c = rw (returns-clause-steps c) (record { on = λ ends. (tt, tt, lt-suc_self _); keeps = tt; rests = λ ends. tt })
