use Rattle.std.proofs.Common.{sym, subst, rules}
use Rattle.desk_ports.specs.MemDesk.{IsSound}
use Rattle.desk_ports.proofs.Desks.{IsSound_on}
use Rattle.desk_ports.proofs.memory.MemDeskDesk.open_in.Goals as goal

pub invariant_of-self-2 : goal.invariant_of-self-2
invariant_of-self-2 c =
    let desk = c.self.inside in
    let set = subst (λ cursors. IsSound (record desk { cursors = cursors })) (sym c.set.ensures) (IsSound_on desk c.args.inlet _ 0 c.self.invariant (search rules) (search rules)) in
    record { side = set.side; input = set.input; some = set.some }
