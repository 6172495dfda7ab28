use Rattle.std.proofs.Common.{arith}
use Rattle.desk_ports.specs.Meanings.{Rose}
use Rattle.pocket_cmd.proofs.rehearsal.rehearse.Goals as goal

-- a quiet desk counts no fault
none : Rose 0 0 → ⊥
none h = omega (arith, h)

pub returns-clause-complete : goal.returns-clause-complete
returns-clause-complete c = λ command text input is told right whole memory. c.pocket.ensures.complete command text input is told right whole memory (none, none)
