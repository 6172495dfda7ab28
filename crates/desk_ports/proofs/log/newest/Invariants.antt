use Rattle.desk_ports.proofs.Logs.{IsNewest}
use Rattle.desk_ports.proofs.log.newest.Given as goal

-- the newest of the entries so far
abbrev pub invariant-loop-at : goal.invariant-loop-at
invariant-loop-at l = IsNewest l.log l.at l.name l.found
