use Rattle.desk_ports.proofs.Desks.{faults-once, faults-twice}
use Rattle.desk_ports.proofs.laws.faults_count_once.Goals as goal

pub returns-clause-one : goal.returns-clause-one
returns-clause-one c = faults-once

pub returns-clause-last : goal.returns-clause-last
returns-clause-last c = faults-twice
