use Rattle.std.proofs.Common.{rules}
use Rattle.desk_ports.proofs.quiet.QuietDeskDesk.open_in.Goals as goal

pub returns-in-Side-clause-opened : goal.returns-in-Side-clause-opened
returns-in-Side-clause-opened c = record { bytes = c.kept.result.now; kept = c.kept.ensures; others = search rules }

pub returns-in-Main-clause-opened : goal.returns-in-Main-clause-opened
returns-in-Main-clause-opened c = record { bytes = c.kept.result.now; kept = c.kept.ensures; others = search rules }
