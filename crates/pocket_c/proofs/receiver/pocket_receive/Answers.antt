use Rattle.std.proofs.Common.{rules}
use Rattle.pocket_c.proofs.receiver.pocket_receive.Goals.{in-Receiver+in-Ok, in-Receiver+in-Err, in-Sender-1, in-Bench-1}
use Rattle.pocket_c.proofs.receiver.pocket_receive.Goals as goal

pub returns-in-Ok-verdict-clause-stands : goal.returns-in-Ok-verdict-clause-stands
returns-in-Ok-verdict-clause-stands c = λ r held done. elim c.match-deref_mut.branch [
  | in-Receiver+in-Ok w ↦ search rules
  | in-Receiver+in-Err w ↦ search rules
  | in-Sender-1 w ↦ search rules
  | in-Bench-1 w ↦ search rules
]
