use Rattle.std.proofs.Common.{◌<◌}
use Rattle.std.proofs.lemmas.List.Elements.{All-take, All-drop}
use Rattle.desk_ports.proofs.Desks.{All-fits}
use Rattle.desk_ports.proofs.ahead.part.Goals as goal

pub returns-clause-bytes : goal.returns-clause-bytes
returns-clause-bytes c = All-take (λ b. b < 256) _ _ (All-drop (λ b. b < 256) c.args.next c.args.room.now (All-fits c.args.room.now c.type_inv.room))
