use Rattle.std.proofs.Common.{refl}
use Rattle.desk_ports.proofs.Desks.{left-finished}
use Rattle.desk_ports.proofs.laws.finished_is_held.Goals as goal

pub returns : goal.returns
returns c = λ a b d outlet inlet name bytes some named written keeps opens. left-finished a b d outlet inlet name bytes a.held refl some named written keeps opens
