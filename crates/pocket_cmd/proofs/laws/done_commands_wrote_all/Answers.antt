use Rattle.pocket_cmd.proofs.Performed.{HasWritten-stands}
use Rattle.pocket_cmd.proofs.laws.done_commands_wrote_all.Goals as goal

pub returns : goal.returns
returns c = HasWritten-stands
