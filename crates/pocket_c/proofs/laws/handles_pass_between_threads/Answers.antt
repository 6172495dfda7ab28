use Rattle.pocket_c.proofs.held.Handle.TheSendSync.{the_send}
use Rattle.pocket_c.proofs.laws.handles_pass_between_threads.Goals as goal

pub returns : goal.returns
returns c = the_send
