use Rattle.pocket_cmd.proofs.Faults.{refused-trial}
use Rattle.pocket_cmd.proofs.laws.trials_owe_their_summary.Goals as goal

pub returns-clause-refused : goal.returns-clause-refused
returns-clause-refused c = refused-trial
