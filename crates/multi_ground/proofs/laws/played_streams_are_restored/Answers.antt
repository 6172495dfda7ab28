use Rattle.multi_ground.proofs.MultiRuns.{restored-played}
use Rattle.multi_ground.proofs.laws.played_streams_are_restored.Goals as goal

pub returns : goal.returns
returns c = restored-played
