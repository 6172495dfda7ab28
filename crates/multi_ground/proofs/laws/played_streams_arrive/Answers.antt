use Rattle.multi_ground.proofs.MultiRuns.{arrivals-played, many-played, whole-played}
use Rattle.multi_ground.proofs.laws.played_streams_arrive.Goals as goal

pub returns : goal.returns
returns c = record { whole = whole-played; arrive = arrivals-played; too_many = many-played }
