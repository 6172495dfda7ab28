use Rattle.loss_player.proofs.Tallies.{gaps_short, gaps_told}
use Rattle.loss_player.proofs.laws.short_gaps_are_told.Goals as goal

pub returns : goal.returns
returns c = λ copies n. (gaps_told copies n, gaps_short copies n)
