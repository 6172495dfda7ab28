use Rattle.count_code.proofs.ExactCounts.{zeros_tell}
use Rattle.count_code.proofs.laws.long_words.Goals as goal

pub returns : goal.returns
returns c = zeros_tell
