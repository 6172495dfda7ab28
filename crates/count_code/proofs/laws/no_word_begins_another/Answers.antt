use Rattle.count_code.proofs.ExactCounts.{prefix_free}
use Rattle.count_code.proofs.laws.no_word_begins_another.Goals as goal

pub returns : goal.returns
returns c = prefix_free
