use Rattle.std.proofs.Common.{take, ap, ◌∙◌}
use Rattle.std.proofs.lemmas.List.{take_min}
use Rattle.pocket.proofs.first_words.Goals as goal

pub returns-clause-first : goal.returns-clause-first
returns-clause-first c = ap (λ n. take n c.args.words.now) c.min.ensures ∙ take_min 1000 c.args.words.now
