use Rattle.std.proofs.Common.{[], sym, ◌∙◌}
use Rattle.std.proofs.lemmas.List.{append-nil}
use Rattle.run_code.specs.Runs.{run_bits}
use Rattle.run_code.proofs.RunWords.{run_bits_most, one_run_word}
use Rattle.run_code.proofs.laws.run_words.Goals as goal

pub returns-clause-most : goal.returns-clause-most
returns-clause-most c = run_bits_most

pub returns-clause-apart : goal.returns-clause-apart
returns-clause-apart c = λ a b rest len differ same. differ (one_run_word a b rest [] len (same ∙ sym (append-nil (run_bits b)))).0

pub returns-clause-told : goal.returns-clause-told
returns-clause-told c = one_run_word
