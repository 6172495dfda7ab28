use Rattle.ground_chain.proofs.FirstWrong.{early_all, early_listed, wrong_first, wrong_listed}
use Rattle.ground_chain.proofs.refusals.wrong_bits_are_the_first.Goals as goal

pub returns-clause-wrong : goal.returns-clause-wrong
returns-clause-wrong c = λ f bit before arrival some most size few row. wrong_first f some most before arrival size bit few row

pub returns-clause-early : goal.returns-clause-early
returns-clause-early c = λ f bit before arrival some most size few row. early_all f some most before arrival size bit few row

pub returns-clause-listed_wrong : goal.returns-clause-listed_wrong
returns-clause-listed_wrong c = λ f bit before arrival some most size few line. wrong_listed f some most before arrival size bit few line

pub returns-clause-listed_early : goal.returns-clause-listed_early
returns-clause-listed_early c = λ f bit before arrival some most size few line. early_listed f some most before arrival size bit few line
