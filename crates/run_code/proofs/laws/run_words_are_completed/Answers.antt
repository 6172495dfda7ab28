use Rattle.run_code.proofs.RunWords.{IsExact-vector_at}
use Rattle.run_code.proofs.RunFronts.{begins_next, front_begins, front_is, shortest_ended, shortest_further, run_ended, run_further}
use Rattle.run_code.proofs.laws.run_words_are_completed.Goals as goal

pub returns-clause-exact : goal.returns-clause-exact
returns-clause-exact c = IsExact-vector_at

pub returns-clause-ended : goal.returns-clause-ended
returns-clause-ended c = run_ended

pub returns-clause-further : goal.returns-clause-further
returns-clause-further c = run_further

pub returns-clause-fronts : goal.returns-clause-fronts
returns-clause-fronts c = λ f bits. (front_is f bits, front_begins f bits)

pub returns-clause-next : goal.returns-clause-next
returns-clause-next c = begins_next

pub returns-clause-shortest_ended : goal.returns-clause-shortest_ended
returns-clause-shortest_ended c = shortest_ended

pub returns-clause-shortest_further : goal.returns-clause-shortest_further
returns-clause-shortest_further c = shortest_further
