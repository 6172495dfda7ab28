use Rattle.std.proofs.Common.{List, length, map, ap, arith}
use Rattle.late_window.specs.Order.{Numbered, numbered, arrival_of, sorted}
use Rattle.late_window.proofs.LateDeliveries.{kept-within}
use Rattle.late_window.proofs.laws.within_the_window_all_are_kept.Goals as goal

pub returns-clause-kept : goal.returns-clause-kept
returns-clause-kept c = kept-within

pub returns-clause-none : goal.returns-clause-none
returns-clause-none c = λ window arrivals within. omega (arith, ap length (kept-within window arrivals within))

pub returns-clause-ordered : goal.returns-clause-ordered
returns-clause-ordered c = λ window arrivals within. ap (λ (l : List Numbered). map arrival_of (sorted l)) (kept-within window (numbered arrivals) within)
