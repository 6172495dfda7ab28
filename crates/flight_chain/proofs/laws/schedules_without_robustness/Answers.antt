use Rattle.std.proofs.Common.{ap}
use Rattle.mask_update.specs.Histories.{History}
use Rattle.flight_chain.specs.Compressing.{store_of}
use Rattle.flight_chain.proofs.CompressCourses.{history_by-command}
use Rattle.flight_chain.proofs.laws.schedules_without_robustness.Goals as goal

pub returns-clause-history : goal.returns-clause-history
returns-clause-history c = history_by-command

pub returns-clause-store : goal.returns-clause-store
returns-clause-store c = λ k inputs none. ap (λ (h : History). store_of h k.apid) (history_by-command k inputs none)
