use Rattle.std.proofs.Common.{sym, subst, length, List}
use Rattle.std.specs.Prelude.{All}
use Rattle.std.specs.List.{range_with_len}
use Rattle.ground_chain.specs.Run.{Judged}
use Rattle.ground_chain.proofs.HistoryRuns.{IsUnrefused, run-packets, unrefused-packets}
use Rattle.ground_chain.proofs.deliveries.no_packet_is_refused.Goals as goal

pub returns : goal.returns
returns c = λ h copies valid short.
    subst (λ (run : List Judged). All IsUnrefused run) (sym (run-packets h copies valid short)) (unrefused-packets h copies (range_with_len 0 (length h.steps)))
