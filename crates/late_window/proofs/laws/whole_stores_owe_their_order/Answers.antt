use Rattle.std.proofs.Common.{take}
use Rattle.ground_chain.specs.Run.{Judged}
use Rattle.ground_chain.specs.Report.{header_row, verdict_rows, written_bytes}
use Rattle.ground_chain.proofs.RestCourses.{texts-before}
use Rattle.late_window.specs.Restoring.{judged_before, ordered_run}
use Rattle.late_window.proofs.Rests.{owed-whole}
use Rattle.late_window.proofs.laws.whole_stores_owe_their_order.Goals as goal

pub returns-clause-before : goal.returns-clause-before
returns-clause-before c = λ f apid window store.
    let judged = ordered_run f apid window store in
    texts-before (λ (j : Judged). verdict_rows j.verdict) written_bytes header_row (take (judged_before window judged) judged)

pub returns-clause-whole : goal.returns-clause-whole
returns-clause-whole c = owed-whole
