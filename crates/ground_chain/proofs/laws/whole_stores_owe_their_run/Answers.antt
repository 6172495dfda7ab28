use Rattle.ground_chain.proofs.DeliveredRuns.{owed-listed, owed-whole}
use Rattle.ground_chain.specs.Run.{Judged}
use Rattle.ground_chain.specs.Report.{header_row, verdict_rows, written_bytes}
use Rattle.ground_chain.specs.Restoring.{store_run}
use Rattle.ground_chain.proofs.RestCourses.{texts-before}
use Rattle.ground_chain.proofs.laws.whole_stores_owe_their_run.Goals as goal

pub returns-clause-before : goal.returns-clause-before
returns-clause-before c = λ f apid store. texts-before (λ (j : Judged). verdict_rows j.verdict) written_bytes header_row (store_run f apid store)

pub returns-clause-restored : goal.returns-clause-restored
returns-clause-restored c = owed-whole

pub returns-clause-listed : goal.returns-clause-listed
returns-clause-listed c = owed-listed
