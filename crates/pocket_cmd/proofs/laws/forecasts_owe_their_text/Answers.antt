use Rattle.std.proofs.Common.{ℕ, subst}
use Rattle.flight_chain.specs.Recordings.{recording_walk}
use Rattle.side_tables.specs.Grammar.{copy_rows_of, schedule_rows_of}
use Rattle.forecast.specs.Prospects.{IsForeseen, prospect_of}
use Rattle.forecast.proofs.Foresight.{IsForeseen-history_of, written_sure}
use Rattle.pocket_cmd.specs.Delivery.{recorded_history}
use Rattle.pocket_cmd.specs.Words.{bits, mask, robust}
use Rattle.pocket_cmd.proofs.laws.forecasts_owe_their_text.Goals as goal

pub returns-clause-sure : goal.returns-clause-sure
returns-clause-sure c = λ f k plan script recording t same below sure.
    let rows = schedule_rows_of plan in
    let foreseen = IsForeseen-history_of rows (robust k) (copy_rows_of script) (recording_walk (bits k) recording).inputs (bits k) (mask k) in
    written_sure (prospect_of rows (robust f) (copy_rows_of script)) (recorded_history k plan recording) t
    (subst (λ (r : ℕ). IsForeseen (prospect_of rows r (copy_rows_of script)) (recorded_history k plan recording)) same foreseen) below sure
