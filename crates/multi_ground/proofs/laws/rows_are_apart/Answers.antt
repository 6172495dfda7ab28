use Rattle.std.proofs.Common.{[], ◌++◌, ap, ◌∙◌}
use Rattle.side_tables.specs.Streams.{stream_at}
use Rattle.ground_chain.specs.Run.{run}
use Rattle.ground_chain.specs.Report.{end_row, restored_of, run_rows}
use Rattle.multi_ground.specs.MultiRun.{stream_arrivals}
use Rattle.multi_ground.proofs.RowsApart.{report-apart}
use Rattle.multi_ground.proofs.StreamsApart.{apart_from}
use Rattle.multi_ground.proofs.MultiRuns.{all_well}
use Rattle.multi_ground.proofs.laws.rows_are_apart.Goals as goal

pub returns : goal.returns
returns c = λ streams packets index are good few within.
    let stream = stream_at streams index in
    report-apart streams packets index are (all_well streams are [] packets good few) few within
    ∙ ap (λ judged. run_rows judged ++ end_row (restored_of (run stream.bits (stream_arrivals stream.apid packets)))) (apart_from streams are index within [] packets)
