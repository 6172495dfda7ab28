use Rattle.std.proofs.Common.{[], ap, ◌∙◌, arith}
use Rattle.side_tables.specs.Streams.{stream_at}
use Rattle.ground_chain.specs.Report.{run_bytes}
use Rattle.multi_ground.specs.MultiRun.{multi_run}
use Rattle.multi_ground.proofs.StreamsApart.{output-contents, apart_from}
use Rattle.multi_ground.proofs.MultiRuns.{multi_run_from-few, all_well}
use Rattle.multi_ground.proofs.laws.contents_are_apart.Goals as goal

pub returns : goal.returns
returns c = λ streams packets index are good few within.
    output-contents (stream_at streams index).apid (multi_run streams packets) (all_well streams are [] packets good few) (omega (arith, few, multi_run_from-few streams [] packets))
    ∙ ap run_bytes (apart_from streams are index within [] packets)
