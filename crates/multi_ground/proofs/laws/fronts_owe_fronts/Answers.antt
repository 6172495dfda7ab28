use Rattle.std.proofs.Common.{◌≡◌, [], ◌++◌, length, None, sym, ap, ◌∙◌, arith}
use Rattle.std.proofs.lemmas.Grind.{flat_map-append}
use Rattle.desk_ports.specs.Courses.{to_report}
use Rattle.desk_ports.proofs.Courses.{AreFronts-put}
use Rattle.packet_store.specs.Walks.{walk}
use Rattle.packet_store.proofs.Walks.{IsLonger-walk_from}
use Rattle.multi_ground.specs.MultiRun.{multi_run, multi_run_from}
use Rattle.multi_ground.specs.MultiOutputs.{arrival_texts, multi_header, outputs_of}
use Rattle.multi_ground.proofs.MultiRuns.{multi_run_from-append}
use Rattle.multi_ground.proofs.laws.fronts_owe_fronts.Goals as goal

pub returns : goal.returns
returns c = λ streams front rest all.
    let longer = IsLonger-walk_from (length front) None 0 0 front rest (omega arith) (omega arith) all in
    let packets = (walk None front).packets in
    let first = multi_run streams packets in
    let later = multi_run_from streams packets longer.later in
    let runs : multi_run streams (walk None (front ++ rest)).packets ≡ first ++ later = ap (multi_run streams) longer.joined ∙ multi_run_from-append streams [] packets longer.later in
    AreFronts-put (to_report multi_header) (outputs_of first) (outputs_of (multi_run streams (walk None (front ++ rest)).packets))
    (record { rest = outputs_of later; joined = sym (ap outputs_of runs ∙ flat_map-append arrival_texts first later) })
