use Rattle.std.proofs.Common.{List, Bool, length, sym, ap, ◌∙◌, arith}
use Rattle.desk_ports.specs.Courses.{to_output}
use Rattle.desk_ports.specs.declared.desk.Outlet.TheVariants as outlet
use Rattle.desk_ports.proofs.Courses.{to_outlet-append}
use Rattle.flight_chain.specs.Recordings.{recording_walk}
use Rattle.flight_chain.specs.Compressing.{store_of, history_by, further_packets}
use Rattle.flight_chain.proofs.CompressCourses.{store_of-further}
use Rattle.flight_chain.proofs.Recordings.{IsLonger-recording}
use Rattle.flight_chain.proofs.laws.fronts_owe_fronts.Goals as goal

pub returns : goal.returns
returns c = λ k front rest some.
    let longer = IsLonger-recording (length front) k.places 0 front rest (omega arith) some (omega arith) in
    let inputs = (recording_walk k.places front).inputs in
    record {
      rest = to_output (further_packets k inputs longer.later);
      joined = sym (ap to_output (ap (λ (l : List (List Bool)). store_of (history_by k l) k.apid) longer.joined ∙ store_of-further k inputs longer.later) ∙ to_outlet-append outlet.Main (store_of (history_by k inputs) k.apid) (further_packets k inputs longer.later));
    }
