use Rattle.std.proofs.Common.{List, length, Some, sym, ap, ◌∙◌, arith}
use Rattle.std.proofs.lemmas.Grind.{flat_map-append}
use Rattle.packet_store.specs.SpacePackets.{Packet, packet_bytes}
use Rattle.packet_store.specs.Walks.{walk, packets_bytes}
use Rattle.packet_store.proofs.Walks.{IsLonger-walk_from}
use Rattle.desk_ports.specs.Courses.{to_output}
use Rattle.desk_ports.specs.declared.desk.Outlet.TheVariants as outlet
use Rattle.desk_ports.proofs.Courses.{to_outlet-append}
use Rattle.loss_player.specs.Played.{played_bytes, played_from, played_packets}
use Rattle.loss_player.proofs.PlayedPackets.{number_after, played_from-append}
use Rattle.loss_player.proofs.laws.fronts_owe_fronts.Goals as goal

pub returns : goal.returns
returns c = λ copies apid front rest all.
    let longer = IsLonger-walk_from (length front) (Some apid) 0 0 front rest (omega arith) (omega arith) all in
    let later = played_from (Some apid) copies (number_after (Some apid) 0 (walk (Some apid) front).packets) longer.later in
    let output =
    ap (λ (l : List Packet). packets_bytes (played_from (Some apid) copies 0 l)) longer.joined
    ∙ (ap packets_bytes (played_from-append (Some apid) copies 0 (walk (Some apid) front).packets longer.later) ∙ flat_map-append packet_bytes (played_packets copies apid front) later) in
    record { rest = to_output (packets_bytes later); joined = sym (ap to_output output ∙ to_outlet-append outlet.Main (played_bytes copies apid front) (packets_bytes later)) }
