use Rattle.std.proofs.Common.{◌≡◌, List, take}
use Rattle.desk_ports.specs.declared.desk.Outlet.TheVariants as outlet
use Rattle.desk_ports.specs.Meanings.{IsReadyOut}
use Rattle.desk_ports.specs.Courses.{to_report}
use Rattle.desk_ports.proofs.Steps.{HasWritten}
use Rattle.packet_store.specs.SpacePackets.{Packet}
use Rattle.multi_ground.specs.MultiOutputs.{end_rows}
use Rattle.multi_ground.specs.Receiving.{HasReceived}
use Rattle.multi_ground.proofs.receiving.MultiReceiving.end.Given as goal

-- the last rows of so many streams were written, and nothing else happened
abbrev pub invariant-loop-index : goal.invariant-loop-index
invariant-loop-index g l =
    let meaning = g.D.Desk.meaning in
    record {
      written : (packets : List Packet) → HasReceived l.fn.self packets → HasWritten meaning g.D.Desk.counts l.fn.desk l.desk (to_report (end_rows (take l.index l.fn.self.streams) packets));
      ready : IsReadyOut (meaning l.desk) outlet.Report;
      steady : g.D.Desk.counts l.desk ≡ g.D.Desk.counts l.fn.desk;
    }
