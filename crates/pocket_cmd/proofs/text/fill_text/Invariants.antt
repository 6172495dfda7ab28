use Rattle.std.proofs.Common.{◌≡◌, take, ◌-◌}
use Rattle.desk_ports.specs.Meanings.{Moves, IsReadyIn}
use Rattle.pocket_cmd.specs.Openings.{IsRoom}
use Rattle.pocket_cmd.proofs.text.fill_text.Given as goal

-- the front of the room came from the desk, and nothing else happened
abbrev pub invariant-loop-filled : goal.invariant-loop-filled
invariant-loop-filled g l =
    let meaning = g.D.Desk.meaning in
    let counts = g.D.Desk.counts in
    record {
      room : IsRoom l.filled l.room.items;
      moved : Moves (meaning l.fn.desk) (meaning l.desk) l.inlet (take l.filled l.room.items);
      ready : IsReadyIn (meaning l.desk) l.inlet;
      steady : counts l.desk ≡ counts l.fn.desk;
    }

abbrev pub decreases-loop-filled : goal.decreases-loop-filled
decreases-loop-filled g l = 1048577 - l.filled
