use Rattle.std.proofs.Common.{◌≡◌, ◌++◌, ℕ, List, length}
use Rattle.desk_ports.specs.Meanings.{Adds, IsReadyOut}
use Rattle.desk_ports.proofs.transfer.write_all.Given as goal

-- the bytes before the rest were added, and nothing else happened
abbrev pub invariant-loop-rest : goal.invariant-loop-rest
invariant-loop-rest g l =
    let meaning = g.D.Desk.meaning in
    let counts = g.D.Desk.counts in
    (front : List ℕ) × record {
      joined : front ++ l.rest ≡ l.bytes;
      added : Adds (meaning l.fn.desk) (meaning l.desk) l.outlet front;
      ready : IsReadyOut (meaning l.desk) l.outlet;
      steady : counts l.desk ≡ counts l.fn.desk;
    }

abbrev pub decreases-loop-rest : goal.decreases-loop-rest
decreases-loop-rest g l = length l.rest
