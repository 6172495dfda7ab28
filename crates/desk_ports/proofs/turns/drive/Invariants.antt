use Rattle.std.proofs.Common.{◌≡◌}
use Rattle.desk_ports.specs.Turns.{IsOwed, AreReady, Advances}
use Rattle.desk_ports.proofs.turns.drive.Given as goal

-- part of the work is done and the rest is owed, and nothing else happened
abbrev pub invariant-turns : goal.invariant-turns
invariant-turns g l =
    let meaning = g.D.Desk.meaning in
    let counts = g.D.Desk.counts in
    let owes = g.R.Run.owes in
    record {
      owed : IsOwed (owes l.run);
      advances : (work : _) → owes l.fn.run work → Advances work (owes l.run) (meaning l.fn.desk) (meaning l.desk);
      ready : AreReady g.R.Run.writes (meaning l.desk);
      steady : counts l.desk ≡ counts l.fn.desk;
    }

abbrev pub decreases-turns : goal.decreases-turns
decreases-turns g l = g.R.Run.remaining l.run
