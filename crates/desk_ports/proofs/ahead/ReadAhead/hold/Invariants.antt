use Rattle.std.proofs.Common.{◌≡◌, ◌-◌, ◌≤◌, length}
use Rattle.desk_ports.specs.declared.desk.Inlet.TheVariants as inlet
use Rattle.desk_ports.specs.Meanings.{IsReadyIn, ReadsOn}
use Rattle.desk_ports.proofs.ahead.ReadAhead.hold.Given as goal

-- more bytes were read, and nothing else happened; nothing at all if enough of them were ahead
abbrev pub invariant-loop-self : goal.invariant-loop-self
invariant-loop-self g l =
    let meaning = g.D.Desk.meaning in
    let counts = g.D.Desk.counts in
    record {
      read : ReadsOn l.fn.self l.self (meaning l.fn.desk) (meaning l.desk);
      ready : IsReadyIn (meaning l.desk) inlet.Main;
      whole : l.n ≤ length l.fn.self → l.desk ≡ l.fn.desk;
      steady : counts l.desk ≡ counts l.fn.desk;
    }

abbrev pub decreases-loop-self : goal.decreases-loop-self
decreases-loop-self g l = l.n - length l.self
