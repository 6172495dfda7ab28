use Rattle.desk_ports.specs.declared.desk.Outlet.TheVariants as outlet
use Rattle.desk_ports.specs.Meanings.{IsReadyOut}
use Rattle.desk_ports.specs.Courses.{to_output}
use Rattle.desk_ports.proofs.Steps.{HasWritten}
use Rattle.loss_player.specs.Played.{repeated}
use Rattle.loss_player.proofs.playing.write_copies.Given as goal

-- so many copies were written, and nothing else happened
abbrev pub invariant-loop : goal.invariant-loop
invariant-loop g l = record {
  written : HasWritten g.D.Desk.meaning g.D.Desk.counts l.fn.desk l.desk (to_output (repeated l.counter l.packet));
  ready : IsReadyOut (g.D.Desk.meaning l.desk) outlet.Main;
}
