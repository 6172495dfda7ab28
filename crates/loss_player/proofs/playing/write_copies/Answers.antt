use Rattle.std.proofs.Common.{◌≡◌, ℕ, ◌+◌, ◌-◌, List, ◌++◌, ap, ◌∙◌, arith}
use Rattle.desk_ports.specs.declared.desk.Outlet.TheVariants as outlet
use Rattle.desk_ports.specs.Courses.{to_output}
use Rattle.desk_ports.proofs.Steps.{Writes-cut-more, Writes-is, Writes-more, Writes-none, Writes-ok, Writes-ready}
use Rattle.loss_player.specs.Played.{repeated}
use Rattle.loss_player.proofs.PlayedPackets.{repeated-more, repeated-then}
use Rattle.loss_player.proofs.playing.write_copies.Goals as goal

pub loop-init : goal.loop-init
loop-init g c = record { written = Writes-none; ready = c.requires }

pub loop-preserved : goal.loop-preserved
loop-preserved g c =
    let more = ap to_output (repeated-more c.loop.counter c.args.packet.now) in
    let wrote = c.in_ok-write_all.ensures in
    record { written = Writes-is more (Writes-more outlet.Main _ _ c.loop.invariant.written (Writes-ok wrote)); ready = Writes-ready outlet.Main wrote c.loop.invariant.ready }

pub returns-in_err-write_all : goal.returns-in_err-write_all
returns-in_err-write_all g c =
    let packet = c.args.packet.now in
    let rest = c.args.times - c.loop.counter - 1 in
    let count : c.loop.counter + 1 + rest ≡ c.args.times = omega (arith, c.loop-test.true) in
    let all = ap (λ (l : List ℕ). l ++ repeated rest packet) (repeated-more c.loop.counter packet) ∙ (repeated-then (c.loop.counter + 1) rest packet ∙ ap (λ (k : ℕ). repeated k packet) count) in
    Writes-is (ap to_output all) (Writes-cut-more _ outlet.Main _ (repeated rest packet) c.from_residual.ensures.1 (Writes-more outlet.Main _ _ c.loop.invariant.written c.in_err-write_all.ensures))

pub returns : goal.returns
returns g c =
    let last : c.loop.counter ≡ c.args.times = omega arith in
    Writes-ok (Writes-is (ap (λ (k : ℕ). to_output (repeated k c.args.packet.now)) last) c.loop.invariant.written)
