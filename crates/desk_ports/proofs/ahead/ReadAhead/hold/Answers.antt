use Rattle.std.proofs.Common.{refl, ap, ◌∙◌, length, length-append, arith}
use Rattle.desk_ports.specs.declared.desk.Inlet.TheVariants as inlet
use Rattle.desk_ports.proofs.Courses.{Moves-ready}
use Rattle.desk_ports.proofs.Desks.{ReadsOn-none, ReadsOn-then}
use Rattle.desk_ports.proofs.ahead.ReadAhead.hold.Goals as goal

pub loop-self-init : goal.loop-self-init
loop-self-init g c = record { read = ReadsOn-none c.args.self.now (g.D.Desk.meaning c.args.desk.now); ready = c.requires.open; whole = λ _. refl; steady = refl }

pub loop-self-preserved : goal.loop-self-preserved
loop-self-preserved g c =
    let meaning = g.D.Desk.meaning in
    let kept = c.loop-self.invariant in
    let read = c.in_ok-read.ensures in
    record {
      read = ReadsOn-then _ _ _ _ _ _ kept.read read.read;
      ready = Moves-ready (meaning c.loop-self.desk) (meaning c.read.new.desk) inlet.Main _ read.read.moved kept.ready;
      whole = λ whole. absurd (omega (arith, whole, ap length c.bytes.ensures.ahead, ap length kept.read.joined, length-append c.args.self.now kept.read.bytes));
      steady = read.cause ∙ kept.steady;
    }

pub returns-in_err-read-clause-read : goal.returns-in_err-read-clause-read
returns-in_err-read-clause-read g c = ReadsOn-then _ _ _ _ _ _ c.loop-self.invariant.read c.in_err-read.ensures.read
