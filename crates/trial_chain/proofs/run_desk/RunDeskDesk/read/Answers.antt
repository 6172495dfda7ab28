use Rattle.std.proofs.Common.{ℕ, List, Bool, subst, IfOk, take}
use Rattle.std.proofs.lemmas.Result.{IfOk-weaker}
use Rattle.std.specs.Str.{bytes_eq}
use Rattle.desk_ports.specs.MemState.{mem_meanings}
use Rattle.desk_ports.specs.Meanings.{Moves}
use Rattle.trial_chain.specs.Stages.{RunState, run_meanings}
use Rattle.desk_ports.proofs.Desks.{granting, Moves-granting}
use Rattle.trial_chain.proofs.run_desk.RunDeskDesk.read.Goals as goal

pub returns-clause-moved : goal.returns-clause-moved
returns-clause-moved c =
    let grants : List ℕ → Bool = λ name. bytes_eq name c.self.inside.input.now in
    let after : RunState = record { desk = c.read.new.self; input = c.self.inside.input.now } in
    subst (λ (s : RunState). IfOk c.read.result (λ n. Moves (run_meanings s) (run_meanings after) c.args.inlet (take n c.read.new.buf))) c.self.view_is
    (IfOk-weaker c.read.result (λ n. Moves (mem_meanings c.self.inside.desk) (mem_meanings c.read.new.self) c.args.inlet (take n c.read.new.buf))
    (λ n. Moves (granting grants (mem_meanings c.self.inside.desk)) (granting grants (mem_meanings c.read.new.self)) c.args.inlet (take n c.read.new.buf))
    (λ n. Moves-granting grants (mem_meanings c.self.inside.desk) (mem_meanings c.read.new.self) c.args.inlet (take n c.read.new.buf)) c.read.ensures.moved)
