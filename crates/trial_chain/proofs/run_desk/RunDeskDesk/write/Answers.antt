use Rattle.std.proofs.Common.{ℕ, List, Bool, subst, IfOk, take}
use Rattle.std.proofs.lemmas.Result.{IfOk-weaker}
use Rattle.std.specs.Str.{bytes_eq}
use Rattle.desk_ports.specs.MemState.{mem_meanings}
use Rattle.desk_ports.specs.Meanings.{Adds}
use Rattle.trial_chain.specs.Stages.{RunState, run_meanings}
use Rattle.desk_ports.proofs.Desks.{granting, Adds-granting}
use Rattle.trial_chain.proofs.run_desk.RunDeskDesk.write.Goals as goal

pub returns-clause-added : goal.returns-clause-added
returns-clause-added c =
    let grants : List ℕ → Bool = λ name. bytes_eq name c.self.inside.input.now in
    let after : RunState = record { desk = c.write.new.self; input = c.self.inside.input.now } in
    subst (λ (s : RunState). IfOk c.write.result (λ n. Adds (run_meanings s) (run_meanings after) c.args.outlet (take n c.args.bytes.now))) c.self.view_is
    (IfOk-weaker c.write.result (λ n. Adds (mem_meanings c.self.inside.desk) (mem_meanings c.write.new.self) c.args.outlet (take n c.args.bytes.now))
    (λ n. Adds (granting grants (mem_meanings c.self.inside.desk)) (granting grants (mem_meanings c.write.new.self)) c.args.outlet (take n c.args.bytes.now))
    (λ n. Adds-granting grants (mem_meanings c.self.inside.desk) (mem_meanings c.write.new.self) c.args.outlet (take n c.args.bytes.now)) c.write.ensures.added)
