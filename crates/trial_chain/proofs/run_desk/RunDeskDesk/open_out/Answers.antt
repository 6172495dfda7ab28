use Rattle.std.proofs.Common.{◌≡◌, ℕ, List, Bool, ap, subst, ◌∙◌, OnOk}
use Rattle.std.proofs.lemmas.Result.{on_ok_weaker, on_err_weaker}
use Rattle.std.specs.Str.{bytes_eq}
use Rattle.desk_ports.specs.MemState.{mem_meanings}
use Rattle.desk_ports.specs.Meanings.{Begins}
use Rattle.trial_chain.specs.Stages.{RunState, run_meanings}
use Rattle.desk_ports.proofs.Desks.{granting, Begins-granting}
use Rattle.trial_chain.proofs.run_desk.RunDeskDesk.open_out.Goals as goal

pub returns-clause-opened : goal.returns-clause-opened
returns-clause-opened c =
    let grants : List ℕ → Bool = λ name. bytes_eq name c.self.inside.input.now in
    let after : RunState = record { desk = c.open_out.new.self; input = c.self.inside.input.now } in
    subst (λ (s : RunState). OnOk c.open_out.result (Begins (run_meanings s) (run_meanings after) c.args.outlet c.args.name.now)) c.self.view_is
    (on_ok_weaker c.open_out.result (Begins-granting grants (mem_meanings c.self.inside.desk) (mem_meanings c.open_out.new.self) c.args.outlet c.args.name.now) c.open_out.ensures.opened)

pub returns-clause-unchanged : goal.returns-clause-unchanged
returns-clause-unchanged c =
    let grants : List ℕ → Bool = λ name. bytes_eq name c.self.inside.input.now in
    on_err_weaker c.open_out.result (λ (e : mem_meanings c.open_out.new.self ≡ mem_meanings c.self.inside.desk). ap (granting grants) e ∙ ap run_meanings c.self.view_is) c.open_out.ensures.unchanged
