use Rattle.std.proofs.Common.{◌≡◌, ℕ, List, Bool, ap, subst, ◌∙◌, OnOk}
use Rattle.std.proofs.lemmas.Result.{on_ok_weaker, on_err_weaker}
use Rattle.std.specs.Str.{bytes_eq}
use Rattle.desk_ports.specs.MemState.{mem_meanings}
use Rattle.desk_ports.specs.Meanings.{Keeps}
use Rattle.trial_chain.specs.Stages.{RunState, run_meanings}
use Rattle.desk_ports.proofs.Desks.{granting, Keeps-granting}
use Rattle.trial_chain.proofs.TrialHeld.{IsRunDesk-finish}
use Rattle.trial_chain.proofs.run_desk.RunDeskDesk.finish.Goals as goal

pub invariant_of-self : goal.invariant_of-self
invariant_of-self c = IsRunDesk-finish c.self.inside.desk c.finish.new.self c.self.inside.input.now c.args.outlet c.finish.result c.finish.ensures.kept c.finish.ensures.unchanged c.finish.ensures.called c.self.invariant

pub returns-clause-kept : goal.returns-clause-kept
returns-clause-kept c =
    let grants : List ℕ → Bool = λ name. bytes_eq name c.self.inside.input.now in
    let after : RunState = record { desk = c.finish.new.self; input = c.self.inside.input.now } in
    subst (λ (s : RunState). OnOk c.finish.result (Keeps (run_meanings s) (run_meanings after) c.args.outlet)) c.self.view_is
    (on_ok_weaker c.finish.result (Keeps-granting grants (mem_meanings c.self.inside.desk) (mem_meanings c.finish.new.self) c.args.outlet) c.finish.ensures.kept)

pub returns-clause-unchanged : goal.returns-clause-unchanged
returns-clause-unchanged c =
    let grants : List ℕ → Bool = λ name. bytes_eq name c.self.inside.input.now in
    on_err_weaker c.finish.result (λ (e : mem_meanings c.finish.new.self ≡ mem_meanings c.self.inside.desk). ap (granting grants) e ∙ ap run_meanings c.self.view_is) c.finish.ensures.unchanged
