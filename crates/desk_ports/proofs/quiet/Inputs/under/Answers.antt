use Rattle.std.proofs.Common.{sym, ◌∙◌}
use Rattle.desk_ports.proofs.Desks.{main_kept, side_kept, none_kept}
use Rattle.desk_ports.proofs.quiet.Inputs.under.Goals as goal

pub returns-then-eq : goal.returns-then-eq
returns-then-eq c =
    let inputs = c.args.self.now in
    sym (main_kept inputs.side_name.now inputs.side.now inputs.main_name.now inputs.main.now c.args.name.now (sym c.eq.ensures ∙ c.if-eq.true))

pub returns-then-eq-2 : goal.returns-then-eq-2
returns-then-eq-2 c =
    let inputs = c.args.self.now in
    sym (side_kept inputs.side_name.now inputs.side.now inputs.main_name.now inputs.main.now c.args.name.now (sym c.eq.ensures ∙ c.if-eq.false) (sym c.eq-else-eq.ensures ∙ c.if-eq-2.true))

pub returns-else-eq-2 : goal.returns-else-eq-2
returns-else-eq-2 c =
    let inputs = c.args.self.now in
    sym (none_kept inputs.side_name.now inputs.side.now inputs.main_name.now inputs.main.now c.args.name.now (sym c.eq.ensures ∙ c.if-eq.false) (sym c.eq-else-eq.ensures ∙ c.if-eq-2.false))
