use Rattle.std.proofs.Common.{Some, cond, option_copied, sym, ap, ◌∙◌}
use Rattle.desk_ports.proofs.Logs.{first_of_none, first_so_far}
use Rattle.desk_ports.proofs.memory.names.name_from.Goals as goal
use Rattle.desk_ports.proofs.memory.names.name_from.Goals.{then-is_between, else-is_between}

pub loop-entry-init : goal.loop-entry-init
loop-entry-init c = first_of_none c.args.from.now

pub loop-entry-preserved : goal.loop-entry-preserved
loop-entry-preserved c =
    let from = c.args.from.now in
    let name = c.name-name.result.now in
    let found = option_copied c.loop-entry.found in
    let more = first_so_far from c.args.log.now c.loop-entry.entry-index c.entry-item.result name found c.is_between.result c.loop-entry-test.true c.entry-item.is c.name-name.ensures c.is_between.ensures c.loop-entry.invariant in
    elim c.if-is_between.branch [
      | then-is_between w ↦ ap option_copied w.found-is ∙ ap (λ b. cond b (Some name) found) (sym w.if-is_between.true) ∙ more
      | else-is_between w ↦ ap option_copied w.found-is ∙ ap (λ b. cond b (Some name) found) (sym w.if-is_between.false) ∙ more
    ]
