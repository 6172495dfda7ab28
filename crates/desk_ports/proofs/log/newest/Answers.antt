use Rattle.std.proofs.Common.{◌+◌, Some, cond, sym, ap, subst, ◌∙◌}
use Rattle.std.specs.FinMap as map
use Rattle.std.specs.Cmp.Lexicographic.{slice_cmp}
use Rattle.std.specs.Ordering.{nat_cmp}
use Rattle.std.specs.Str.{bytes_eq}
use Rattle.desk_ports.proofs.Logs.{IsNewest, IsNewest_more}
use Rattle.desk_ports.proofs.log.newest.Goals as goal
use Rattle.desk_ports.proofs.log.newest.Goals.{then-eq, else-eq}

pub loop-at-init : goal.loop-at-init
loop-at-init c = map.get-empty (slice_cmp nat_cmp) c.args.name.now

pub loop-at-preserved : goal.loop-at-preserved
loop-at-preserved c =
    let log = c.args.log.now in
    let name = c.args.name.now in
    let at = c.loop-at.at in
    let same = c.eq.ensures ∙ ap (bytes_eq name) c.name.ensures in
    let more = IsNewest_more log at name c.index-log-at.result c.eq.result c.loop-at.found c.loop-at-test.true c.index-log-at.is same c.loop-at.invariant in
    elim c.if-eq.branch [
      | then-eq w ↦ subst (IsNewest log (at + 1) name) (ap (λ b. cond b (Some at) c.loop-at.found) w.if-eq.true ∙ sym w.found-is) more
      | else-eq w ↦ subst (IsNewest log (at + 1) name) (ap (λ b. cond b (Some at) c.loop-at.found) w.if-eq.false ∙ sym w.found-is) more
    ]
