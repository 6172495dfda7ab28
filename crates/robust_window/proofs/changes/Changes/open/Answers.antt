use Rattle.std.proofs.Common.{◌≡◌, false, length, replicate, refl, ap, ◌∙◌, arith, Bool, List}
use Rattle.std.proofs.lemmas.List.{length-replicate}
use Rattle.circular_buffer.specs.Buffer.{Buffer}
use Rattle.robust_window.proofs.Marking.{changes_of-none}
use Rattle.robust_window.proofs.changes.Changes.open.Goals as goal

pub returns-clause-latest : goal.returns-clause-latest
returns-clause-latest c =
    let all : c.loop-kept._kept ≡ 16 = omega arith in
    let full = ap (λ (b : Buffer (List Bool)). length b.items) c.loop-kept.invariant ∙ length-replicate c.loop-kept._kept (replicate c.args.f false) ∙ all in
    changes_of-none (length c.in_ok-zeros-2.field-0) 0 c.loop-kept.slots.items full refl
    ∙ ap (λ n. replicate 16 (replicate n false)) (ap length c.in_ok-zeros-2.ensures ∙ length-replicate c.args.f false)
