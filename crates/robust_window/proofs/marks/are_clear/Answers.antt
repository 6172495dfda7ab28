use Rattle.std.proofs.Common.{◌-◌, ◌*◌, ◌%◌, ◌^◌, eqb-true, eq-eqb}
use Rattle.robust_window.proofs.Marking.{clear-shifted, shifted-clear}
use Rattle.robust_window.proofs.marks.are_clear.Goals as goal

pub returns : goal.returns
returns c =
    let left = c.args.marks * 2 ^ (16 - c.args.count) % 65536 in
    (λ zero. clear-shifted c.args.marks c.args.count c.requires.1 (eqb-true left 0 zero), λ clear. eq-eqb left 0 (shifted-clear c.args.marks c.args.count c.requires.1 clear))
