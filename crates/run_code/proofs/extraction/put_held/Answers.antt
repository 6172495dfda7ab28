use Rattle.std.proofs.Common.{◌≡◌, ◌++◌, List, Bool, sym, ap, ◌∙◌, arith}
use Rattle.std.proofs.lemmas.List.{append-nil}
use Rattle.run_code.proofs.Gathering.{no_number}
use Rattle.run_code.proofs.extraction.put_held.Goals as goal

pub returns-else-count-gt0-clause-bits : goal.returns-else-count-gt0-clause-bits
returns-else-count-gt0-clause-bits c =
    let none : c.args.count ≡ 0 = omega arith in
    rw none (sym (append-nil c.args.pen.now.bits) ∙ ap (λ (xs : List Bool). c.args.pen.now.bits ++ xs) (sym (no_number c.args.held)))
