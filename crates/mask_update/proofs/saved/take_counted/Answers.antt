use Rattle.std.proofs.Common.{ℕ, List, length, ap, arith}
use Rattle.std.proofs.lemmas.List.{length-append}
use Rattle.state_bytes.specs.Parts.{number_bytes}
use Rattle.state_bytes.proofs.Parts.{length-number_bytes}
use Rattle.mask_update.proofs.saved.take_counted.Goals as goal

pub returns-in_err-again-clause-none : goal.returns-in_err-again-clause-none
returns-in_err-again-clause-none c e =
    let first = c.in_ok-taken.ensures in
    let second = c.in_err-again.ensures in
    omega (arith, ap (λ (xs : List ℕ). length xs) first.some, length-append (number_bytes c.in_ok-taken.taken) c.in_ok-taken.rest.now, length-number_bytes c.in_ok-taken.taken, second.cases)
