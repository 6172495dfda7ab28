use Rattle.std.proofs.Common.{◌≡◌, ℕ, ◌+◌, ◌++◌, List, length, refl, ap, arith}
use Rattle.std.proofs.lemmas.List.{length-append}
use Rattle.state_bytes.specs.Parts.{number_bytes}
use Rattle.state_bytes.proofs.Parts.{length-number_bytes}
use Rattle.packet_decode.proofs.saved.take_numbers.Goals as goal

after_eight : (n : ℕ) (bytes rest : List ℕ) → bytes ≡ number_bytes n ++ rest → length bytes ≡ 8 + length rest
after_eight n bytes rest is = omega (arith, ap (λ (xs : List ℕ). length xs) is, length-append (number_bytes n) rest, length-number_bytes n)

pub returns-in_err-content-clause-none : goal.returns-in_err-content-clause-none
returns-in_err-content-clause-none c e =
    let first = c.in_ok-mask.ensures in
    let second = c.in_err-content.ensures in
    omega (arith, after_eight c.in_ok-mask.mask c.args.bytes.now c.in_ok-mask.rest.now first.some, second.none refl)

pub returns-in_err-level-clause-none : goal.returns-in_err-level-clause-none
returns-in_err-level-clause-none c e =
    let first = c.in_ok-mask.ensures in
    let second = c.in_ok-content.ensures in
    let third = c.in_err-level.ensures in
    omega (arith, after_eight c.in_ok-mask.mask c.args.bytes.now c.in_ok-mask.rest.now first.some, after_eight c.in_ok-content.content c.in_ok-mask.rest.now c.in_ok-content.rest.now second.some, third.cases)
