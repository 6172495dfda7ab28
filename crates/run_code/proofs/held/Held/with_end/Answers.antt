use Rattle.std.proofs.Common.{◌≡◌, ◌*◌, ◌%◌, ◌^◌, ◌<◌, ◌≤◌, ◌++◌, ℕ, Bool, List, ap, ◌∙◌, arith}
use Rattle.std.proofs.lemmas.Nat.{shl_whole, pow-add}
use Rattle.bit_vectors.specs.Vectors.{number_bits}
use Rattle.bit_vectors.proofs.NumberBits.{number_bits-cat}
use Rattle.count_code.proofs.CountWords.{two_in_two}
use Rattle.run_code.proofs.held.Held.with_end.Goals as goal

whole : (held count : ℕ) → held < 2 ^ count → count ≤ 62 → held * 4 % 2 ^ 64 ≡ held * 4
whole held count small most = shl_whole held count 2 64 small (omega (arith, most))

pub returns-clause-bits : goal.returns-clause-bits
returns-clause-bits c =
    rw (whole c.args.self.value c.args.self.width c.requires.fits c.requires.room)
    (number_bits-cat c.args.self.width 2 c.args.self.value 2 (omega arith) ∙ ap (λ (bits : List Bool). number_bits c.args.self.width c.args.self.value ++ bits) two_in_two)

pub returns-clause-fits : goal.returns-clause-fits
returns-clause-fits c =
    rw (whole c.args.self.value c.args.self.width c.requires.fits c.requires.room, pow-add 2 c.args.self.width 2) (omega (arith, c.requires.fits))
