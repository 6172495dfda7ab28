use Rattle.std.proofs.Common.{◌∙◌}
use Rattle.std.proofs.Math.Nat.{mod-eq_of_lt}
use Rattle.bit_vectors.proofs.NumberBits.{length-number_bits, get_or-number_bits, bits_number-number_bits, number_bits-bits_number}
use Rattle.bit_vectors.proofs.laws.numbers_and_bits.Goals as goal

pub returns-clause-width : goal.returns-clause-width
returns-clause-width c = length-number_bits

pub returns-clause-weights : goal.returns-clause-weights
returns-clause-weights c = get_or-number_bits

pub returns-clause-number : goal.returns-clause-number
returns-clause-number c = λ width n lt. bits_number-number_bits width n ∙ mod-eq_of_lt lt

pub returns-clause-bits : goal.returns-clause-bits
returns-clause-bits c = number_bits-bits_number
