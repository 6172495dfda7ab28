use Rattle.std.proofs.Common.{length, ap, sym, ◌∙◌}
use Rattle.bit_vectors.proofs.NumberBits.{length-number_bits}
use Rattle.count_code.proofs.writing.count_len.Goals as goal

pub returns-clause-len : goal.returns-clause-len
returns-clause-len c = sym (length-number_bits c.count_word.result.width c.count_word.result.value) ∙ ap length c.count_word.ensures.bits
