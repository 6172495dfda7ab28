use Rattle.std.proofs.Common.{length, ap, arith}
use Rattle.bit_vectors.proofs.NumberBits.{length-number_bits}
use Rattle.count_code.proofs.writing.put_count.Goals as goal

pub put_word-requires-clause-room : goal.put_word-requires-clause-room
put_word-requires-clause-room c =
    omega (arith, length-number_bits c.count_word-word.result.width c.count_word-word.result.value, ap length c.count_word-word.ensures.bits)
