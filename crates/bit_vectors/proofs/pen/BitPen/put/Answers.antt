use Rattle.std.proofs.Common.{refl}
use Rattle.bit_vectors.proofs.PenBits.{number_bits-bit}
use Rattle.bit_vectors.proofs.pen.BitPen.put.Goals as goal

pub returns-clause-bits : goal.returns-clause-bits
returns-clause-bits c = rw (c.put_word.ensures.bits, c.from.ensures, number_bits-bit c.args.bit) refl
