use Rattle.bit_vectors.proofs.PenBits.{no_bits}
use Rattle.bit_vectors.proofs.pen.BitPen.clear.Goals as goal

pub returns-clause-bits : goal.returns-clause-bits
returns-clause-bits c = no_bits 0
