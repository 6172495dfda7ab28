use Rattle.std.proofs.Common.{◌≡◌, sym}
use Rattle.std.proofs.lemmas.List.{append-nil}
use Rattle.bit_vectors.specs.Vectors.{number_bits}
use Rattle.bit_vectors.proofs.pen.BitPen.put_number.Goals as goal

pub returns-else-width-ne0-clause-bits : goal.returns-else-width-ne0-clause-bits
unfolding number_bits
returns-else-width-ne0-clause-bits c =
    let none : c.args.width ≡ 0 = c.if-width-ne0.false in
    rw none (sym (append-nil c.args.self.now.bits))
