use Rattle.std.proofs.Common.{sym}
use Rattle.std.specs.Vec.{vec_capacity}
use Rattle.bit_vectors.proofs.PenBits.{length-written}
use Rattle.bit_vectors.proofs.pen.BitPen.len.Goals as goal

pub returns-clause-len : goal.returns-clause-len
returns-clause-len c =
    rw (← c.self.view_is) (sym (length-written c.self.inside.bytes.items (vec_capacity c.self.inside.bytes) c.self.inside.words c.self.inside.word c.self.inside.held c.self.inside.room c.self.invariant))
