use Rattle.std.proofs.Common.{◌≡◌, ◌+◌, ◌*◌, length, ap, take, sym, ◌∙◌, arith}
use Rattle.std.specs.Vec.{vec_capacity}
use Rattle.bit_vectors.specs.Vectors.{AreBytes, byte_count}
use Rattle.bit_vectors.specs.Pen.{PenState}
use Rattle.bit_vectors.proofs.PenBits.{length-written, pen_bytes_are}
use Rattle.bit_vectors.proofs.pen.BitPen.bytes.Goals as goal

pub returns-clause-bytes : goal.returns-clause-bytes
returns-clause-bytes c =
    let p = c.self.inside in
    let len : c.len.result ≡ 64 * c.self.inside.words + c.self.inside.held =
    c.len.ensures.len ∙ ap (λ (pen : PenState). length pen.bits) (sym c.self.view_is) ∙ length-written c.self.inside.bytes.items (vec_capacity c.self.inside.bytes) c.self.inside.words c.self.inside.word c.self.inside.held c.self.inside.room c.self.invariant in
    let count : c.div_ceil.result ≡ byte_count (64 * c.self.inside.words + c.self.inside.held) = c.div_ceil.ensures ∙ omega (arith, len) in
    let first : c.first_bytes.result.now ≡ take (byte_count (64 * c.self.inside.words + c.self.inside.held)) c.self.inside.bytes.items = rw (← count, ← c.deref.ensures.value) c.first_bytes.ensures.first in
    let below : AreBytes (take (byte_count (64 * c.self.inside.words + c.self.inside.held)) c.self.inside.bytes.items) = rw (← first) c.first_bytes.ensures.bytes in
    rw (first, ← c.self.view_is) (pen_bytes_are c.self.inside.bytes.items (vec_capacity c.self.inside.bytes) c.self.inside.words c.self.inside.word c.self.inside.held c.self.inside.room c.self.invariant below)
