use Rattle.std.proofs.Common.{◌≤◌, length, length-take, length-drop, ap, rules, arith}
use Rattle.std.proofs.lemmas.Slice.{between_is}
use Rattle.packet_store.specs.StoreReader.{ReaderState}
use Rattle.packet_store.proofs.reader.StoreReader.body.Goals as goal

-- a body that has a byte comes after a whole header
pub slice_bounds-result-count : goal.slice_bounds-result-count
slice_bounds-result-count c =
    let body_length = λ (s : ReaderState). length s.body in
    let kept = simp (length-drop, length-take) at (ap body_length c.self.view_is) in
    omega (arith, kept)

pub slice_bounds-result-start : goal.slice_bounds-result-start
slice_bounds-result-start c =
    let body_length = λ (s : ReaderState). length s.body in
    let kept = simp (length-drop, length-take) at (ap body_length c.self.view_is) in
    let behind : 6 ≤ c.self.inside.held = omega (arith, kept) in
    search rules

pub returns : goal.returns
returns c = rw (← c.self.view_is, c.bytes.ensures.ahead) (between_is c.self.inside.input 6 c.self.inside.held)
