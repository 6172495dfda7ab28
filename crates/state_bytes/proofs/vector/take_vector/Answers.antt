use Rattle.std.proofs.Common.{◌≡◌, ℕ, ◌∷◌, true, Bool, List, length, take, ap, arith, sym, refl, ◌∙◌}
use Rattle.bit_vectors.specs.Vectors.{byte_count, vector_bytes}
use Rattle.bit_vectors.proofs.NumberBits.{take-bits_of-vector_bytes}
use Rattle.state_bytes.specs.Parts.{BeginsVector, BeginsVectorIf}
use Rattle.state_bytes.proofs.Parts.{is_set, is_unset, no_spare, set_back, set_front, set_size, starts}
use Rattle.state_bytes.proofs.vector.take_vector.Goals as goal

-- any vector may have a 1
may_begin : (f : ℕ) (v : List Bool) (bytes rest : List ℕ) → BeginsVector f v bytes rest → BeginsVectorIf true f v bytes rest
may_begin f v bytes rest begins = record { begins = begins; zero = λ never. absurd cc }

pub unreachable-requires : goal.unreachable-requires
unreachable-requires c =
    let r = c.requires in
    let s = starts _ r.0 _ r.1 r.2 in
    let h = c.in_default.ensures in
    omega (arith, s, h.cases)

pub returns-then-first-eq0-clause-taken : goal.returns-then-first-eq0-clause-taken
returns-then-first-eq0-clause-taken c v rest begins =
    let h = c.in-Some.ensures in
    let unset = is_unset _ v _ rest _ _ begins h.cases.0 c.if-first-eq0.true in
    (c.clear.ensures ∙ sym unset.0, unset.1)

pub split_at-requires : goal.split_at-requires
split_at-requires c =
    let r = c.requires in
    let h = c.in-Some.ensures in
    let set = is_set true _ r.0 c.args.bytes.now r.1 c.in-Some.rest.now c.in-Some.first.now (may_begin _ r.0 _ r.1 r.2) h.cases.0 c.if-first-eq0.false in
    rw (c.byte_len.ensures, c.len.ensures.len) (set_size (length c.args.vector.now) r.0 c.in-Some.rest.now r.1 set.places set.tail_is)

given_is : (f size : ℕ) (v : List Bool) (bytes rest tail given : List ℕ) (first : ℕ) → BeginsVector f v bytes rest → bytes ≡ first ∷ tail → (first ≡ 0 → ⊥) → size ≡ byte_count f → given ≡ take size tail → given ≡ vector_bytes v
given_is f size v bytes rest tail given first begins e some size_is is =
    let set = is_set true f v bytes rest tail first (may_begin f v bytes rest begins) e some in
    is ∙ rw size_is (set_front f v tail rest set.places set.tail_is)

pub unreachable-requires-in_default-load : goal.unreachable-requires-in_default-load
unreachable-requires-in_default-load c =
    let r = c.requires in
    let h = c.in-Some.ensures in
    let size : c.byte_len.result ≡ byte_count (length c.args.vector.now) = c.byte_len.ensures ∙ ap byte_count c.len.ensures.len in
    let given = given_is _ c.byte_len.result r.0 _ r.1 _ _ _ r.2 h.cases.0 c.if-first-eq0.false size c.split_at.ensures.front in
    let refused = c.in_default-load.ensures in
    no_spare r.0 (rw (r.2.places, sym given) (refused.spare.0 refl))

pub returns-clause-taken : goal.returns-clause-taken
returns-clause-taken c v rest begins =
    let h = c.in-Some.ensures in
    let size : c.byte_len.result ≡ byte_count (length c.args.vector.now) = c.byte_len.ensures ∙ ap byte_count c.len.ensures.len in
    let set = is_set true _ v c.args.bytes.now rest c.in-Some.rest.now c.in-Some.first.now (may_begin _ v _ rest begins) h.cases.0 c.if-first-eq0.false in
    let given = given_is _ c.byte_len.result v _ rest _ _ _ begins h.cases.0 c.if-first-eq0.false size c.split_at.ensures.front in
    let loaded = c.in-Ok.ensures.loaded in
    (loaded ∙ rw (given, sym set.places) (take-bits_of-vector_bytes v), c.split_at.ensures.back ∙ rw size (set_back _ v c.in-Some.rest.now rest set.places set.tail_is))
