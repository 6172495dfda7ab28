use Rattle.std.proofs.Common.{ℕ, ◌+◌, ◌*◌, ◌≤◌, List, [], ◌++◌, length, arith, refl, sym, subst}
use Rattle.std.proofs.lemmas.List.{append-nil}
use Rattle.bit_vectors.specs.Vectors.{byte_count}
use Rattle.state_bytes.specs.Parts.{Puts, vector_part}
use Rattle.state_bytes.proofs.Parts.{Puts-then, length-number_bytes}
use Rattle.mask_update.specs.Masks.{Running}
use Rattle.mask_update.specs.Saved.{bit_byte, counted_before, four_before, running_before}
use Rattle.mask_update.proofs.Standing.{part_within}
use Rattle.mask_update.proofs.masks.Masks.save.Goals as goal

pub put-at-requires : goal.put-at-requires
put-at-requires c = let room = subst (λ (m : Running). c.args.at + (9 + 4 * (byte_count (length m.mask) + 1)) ≤ length c.args.out.now) (sym c.self.view_is) c.requires in let a = c.put_number-at.ensures in omega (arith, room, length-number_bytes c.self.inside.taken, a.end_is, a.len)

pub put_vector-at-requires : goal.put_vector-at-requires
put_vector-at-requires c =
    let room = subst (λ (m : Running). c.args.at + (9 + 4 * (byte_count (length m.mask) + 1)) ≤ length c.args.out.now) (sym c.self.view_is) c.requires in
    let a = c.put_number-at.ensures in
    let b = c.put-at.ensures in
    rw c.self.invariant.previous_len (omega (arith, room, length-number_bytes c.self.inside.taken, a.end_is, a.len, b.end_is, b.len))

pub put_vector-at-requires-2 : goal.put_vector-at-requires-2
put_vector-at-requires-2 c =
    let room = subst (λ (m : Running). c.args.at + (9 + 4 * (byte_count (length m.mask) + 1)) ≤ length c.args.out.now) (sym c.self.view_is) c.requires in
    let a = c.put_number-at.ensures in
    let b = c.put-at.ensures in
    let d = c.put_vector-at.ensures in
    rw c.self.invariant.build_len (omega (arith, room, length-number_bytes c.self.inside.taken, a.end_is, a.len, b.end_is, b.len, d.end_is, d.len, part_within c.self.inside.previous (length c.self.inside.mask) c.self.invariant.previous_len))

pub put_vector-at-requires-3 : goal.put_vector-at-requires-3
put_vector-at-requires-3 c =
    let room = subst (λ (m : Running). c.args.at + (9 + 4 * (byte_count (length m.mask) + 1)) ≤ length c.args.out.now) (sym c.self.view_is) c.requires in
    let a = c.put_number-at.ensures in
    let b = c.put-at.ensures in
    let d = c.put_vector-at.ensures in
    let e = c.put_vector-at-2.ensures in
    omega (arith, room, length-number_bytes c.self.inside.taken, a.end_is, a.len, b.end_is, b.len, d.end_is, d.len, e.end_is, e.len, part_within c.self.inside.previous (length c.self.inside.mask) c.self.invariant.previous_len, part_within c.self.inside.build (length c.self.inside.mask) c.self.invariant.build_len)

pub put_vector-requires : goal.put_vector-requires
put_vector-requires c =
    let room = subst (λ (m : Running). c.args.at + (9 + 4 * (byte_count (length m.mask) + 1)) ≤ length c.args.out.now) (sym c.self.view_is) c.requires in
    let a = c.put_number-at.ensures in
    let b = c.put-at.ensures in
    let d = c.put_vector-at.ensures in
    let e = c.put_vector-at-2.ensures in
    let g = c.put_vector-at-3.ensures in
    rw c.self.invariant.change_len (omega (arith, room, length-number_bytes c.self.inside.taken, a.end_is, a.len, b.end_is, b.len, d.end_is, d.len, e.end_is, e.len, g.end_is, g.len, part_within c.self.inside.previous (length c.self.inside.mask) c.self.invariant.previous_len, part_within c.self.inside.build (length c.self.inside.mask) c.self.invariant.build_len, part_within c.self.inside.mask (length c.self.inside.mask) refl))

pub returns-clause-saved : goal.returns-clause-saved
unfolding running_before
returns-clause-saved c =
    let room = subst (λ (m : Running). c.args.at + (9 + 4 * (byte_count (length m.mask) + 1)) ≤ length c.args.out.now) (sym c.self.view_is) c.requires in
    let a = c.put_number-at.ensures in
    let b = c.put-at.ensures in
    let d = c.put_vector-at.ensures in
    let e = c.put_vector-at-2.ensures in
    let g = c.put_vector-at-3.ensures in
    let h = c.put_vector.ensures in
    let end : c.put_vector.result ≤ length c.args.out.now = omega (arith, room, length-number_bytes c.self.inside.taken, a.end_is, b.end_is, d.end_is, e.end_is, g.end_is, h.end_is, part_within c.self.inside.previous (length c.self.inside.mask) c.self.invariant.previous_len, part_within c.self.inside.build (length c.self.inside.mask) c.self.invariant.build_len, part_within c.self.inside.mask (length c.self.inside.mask) refl, part_within c.self.inside.change (length c.self.inside.mask) c.self.invariant.change_len) in
    let q4 = Puts-then c.put_vector-at-2.new.out c.put_vector-at-3.new.out c.put_vector.new.out _ _ _ _ _ g h (omega (arith, end, a.len, b.len, d.len, e.len)) in
    let q3 = Puts-then c.put_vector-at.new.out c.put_vector-at-2.new.out c.put_vector.new.out _ _ _ _ _ e q4 (omega (arith, end, a.len, b.len, d.len)) in
    let q2 = Puts-then c.put-at.new.out c.put_vector-at.new.out c.put_vector.new.out _ _ _ _ _ d q3 (omega (arith, end, a.len, b.len)) in
    let q1 = Puts-then c.put_number-at.new.out c.put-at.new.out c.put_vector.new.out _ _ _ _ _ b q2 (omega (arith, end, a.len)) in
    let q0 = Puts-then c.args.out.now c.put_number-at.new.out c.put_vector.new.out _ _ _ _ _ a q1 (omega (arith, end)) in
    let last = sym (append-nil (vector_part c.self.inside.change)) in
    subst (λ (m : Running). Puts c.args.out.now c.put_vector.new.out c.args.at (counted_before m.taken (bit_byte m.again) (four_before m.previous m.build m.mask m.change [])) c.put_vector.result) c.self.view_is
    (subst (λ (xs : List ℕ). Puts c.args.out.now c.put_vector.new.out c.args.at xs c.put_vector.result)
    (λ i. counted_before c.self.inside.taken (c.byte_of.ensures i) (vector_part c.self.inside.previous ++ (vector_part c.self.inside.build ++ (vector_part c.self.inside.mask ++ last i)))) q0)
