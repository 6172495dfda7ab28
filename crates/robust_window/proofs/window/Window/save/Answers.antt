use Rattle.std.proofs.Common.{ℕ, ◌+◌, ◌*◌, ◌≤◌, List, ◌∷◌, length, get_or, arith, refl, sym, subst}
use Rattle.std.specs.List.{flat_map}
use Rattle.bit_vectors.specs.Vectors.{bits_number, byte_count}
use Rattle.state_bytes.specs.Parts.{Puts, vector_part}
use Rattle.state_bytes.proofs.Parts.{Puts-then}
use Rattle.robust_window.specs.Window.{WindowState}
use Rattle.robust_window.specs.Saved.{AreSixteen, IsWindowState, changes_before, level_before, window_bytes}
use Rattle.robust_window.proofs.Marking.{length-marks}
use Rattle.robust_window.proofs.SavedWindows.{number_is, part_within, sixteen_size}
use Rattle.robust_window.proofs.window.Window.save.Goals as goal

pub put_vector-requires : goal.put_vector-requires
put_vector-requires c =
    let room = subst (λ (w : WindowState). c.args.at + (3 + 17 * (byte_count (length w.recent) + 1)) ≤ length c.args.out.now) (sym c.self.view_is) c.requires in
    let sixteen = subst (λ (w : WindowState). AreSixteen (length w.recent) w.changes) (sym c.self.view_is) c.put_changes-at.ensures.sixteen in
    let a = c.put-at.ensures in
    let b = subst (λ (w : WindowState). Puts c.put-at.new.out c.put_changes-at.new.out c.put-at.result (flat_map vector_part w.changes) c.put_changes-at.result) (sym c.self.view_is) c.put_changes-at.ensures.saved in
    omega (arith, room, sixteen_size (length c.self.inside.recent) c.self.inside.changes.latest sixteen, a.end_is, a.len, b.end_is, b.len)

pub returns-clause-saved : goal.returns-clause-saved
unfolding window_bytes
returns-clause-saved c =
    let room = subst (λ (w : WindowState). c.args.at + (3 + 17 * (byte_count (length w.recent) + 1)) ≤ length c.args.out.now) (sym c.self.view_is) c.requires in
    let sixteen = subst (λ (w : WindowState). AreSixteen (length w.recent) w.changes) (sym c.self.view_is) c.put_changes-at.ensures.sixteen in
    let a = c.put-at.ensures in
    let b = subst (λ (w : WindowState). Puts c.put-at.new.out c.put_changes-at.new.out c.put-at.result (flat_map vector_part w.changes) c.put_changes-at.result) (sym c.self.view_is) c.put_changes-at.ensures.saved in
    let d = c.put_vector.ensures in
    let end : c.put_vector.result ≤ length c.args.out.now =
    omega (arith, room, sixteen_size (length c.self.inside.recent) c.self.inside.changes.latest sixteen, part_within c.self.inside.recent (length c.self.inside.recent) refl, a.end_is, b.end_is, d.end_is) in
    let q1 = Puts-then c.put-at.new.out c.put_changes-at.new.out c.put_vector.new.out _ _ _ _ _ b d (omega (arith, end, a.len)) in
    let q0 = Puts-then c.args.out.now c.put-at.new.out c.put_vector.new.out _ _ _ _ _ a q1 end in
    let number = number_is c.self.inside.new_masks (omega arith) in
    let bytes = c.to_be_bytes.ensures in
    subst (λ (w : WindowState). Puts c.args.out.now c.put_vector.new.out c.args.at (level_before w.level (bits_number w.new_masks) (changes_before w.changes w.recent)) c.put_vector.result) c.self.view_is
    (subst (λ (n : ℕ). Puts c.args.out.now c.put_vector.new.out c.args.at (level_before c.self.inside.level n (changes_before c.self.inside.changes.latest c.self.inside.recent)) c.put_vector.result) (sym number)
    (subst (λ (xs : List ℕ). Puts c.args.out.now c.put_vector.new.out c.args.at (c.self.inside.level ∷ (get_or xs 0 0 ∷ get_or xs 1 0 ∷ changes_before c.self.inside.changes.latest c.self.inside.recent)) c.put_vector.result) bytes q0))

pub returns-clause-valid : goal.returns-clause-valid
returns-clause-valid c =
    let inv = c.self.invariant in
    let sixteen = subst (λ (w : WindowState). AreSixteen (length w.recent) w.changes) (sym c.self.view_is) c.put_changes-at.ensures.sixteen in
    subst (λ (w : WindowState). IsWindowState (length w.recent) w) c.self.view_is
    (record {
      vector = inv.vector;
      changes = sixteen;
      new_masks = length-marks c.self.inside.new_masks;
      recent = refl;
      level_most = inv.level_most;
      twice = refl;
      most = inv.taken_most;
    })
