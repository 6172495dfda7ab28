use Rattle.std.proofs.Common.{ℕ, ◌+◌, ◌≤◌, List, [], length, arith, sym, subst}
use Rattle.state_bytes.specs.Parts.{Puts}
use Rattle.state_bytes.proofs.Parts.{Puts-then}
use Rattle.mask_update.specs.Saved.{running_before}
use Rattle.mask_update.proofs.Standing.{running_size, running_then}
use Rattle.robust_window.specs.Saved.{window_bytes}
use Rattle.robust_window.proofs.SavedWindows.{window_size}
use Rattle.packet_encode.specs.Encoder.{EncoderState}
use Rattle.packet_encode.specs.Saved.{encoder_bytes, encoder_room}
use Rattle.packet_encode.proofs.encoder.Encoder.save.Goals as goal

pub save-requires : goal.save-requires
save-requires c =
    let room = subst (λ (k : EncoderState). c.args.at + encoder_room (length k.masks.mask) ≤ length c.args.out.now) (sym c.self.view_is) c.requires in
    let a = c.save-at.ensures.saved in
    rw c.self.invariant.places (omega (arith, room, running_size (length c.self.inside.masks.mask) c.self.inside.masks [] c.save-at.ensures.valid, a.end_is, a.len))

pub returns-clause-saved : goal.returns-clause-saved
unfolding encoder_bytes
returns-clause-saved c =
    let room = subst (λ (k : EncoderState). c.args.at + encoder_room (length k.masks.mask) ≤ length c.args.out.now) (sym c.self.view_is) c.requires in
    let a = c.save-at.ensures.saved in
    let b = c.save.ensures.saved in
    let size = rw c.self.invariant.places at (window_size (length c.self.inside.window.recent) c.self.inside.window c.save.ensures.valid) in
    let end : c.save.result ≤ length c.args.out.now = omega (arith, room, size, running_size (length c.self.inside.masks.mask) c.self.inside.masks [] c.save-at.ensures.valid, a.end_is, b.end_is) in
    subst (λ (k : EncoderState). Puts c.args.out.now c.save.new.out c.args.at (running_before k.masks (window_bytes k.window)) c.save.result) c.self.view_is
    (subst (λ (xs : List ℕ). Puts c.args.out.now c.save.new.out c.args.at xs c.save.result) (running_then c.self.inside.masks (window_bytes c.self.inside.window))
    (Puts-then c.args.out.now c.save-at.new.out c.save.new.out _ _ _ _ _ a b end))
