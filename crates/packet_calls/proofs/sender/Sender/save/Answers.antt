use Rattle.std.proofs.Common.{◌+◌, ◌*◌, ◌≤◌, length, ap, sym, subst, arith}
use Rattle.bit_vectors.specs.Vectors.{byte_count}
use Rattle.packet_encode.specs.Saved.{encoder_bytes}
use Rattle.packet_encode.proofs.SavedEncoders.{encoder_size}
use Rattle.packet_calls.specs.Sending.{SenderState}
use Rattle.packet_calls.specs.States.{sender_kind, sender_state}
use Rattle.packet_calls.proofs.Received.{whole}
use Rattle.packet_calls.proofs.sender.Sender.save.Goals as goal

pub seal-requires : goal.seal-requires
seal-requires c =
    let p1 = c.put_head-from.ensures in
    let p2 = c.save-end.ensures.saved in
    let length_of = encoder_size _ c.self.inside.encoder c.save-end.ensures.valid in
    let room = subst (λ (s : SenderState). 47 + 21 * byte_count (length s.encoder.masks.mask) ≤ length c.args.out.now) (sym c.self.view_is) (omega (arith, c.state_room.ensures, c.if-out-state_room.false)) in
    omega (arith, room, length_of, p1.end_is, p1.len, p2.end_is, p2.len)

pub returns-clause-length : goal.returns-clause-length
unfolding sender_state
returns-clause-length c =
    let p1 = c.put_head-from.ensures in
    let p2 = c.save-end.ensures.saved in
    let length_of = encoder_size _ c.self.inside.encoder c.save-end.ensures.valid in
    let room = subst (λ (s : SenderState). 47 + 21 * byte_count (length s.encoder.masks.mask) ≤ length c.args.out.now) (sym c.self.view_is) (omega (arith, c.state_room.ensures, c.if-out-state_room.false)) in
    let all = whole sender_kind c.places.result (length c.args.self.now.encoder.masks.mask) c.put_head-from.result c.save-end.result c.seal.result (encoder_bytes c.self.inside.encoder) (encoder_bytes c.args.self.now.encoder) c.args.out.now c.put_head-from.new.out c.save-end.new.out c.seal.new.out
    c.places.ensures.places (ap (λ (s : SenderState). encoder_bytes s.encoder) c.self.view_is) p1 p2 c.seal.ensures (omega (arith, room, length_of, p1.end_is, p1.len, p2.end_is, p2.len)) in
    omega (arith, all.end_is)

pub returns-clause-state : goal.returns-clause-state
unfolding sender_state
returns-clause-state c =
    let p1 = c.put_head-from.ensures in
    let p2 = c.save-end.ensures.saved in
    let length_of = encoder_size _ c.self.inside.encoder c.save-end.ensures.valid in
    let room = subst (λ (s : SenderState). 47 + 21 * byte_count (length s.encoder.masks.mask) ≤ length c.args.out.now) (sym c.self.view_is) (omega (arith, c.state_room.ensures, c.if-out-state_room.false)) in
    (whole sender_kind c.places.result (length c.args.self.now.encoder.masks.mask) c.put_head-from.result c.save-end.result c.seal.result (encoder_bytes c.self.inside.encoder) (encoder_bytes c.args.self.now.encoder) c.args.out.now c.put_head-from.new.out c.save-end.new.out c.seal.new.out
    c.places.ensures.places (ap (λ (s : SenderState). encoder_bytes s.encoder) c.self.view_is) p1 p2 c.seal.ensures (omega (arith, room, length_of, p1.end_is, p1.len, p2.end_is, p2.len))).is
