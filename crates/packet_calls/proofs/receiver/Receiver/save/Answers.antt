use Rattle.std.proofs.Common.{◌+◌, ◌*◌, ◌≤◌, length, ap, sym, subst, arith}
use Rattle.bit_vectors.specs.Vectors.{byte_count}
use Rattle.ground_chain.specs.Reception.{Reckoning}
use Rattle.ground_chain.specs.Saved.{reckoning_bytes}
use Rattle.packet_calls.specs.States.{receiver_kind, receiver_state}
use Rattle.packet_calls.proofs.Received.{reckoning_length, whole}
use Rattle.packet_calls.proofs.receiver.Receiver.save.Goals as goal

pub seal-requires : goal.seal-requires
seal-requires c =
    let p1 = c.put_head-from.ensures in
    let p2 = c.save-end.ensures.saved in
    let length_of = reckoning_length _ c.self.inside.arrivals c.save-end.ensures.valid in
    let room = subst (λ (r : Reckoning). 71 + 3 * (byte_count r.reception.decoder.places + 1) ≤ length c.args.out.now) (sym c.self.view_is) (omega (arith, c.state_room.ensures, c.if-out-state_room.false)) in
    omega (arith, room, length_of, p1.end_is, p1.len, p2.end_is, p2.len)

pub returns-clause-length : goal.returns-clause-length
unfolding receiver_state
returns-clause-length c =
    let p1 = c.put_head-from.ensures in
    let p2 = c.save-end.ensures.saved in
    let length_of = reckoning_length _ c.self.inside.arrivals c.save-end.ensures.valid in
    let room = subst (λ (r : Reckoning). 71 + 3 * (byte_count r.reception.decoder.places + 1) ≤ length c.args.out.now) (sym c.self.view_is) (omega (arith, c.state_room.ensures, c.if-out-state_room.false)) in
    let all = whole receiver_kind c.places.result c.args.self.now.reception.decoder.places c.put_head-from.result c.save-end.result c.seal.result (reckoning_bytes c.self.inside.arrivals) (reckoning_bytes c.args.self.now) c.args.out.now c.put_head-from.new.out c.save-end.new.out c.seal.new.out
    c.places.ensures.places (ap reckoning_bytes c.self.view_is) p1 p2 c.seal.ensures (omega (arith, room, length_of, p1.end_is, p1.len, p2.end_is, p2.len)) in
    omega (arith, all.end_is)

pub returns-clause-state : goal.returns-clause-state
unfolding receiver_state
returns-clause-state c =
    let p1 = c.put_head-from.ensures in
    let p2 = c.save-end.ensures.saved in
    let length_of = reckoning_length _ c.self.inside.arrivals c.save-end.ensures.valid in
    let room = subst (λ (r : Reckoning). 71 + 3 * (byte_count r.reception.decoder.places + 1) ≤ length c.args.out.now) (sym c.self.view_is) (omega (arith, c.state_room.ensures, c.if-out-state_room.false)) in
    (whole receiver_kind c.places.result c.args.self.now.reception.decoder.places c.put_head-from.result c.save-end.result c.seal.result (reckoning_bytes c.self.inside.arrivals) (reckoning_bytes c.args.self.now) c.args.out.now c.put_head-from.new.out c.save-end.new.out c.seal.new.out
    c.places.ensures.places (ap reckoning_bytes c.self.view_is) p1 p2 c.seal.ensures (omega (arith, room, length_of, p1.end_is, p1.len, p2.end_is, p2.len))).is
