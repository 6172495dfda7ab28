use Rattle.std.proofs.Common.{ℕ, ◌+◌, ◌*◌, ◌≤◌, List, length, sym, subst, ◌∙◌, arith}
use Rattle.bit_vectors.specs.Vectors.{byte_count}
use Rattle.state_bytes.specs.Parts.{Puts}
use Rattle.state_bytes.proofs.Parts.{Puts-then}
use Rattle.packet_decode.specs.Saved.{decoding_bytes}
use Rattle.ground_chain.specs.Run.{expected}
use Rattle.ground_chain.specs.Reception.{Reckoning}
use Rattle.ground_chain.specs.Saved.{counts_before, reckoning_bytes}
use Rattle.ground_chain.proofs.Reckonings.{Puts-within, counts_length, counts_then}
use Rattle.ground_chain.proofs.tallied.Tallied.save.Goals as goal

pub save-requires-clause-room : goal.save-requires-clause-room
save-requires-clause-room c =
    let p = c.put_counts-at.ensures in
    let size = counts_length c.next_number.result c.self.inside.restored in
    let room = subst (λ (r : Reckoning). c.args.at + (40 + (17 + 3 * (byte_count r.reception.decoder.places + 1))) ≤ length c.args.out.now) (sym c.self.view_is) c.requires in
    rw c.decoder.ensures (omega (arith, room, p.end_is, p.len, size))

pub returns-clause-saved : goal.returns-clause-saved
unfolding reckoning_bytes
returns-clause-saved c =
    let p1 = c.put_counts-at.ensures in
    let p2 = c.save.ensures.saved in
    let size = counts_length c.next_number.result c.self.inside.restored in
    let room = subst (λ (r : Reckoning). c.args.at + (40 + (17 + 3 * (byte_count r.reception.decoder.places + 1))) ≤ length c.args.out.now) (sym c.self.view_is) c.requires in
    let end = Puts-within c.put_counts-at.new.out c.save.new.out _ _ _ p2 (omega (arith, room, p1.end_is, p1.len, size)) in
    let both = Puts-then c.args.out.now c.put_counts-at.new.out c.save.new.out _ _ _ _ _ p1 p2 (omega (arith, end, p1.len)) in
    let joined = counts_then c.next_number.result c.self.inside.restored (decoding_bytes c.decoder.result.now) in
    subst (λ (r : Reckoning). Puts c.args.out.now c.save.new.out c.args.at (counts_before (expected r.reception.latest) r.restored (decoding_bytes r.reception.decoder)) c.save.result) c.self.view_is
    (subst (λ (xs : List ℕ). Puts c.args.out.now c.save.new.out c.args.at xs c.save.result) (joined ∙ (λ i. counts_before (c.next_number.ensures.next i) c.self.inside.restored (decoding_bytes (c.decoder.ensures i)))) both)
