use Rattle.std.proofs.Common.{◌≡◌, ℕ, ◌+◌, ◌*◌, ◌<◌, ◌≤◌, ◌^◌, Bool, List, length, arith, refl, sym, subst, ◌∙◌, ap}
use Rattle.bit_vectors.specs.Vectors.{byte_count}
use Rattle.state_bytes.specs.Parts.{Puts, vector_part}
use Rattle.state_bytes.proofs.Parts.{Puts-then, length-number_bytes, vector_part_size}
use Rattle.packet_decode.specs.State.{latest_mask_number, latest_number}
use Rattle.packet_decode.specs.Saved.{IsDecoding, decoding_bytes, number_and_one, numbers_before, three_parts}
use Rattle.packet_decode.proofs.SavedDecoders.{has_part, if_part, kept_number, kept_vector}
use Rattle.packet_decode.proofs.decoder.Decoder.save.Goals as goal

part_within : (v : List Bool) (f : ℕ) → length v ≡ f → length (vector_part v) ≤ byte_count f + 1
part_within v f e = subst (λ n. length (vector_part v) ≤ byte_count n + 1) e (vector_part_size v)

pub put_number-at-requires-2 : goal.put_number-at-requires-2
put_number-at-requires-2 c =
    let room = subst (λ d. c.args.at + (17 + 3 * (byte_count d.places + 1)) ≤ length c.args.out.now) (sym c.self.view_is) c.requires.room in
    let a = c.put_number-at.ensures in
    omega (arith, room, length-number_bytes c.number_after.result, a.end_is, a.len)

pub put-at-requires : goal.put-at-requires
put-at-requires c =
    let room = subst (λ d. c.args.at + (17 + 3 * (byte_count d.places + 1)) ≤ length c.args.out.now) (sym c.self.view_is) c.requires.room in
    let a = c.put_number-at.ensures in
    let b = c.put_number-at-2.ensures in
    omega (arith, room, length-number_bytes c.number_after.result, length-number_bytes c.number_after-2.result, a.end_is, a.len, b.end_is, b.len)

pub put_vector-at-requires : goal.put_vector-at-requires
put_vector-at-requires c =
    let room = subst (λ d. c.args.at + (17 + 3 * (byte_count d.places + 1)) ≤ length c.args.out.now) (sym c.self.view_is) c.requires.room in
    let a = c.put_number-at.ensures in
    let b = c.put_number-at-2.ensures in
    let d = c.put-at.ensures in
    rw c.self.invariant.latest_vectors.mask (omega (arith, room, length-number_bytes c.number_after.result, length-number_bytes c.number_after-2.result, a.end_is, a.len, b.end_is, b.len, d.end_is, d.len))

pub put_vector-at-requires-2 : goal.put_vector-at-requires-2
put_vector-at-requires-2 c =
    let room = subst (λ d. c.args.at + (17 + 3 * (byte_count d.places + 1)) ≤ length c.args.out.now) (sym c.self.view_is) c.requires.room in
    let mask = part_within c.self.inside.latest.mask (length c.self.inside.latest.content) c.self.invariant.latest_vectors.mask in
    let a = c.put_number-at.ensures in
    let b = c.put_number-at-2.ensures in
    let d = c.put-at.ensures in
    let e = c.put_vector-at.ensures in
    omega (arith, room, mask, length-number_bytes c.number_after.result, length-number_bytes c.number_after-2.result, a.end_is, a.len, b.end_is, b.len, d.end_is, d.len, e.end_is, e.len)

pub put_vector-requires : goal.put_vector-requires
put_vector-requires c =
    let room = subst (λ d. c.args.at + (17 + 3 * (byte_count d.places + 1)) ≤ length c.args.out.now) (sym c.self.view_is) c.requires.room in
    let mask = part_within c.self.inside.latest.mask (length c.self.inside.latest.content) c.self.invariant.latest_vectors.mask in
    let content = part_within c.self.inside.latest.content (length c.self.inside.latest.content) refl in
    let recent : length c.recent.result.now ≡ length c.self.inside.latest.content = ap (λ (v : List Bool). length v) c.recent.ensures ∙ c.self.invariant.shown_places in
    let a = c.put_number-at.ensures in
    let b = c.put_number-at-2.ensures in
    let d = c.put-at.ensures in
    let e = c.put_vector-at.ensures in
    let g = c.put_vector-at-2.ensures in
    rw recent (omega (arith, room, mask, content, length-number_bytes c.number_after.result, length-number_bytes c.number_after-2.result, a.end_is, a.len, b.end_is, b.len, d.end_is, d.len, e.end_is, e.len, g.end_is, g.len))

pub returns-clause-saved : goal.returns-clause-saved
returns-clause-saved c =
    let room = subst (λ d. c.args.at + (17 + 3 * (byte_count d.places + 1)) ≤ length c.args.out.now) (sym c.self.view_is) c.requires.room in
    let kept = c.self.inside in
    let mask = part_within c.self.inside.latest.mask (length c.self.inside.latest.content) c.self.invariant.latest_vectors.mask in
    let content = part_within c.self.inside.latest.content (length c.self.inside.latest.content) refl in
    let recent_len : length c.recent.result.now ≡ length c.self.inside.latest.content = ap (λ (v : List Bool). length v) c.recent.ensures ∙ c.self.invariant.shown_places in
    let recent = part_within c.recent.result.now (length c.self.inside.latest.content) recent_len in
    let p1 = c.put_number-at.ensures in
    let p2 = c.put_number-at-2.ensures in
    let p3 = c.put-at.ensures in
    let p4 = c.put_vector-at.ensures in
    let p5 = c.put_vector-at-2.ensures in
    let p6 = c.put_vector.ensures in
    let end : c.put_vector.result ≤ length c.args.out.now =
    omega (arith, room, mask, content, recent, length-number_bytes c.number_after.result, length-number_bytes c.number_after-2.result, p1.end_is, p2.end_is, p3.end_is, p4.end_is, p5.end_is, p6.end_is) in
    let q5 = Puts-then c.put_vector-at.new.out c.put_vector-at-2.new.out c.put_vector.new.out _ _ _ _ _ p5 p6 (omega (arith, end, p1.len, p2.len, p3.len, p4.len)) in
    let q4 = Puts-then c.put-at.new.out c.put_vector-at.new.out c.put_vector.new.out _ _ _ _ _ p4 q5 (omega (arith, end, p1.len, p2.len, p3.len)) in
    let q3 = Puts-then c.put_number-at-2.new.out c.put-at.new.out c.put_vector.new.out _ _ _ _ _ p3 q4 (omega (arith, end, p1.len, p2.len)) in
    let q2 = Puts-then c.put_number-at.new.out c.put_number-at-2.new.out c.put_vector.new.out _ _ _ _ _ p2 q3 (omega (arith, end, p1.len)) in
    let q1 = Puts-then c.args.out.now c.put_number-at.new.out c.put_vector.new.out _ _ _ _ _ p1 q2 end in
    let m = c.number_after.ensures ∙ ap number_and_one (sym (kept_number c.self.inside.latest.mask_number c.self.inside.latest.mask)) in
    let n = c.number_after-2.ensures ∙ ap number_and_one (sym (kept_number c.self.inside.latest.content_number c.self.inside.latest.content)) in
    let mask_is = sym (kept_vector (length c.self.inside.latest.content) c.self.inside.latest.mask_number c.self.inside.latest.mask c.self.invariant.first_mask) in
    let content_is = sym (kept_vector (length c.self.inside.latest.content) c.self.inside.latest.content_number c.self.inside.latest.content c.self.invariant.first_content) in
    subst (λ d. Puts c.args.out.now c.put_vector.new.out c.args.at (decoding_bytes d) c.put_vector.result) c.self.view_is
    (subst (λ (xs : List ℕ). Puts c.args.out.now c.put_vector.new.out c.args.at xs c.put_vector.result) (λ i. numbers_before (m i) (n i) (c.level.ensures.level i) (three_parts (mask_is i) (content_is i) (c.recent.ensures i))) q1)

pub returns-clause-valid : goal.returns-clause-valid
returns-clause-valid c =
    let kept = c.self.inside in
    let inv = c.self.invariant in
    subst (λ d. IsDecoding d.places d) c.self.view_is
    (record {
      vector = inv.vector;
      places = refl;
      state = record {
        mask = has_part (length kept.latest.content) kept.latest.mask_number kept.latest.mask inv.latest_vectors.mask;
        content = has_part (length kept.latest.content) kept.latest.content_number kept.latest.content refl;
      };
      recent_places = inv.shown_places;
      level_most = subst (λ n. n < 16) c.level.ensures.level c.level.ensures.most;
      mask_number = subst (λ d. number_and_one (latest_mask_number d.state) < 2 ^ 64) (sym c.self.view_is) c.requires.numbers.mask;
      content_number = subst (λ d. number_and_one (latest_number d.state) < 2 ^ 64) (sym c.self.view_is) c.requires.numbers.content;
      first_recent = if_part kept.latest.content_number kept.latest.content _ inv.first_recent;
      first_level = if_part kept.latest.content_number kept.latest.content _ inv.first_level;
    })
