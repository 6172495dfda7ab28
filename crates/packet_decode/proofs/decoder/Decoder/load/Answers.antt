use Rattle.std.proofs.Common.{◌≡◌, false, replicate, [], length, arith, refl, sym, subst, ◌∙◌, ap}
use Rattle.state_bytes.specs.Parts.{vector_part}
use Rattle.packet_decode.specs.State.{known_vector, latest_content, Change}
use Rattle.bit_vectors.specs.Vectors.{IsPlaces}
use Rattle.packet_decode.proofs.SavedDecoders.{content_begins, if_kept, if_map, mask_begins, numbers_size, part_is, recent_begins, zero_if_none}
use Rattle.packet_decode.proofs.decoder.Decoder.load.Goals as goal

pub take_vector-rest-requires-2 : goal.take_vector-rest-requires-2
take_vector-rest-requires-2 c =
    let r = c.requires in
    let places = sym (ap (λ d. d.places) c.self.view_is) in
    let told = c.in-Some.ensures.numbers _ _ _ _ r.1.mask_number r.1.content_number r.2 in
    let first = c.take_vector-rest.ensures.taken _ _ (mask_begins _ (length c.self.inside.latest.mask) r.0 _ r.1 (places ∙ sym c.self.invariant.latest_vectors.mask) told.3) in
    (latest_content r.0.places r.0.state, vector_part r.0.recent, content_begins _ (length c.self.inside.latest.content) r.0 _ r.1 places first.1)

pub load-requires-clause-recent : goal.load-requires-clause-recent
load-requires-clause-recent c =
    let r = c.requires in
    let places = sym (ap (λ d. d.places) c.self.view_is) in
    let told = c.in-Some.ensures.numbers _ _ _ _ r.1.mask_number r.1.content_number r.2 in
    let first = c.take_vector-rest.ensures.taken _ _ (mask_begins _ (length c.self.inside.latest.mask) r.0 _ r.1 (places ∙ sym c.self.invariant.latest_vectors.mask) told.3) in
    let second = c.take_vector-rest-2.ensures.taken _ _ (content_begins _ (length c.self.inside.latest.content) r.0 _ r.1 places first.1) in
    (r.0.recent, [], recent_begins _ (length c.self.inside.shown.recent) r.0 _ r.1 (places ∙ sym c.self.invariant.shown_places) second.1)

pub unreachable-requires : goal.unreachable-requires
unreachable-requires c = let r = c.requires in let size = numbers_size _ _ _ _ c.args.bytes.now r.2 in let h = c.in_default.ensures in omega (arith, size, h.none refl)

pub invariant_of-self : goal.invariant_of-self
invariant_of-self c =
    let r = c.requires in
    let d = r.0 in
    let inv = c.self.invariant in
    let places = sym (ap (λ d. d.places) c.self.view_is) in
    let told = c.in-Some.ensures.numbers _ _ _ _ r.1.mask_number r.1.content_number r.2 in
    let first = c.take_vector-rest.ensures.taken _ _ (mask_begins _ (length c.self.inside.latest.mask) r.0 _ r.1 (places ∙ sym c.self.invariant.latest_vectors.mask) told.3) in
    let second = c.take_vector-rest-2.ensures.taken _ _ (content_begins _ (length c.self.inside.latest.content) r.0 _ r.1 places first.1) in
    let third = c.load.ensures.loaded _ _ (recent_begins _ (length c.self.inside.shown.recent) r.0 _ r.1 (places ∙ sym c.self.invariant.shown_places) second.1) in
    let len = c.take_vector-rest-2.ensures.places in
    let f : r.0.places ≡ length c.take_vector-rest-2.new.vector = r.1.places ∙ places ∙ sym len in
    let g : c.args.self.now.places ≡ length c.take_vector-rest-2.new.vector = places ∙ sym len in
    record {
      vector = subst IsPlaces (sym len) inv.vector;
      latest_vectors = record { mask = c.take_vector-rest.ensures.places ∙ inv.latest_vectors.mask ∙ sym len; content = refl };
      shown_places = c.load.ensures.places ∙ inv.shown_places ∙ sym len;
      room_places = inv.room_places ∙ sym len;
      first_mask = zero_if_none _ c.number_before-self-inside.result c.in-Some.mask r.0.state.mask c.take_vector-rest.new.vector c.number_before-self-inside.ensures told.0 (first.0 ∙ ap (λ p. known_vector p r.0.state.mask) f);
      first_content = zero_if_none _ c.number_before-self-inside-2.result c.in-Some.content r.0.state.content c.take_vector-rest-2.new.vector c.number_before-self-inside-2.ensures told.1 (second.0 ∙ ap (λ p. known_vector p r.0.state.content) f);
      first_recent = if_kept c.number_before-self-inside-2.result c.in-Some.content r.0.state.content _ c.number_before-self-inside-2.ensures told.1
          (if_map r.0.state.content _ _ r.1.first_recent (λ e. ap (λ (p : Change). p.recent) third ∙ e ∙ ap (λ n. replicate n false) g));
      first_level = if_kept c.number_before-self-inside-2.result c.in-Some.content r.0.state.content _ c.number_before-self-inside-2.ensures told.1
          (if_map r.0.state.content _ _ r.1.first_level (λ e. ap (λ (p : Change). p.level) third ∙ told.2 ∙ e));
      remembered = λ some. absurd (some c.nothing-self-inside.ensures);
    }

pub returns : goal.returns
returns c d valid is =
    let places = sym (ap (λ d. d.places) c.self.view_is) in
    let told = c.in-Some.ensures.numbers _ _ _ _ valid.mask_number valid.content_number is in
    let first = c.take_vector-rest.ensures.taken _ _ (mask_begins _ (length c.self.inside.latest.mask) d _ valid (places ∙ sym c.self.invariant.latest_vectors.mask) told.3) in
    let second = c.take_vector-rest-2.ensures.taken _ _ (content_begins _ (length c.self.inside.latest.content) d _ valid places first.1) in
    let third = c.load.ensures.loaded _ _ (recent_begins _ (length c.self.inside.shown.recent) d _ valid (places ∙ sym c.self.invariant.shown_places) second.1) in
    let f : length c.take_vector-rest-2.new.vector ≡ d.places = c.take_vector-rest-2.ensures.places ∙ sym (valid.places ∙ places) in
    let mask = part_is d.places c.in-Some.mask c.number_before-self-inside.result d.state.mask c.take_vector-rest.new.vector c.number_before-self-inside.ensures told.0 first.0 in
    let content = part_is d.places c.in-Some.content c.number_before-self-inside-2.result d.state.content c.take_vector-rest-2.new.vector c.number_before-self-inside-2.ensures told.1 second.0 in
    let level : c.load.new.self.level ≡ d.level = ap (λ (p : Change). p.level) third ∙ told.2 in
    λ i. record { places = f i; state = record { mask = mask i; content = content i }; recent = (third i).recent; level = level i }
