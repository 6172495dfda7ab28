use Rattle.std.proofs.Common.{◌≡◌, ℕ, List, Bool, length, Option, None, Some, refl, ap, sym, ◌∙◌, subst}
use Rattle.std.proofs.lemmas.Result.{err_from_is_err_and}
use Rattle.std.specs.Option.{option_map}
use Rattle.std.specs.Prelude.{IfSome}
use Rattle.bit_vectors.specs.Reading.{bits_left, Gives, Read}
use Rattle.packet_decode.specs.State.{deduced_by, mask_after}
use Rattle.packet_decode.specs.PacketReading.{parse_change}
use Rattle.packet_decode.specs.Parts.{kept_state, outcome_of, part_by}
use Rattle.packet_decode.proofs.DecoderAnswers.{moves_on, on_ok, parts_change, parts_data, reach_is, reach_vector}
use Rattle.packet_decode.proofs.packet.take_parts.Goals as goal

pub returns-in_err-take-clause-taken : goal.returns-in_err-take-clause-taken
returns-in_err-take-clause-taken c =
    let p = err_from_is_err_and c.from_residual.result c.from_residual.ensures.1 in
    let state = kept_state c.args.latest.now in
    let room = c.args.room.now in
    let change = c.take.new.self in
    let bits = bits_left c.args.eye.now in
    let given = subst (λ (f : ℕ). Gives (λ (u : Unit {0}). change) c.take.result c.take.new.eye (parse_change f bits)) room.next_places c.take.ensures.reading in
    rw (p.1, p.2) (record {
      moves = c.take.ensures.moves;
      reading = parts_change _ state c.args.t bits change (λ kind. record { change = change; outcome = outcome_of kind (deduced_by state c.args.t change) room.sent room.draft.content }) _ c.take.new.eye (rw c.in_err-take.was at given);
    })

pub returns-in_default-clause-taken : goal.returns-in_default-clause-taken
returns-in_default-clause-taken c =
    let latest = c.args.latest.now in
    let state = kept_state latest in
    let room = c.args.room.now in
    let change = c.take.new.self in
    let bits = bits_left c.args.eye.now in
    let given = subst (λ (f : ℕ). parse_change f bits ≡ Read change (bits_left c.take.new.eye)) room.next_places c.in_ok-take.ensures.reading in
    let known = reach_is (part_by latest.content_number latest.content) c.args.t c.level-level.result change.level c.in_reach_of-known.result c.in_reach_of-known.ensures c.level-level.ensures.level in
    let mask = reach_is (part_by latest.mask_number latest.mask) c.args.t c.level-level.result change.level c.in_reach_of.result c.in_reach_of.ensures c.level-level.ensures.level in
    let deduced : deduced_by state c.args.t change ≡ None = ap (option_map (λ (m : List Bool). mask_after m change)) (rw c.in_default.is at mask) in
    let others = c.take_data.ensures.taken in
    record {
      moves = moves_on c.args.eye.now c.take.new.eye c.take_data.new.eye c.in_ok-take.ensures.moves others.moves;
      reading = parts_data _ state c.args.t bits change _ given c.take_data.new.sent c.take_data.new.draft.content c.take_data.new.eye _ _ deduced known c.take_data.result others.reading;
    }

pub returns-then-is_quiet-clause-taken : goal.returns-then-is_quiet-clause-taken
returns-then-is_quiet-clause-taken c =
    let latest = c.args.latest.now in
    let state = kept_state latest in
    let room = c.args.room.now in
    let change = c.take.new.self in
    let bits = bits_left c.args.eye.now in
    let given = subst (λ (f : ℕ). parse_change f bits ≡ Read change (bits_left c.take.new.eye)) room.next_places c.in_ok-take.ensures.reading in
    let known = reach_is (part_by latest.content_number latest.content) c.args.t c.level-level.result change.level c.in_reach_of-known.result c.in_reach_of-known.ensures c.level-level.ensures.level in
    let mask = reach_is (part_by latest.mask_number latest.mask) c.args.t c.level-level.result change.level c.in_reach_of.result c.in_reach_of.ensures c.level-level.ensures.level in
    let found = rw c.in-Some.is at mask in
    let same : c.in-Some.mask.now ≡ latest.mask = reach_vector latest.mask_number latest.mask c.args.t change.level c.in-Some.mask.now found in
    let places : length c.in-Some.mask.now ≡ length change.recent = ap length same ∙ c.requires.vectors.mask ∙ sym (c.take.ensures.places ∙ room.next_places) in
    let stays = rw c.if-is_quiet.true at c.is_quiet.ensures.stays in
    let deduced : deduced_by state c.args.t change ≡ Some c.in-Some.mask.now = ap (option_map (λ (m : List Bool). mask_after m change)) found ∙ ap Some (stays c.in-Some.mask.now places) in
    let others = c.take_data-then-is_quiet.ensures.taken in
    record {
      moves = moves_on c.args.eye.now c.take.new.eye c.take_data-then-is_quiet.new.eye c.in_ok-take.ensures.moves others.moves;
      reading = parts_data _ state c.args.t bits change _ given c.take_data-then-is_quiet.new.sent c.take_data-then-is_quiet.new.draft.content c.take_data-then-is_quiet.new.eye _ _ deduced known c.take_data-then-is_quiet.result others.reading;
    }

pub returns-clause-taken : goal.returns-clause-taken
returns-clause-taken c =
    let latest = c.args.latest.now in
    let state = kept_state latest in
    let room = c.args.room.now in
    let change = c.take.new.self in
    let bits = bits_left c.args.eye.now in
    let given = subst (λ (f : ℕ). parse_change f bits ≡ Read change (bits_left c.take.new.eye)) room.next_places c.in_ok-take.ensures.reading in
    let known = reach_is (part_by latest.content_number latest.content) c.args.t c.level-level.result change.level c.in_reach_of-known.result c.in_reach_of-known.ensures c.level-level.ensures.level in
    let mask = reach_is (part_by latest.mask_number latest.mask) c.args.t c.level-level.result change.level c.in_reach_of.result c.in_reach_of.ensures c.level-level.ensures.level in
    let deduced : deduced_by state c.args.t change ≡ Some c.deduce.new.mask =
    ap (option_map (λ (m : List Bool). mask_after m change)) (rw c.in-Some.is at mask) ∙ ap Some (sym (c.deduce.ensures.mask ∙ ap (λ (m : List Bool). mask_after m change) c.copy_from.ensures)) in
    let others = c.take_data-2.ensures.taken in
    record {
      moves = moves_on c.args.eye.now c.take.new.eye c.take_data-2.new.eye c.in_ok-take.ensures.moves others.moves;
      reading = parts_data _ state c.args.t bits change _ given c.take_data-2.new.sent c.take_data-2.new.draft.content c.take_data-2.new.eye _ _ deduced known c.take_data-2.result others.reading;
    }

pub returns-clause-changed : goal.returns-clause-changed
returns-clause-changed c =
    let latest = c.args.latest.now in
    let state = kept_state latest in
    let change = c.take.new.self in
    let mask = reach_is (part_by latest.mask_number latest.mask) c.args.t c.level-level.result change.level c.in_reach_of.result c.in_reach_of.ensures c.level-level.ensures.level in
    let deduced : deduced_by state c.args.t change ≡ Some c.deduce.new.mask =
    ap (option_map (λ (m : List Bool). mask_after m change)) (rw c.in-Some.is at mask) ∙ ap Some (sym (c.deduce.ensures.mask ∙ ap (λ (m : List Bool). mask_after m change) c.copy_from.ensures)) in
    on_ok c.take_data-2.result _ (λ changed. subst (λ (x : Option (List Bool)). IfSome x (λ mask. c.deduce.new.mask ≡ mask)) (sym deduced) refl)

pub returns-in_default-clause-changed : goal.returns-in_default-clause-changed
returns-in_default-clause-changed c =
    let latest = c.args.latest.now in
    let state = kept_state latest in
    let change = c.take.new.self in
    let mask = reach_is (part_by latest.mask_number latest.mask) c.args.t c.level-level.result change.level c.in_reach_of.result c.in_reach_of.ensures c.level-level.ensures.level in
    let deduced : deduced_by state c.args.t change ≡ None = ap (option_map (λ (m : List Bool). mask_after m change)) (rw c.in_default.is at mask) in
    on_ok c.take_data.result _ (λ changed. subst (λ (x : Option (List Bool)). IfSome x (λ mask. c.args.room.now.deduced ≡ mask)) (sym deduced) tt)

pub returns-then-is_quiet-clause-changed : goal.returns-then-is_quiet-clause-changed
returns-then-is_quiet-clause-changed c = on_ok c.take_data-then-is_quiet.result _ (λ changed. absurd (changed (c.is_quiet.ensures.zero.0 c.if-is_quiet.true)))
