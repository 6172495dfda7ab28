use Rattle.std.proofs.Common.{◌≡◌, ℕ, Bool, List, [], Option, length, ap, refl, sym, ◌∙◌, Some, None, Ok, Err, arith, rules, true, false}
use Rattle.std.proofs.lemmas.Bool.{true≢false, false≢true, and_parts}
use Rattle.std.proofs.lemmas.Result.{err_from_is_err_and}
use Rattle.bit_vectors.specs.Vectors.{bits_of}
use Rattle.bit_vectors.specs.Reading.{bits_left, Read}
use Rattle.packet_encode.specs.Forms.{Form}
use Rattle.packet_decode.specs.State.{Change, IsState, deduced_by, known_if, Decoding}
use Rattle.packet_decode.specs.Spelling.{Spells}
use Rattle.packet_decode.specs.declared.decoder.Reading.TheVariants.{Written}
use Rattle.packet_decode.specs.declared.draft.Room.{Room}
use Rattle.packet_decode.specs.declared.latest.Latest.{Latest}
use Rattle.packet_decode.specs.PacketReading.{parse_whole_packet, answer_of, missed, outcome_answer, Outcome, Spelled, Opaque}
use Rattle.packet_decode.specs.Parts.{IsDecoder, IsRemembered, SpellLatest, found_in, kept_state, part_by, tells_content, tells_mask}
use Rattle.packet_decode.proofs.DecoderAnswers.{IsFound, IsTold, decoding_of, exact_by, says_by, spelled_by, has_state, found_is, opaque_unspelled, fault_is, reading_is, alone_is, written_is, deduced_is, told_as}
use Rattle.packet_decode.proofs.OneAnswer.{spelled_places}
use Rattle.packet_decode.proofs.RepeatedPacket.{answer_again, found_again, written_again, kept_is, spell_latest}
use Rattle.packet_decode.proofs.decoder.Decoder.read.Goals as goal
use Rattle.packet_decode.proofs.decoder.Decoder.read.Goals.{After-repeats, After-keep_mask, After-swap, then-quiet, else-quiet}

-- ---- data that are remembered

not_some : {A : Type 0} (content : List Bool) → ◌≡◌ {A = Option (List Bool)} None (Some content) → A
not_some content e = absurd cc

-- at this level
abbrev repeated : Change → ℕ → Change
repeated shown level = record { recent = shown.recent; level = level; directions = None }

module _ (c : After-repeats) (level : ℕ) (is : parse_whole_packet (length c.self.inside.latest.content) (kept_state c.self.inside.latest) c.args.t (bits_of c.args.bytes.now)
    ≡ Read (record { change = repeated c.self.inside.shown level; outcome = Spelled (Some c.self.inside.latest.mask) (Some c.self.inside.latest.content) }) []) where
  again_answer : answer_of c.args.self.now.places c.args.self.now.state c.args.t (bits_of c.args.bytes.now) ≡ Ok Written
  again_answer = answer_again c.args.self.now c.self.inside.latest c.self.inside.shown c.self.view_is c.self.invariant.latest_vectors c.args.t (repeated c.self.inside.shown level) c.args.bytes.now is

  again_has : IsState c.args.self.now.places c.args.self.now.state
  again_has = has_state c.args.self.now c.self.inside.latest c.self.inside.shown c.self.view_is c.self.invariant.latest_vectors

pub set_level-requires : goal.set_level-requires
set_level-requires c = ((c.in-Some.ensures.when c.in-Some.level).0 refl).0.below

pub returns-in-Some-clause-exact : goal.returns-in-Some-clause-exact
returns-in-Some-clause-exact c =
    let at = (goal.at.returns-in-Some-clause-exact c).After-repeats in
    exact_by c.args.self.now.places c.args.self.now.state c.args.t (bits_of c.args.bytes.now) (again_has at c.in-Some.level c.in-Some.ensures.read) (Ok Written) (again_answer at c.in-Some.level c.in-Some.ensures.read)

pub returns-in-Some-clause-says : goal.returns-in-Some-clause-says
returns-in-Some-clause-says c =
    let at = (goal.at.returns-in-Some-clause-says c).After-repeats in
    says_by c.args.self.now.places c.args.self.now.state c.args.t (bits_of c.args.bytes.now) (again_has at c.in-Some.level c.in-Some.ensures.read) (Ok Written) (again_answer at c.in-Some.level c.in-Some.ensures.read)

pub returns-in-Some-clause-written : goal.returns-in-Some-clause-written
returns-in-Some-clause-written c form mask content s =
    ap (decoding_of (record { mask_number = Some c.args.t; mask = c.self.inside.latest.mask; content_number = Some c.args.t; content = c.self.inside.latest.content })) c.set_level.ensures
    ∙ written_again c.args.self.now c.self.inside.latest c.self.inside.shown c.self.view_is c.self.invariant.latest_vectors c.args.t (repeated c.self.inside.shown c.in-Some.level) c.args.bytes.now c.in-Some.ensures.read form mask content s

pub returns-in-Some-clause-mask_alone : goal.returns-in-Some-clause-mask_alone
returns-in-Some-clause-mask_alone c form mask s =
    let found_as = found_again c.args.self.now c.self.inside.latest c.self.inside.shown c.self.view_is c.self.invariant.latest_vectors c.args.t (repeated c.self.inside.shown c.in-Some.level) c.args.bytes.now c.in-Some.ensures.read form mask None s in
    not_some c.self.inside.latest.content (sym found_as.content_is)

-- ---- a fault

fault_answer : (c : goal.After-from_residual) → answer_of c.args.self.now.places c.args.self.now.state c.args.t (bits_of c.args.bytes.now) ≡ c.from_residual.result
fault_answer c =
    let p = err_from_is_err_and c.from_residual.result c.from_residual.ensures.1 in
    fault_is c.args.self.now c.self.inside.latest c.self.inside.shown c.self.view_is c.self.invariant.latest_vectors _ c.args.t c.new-eye.result c.args.bytes.now c.self.invariant.room_places c.new-eye.ensures.bits c.new-eye.ensures.place
    (found_in c.take_whole_packet.new.room (kept_state c.self.inside.latest) c.args.t)
    c.in_err-kind.field-0.0 c.take_whole_packet.new.eye c.take_whole_packet.ensures.taken.moves.bits c.in_err-kind.ensures.taken.reading
    ∙ sym (p.1 ∙ ap Err p.2)

fault_has : (c : goal.After-from_residual) → IsState c.args.self.now.places c.args.self.now.state
fault_has c = has_state c.args.self.now c.self.inside.latest c.self.inside.shown c.self.view_is c.self.invariant.latest_vectors

fault_nothing : {A : Type 0} (c : goal.After-from_residual) (form : Form) (mask content : Option (List Bool)) → Spells c.args.self.now.places c.args.self.now.state c.args.t (bits_of c.args.bytes.now) form mask content → A
fault_nothing c form mask content s =
    let p = err_from_is_err_and c.from_residual.result c.from_residual.ensures.1 in
    absurd (spelled_by c.args.self.now.places c.args.self.now.state c.args.t (bits_of c.args.bytes.now) (fault_has c) (Err p.0) (fault_answer c ∙ p.1) form mask content s refl)

pub returns-in_err-kind-clause-exact : goal.returns-in_err-kind-clause-exact
returns-in_err-kind-clause-exact c = exact_by c.args.self.now.places c.args.self.now.state c.args.t (bits_of c.args.bytes.now) (fault_has c) c.from_residual.result (fault_answer c)

pub returns-in_err-kind-clause-says : goal.returns-in_err-kind-clause-says
returns-in_err-kind-clause-says c = says_by c.args.self.now.places c.args.self.now.state c.args.t (bits_of c.args.bytes.now) (fault_has c) c.from_residual.result (fault_answer c)

pub returns-in_err-kind-clause-written : goal.returns-in_err-kind-clause-written
returns-in_err-kind-clause-written c form mask content s = fault_nothing c form mask (Some content) s

pub returns-in_err-kind-clause-mask_alone : goal.returns-in_err-kind-clause-mask_alone
returns-in_err-kind-clause-mask_alone c form mask s = fault_nothing c form mask None s

-- ---- an opaque front

opaque_answer : (c : goal.After-missed) → answer_of c.args.self.now.places c.args.self.now.state c.args.t (bits_of c.args.bytes.now) ≡ Ok c.missed.result
opaque_answer c =
    let told = rw (c.is_opaque.ensures.0 c.if-is_opaque.true) at c.in_ok-kind.ensures.taken.reading in
    let missed_is = c.missed.ensures c.self.inside.latest.mask in
    reading_is c.args.self.now c.self.inside.latest c.self.inside.shown c.self.view_is c.self.invariant.latest_vectors _ c.args.t c.new-eye.result c.args.bytes.now c.self.invariant.room_places c.new-eye.ensures.bits c.new-eye.ensures.place
    (record { change = c.take_whole_packet.new.room.next; outcome = Opaque }) c.take_whole_packet.new.eye c.take_whole_packet.ensures.taken.moves.bits told
    ∙ ap Ok (rw (sym c.level.ensures.level) (sym missed_is))

opaque_has : (c : goal.After-missed) → IsState c.args.self.now.places c.args.self.now.state
opaque_has c = has_state c.args.self.now c.self.inside.latest c.self.inside.shown c.self.view_is c.self.invariant.latest_vectors

opaque_nothing : {A : Type 0} (c : goal.After-missed) (form : Form) (mask content : Option (List Bool)) → Spells c.args.self.now.places c.args.self.now.state c.args.t (bits_of c.args.bytes.now) form mask content → A
opaque_nothing c form mask content s =
    let told = rw (c.is_opaque.ensures.0 c.if-is_opaque.true) at c.in_ok-kind.ensures.taken.reading in
    absurd (opaque_unspelled c.args.self.now c.self.inside.latest c.self.inside.shown c.self.view_is c.self.invariant.latest_vectors _ c.args.t c.new-eye.result c.args.bytes.now c.self.invariant.room_places c.new-eye.ensures.bits c.new-eye.ensures.place c.take_whole_packet.new.room.next (bits_left c.take_whole_packet.new.eye) told form mask content s)

pub returns-then-is_opaque-clause-exact : goal.returns-then-is_opaque-clause-exact
returns-then-is_opaque-clause-exact c = exact_by c.args.self.now.places c.args.self.now.state c.args.t (bits_of c.args.bytes.now) (opaque_has c) (Ok c.missed.result) (opaque_answer c)

pub returns-then-is_opaque-clause-says : goal.returns-then-is_opaque-clause-says
returns-then-is_opaque-clause-says c = says_by c.args.self.now.places c.args.self.now.state c.args.t (bits_of c.args.bytes.now) (opaque_has c) (Ok c.missed.result) (opaque_answer c)

pub returns-then-is_opaque-clause-written : goal.returns-then-is_opaque-clause-written
returns-then-is_opaque-clause-written c form mask content s = opaque_nothing c form mask (Some content) s

pub returns-then-is_opaque-clause-mask_alone : goal.returns-then-is_opaque-clause-mask_alone
returns-then-is_opaque-clause-mask_alone c form mask s = opaque_nothing c form mask None s

-- ---- a packet

told : (c : After-keep_mask) → IsTold c.in_ok-kind.kind c.self.inside.latest c.keep_mask.new.latest c.args.t (deduced_by (kept_state c.self.inside.latest) c.args.t c.take_whole_packet.new.room.next) c.take_whole_packet.new.room.sent c.take_whole_packet.new.room.draft.content
told c =
    told_as c.in_ok-kind.kind c.self.inside.latest c.keep_mask.new.latest c.args.t (deduced_by (kept_state c.self.inside.latest) c.args.t c.take_whole_packet.new.room.next) c.take_whole_packet.new.room.sent c.take_whole_packet.new.room.draft.content
    (λ opaque. absurd (true≢false (sym (c.is_opaque.ensures.1 opaque) ∙ c.if-is_opaque.false)))
    c.in_ok-kind.ensures.deduced_by
    c.keep_mask.ensures.sent
    (λ deduced. deduced_is c.is_quiet-quiet.result c.self.inside.latest c.args.t c.take_whole_packet.new.room.next c.take_whole_packet.new.room.deduced c.keep_mask.new.latest.mask (omega arith)
    (c.keep_mask.ensures.deduced deduced) c.is_quiet-quiet.ensures.zero c.is_quiet-quiet.ensures.stays c.in_ok-kind.ensures.changed)
    c.keep_mask.ensures.number
    c.keep_mask.ensures.untold

spelled_has : (c : After-keep_mask) → IsState c.args.self.now.places c.args.self.now.state
spelled_has c = has_state c.args.self.now c.self.inside.latest c.self.inside.shown c.self.view_is c.self.invariant.latest_vectors

-- what was read, if the content becomes known and if it doesn't
read_as : (c : After-keep_mask) (known : Bool) → tells_content c.in_ok-kind.kind ≡ known → parse_whole_packet (length c.self.inside.room.draft.content) (kept_state c.self.inside.latest) c.args.t (bits_left c.new-eye.result)
    ≡ Read (record { change = c.take_whole_packet.new.room.next; outcome = Spelled (told c).mask (known_if known c.take_whole_packet.new.room.draft.content) }) (bits_left c.take_whole_packet.new.eye)
read_as c known is =
    c.in_ok-kind.ensures.taken.reading
    ∙ ap (λ (o : Outcome). Read (record { change = c.take_whole_packet.new.room.next; outcome = o }) (bits_left c.take_whole_packet.new.eye))
    ((told c).outcome ∙ ap (λ (b : Bool). Spelled (told c).mask (known_if b c.take_whole_packet.new.room.draft.content)) is)

found : (c : After-keep_mask) (known : Bool) → tells_content c.in_ok-kind.kind ≡ known → (form : Form) (mask content : Option (List Bool)) → Spells c.args.self.now.places c.args.self.now.state c.args.t (bits_of c.args.bytes.now) form mask content
    → IsFound c.take_whole_packet.new.room.next (told c).mask (known_if known c.take_whole_packet.new.room.draft.content) form mask content
found c known is form mask content s =
    found_is c.args.self.now c.self.inside.latest c.self.inside.shown c.self.view_is c.self.invariant.latest_vectors _ c.args.t c.new-eye.result c.args.bytes.now c.self.invariant.room_places c.new-eye.ensures.bits c.new-eye.ensures.place c.take_whole_packet.new.room.next (told c).mask (known_if known c.take_whole_packet.new.room.draft.content) (bits_left c.take_whole_packet.new.eye) (read_as c known is) form mask content s

spelled_answer : (c : After-keep_mask) (known : Bool) → tells_content c.in_ok-kind.kind ≡ known
    → answer_of c.args.self.now.places c.args.self.now.state c.args.t (bits_of c.args.bytes.now) ≡ Ok (outcome_answer (kept_state c.self.inside.latest) c.take_whole_packet.new.room.next.level (Spelled (told c).mask (known_if known c.take_whole_packet.new.room.draft.content)))
spelled_answer c known is =
    reading_is c.args.self.now c.self.inside.latest c.self.inside.shown c.self.view_is c.self.invariant.latest_vectors _ c.args.t c.new-eye.result c.args.bytes.now c.self.invariant.room_places c.new-eye.ensures.bits c.new-eye.ensures.place
    (record { change = c.take_whole_packet.new.room.next; outcome = Spelled (told c).mask (known_if known c.take_whole_packet.new.room.draft.content) }) c.take_whole_packet.new.eye c.take_whole_packet.ensures.taken.moves.bits (read_as c known is)

-- ---- its mask alone

alone_answer : (c : goal.After-missed-then-not-tells_content) → (at : After-keep_mask) → answer_of c.args.self.now.places c.args.self.now.state c.args.t (bits_of c.args.bytes.now) ≡ Ok (missed (kept_state c.self.inside.latest).content c.take_whole_packet.new.room.next.level true)
    → answer_of c.args.self.now.places c.args.self.now.state c.args.t (bits_of c.args.bytes.now) ≡ Ok c.missed-then-not-tells_content.result
alone_answer c at is =
    is ∙ ap Ok (
    ap (λ (n : Option ℕ). missed (part_by n c.self.inside.latest.content) c.take_whole_packet.new.room.next.level true) (sym c.keep_mask.ensures.content_number)
    ∙ ap (λ (v : ℕ). missed (part_by c.keep_mask.new.latest.content_number c.self.inside.latest.content) v true) (sym (c.level-then-not-tells_content.ensures.level ∙ ap (λ (x : Change). x.level) c.keep_mask.ensures.next))
    ∙ sym (c.missed-then-not-tells_content.ensures c.self.inside.latest.content)
    )

pub returns-then-not-tells_content-clause-exact : goal.returns-then-not-tells_content-clause-exact
returns-then-not-tells_content-clause-exact c =
    let at = (goal.at.returns-then-not-tells_content-clause-exact c).After-keep_mask in
    exact_by c.args.self.now.places c.args.self.now.state c.args.t (bits_of c.args.bytes.now) (spelled_has at) (Ok c.missed-then-not-tells_content.result) (alone_answer c at (spelled_answer at false (sym c.tells_content.ensures ∙ c.if-not-tells_content.true)))

pub returns-then-not-tells_content-clause-says : goal.returns-then-not-tells_content-clause-says
returns-then-not-tells_content-clause-says c =
    let at = (goal.at.returns-then-not-tells_content-clause-says c).After-keep_mask in
    says_by c.args.self.now.places c.args.self.now.state c.args.t (bits_of c.args.bytes.now) (spelled_has at) (Ok c.missed-then-not-tells_content.result) (alone_answer c at (spelled_answer at false (sym c.tells_content.ensures ∙ c.if-not-tells_content.true)))

pub returns-then-not-tells_content-clause-written : goal.returns-then-not-tells_content-clause-written
returns-then-not-tells_content-clause-written c form mask content s =
    let at = (goal.at.returns-then-not-tells_content-clause-written c).After-keep_mask in
    let found_as = found at false (sym c.tells_content.ensures ∙ c.if-not-tells_content.true) form mask (Some content) s in
    not_some content found_as.content_is

pub returns-then-not-tells_content-clause-mask_alone : goal.returns-then-not-tells_content-clause-mask_alone
returns-then-not-tells_content-clause-mask_alone c form mask s =
    let at = (goal.at.returns-then-not-tells_content-clause-mask_alone c).After-keep_mask in
    let found_as = found at false (sym c.tells_content.ensures ∙ c.if-not-tells_content.true) form mask None s in
    alone_is c.args.self.now c.self.inside.latest c.self.inside.shown c.self.view_is c.self.invariant.latest_vectors _ c.args.t c.new-eye.result c.args.bytes.now c.self.invariant.room_places c.new-eye.ensures.bits c.new-eye.ensures.place
    c.keep_mask.new.latest (told at).mask mask c.keep_mask.ensures.content c.keep_mask.ensures.content_number (told at).part found_as.mask_is

-- ---- its content

pub returns-clause-exact : goal.returns-clause-exact
returns-clause-exact c =
    let at = (goal.at.returns-clause-exact c).After-keep_mask in
    exact_by c.args.self.now.places c.args.self.now.state c.args.t (bits_of c.args.bytes.now) (spelled_has at) (Ok Written) (spelled_answer at true (sym c.tells_content.ensures ∙ c.if-not-tells_content.false))

pub returns-clause-says : goal.returns-clause-says
returns-clause-says c =
    let at = (goal.at.returns-clause-says c).After-keep_mask in
    says_by c.args.self.now.places c.args.self.now.state c.args.t (bits_of c.args.bytes.now) (spelled_has at) (Ok Written) (spelled_answer at true (sym c.tells_content.ensures ∙ c.if-not-tells_content.false))

pub returns-clause-mask_alone : goal.returns-clause-mask_alone
returns-clause-mask_alone c form mask s =
    let at = (goal.at.returns-clause-mask_alone c).After-keep_mask in
    let found_as = found at true (sym c.tells_content.ensures ∙ c.if-not-tells_content.false) form mask None s in
    not_some c.take_whole_packet.new.room.draft.content (sym found_as.content_is)

pub returns-clause-written : goal.returns-clause-written
returns-clause-written c form mask content s =
    let at = (goal.at.returns-clause-written c).After-keep_mask in
    let found_as = found at true (sym c.tells_content.ensures ∙ c.if-not-tells_content.false) form mask (Some content) s in
    let places = spelled_places c.args.self.now.places c.args.self.now.state c.args.t (bits_of c.args.bytes.now) form mask (Some content) (spelled_has at) s in
    written_is c.args.self.now c.self.inside.latest c.self.inside.shown c.self.view_is c.self.invariant.latest_vectors _ c.args.t c.new-eye.result c.args.bytes.now c.self.invariant.room_places c.new-eye.ensures.bits c.new-eye.ensures.place
    (record { mask_number = c.keep_mask.new.latest.mask_number; mask = c.keep_mask.new.latest.mask; content_number = Some c.args.t; content = c.swap.new.x }) c.take_over.new.self c.take_whole_packet.new.room.next (told at).mask (Some c.take_whole_packet.new.room.draft.content) refl (ap Some (c.swap.ensures.x_after ∙ c.keep_mask.ensures.draft)) (told at).part (c.take_over.ensures.same ∙ c.keep_mask.ensures.next) form mask content found_as places.1

-- what is remembered

told_both : (c : After-keep_mask) → tells_mask c.in_ok-kind.kind ≡ true → tells_content c.in_ok-kind.kind ≡ true → c.is_quiet-quiet.result ≡ true → (kept : List ℕ) (after : Change) (content : List Bool) → kept ≡ c.args.bytes.now → after ≡ c.take_whole_packet.new.room.next → content ≡ c.take_whole_packet.new.room.draft.content
    → SpellLatest (record { mask_number = c.keep_mask.new.latest.mask_number; mask = c.keep_mask.new.latest.mask; content_number = Some c.args.t; content = content }) after kept
told_both c mask content quiet kept after vector kept_bytes after_is content_is =
    let places : length vector ≡ c.args.self.now.places =
    ap length content_is ∙ c.take_whole_packet.ensures.places ∙ c.self.invariant.room_places ∙ ap (λ (d : Decoding). d.places) c.self.view_is in
    rw after_is (spell_latest c.args.self.now.places c.args.self.now.state c.args.t c.args.bytes.now kept
    (record { mask_number = c.keep_mask.new.latest.mask_number; mask = c.keep_mask.new.latest.mask; content_number = Some c.args.t; content = vector }) c.take_whole_packet.new.room.next (told c).mask c.take_whole_packet.new.room.draft.content
    ((says_by c.args.self.now.places c.args.self.now.state c.args.t (bits_of c.args.bytes.now) (spelled_has c) (Ok Written) (spelled_answer c true content) Written).0 refl)
    (found c true content) kept_bytes ((told c).is_new mask) content_is places
    (c.is_quiet-quiet.ensures.zero.0 quiet)
    (c.keep_mask.ensures.number mask))

remembered : (c : After-swap) → IsRemembered (record { mask_number = c.keep_mask.new.latest.mask_number; mask = c.keep_mask.new.latest.mask; content_number = Some c.args.t; content = c.swap.new.x }) c.take_over.new.self c.keep.new.self
remembered c some =
    let at = (goal.at.After-swap c).After-keep_mask in
    elim c.if-quiet.branch [
      | then-quiet w ↦
          let k = kept_is w.tells_both.result _ c.args.bytes.now c.keep.new.self (rw w.keep-is at c.keep.ensures) some in
          told_both at (and_parts (tells_mask c.in_ok-kind.kind) (tells_content c.in_ok-kind.kind) (sym w.tells_both.ensures ∙ k.0)).0 (sym c.tells_content.ensures ∙ c.if-not-tells_content.false) w.if-quiet.true c.keep.new.self c.take_over.new.self c.swap.new.x k.1 (c.take_over.ensures.same ∙ c.keep_mask.ensures.next) (c.swap.ensures.x_after ∙ c.keep_mask.ensures.draft)
      | else-quiet w ↦ absurd (false≢true (sym w.if-quiet.false ∙ (kept_is c.is_quiet-quiet.result _ c.args.bytes.now c.keep.new.self (rw w.keep-is at c.keep.ensures) some).0))
    ]

pub invariant_of-self-2 : goal.invariant_of-self-2
invariant_of-self-2 c =
    let kept = remembered (goal.at.invariant_of-self-2 c).After-swap in
    let d = c.self.invariant in
    let filled = ap length (c.swap.ensures.x_after ∙ c.keep_mask.ensures.draft) in
    let places : length c.swap.new.x ≡ length c.self.inside.latest.content = filled ∙ c.take_whole_packet.ensures.places ∙ d.room_places in
    record {
      vector = (omega (arith, places, d.vector.0), omega (arith, places, d.vector.1));
      latest_vectors = record { mask = c.keep_mask.ensures.places ∙ d.latest_vectors.mask ∙ sym places; content = refl };
      shown_places = ap (λ (x : Change). length x.recent) (c.take_over.ensures.same ∙ c.keep_mask.ensures.next) ∙ c.take_whole_packet.new.room.next_places ∙ sym filled;
      room_places = ap length (c.swap.ensures.y_after ∙ c.keep_mask.ensures.content) ∙ sym places;
      first_mask = search rules;
      first_content = tt;
      first_recent = tt;
      first_level = tt;
      remembered = kept;
    }

pub returns-clause-unchanged : goal.returns-clause-unchanged
returns-clause-unchanged c = λ nothing. absurd (false≢true nothing)

pub returns-in-Some-clause-unchanged : goal.returns-in-Some-clause-unchanged
returns-in-Some-clause-unchanged c = λ nothing. absurd (false≢true nothing)

pub returns-clause-places : goal.returns-clause-places
returns-clause-places c =
    ap length (c.swap.ensures.x_after ∙ c.keep_mask.ensures.draft) ∙ c.take_whole_packet.ensures.places ∙ c.self.invariant.room_places ∙ ap (λ (d : Decoding). d.places) c.self.view_is

-- what is filled is the same in number of places
with_room : (latest : Latest) (shown : Change) (room filled : Room) (kept : List ℕ) → IsDecoder latest shown room kept → length filled.draft.content ≡ length room.draft.content → IsDecoder latest shown filled kept
with_room latest shown room filled kept d places = record {
  vector = d.vector;
  latest_vectors = d.latest_vectors;
  shown_places = d.shown_places;
  room_places = places ∙ d.room_places;
  first_mask = d.first_mask;
  first_content = d.first_content;
  first_recent = d.first_recent;
  first_level = d.first_level;
  remembered = d.remembered;
}

pub invariant_of-self-in_err-kind : goal.invariant_of-self-in_err-kind
invariant_of-self-in_err-kind c = with_room c.self.inside.latest c.self.inside.shown c.self.inside.room c.take_whole_packet.new.room c.self.inside.remembered c.self.invariant c.take_whole_packet.ensures.places

pub invariant_of-self-then-is_opaque : goal.invariant_of-self-then-is_opaque
invariant_of-self-then-is_opaque c = with_room c.self.inside.latest c.self.inside.shown c.self.inside.room c.take_whole_packet.new.room c.self.inside.remembered c.self.invariant c.take_whole_packet.ensures.places

-- the data that are remembered spell the latest packet again
at_level : (latest : Latest) (shown after : Change) (room : Room) (kept : List ℕ) (t : ℕ) → IsDecoder latest shown room kept → after.recent ≡ shown.recent
    → IsDecoder (record { mask_number = Some t; mask = latest.mask; content_number = Some t; content = latest.content }) after room kept
at_level latest shown after room kept t d same = record {
  vector = d.vector;
  latest_vectors = record { mask = d.latest_vectors.mask; content = d.latest_vectors.content };
  shown_places = ap length same ∙ d.shown_places;
  room_places = d.room_places;
  first_mask = tt;
  first_content = tt;
  first_recent = tt;
  first_level = tt;
  remembered = λ some.
      let spelled = d.remembered some in
      record { state = spelled.state; t = spelled.t; form = spelled.form; spells = spelled.spells; recent = spelled.recent ∙ sym same; quiet = spelled.quiet; numbers = refl };
}

pub invariant_of-self : goal.invariant_of-self
invariant_of-self c = at_level c.self.inside.latest c.self.inside.shown c.set_level.new.self c.self.inside.room c.self.inside.remembered c.args.t c.self.invariant (ap (λ (x : Change). x.recent) c.set_level.ensures)

pub invariant_of-self-then-not-tells_content : goal.invariant_of-self-then-not-tells_content
invariant_of-self-then-not-tells_content c =
    let d = c.self.invariant in
    let same : length c.keep_mask.new.latest.content ≡ length c.self.inside.latest.content = ap length c.keep_mask.ensures.content in
    record {
      vector = (omega (arith, same, d.vector.0), omega (arith, same, d.vector.1));
      latest_vectors = record { mask = c.keep_mask.ensures.places ∙ d.latest_vectors.mask ∙ sym same; content = refl };
      shown_places = d.shown_places ∙ sym same;
      room_places = ap length c.keep_mask.ensures.draft ∙ c.take_whole_packet.ensures.places ∙ d.room_places ∙ sym same;
      first_mask = search rules;
      first_content = rw (c.keep_mask.ensures.content_number, c.keep_mask.ensures.content) d.first_content;
      first_recent = rw (c.keep_mask.ensures.content_number, c.keep_mask.ensures.content) d.first_recent;
      first_level = rw c.keep_mask.ensures.content_number d.first_level;
      remembered = search rules;
    }
