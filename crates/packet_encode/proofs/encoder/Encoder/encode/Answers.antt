use Rattle.std.proofs.Common.{◌≡◌, ℕ, ◌+◌, ◌*◌, ◌<◌, ◌≤◌, true, ◌++◌, length, None, refl, ap, sym, ◌∙◌, subst, arith}
use Rattle.std.proofs.lemmas.Bool.{OnTrue_at, OnTrue_from}
use Rattle.std.proofs.lemmas.List.{length-append}
use Rattle.bit_vectors.specs.declared.flags.Flags.{Flags}
use Rattle.bit_vectors.specs.Vectors.{number_bits, padded}
use Rattle.run_code.specs.Extraction.{extract}
use Rattle.mask_update.specs.Histories.{History, Step, flags_after, flags_at, input_at, latest_step, step_at, step_of}
use Rattle.mask_update.specs.Masks.{Running, change_at, mask_at}
use Rattle.mask_update.specs.Masks.{StandsFor as MasksStandFor}
use Rattle.mask_update.proofs.Standing.{latest_step-with_step, step_at-last}
use Rattle.robust_window.specs.Changes.{latest_change, level_of, recent_of, twice_of}
use Rattle.robust_window.specs.Histories.{level_at, mask_step_at, mask_steps, recent_at, twice_at}
use Rattle.robust_window.specs.Window.{WindowState}
use Rattle.robust_window.specs.Window.{StandsFor as WindowStandsFor}
use Rattle.robust_window.proofs.OfHistories.{latest_change-is, mask_steps-push}
use Rattle.packet_encode.specs.Encoder.{EncoderState, StandsFor, plain_data}
use Rattle.packet_encode.specs.Forms.{Form, Part, data_bits, form_bits, form_at, form_of, with_next_input}
use Rattle.packet_encode.proofs.Packets.{form_bits-some, form_of-most, form_of-same, plain_bits, plain_form, plain_form-is}
use Rattle.packet_encode.proofs.encoder.Encoder.encode.Goals as goal
use Rattle.packet_encode.proofs.encoder.Encoder.encode.Goals.{After-takes_kept, After-put_level, After-put_pen}

module _ (c : After-takes_kept) where
  abbrev masks : Running
  masks = c.step.new.self

  abbrev window : WindowState
  window = c.step_window.new.window

  -- the form of the packet
  abbrev form : Form
  form = form_of masks.mask window.recent window.level window.twice c.args.input.now c.forced-flags.result

  same_places : length masks.mask ≡ length c.self.inside.masks.mask
  same_places = c.step.ensures.places

  mask_len : length masks.mask ≡ length c.args.input.now
  mask_len = same_places ∙ ap (λ (e : EncoderState). length e.masks.mask) c.self.view_is ∙ sym c.requires.places

  recent_len : length window.recent ≡ length masks.mask
  recent_len = c.step_window.ensures.places ∙ c.self.invariant.places ∙ sym same_places

  module _ (h : History) (stands : StandsFor h c.args.self.now) where
    abbrev step : Step
    step = step_of (λ _. c.args.flags) (λ _. c.args.robust) (length h.steps, c.args.input.now)

    abbrev after : History
    after = with_next_input h c.args.robust c.args.input.now c.args.flags

    abbrev t : ℕ
    t = length h.steps

    flags_are : flags_after c.args.robust t c.args.flags ≡ c.forced-flags.result
    flags_are = ap (λ n. flags_after c.args.robust n c.args.flags) (sym stands.masks.taken) ∙ sym c.forced-flags.ensures

    masks_stand : MasksStandFor after masks
    masks_stand = c.step.ensures.stands h step (subst (λ (e : EncoderState). MasksStandFor h e.masks) (sym c.self.view_is) stands.masks) refl (ap (λ (f : Flags). f.p) flags_are)

    latest : latest_step after ≡ t
    latest = latest_step-with_step h step

    last : step_at after t ≡ step
    last = step_at-last h step

    window_stands : WindowStandsFor (mask_steps after) window
    window_stands =
        subst (λ steps. WindowStandsFor steps window) (sym (mask_steps-push h step))
        (c.step_window.ensures.stands (mask_steps h) (mask_step_at after t)
        (subst (λ (e : EncoderState). WindowStandsFor (mask_steps h) e.window) (sym c.self.view_is) stands.window)
        (sym (masks_stand.change ∙ ap (change_at after) latest))
        (ap (λ (s : Step). s.flags.p) last ∙ ap (λ (f : Flags). f.p) flags_are)
        (ap (λ (s : Step). s.robust) last))

    -- it is that of the history's last step
    form_is : form ≡ form_at after t
    form_is =
        form_of-same masks.mask (mask_at after t) window.recent (recent_at after t) window.level (level_at after t)
        window.twice (twice_at after t) c.args.input.now (input_at after t) c.forced-flags.result (flags_at after t)
        (masks_stand.mask ∙ ap (mask_at after) latest)
        (window_stands.recent some ∙ ap (recent_of (mask_steps after)) at)
        (window_stands.level some ∙ ap (level_of (mask_steps after)) at)
        (window_stands.twice some ∙ ap (twice_of (mask_steps after)) at)
        (ap (λ (s : Step). s.input) (sym last))
        (sym flags_are ∙ ap (λ (s : Step). s.flags) (sym last))
      where
        at : latest_change (mask_steps after) ≡ t
        at = latest_change-is after ∙ latest

        some : 0 < length (mask_steps after)
        some = omega (arith, window_stands.taken, c.step_window.ensures.taken)

  most : length (form_bits form) ≤ 10 * length c.args.input.now + 43
  most =
      omega (
        arith,
        form_of-most masks.mask window.recent window.level window.twice c.args.input.now c.forced-flags.result (length c.args.input.now)
            (omega (arith, c.self.invariant.vector.0, same_places, mask_len)) (omega (arith, c.self.invariant.vector.1, same_places, mask_len)) mask_len (recent_len ∙ mask_len) refl,
      )

  -- if it is plain
  plain : c.takes_kept.result ≡ true → form ≡ plain_form masks window.level
  plain is =
      let plain = c.takes_kept.ensures.0 is in
      plain_form-is masks masks.mask window.recent window.level window.twice c.args.input.now c.forced-flags.result window.level plain.0 plain.1 plain.2 refl refl (sym c.step.ensures.previous) recent_len

  below : window.level ≤ 15 → window.level < 16
  below most = omega arith

  -- the bits of a plain packet
  whole : c.takes_kept.result ≡ true → window.level ≤ 15 → form_bits form ≡ number_bits 6 (32 + window.level) ++ plain_data masks
  whole is most = ap form_bits (plain is) ∙ plain_bits masks window.level (below most)

-- the data that are kept are those of an input that comes again
pub keep-requires-clause-kept : goal.keep-requires-clause-kept
keep-requires-clause-kept c =
    OnTrue_from c.self.inside.is_kept _ (λ is_kept. OnTrue_from c.step.new.self.again _ (λ again.
    let mask = OnTrue_at again c.step.ensures.kept in
    let previous = (c.step.ensures.again.0 again).2 ∙ sym c.step.ensures.previous in
    OnTrue_at is_kept c.self.invariant.bits ∙ (λ i. data_bits None (Part (extract (previous i) (sym mask i))))))

-- the first part, and the data that are kept
plain_whole : (c : After-put_level) → form_bits (form (goal.at.After-put_level c).After-takes_kept) ≡ c.put_level.new.pen.bits ++ c.keep.new.kept.bits
plain_whole c =
    let d = (goal.at.After-put_level c).After-takes_kept in
    whole d c.if-takes_kept.true (omega (arith, c.effective.ensures.kept, c.effective.ensures.most))
    ∙ sym ((λ i. c.put_level.ensures.bits i ++ c.keep.ensures.bits i) ∙ (λ i. (c.requires.empty i ++ number_bits 6 (32 + c.effective.ensures.kept i)) ++ plain_data (masks d)))

pub put_pen-requires : goal.put_pen-requires
put_pen-requires c =
    let d = (goal.at.put_pen-requires c).After-put_level in
    omega (arith, ap length (plain_whole d), length-append c.put_level.new.pen.bits c.keep.new.kept.bits, most (goal.at.put_pen-requires c).After-takes_kept, c.requires.room, c.put_level.ensures.room)

bits_again : (c : After-put_pen) → c.put_pen.new.self.bits ≡ form_bits (form (goal.at.After-put_pen c).After-takes_kept)
bits_again c = c.put_pen.ensures.bits ∙ sym (plain_whole (goal.at.After-put_pen c).After-put_level)

pub returns-then-takes_kept-clause-stands : goal.returns-then-takes_kept-clause-stands
returns-then-takes_kept-clause-stands c = λ h stands.
    let d = (goal.at.returns-then-takes_kept-clause-stands c).After-takes_kept in
    record { masks = masks_stand d h stands; window = window_stands d h stands }

pub returns-then-takes_kept-clause-bits : goal.returns-then-takes_kept-clause-bits
returns-then-takes_kept-clause-bits c = λ h stands.
    bits_again (goal.at.returns-then-takes_kept-clause-bits c).After-put_pen ∙ ap form_bits (form_is (goal.at.returns-then-takes_kept-clause-bits c).After-takes_kept h stands)

pub returns-then-takes_kept-clause-packet : goal.returns-then-takes_kept-clause-packet
returns-then-takes_kept-clause-packet c = λ h stands.
    ap padded (bits_again (goal.at.returns-then-takes_kept-clause-packet c).After-put_pen ∙ ap form_bits (form_is (goal.at.returns-then-takes_kept-clause-packet c).After-takes_kept h stands))

pub returns-then-takes_kept-clause-some : goal.returns-then-takes_kept-clause-some
returns-then-takes_kept-clause-some c =
    omega (arith, ap length (bits_again (goal.at.returns-then-takes_kept-clause-some c).After-put_pen), form_bits-some (form (goal.at.returns-then-takes_kept-clause-some c).After-takes_kept))

pub returns-then-takes_kept-clause-most : goal.returns-then-takes_kept-clause-most
returns-then-takes_kept-clause-most c =
    omega (arith, ap length (bits_again (goal.at.returns-then-takes_kept-clause-most c).After-put_pen), most (goal.at.returns-then-takes_kept-clause-most c).After-takes_kept)

pub returns-else-takes_kept-clause-stands : goal.returns-else-takes_kept-clause-stands
returns-else-takes_kept-clause-stands c = λ h stands.
    let d = (goal.at.returns-else-takes_kept-clause-stands c).After-takes_kept in
    record { masks = masks_stand d h stands; window = window_stands d h stands }

pub returns-else-takes_kept-clause-bits : goal.returns-else-takes_kept-clause-bits
returns-else-takes_kept-clause-bits c = λ h stands.
    let d = (goal.at.returns-else-takes_kept-clause-bits c).After-takes_kept in
    c.write_packet.ensures.bits ∙ ap form_bits (form_is d h stands)

pub returns-else-takes_kept-clause-packet : goal.returns-else-takes_kept-clause-packet
returns-else-takes_kept-clause-packet c = λ h stands.
    let d = (goal.at.returns-else-takes_kept-clause-packet c).After-takes_kept in
    ap padded (c.write_packet.ensures.bits ∙ ap form_bits (form_is d h stands))

pub returns-else-takes_kept-clause-some : goal.returns-else-takes_kept-clause-some
returns-else-takes_kept-clause-some c =
    let d = (goal.at.returns-else-takes_kept-clause-some c).After-takes_kept in
    omega (arith, ap length c.write_packet.ensures.bits, form_bits-some (form d))

pub returns-else-takes_kept-clause-most : goal.returns-else-takes_kept-clause-most
returns-else-takes_kept-clause-most c =
    let d = (goal.at.returns-else-takes_kept-clause-most c).After-takes_kept in
    omega (arith, ap length c.write_packet.ensures.bits, most d)
