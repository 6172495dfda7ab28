use Rattle.std.proofs.Common.{◌≡◌, ℕ, length, Option, Some, Ok, ap, ◌∙◌, subst}
use Rattle.bit_vectors.specs.Vectors.{bits_of}
use Rattle.bit_vectors.proofs.NumberBits.{bits_of-vector_bytes}
use Rattle.mask_update.specs.Histories.{History}
use Rattle.mask_update.specs.Masks.{mask_at}
use Rattle.robust_window.specs.Histories.{level_at, recent_at}
use Rattle.packet_encode.specs.Encoder.{StandsFor}
use Rattle.packet_encode.specs.Forms.{form_at, packet_at}
use Rattle.packet_decode.specs.Answers.{IsExactAnswer}
use Rattle.packet_decode.specs.State.{Decoding, both_known, next_state}
use Rattle.packet_decode.specs.Spelling.{Spells}
use Rattle.packet_decode.specs.declared.decoder.Reading.TheVariants.{Written}
use Rattle.round_trip.specs.Carrying.{AreInStep, with_forced_input}
use Rattle.round_trip.proofs.Carried.{carried, places_are}
use Rattle.round_trip.proofs.carry.Goals as goal

module _ (c : goal.After-read) (h : History) (stands : StandsFor h c.args.encoder.now) where
  abbrev after : History
  after = with_forced_input h c.args.input.now

  abbrev t : ℕ
  t = length h.steps

  number : c.taken-number.result ≡ t
  number = c.taken-number.ensures.inputs h stands

  bits : bits_of c.bytes.result.now ≡ packet_at after t
  bits = ap bits_of c.bytes.ensures.bytes ∙ bits_of-vector_bytes c.encode.new.pen.bits ∙ c.encode.ensures.packet h stands

  exact : IsExactAnswer c.args.decoder.now.places c.args.decoder.now.state t (packet_at after t) c.read.result
  exact = subst (λ n. IsExactAnswer c.args.decoder.now.places c.args.decoder.now.state n (packet_at after t) c.read.result) number
      (subst (λ b. IsExactAnswer c.args.decoder.now.places c.args.decoder.now.state c.taken-number.result b c.read.result) bits c.read.ensures.exact)

module _ (c : goal.After-read) (h : History) (mask content : Option ℕ) (step : AreInStep h mask content c.args.input.now c.args.encoder.now c.args.decoder.now) where
  abbrev sent : History
  sent = after c h step.stands

  abbrev latest : ℕ
  latest = t c h step.stands

  places : c.args.decoder.now.places ≡ h.places
  places = c.requires.decoder_places ∙ places_are h c.args.input.now step.valid

  spelled : Spells c.args.decoder.now.places c.args.decoder.now.state c.taken-number.result (bits_of c.bytes.result.now) (form_at sent latest) (Some (mask_at sent latest)) (Some c.args.input.now)
  spelled = rw (places, step.known, number c h step.stands, bits c h step.stands) (carried h c.args.input.now mask content step.valid step.masks step.contents)

  written : c.read.result ≡ Ok Written
  written = (c.read.ensures.says Written).1 (form_at sent latest, Some (mask_at sent latest), c.args.input.now, spelled)

  told : c.read.new.self ≡ record {
    places = c.args.decoder.now.places;
    state = next_state c.args.decoder.now.state c.taken-number.result (Some (mask_at sent latest)) (Some c.args.input.now);
    recent = recent_at sent latest;
    level = level_at sent latest;
  }
  told = c.read.ensures.written (form_at sent latest) (Some (mask_at sent latest)) c.args.input.now spelled

  known : c.read.new.self.state ≡ both_known latest (mask_at sent latest) c.args.input.now
  known = ap (λ (d : Decoding). d.state) told
      ∙ ap (λ n. both_known n (mask_at sent latest) c.args.input.now) (number c h step.stands)

pub returns-clause-exact : goal.returns-clause-exact
returns-clause-exact c = exact c

pub returns-clause-written : goal.returns-clause-written
returns-clause-written c = written c

pub returns-clause-known : goal.returns-clause-known
returns-clause-known c = known c

pub returns-clause-recent : goal.returns-clause-recent
returns-clause-recent c h mask content step = ap (λ (d : Decoding). d.recent) (told c h mask content step)

pub returns-clause-level : goal.returns-clause-level
returns-clause-level c h mask content step = ap (λ (d : Decoding). d.level) (told c h mask content step)
