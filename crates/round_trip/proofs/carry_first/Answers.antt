use Rattle.std.proofs.Common.{ℕ, false, replicate, None, ap, ◌∙◌, sym, arith}
use Rattle.mask_update.specs.Histories.{no_steps}
use Rattle.packet_decode.specs.State.{Decoding, both_known}
use Rattle.round_trip.proofs.Carried.{first-in_step, first_level, first_mask, first_recent}
use Rattle.round_trip.proofs.carry_first.Goals as goal

pub returns-clause-known : goal.returns-clause-known
returns-clause-known c =
    c.carry.ensures.known (no_steps c.args.mask.now) None None
    (first-in_step c.args.mask.now c.args.input.now _ _ (omega (arith, c.requires.valid.0, c.requires.mask)) (omega (arith, c.requires.valid.1, c.requires.mask)) (c.requires.input ∙ sym c.requires.mask) c.in_ok-encoder.ensures.stands (ap (λ (d : Decoding). d.state) c.in_ok-decoder.ensures))
    ∙ ap (λ v. both_known 0 v c.args.input.now) (first_mask c.args.mask.now c.args.input.now)

pub returns-clause-recent : goal.returns-clause-recent
returns-clause-recent c =
    c.carry.ensures.recent (no_steps c.args.mask.now) None None
    (first-in_step c.args.mask.now c.args.input.now _ _ (omega (arith, c.requires.valid.0, c.requires.mask)) (omega (arith, c.requires.valid.1, c.requires.mask)) (c.requires.input ∙ sym c.requires.mask) c.in_ok-encoder.ensures.stands (ap (λ (d : Decoding). d.state) c.in_ok-decoder.ensures))
    ∙ first_recent c.args.mask.now c.args.input.now
    ∙ ap (λ (n : ℕ). replicate n false) c.requires.mask

pub returns-clause-level : goal.returns-clause-level
returns-clause-level c =
    c.carry.ensures.level (no_steps c.args.mask.now) None None
    (first-in_step c.args.mask.now c.args.input.now _ _ (omega (arith, c.requires.valid.0, c.requires.mask)) (omega (arith, c.requires.valid.1, c.requires.mask)) (c.requires.input ∙ sym c.requires.mask) c.in_ok-encoder.ensures.stands (ap (λ (d : Decoding). d.state) c.in_ok-decoder.ensures))
    ∙ first_level c.args.mask.now c.args.input.now
