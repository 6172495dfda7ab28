use Rattle.std.proofs.Common.{length, sym, ap, subst, ◌∙◌}
use Rattle.mask_update.specs.Masks.{Running}
use Rattle.robust_window.specs.Saved.{AreOfWindow, IsWindowState}
use Rattle.packet_encode.specs.Encoder.{EncoderState}
use Rattle.packet_encode.specs.Saved.{AreOfEncoder, IsEncoderState}
use Rattle.packet_encode.proofs.SavedEncoders.{begins, window_of}
use Rattle.packet_encode.proofs.encoder.Encoder.load.Goals as goal

pub load-rest-requires : goal.load-rest-requires
load-rest-requires c =
    let saved = subst (λ (k : EncoderState). AreOfEncoder (length k.masks.mask) c.args.bytes.now) (sym c.self.view_is) c.requires in
    (saved.encoder.masks, _, begins _ saved.encoder c.args.bytes.now saved.valid saved.bytes_are)

pub load-requires-clause-saved : goal.load-requires-clause-saved
load-requires-clause-saved c =
    let saved = subst (λ (k : EncoderState). AreOfEncoder (length k.masks.mask) c.args.bytes.now) (sym c.self.view_is) c.requires in
    let masks = c.load-rest.ensures.loaded _ _ (begins _ saved.encoder c.args.bytes.now saved.valid saved.bytes_are) in
    subst (λ n. AreOfWindow n c.load-rest.result.now) (sym c.self.invariant.places) (window_of _ saved.encoder c.load-rest.result.now saved.valid masks.1)

pub returns-clause-loaded : goal.returns-clause-loaded
returns-clause-loaded c e valid is =
    let here = subst (λ (k : EncoderState). IsEncoderState (length k.masks.mask) e) (sym c.self.view_is) valid in
    let masks = c.load-rest.ensures.loaded _ _ (begins _ e c.args.bytes.now here is) in
    let taken = valid.taken ∙ sym (c.taken.ensures.kept ∙ ap (λ (m : Running). m.taken) masks.0) in
    let window = c.load.ensures.loaded e.window (subst (λ n. IsWindowState n e.window) (sym c.self.invariant.places) here.window) taken masks.1 in
    λ i. record { masks = masks.0 i; window = window i }
