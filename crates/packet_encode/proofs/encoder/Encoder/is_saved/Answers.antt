use Rattle.std.proofs.Common.{refl}
use Rattle.packet_encode.proofs.SavedEncoders.{begins, encoder_made, window_of}
use Rattle.packet_encode.proofs.encoder.Encoder.is_saved.Goals as goal

pub returns-in-Some : goal.returns-in-Some
returns-in-Some c = (
  λ yes. encoder_made c.args.f c.args.bytes.now c.in-Some.rest.now c.in-Some.ensures.some (c.is_saved.ensures.0 yes),
  λ saved. c.is_saved.ensures.1 (window_of c.args.f saved.encoder c.in-Some.rest.now saved.valid (c.in-Some.ensures.all _ _ (begins c.args.f saved.encoder c.args.bytes.now saved.valid saved.bytes_are))),
)

pub returns-in-None : goal.returns-in-None
returns-in-None c = (λ never. absurd cc, λ saved. absurd (c.in-None.ensures.none _ _ (begins c.args.f saved.encoder c.args.bytes.now saved.valid saved.bytes_are) refl))
