use Rattle.std.proofs.Common.{◌≡◌, None, subst}
use Rattle.bit_vectors.specs.Reading.{bits_left, Read}
use Rattle.packet_decode.specs.PacketReading.{parse_directions}
use Rattle.packet_decode.specs.State.{Change}
use Rattle.packet_decode.proofs.ExactChange.{no_change, no_level}
use Rattle.packet_decode.proofs.change.FirstPart.take_directions.Goals as goal
use Rattle.packet_decode.proofs.change.FirstPart.take_directions.Goals.{then-self-via-then-self, then-self-via-else-self+then-self-eq0}

pub returns-then-self-clause-reading : goal.returns-then-self-clause-reading
returns-then-self-clause-reading c =
    let part = c.self.inside in
    let bits = bits_left c.args.eye.now in
    subst (λ (first : Change). parse_directions first.recent first.level bits ≡ Read None bits) c.self.view_is (elim c.then-self.branch [
      | then-self-via-then-self w ↦ no_change part.recent part.level bits (c.self.invariant.2.0 w.if-self.true)
      | then-self-via-else-self+then-self-eq0 w ↦ rw w.if-self-eq0.true (no_level part.recent bits)
    ])
