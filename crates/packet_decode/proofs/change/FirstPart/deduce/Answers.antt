use Rattle.std.proofs.Common.{sym, ap, ◌∙◌}
use Rattle.packet_decode.specs.State.{Change, mask_after}
use Rattle.bit_vectors.specs.Vectors.{without_bits}
use Rattle.packet_decode.proofs.PlaceByStep.{mask_narrowed, mask_widened}
use Rattle.packet_decode.proofs.change.FirstPart.deduce.Goals as goal

pub returns-then-is_some-clause-mask : goal.returns-then-is_some-clause-mask
returns-then-is_some-clause-mask c =
    let part = c.self.inside in
    c.drop_in.ensures.bits
    ∙ ap (λ v. without_bits v part.predictable) c.or_in.ensures.bits
    ∙ mask_narrowed c.args.mask.now part.recent part.predictable part.level part.twice c.if-self-eq0.false (sym c.is_some.ensures ∙ c.if-is_some.true) c.self.invariant.4
    ∙ ap (λ (change : Change). mask_after c.args.mask.now change) c.self.view_is

pub returns-else-is_some-clause-mask : goal.returns-else-is_some-clause-mask
returns-else-is_some-clause-mask c =
    let part = c.self.inside in
    c.or_in.ensures.bits
    ∙ mask_widened c.args.mask.now part.recent part.predictable part.level part.twice c.if-self-eq0.false (sym c.is_some.ensures ∙ c.if-is_some.false)
    ∙ ap (λ (change : Change). mask_after c.args.mask.now change) c.self.view_is
