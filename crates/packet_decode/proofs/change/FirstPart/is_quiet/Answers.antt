use Rattle.std.proofs.Common.{length, ap, sym, ◌∙◌}
use Rattle.std.proofs.lemmas.Bool.{OnTrue_from}
use Rattle.packet_decode.specs.State.{Change, mask_after}
use Rattle.packet_decode.proofs.PlaceByStep.{unchanged_mask}
use Rattle.packet_decode.proofs.change.FirstPart.is_quiet.Goals as goal

pub returns-clause-stays : goal.returns-clause-stays
returns-clause-stays c =
    OnTrue_from c.self.inside.quiet _ (λ zero mask len.
    sym (ap (λ (x : Change). mask_after mask x) c.self.view_is)
    ∙ unchanged_mask mask c.self.inside.recent c.self.inside.level c.self.inside.twice c.self.inside.predictable
    (len ∙ ap (λ (x : Change). length x.recent) (sym c.self.view_is)) c.self.invariant.0 (c.self.invariant.2.0 zero))
