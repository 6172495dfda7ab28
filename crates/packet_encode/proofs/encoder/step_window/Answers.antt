use Rattle.std.proofs.Common.{◌≡◌, false, length, replicate, sym, ap, ◌∙◌}
use Rattle.std.proofs.lemmas.Bool.{OnTrue_at}
use Rattle.packet_encode.proofs.encoder.step_window.Goals as goal

pub returns-then-is_still-clause-stands : goal.returns-then-is_still-clause-stands
returns-then-is_still-clause-stands c = λ steps step stands change new_mask robust.
    let len : length c.args.masks.now.change ≡ length c.args.window.now.recent = ap length (sym c.change-change.ensures.kept) ∙ c.change-change.ensures.places ∙ c.requires.places in
    let zeros : c.args.masks.now.change ≡ replicate (length c.args.window.now.recent) false = OnTrue_at c.if-is_still.true c.is_still.ensures.zero ∙ ap (λ n. replicate n false) len in
    c.step_still.ensures.stands steps step stands (change ∙ zeros) new_mask robust
