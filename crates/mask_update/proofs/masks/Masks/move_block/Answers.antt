use Rattle.mask_update.proofs.Moving.{Walked-none}
use Rattle.mask_update.proofs.masks.Masks.move_block.Goals as goal

pub returns-then-is_unmoved : goal.returns-then-is_unmoved
returns-then-is_unmoved c = Walked-none c.args.input.now c.args.from c.args.to c.args.self.now (c.is_unmoved.ensures.0 c.if-is_unmoved.true)
