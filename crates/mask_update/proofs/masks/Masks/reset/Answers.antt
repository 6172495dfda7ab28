use Rattle.std.proofs.Common.{rules}
use Rattle.mask_update.proofs.Standing.{StandsFor-none}
use Rattle.mask_update.proofs.masks.Masks.reset.Goals as goal

pub returns-clause-stands : goal.returns-clause-stands
returns-clause-stands c = StandsFor-none c.args.mask.now _ (search rules) (search rules) (search rules) (search rules) (search rules)
