use Rattle.std.proofs.Common.{◌*◌}
use Rattle.mask_update.specs.Masks.{Walked}
use Rattle.mask_update.proofs.masks.Masks.move_places.Given as goal

-- the words before this block were walked over
abbrev pub invariant-loop-block : goal.invariant-loop-block
invariant-loop-block l = Walked l.input 0 (8 * l.block) l.same l.initial.self l.self
