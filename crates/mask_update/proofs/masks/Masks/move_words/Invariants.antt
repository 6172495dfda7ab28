use Rattle.mask_update.specs.Masks.{Walked}
use Rattle.mask_update.proofs.masks.Masks.move_words.Given as goal

-- the words before this one were walked over
abbrev pub invariant-loop-index : goal.invariant-loop-index
invariant-loop-index l = Walked l.input l.from l.index l.same l.initial.self l.self
