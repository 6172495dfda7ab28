-- What a handle owns: nothing, or a box.
use Rattle.std.specs.Prelude.{◌≡◌, ℕ, Option, None, Some}
use base.Fml.{Fml, ftrue, fsep, fex}
use denote.RattleType.{RattleType}
use denote.RawPtr.{Ptr}
use Rattle.std.specs.declared.alloc.Global.{Global}
use Rattle.std.specs.contracts.impls.GlobalAllocator.TheImpl.{ghosts}
use Rattle.std_alloc.specs.Box.Ownership.{box_owns}

-- the box at p, of whatever handle of the heap
abbrev pub boxed : (R : RattleType) → Ptr → R.Denot → Fml
boxed R p x = fex Global (λ a. box_owns (ghosts.dealloc_token a) R p x)

abbrev pub owned : (R : RattleType) → ℕ → Ptr → Option R.Denot → Fml
owned R state p None = fex (state ≡ 0) (λ _. ftrue)
owned R state p (Some x) = fsep (fex (state ≡ 1) (λ _. ftrue)) (boxed R p x)
