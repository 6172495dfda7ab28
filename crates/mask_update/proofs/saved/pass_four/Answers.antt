use Rattle.std.proofs.Common.{ℕ, Bool, true, List, Option, None, Some}
use Rattle.std.specs.Borrow.{Bor}
use Rattle.std.specs.Prelude.{IfSome}
use Rattle.state_bytes.specs.Parts.{BeginsVectorIf}
use Rattle.mask_update.specs.Saved.{BeginsFour}
use Rattle.mask_update.proofs.Standing.{four_made}
use Rattle.mask_update.proofs.saved.pass_four.Goals as goal

last : (f : ℕ) (bytes r s t : List ℕ) (o : Option (Bor (List ℕ))) → (a : (v : List Bool) × BeginsVectorIf true f v bytes r) → (b : (v : List Bool) × BeginsVectorIf true f v r s) → (c : (v : List Bool) × BeginsVectorIf true f v s t)
    → IfSome o (λ (u : Bor (List ℕ)). (v : List Bool) × BeginsVectorIf true f v t u.now) → IfSome o (λ (u : Bor (List ℕ)). (p q m d : List Bool) × BeginsFour f p q m d bytes u.now)
last f bytes r s t None a b c d = tt
last f bytes r s t (Some u) a b c d = (a.0, b.0, c.0, d.0, four_made f bytes r s t u.now a b c d)

pub returns-clause-some : goal.returns-clause-some
returns-clause-some c = last c.args.f c.args.bytes.now _ _ _ c.pass_vector-4.result c.in-Some.ensures.some c.in-Some-pass_vector.ensures.some c.in-Some-pass_vector-2.ensures.some c.pass_vector-4.ensures.some
