-- Vectors place by place.
use Rattle.std.proofs.Common.{◌≡◌, ℕ, zero, suc, ◌<◌, Bool, false, List, [], ◌∷◌, length, get_or, refl, sym, ◌∙◌, arith}
use Rattle.std.specs.Simd.Lanes.{zip2}
use Rattle.std.proofs.lemmas.List.{ext_get_or}
use Rattle.std.proofs.lemmas.Simd.{length-zip2}

pub get_or-zip2 : (f : Bool → Bool → Bool) (a b : List Bool) (k : ℕ) → length a ≡ length b → k < length a → get_or (zip2 f a b) k false ≡ f (get_or a k false) (get_or b k false)
get_or-zip2 f [] b k len lt = absurd (omega arith)
get_or-zip2 f (x ∷ a) [] k len lt = absurd (omega arith)
get_or-zip2 f (x ∷ a) (y ∷ b) zero len lt = refl
get_or-zip2 f (x ∷ a) (y ∷ b) (suc k) len lt = get_or-zip2 f a b k (omega arith) (omega arith)

-- if two zeros give a zero: at every number, also after the end
pub get_or-zip2_all : (f : Bool → Bool → Bool) → f false false ≡ false → (a b : List Bool) (k : ℕ) → length a ≡ length b → get_or (zip2 f a b) k false ≡ f (get_or a k false) (get_or b k false)
get_or-zip2_all f none [] [] k len = sym none
get_or-zip2_all f none [] (y ∷ b) k len = absurd (omega arith)
get_or-zip2_all f none (x ∷ a) [] k len = absurd (omega arith)
get_or-zip2_all f none (x ∷ a) (y ∷ b) zero len = refl
get_or-zip2_all f none (x ∷ a) (y ∷ b) (suc k) len = get_or-zip2_all f none a b k (omega arith)

pub zip2_is : (f : Bool → Bool → Bool) (a b new : List Bool) → length a ≡ length b → length new ≡ length a → ((k : ℕ) → k < length a → get_or new k false ≡ f (get_or a k false) (get_or b k false)) → new ≡ zip2 f a b
zip2_is f a b new len same_len same =
    ext_get_or false new (zip2 f a b) (same_len ∙ sym (length-zip2 f a b len)) (λ k lt. let within : k < length a = omega arith in same k within ∙ sym (get_or-zip2 f a b k len within))
