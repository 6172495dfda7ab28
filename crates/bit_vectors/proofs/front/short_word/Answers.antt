use Rattle.std.proofs.Common.{◌≡◌, ℕ, zero, suc, ◌<◌, List, [], ◌∷◌, length, get_or, refl, sym, arith, inl, inr}
use Rattle.std.proofs.lemmas.Bool.{cases_lt}
use Rattle.std.proofs.lemmas.List.{get_or_past}
use Rattle.bit_vectors.specs.Vectors.{AreBytes}
use Rattle.bit_vectors.proofs.WordBytes.{Shows-bytes}
use Rattle.bit_vectors.proofs.front.short_word.Goals as goal

module _ (bytes : List ℕ) (short : length bytes < 8) where
  -- its first seven numbers, and zero
  abbrev front : List ℕ
  front = get_or bytes 0 0 ∷ get_or bytes 1 0 ∷ get_or bytes 2 0 ∷ get_or bytes 3 0 ∷ get_or bytes 4 0 ∷ get_or bytes 5 0 ∷ get_or bytes 6 0 ∷ 0 ∷ []

  same : (i : ℕ) → i < 8 → get_or front i 0 ≡ get_or bytes i 0
  same zero lt = refl
  same (suc zero) lt = refl
  same (suc (suc zero)) lt = refl
  same (suc (suc (suc zero))) lt = refl
  same (suc (suc (suc (suc zero)))) lt = refl
  same (suc (suc (suc (suc (suc zero))))) lt = refl
  same (suc (suc (suc (suc (suc (suc zero)))))) lt = refl
  same (suc (suc (suc (suc (suc (suc (suc zero))))))) lt = sym (get_or_past bytes 7 0 (omega arith))
  same (suc (suc (suc (suc (suc (suc (suc (suc i)))))))) lt = absurd (omega arith)

  below : AreBytes bytes → AreBytes front
  below are i =
      elim (cases_lt i 8) [
        | inl lt ↦ rw (same i lt) (are i)
        | inr le ↦ rw (get_or_past front i 0 le) (omega arith)
      ]

pub returns : goal.returns
returns c =
    let bytes = c.args.bytes.now in
    Shows-bytes bytes (front bytes c.requires) c.from_be_bytes.result refl (below bytes c.requires (λ i. omega (arith, c.type_inv.bytes i)))
    (rw (c.byte_or_zero.ensures, c.byte_or_zero-2.ensures, c.byte_or_zero-3.ensures, c.byte_or_zero-4.ensures, c.byte_or_zero-5.ensures, c.byte_or_zero-6.ensures, c.byte_or_zero-7.ensures) at c.from_be_bytes.ensures) (same bytes c.requires)
