-- Reading bits into places of a vector.
use Rattle.std.proofs.Common.{◌≡◌, ◌≢◌, ℕ, zero, suc, ◌<◌, ◌≤◌, Bool, true, false, List, [], ◌∷◌, length, get_or, set, refl, sym, ◌∙◌, arith, inl, inr}
use Rattle.std.specs.Prelude.{Contains}
use Rattle.std.proofs.lemmas.Bool.{cases_eq}
use Rattle.std.proofs.lemmas.List.{length-set, get_or-set_same, get_or-set_other, ext_get_or}
use Rattle.bit_vectors.specs.Reading.{Read, WrongBit, TooShort, bit_where, IsExact}
use Rattle.bit_vectors.proofs.ExactReading.{IsBitWhere, IsWordThen, IsExact-give, IsExact-bit_where, IsExact-same, IsExact-then}
use Rattle.run_code.specs.Extraction.{bits_at, parse_filled}
use Rattle.run_code.proofs.Ones.{AreApart}

-- only bits at these places differ
pub record OnlyAt (places : List ℕ) (old new : List Bool) : Type 0 where
  pub same_length : length new ≡ length old
  pub others : (k : ℕ) → (Contains places k → ⊥) → get_or new k false ≡ get_or old k false

-- the word that fills the places of an old vector, and gives this new one
abbrev pub IsFilling : List ℕ → List Bool → List Bool → List Bool → Type 0
IsFilling places old new word = OnlyAt places old new × (word ≡ bits_at new places)

pub OnlyAt-refl : (places : List ℕ) (v : List Bool) → OnlyAt places v v
OnlyAt-refl places v = record { same_length = refl; others = λ k out. refl }

not_in_nil : (k : ℕ) → Contains [] k → ⊥
not_in_nil k (i, lt, is) = absurd (omega arith)

OnlyAt-nil : (old new : List Bool) → OnlyAt [] old new → new ≡ old
OnlyAt-nil old new h = ext_get_or false new old h.same_length (λ k lt. h.others k (not_in_nil k))

not_in_cons : (place k : ℕ) (places : List ℕ) → place ≢ k → (Contains places k → ⊥) → Contains (place ∷ places) k → ⊥
not_in_cons place k places ne out (zero, lt, is) = ne is
not_in_cons place k places ne out (suc i, lt, is) = out (i, omega arith, is)

-- one bit more
OnlyAt-later : (place : ℕ) (places : List ℕ) (old new : List Bool) (bit : Bool) → OnlyAt places (set old place bit) new → OnlyAt (place ∷ places) old new
OnlyAt-later place places old new bit h = record {
  same_length = h.same_length ∙ length-set old place bit;
  others = λ k out.
      let other : k ≢ place = λ same. out (0, omega arith, sym same) in
      h.others k (λ c. out (suc c.0, omega (arith, c.1), c.2)) ∙ get_or-set_other old place k bit false other;
}

bit_there : (place : ℕ) (places : List ℕ) (old new : List Bool) (bit : Bool) → place < length old → (Contains places place → ⊥) → OnlyAt places (set old place bit) new → get_or new place false ≡ bit
bit_there place places old new bit lt out h = h.others place out ∙ get_or-set_same old place bit false lt

OnlyAt-set : (place : ℕ) (places : List ℕ) (old new : List Bool) → place < length old → OnlyAt (place ∷ places) old new → OnlyAt places (set old place (get_or new place false)) new
OnlyAt-set place places old new lt h = record {
  same_length = h.same_length ∙ sym (length-set old place (get_or new place false));
  others = λ k out.
      elim (cases_eq k place) [
        | inl here ↦ rw here (sym (get_or-set_same old place (get_or new place false) false lt))
        | inr other ↦ h.others k (not_in_cons place k places (λ same. other (sym same)) out) ∙ sym (get_or-set_other old place k (get_or new place false) false other)
      ];
}

AreApart-set : (places : List ℕ) (v : List Bool) (place : ℕ) (bit : Bool) → AreApart places (length v) → AreApart places (length (set v place bit))
AreApart-set places v place bit apart = rw (length-set v place bit) apart

-- the words for the places after the first, by the bit of the first
abbrev IsLaterFilling : ℕ → List ℕ → List Bool → Bool → List Bool → List Bool → Type 0
IsLaterFilling place places old bit = IsFilling places (set old place bit)

filling_of : (place : ℕ) (places : List ℕ) (old new word : List Bool) → place < length old → (Contains places place → ⊥) → IsWordThen (IsBitWhere (λ bit. true)) (IsLaterFilling place places old) new word → IsFilling (place ∷ places) old new word
filling_of place places old new word lt out (bit, a, b, first, then, parts) =
    let is = bit_there place places old new bit lt out then.0 in
    (OnlyAt-later place places old new bit then.0, parts ∙ rw (first.1, then.1, is) refl)

parts_of : (place : ℕ) (places : List ℕ) (old new word : List Bool) → place < length old → IsFilling (place ∷ places) old new word → IsWordThen (IsBitWhere (λ bit. true)) (IsLaterFilling place places old) new word
parts_of place places old new word lt (only, is) =
    (get_or new place false, get_or new place false ∷ [], bits_at new places, (refl, refl), (OnlyAt-set place places old new lt only, refl), is)

pub IsExact-filled_at : (places : List ℕ) (v : List Bool) → AreApart places (length v) → IsExact (IsFilling places v) (parse_filled places v)
unfolding parse_filled
IsExact-filled_at [] v apart =
    IsExact-same (λ (u : List Bool) (word : List Bool). (u ≡ v) × (word ≡ [])) (IsFilling [] v) (λ (bits : List Bool). Read v bits)
    (λ u word w. (rw w.0 (OnlyAt-refl [] v), w.1)) (λ u word h. (OnlyAt-nil v u h.0, h.1)) (IsExact-give v)
IsExact-filled_at (place ∷ places) v apart =
    IsExact-same (IsWordThen (IsBitWhere (λ (bit : Bool). true)) (IsLaterFilling place places v)) (IsFilling (place ∷ places) v) (parse_filled (place ∷ places) v)
    (λ u word w. filling_of place places v u word apart.0 apart.1 w)
    (λ u word h. parts_of place places v u word apart.0 h)
    (IsExact-then (IsBitWhere (λ (bit : Bool). true)) (IsLaterFilling place places v) (bit_where (λ (bit : Bool). true)) (λ (bit : Bool) (rest : List Bool). parse_filled places (set v place bit) rest)
    (IsExact-bit_where (λ (bit : Bool). true) true refl)
    (λ bit word w. IsExact-filled_at places (set v place bit) (AreApart-set places v place bit apart.2))
    (λ bit word w. (set v place bit, bits_at (set v place bit) places, (OnlyAt-refl places (set v place bit), refl))))

-- ---- when there are enough bits

pub parse_filled-short : (places : List ℕ) (v bits : List Bool) → parse_filled places v bits ≡ TooShort → length bits < length places
unfolding parse_filled
parse_filled-short [] v bits short = absurd cc
parse_filled-short (place ∷ places) v [] short = omega arith
parse_filled-short (place ∷ places) v (bit ∷ bits) short = omega (arith, parse_filled-short places (set v place bit) bits short)

pub parse_filled-read : (places : List ℕ) (v bits new rest : List Bool) → parse_filled places v bits ≡ Read new rest → length places ≤ length bits
unfolding parse_filled
parse_filled-read [] v bits new rest read = omega arith
parse_filled-read (place ∷ places) v [] new rest read = absurd cc
parse_filled-read (place ∷ places) v (bit ∷ bits) new rest read = omega (arith, parse_filled-read places (set v place bit) bits new rest read)

pub parse_filled-no_wrong : (places : List ℕ) (v bits rest : List Bool) → parse_filled places v bits ≡ WrongBit rest → ⊥
unfolding parse_filled
parse_filled-no_wrong [] v bits rest wrong = cc
parse_filled-no_wrong (place ∷ places) v [] rest wrong = cc
parse_filled-no_wrong (place ∷ places) v (bit ∷ bits) rest wrong = parse_filled-no_wrong places (set v place bit) bits rest wrong

pub parse_filled-few : (places : List ℕ) (v bits : List Bool) → length bits < length places → parse_filled places v bits ≡ TooShort
unfolding parse_filled
parse_filled-few [] v bits lt = absurd (omega arith)
parse_filled-few (place ∷ places) v [] lt = refl
parse_filled-few (place ∷ places) v (bit ∷ bits) lt = parse_filled-few places (set v place bit) bits (omega arith)
