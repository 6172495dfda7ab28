-- The least count completes the bits that any count does.
use Rattle.std.proofs.Common.{◌≡◌, ℕ, zero, suc, ◌≤◌, Bool, List, [], ◌∷◌, ◌++◌, refl, sym, ap, ◌∙◌, subst, append_assoc, append-nil, arith, inl, inr, ◌⊎◌}
use Rattle.std.proofs.lemmas.Bool.{cases_lt}
use Rattle.bit_vectors.specs.Reading.{Parsed, Read, WrongBit, TooShort, CanBegin}
use Rattle.count_code.specs.declared.count.Count.{Count}
use Rattle.count_code.specs.declared.count.Count.TheVariants.{Value, End}
use Rattle.count_code.specs.Counts.{IsCodeOf, IsCode, IsBegunBy, IsLeastWithin, parse_count}
use Rattle.count_code.proofs.ExactCounts.{IsExact-count_at}

-- ---- whether bits can begin a word within a limit

read_twice : (count other : Count) (bit : Bool) (rest : List Bool) → ◌≡◌ {A = Parsed Count} (Read count (bit ∷ rest)) (Read other []) → ⊥
read_twice count other bit rest e = cc

module _ (limit : ℕ) (front : List Bool) where
  -- bits that are read with some left over begin no word
  none_left : (count : Count) (bit : Bool) (rest : List Bool) → parse_count limit front ≡ Read count (bit ∷ rest) → CanBegin (IsCode limit) front → ⊥
  none_left count bit rest read (more, (other, code)) =
      let e = IsExact-count_at limit in
      let r = e.read_is front count (bit ∷ rest) read in
      let whole : parse_count limit (front ++ more) ≡ Read other [] = ap (parse_count limit) (sym (append-nil (front ++ more))) ∙ e.reads other (front ++ more) [] code in
      let cut : parse_count limit (front ++ more) ≡ Read count (bit ∷ (rest ++ more)) =
      ap (parse_count limit) (ap (λ (b : List Bool). b ++ more) r.2 ∙ append_assoc r.0 (bit ∷ rest) more) ∙ e.reads count r.0 (bit ∷ (rest ++ more)) r.1 in
      read_twice count other bit (rest ++ more) (sym cut ∙ whole)

  wrong_none : (rest : List Bool) → parse_count limit front ≡ WrongBit rest → CanBegin (IsCode limit) front → ⊥
  wrong_none rest wrong (more, code) =
      let w = (IsExact-count_at limit).wrong_is front rest wrong in
      let parts : front ++ more ≡ (w.front ++ w.bit ∷ []) ++ (rest ++ more) =
      ap (λ (b : List Bool). b ++ more) w.parts ∙ append_assoc w.front (w.bit ∷ rest) more ∙ sym (append_assoc w.front (w.bit ∷ []) (rest ++ more)) in
      w.hopeless (rest ++ more, subst (IsCode limit) parts code)

  decided : (r : Parsed Count) → parse_count limit front ≡ r → CanBegin (IsCode limit) front ⊎ (CanBegin (IsCode limit) front → ⊥)
  decided (Read count []) read =
      let r = (IsExact-count_at limit).read_is front count [] read in
      inl ([], (count, subst (IsCodeOf limit count) (sym (append-nil front ∙ r.2 ∙ append-nil r.0)) r.1))
  decided (Read count (bit ∷ rest)) read = inr (none_left count bit rest read)
  decided (WrongBit rest) wrong = inr (wrong_none rest wrong)
  decided TooShort short = inl ((IsExact-count_at limit).short_is front short)

-- ---- the least count

abbrev Completed : ℕ → List Bool → Type 0
Completed limit front = IsBegunBy front End ⊎ IsLeastWithin limit front

wider : (limit : ℕ) (front : List Bool) → Completed limit front → Completed (suc limit) front
wider limit front (inl end) = inl end
wider limit front (inr l) = inr (record { least = l.least; within = (l.within.0, omega (arith, l.within.1)); begun = l.begun; lower = l.lower })

begun_within : (limit a : ℕ) (front : List Bool) → 1 ≤ a → a ≤ limit → IsBegunBy front (Value a) → CanBegin (IsCode limit) front
begun_within limit a front some le (rest, is) = (rest, (Value a, ((some, le), sym is)))

-- a count that is not within the limit below is the least
by_count : (limit : ℕ) (front : List Bool) → (CanBegin (IsCode limit) front → ⊥) → (more : List Bool) (count : Count) → IsCodeOf (suc limit) count (front ++ more) → Completed (suc limit) front
by_count limit front none more End code = inl (more, sym code.1)
by_count limit front none more (Value a) code = inr (record {
  least = a;
  within = code.0;
  begun = (more, sym code.1);
  lower = λ b some begun. elim (cases_lt limit b) [
    | inl above ↦ omega (arith, above, code.0.1)
    | inr le ↦ absurd (none (begun_within limit b front some le begun))
  ];
})

none_within : (count : Count) (front more : List Bool) → IsCodeOf 0 count (front ++ more) → IsBegunBy front End
none_within End front more code = (more, sym code.1)
none_within (Value a) front more code = absurd (omega (arith, code.0.0, code.0.1))

least_of : (limit : ℕ) (front : List Bool) → CanBegin (IsCode limit) front → Completed limit front
least_of zero front (more, (count, code)) = inl (none_within count front more code)
least_of (suc limit) front (more, (count, code)) =
    elim (decided limit front (parse_count limit front) refl) [
      | inl below ↦ wider limit front (least_of limit front below)
      | inr none ↦ by_count limit front none more count code
    ]

begun_of : (limit : ℕ) (front : List Bool) → Completed limit front → CanBegin (IsCode limit) front
begun_of limit front (inl (rest, is)) = (rest, (End, (tt, sym is)))
begun_of limit front (inr l) = begun_within limit l.least front l.within.0 l.within.1 l.begun

pub least_completes : (limit : ℕ) (front : List Bool) → (CanBegin (IsCode limit) front → Completed limit front) × (Completed limit front → CanBegin (IsCode limit) front)
least_completes limit front = (least_of limit front, begun_of limit front)
