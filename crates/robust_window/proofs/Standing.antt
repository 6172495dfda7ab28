-- The window follows one more step, by the latest changes and flags.
use Rattle.std.specs.List.{list_any, range_with_len, count_by}
use Rattle.std.specs.Prelude.{◌||◌, Contains, All, nat_le}
use Rattle.std.proofs.Common.{◌≡◌, ℕ, zero, suc, ◌+◌, ◌<◌, Bool, true, false, List, [], ◌∷◌, length, map, replicate, get_or, refl, sym, ap, ◌∙◌, arith, add-one, ◌-◌, ◌≤◌, ◌++◌, drop, ◌⊎◌, inl, inr, max, subst}
use Rattle.std.proofs.lemmas.Bool.{false≢true, cases_lt, cases_eq}
use Rattle.std.proofs.lemmas.List.{length-replicate, get_or-drop, get_or-replicate, get_or_append_left, get_or_at, get_or_past, length-drop, length_push}
use Rattle.std.proofs.lemmas.List.Elements.{All-append, All-cons, All-drop, All-nil}
use Rattle.std.proofs.lemmas.List.Folds.{list_any-append, list_any_at}
use Rattle.std.proofs.lemmas.List.FromFn.{fill_by_all, length-map-range_with_len}
use Rattle.std.proofs.lemmas.Simd.{zip2-map}
use Rattle.circular_buffer.specs.Buffer.{Buffer, buffer, keep_last}
use Rattle.bit_vectors.specs.Vectors.{or_bits}
use Rattle.mask_update.specs.Masks.{vector_by}
use Rattle.mask_update.proofs.StepByStep.{range_push, vector_of_same}
use Rattle.robust_window.specs.Changes.{IsQuiet, MaskStep, changes_place, latest_change, level_of, mask_step, most_level, no_mask_step, recent_of, steps_from, takes_new_mask, twice_of}
use Rattle.robust_window.specs.Window.{change_back, Advances, HoldsLatest, WindowState, StandsFor, new_mask_back}
use Rattle.robust_window.proofs.Ranges.{some_one, is_quiet-one, is_quiet-zeros, level_of-is, any_back, count_back}

-- ---- recent changes

-- 1 at each place that one of the given number of changes has
abbrev pub gathered : ℕ → List (List Bool) → ℕ → List Bool
gathered f changes count = vector_by f (λ place. list_any (λ back. get_or (change_back changes back) place false) (range_with_len 0 count))

pub length-gathered : (f : ℕ) (changes : List (List Bool)) (count : ℕ) → length (gathered f changes count) ≡ f
length-gathered f changes count = length-map-range_with_len _ 0 f

vector_by-false : (a f : ℕ) → map (λ place. false) (range_with_len a f) ≡ replicate f false
vector_by-false a zero = refl
vector_by-false a (suc f) = ap (λ bs. false ∷ bs) (vector_by-false (a + 1) f)

pub gathered-none : (f : ℕ) (changes : List (List Bool)) → replicate f false ≡ gathered f changes 0
gathered-none f changes = sym (vector_by-false 0 f)

or_false : (b : Bool) → (b || false) ≡ b
or_false true = refl
or_false false = refl

pub gathered-more : (f : ℕ) (changes : List (List Bool)) (count : ℕ) → length (change_back changes count) ≡ f → or_bits (gathered f changes count) (change_back changes count) ≡ gathered f changes (count + 1)
gathered-more f changes count len =
    let has : ℕ → ℕ → Bool = λ place back. get_or (change_back changes back) place false in
    let change : change_back changes count ≡ vector_by f (λ place. has place count) = fill_by_all (λ place. has place count) (change_back changes count) f false len (λ k lt. refl) in
    ap (or_bits (gathered f changes count)) change
    ∙ zip2-map (λ a b. a || b) (λ place. list_any (has place) (range_with_len 0 count)) (λ place. has place count) (range_with_len 0 f)
    ∙ vector_of_same f _ _ (λ place.
    ap (λ b. list_any (has place) (range_with_len 0 count) || b) (sym (or_false (has place count)))
    ∙ sym (list_any-append (has place) (range_with_len 0 count) (count ∷ []))
    ∙ ap (list_any (has place)) (sym (range_push 0 count count (omega arith)) ∙ ap (range_with_len 0) (sym (add-one count))))

or_zeros : (v : List Bool) → or_bits v (replicate (length v) false) ≡ v
or_zeros [] = refl
or_zeros (bit ∷ v) = λ i. or_false bit i ∷ or_zeros v i

-- a change of zeros adds nothing
pub gathered-quiet : (f : ℕ) (changes : List (List Bool)) (count : ℕ) → change_back changes count ≡ replicate f false → gathered f changes count ≡ gathered f changes (count + 1)
gathered-quiet f changes count quiet =
    let len = length-gathered f changes count in
    sym (or_zeros (gathered f changes count))
    ∙ ap (or_bits (gathered f changes count)) (ap (λ (n : ℕ). replicate n false) len ∙ sym quiet)
    ∙ gathered-more f changes count (ap length quiet ∙ length-replicate f false)

-- changes of zeros add nothing
pub gathered-zeros : (f : ℕ) (changes : List (List Bool)) (count : ℕ) → ((back : ℕ) → back < count → change_back changes back ≡ replicate f false) → replicate f false ≡ gathered f changes count
gathered-zeros f changes zero quiet = gathered-none f changes
gathered-zeros f changes (suc count) quiet =
    gathered-zeros f changes count (λ back lt. quiet back (omega arith))
    ∙ gathered-quiet f changes count (quiet count (omega arith))
    ∙ ap (gathered f changes) (add-one count)

-- a change with a 1 among those that are gathered
any_of_both : (gathered change : List Bool) → length change ≡ length gathered → list_any (λ bit. bit) change ≡ true → list_any (λ bit. bit) (or_bits gathered change) ≡ true
any_of_both gathered [] len any = absurd (false≢true any)
any_of_both [] (bit ∷ change) len any = absurd (omega (arith, len))
any_of_both (true ∷ gathered) (bit ∷ change) len any = refl
any_of_both (false ∷ gathered) (true ∷ change) len any = refl
any_of_both (false ∷ gathered) (false ∷ change) len any = any_of_both gathered change (omega (arith, len)) any

pub gathered-some : (gathered change : List Bool) → length change ≡ length gathered → Contains change true → Contains (or_bits gathered change) true
gathered-some gathered change len one = some_one (or_bits gathered change) (any_of_both gathered change len (list_any_at (λ (bit : Bool). bit) change one.0 true one.1 one.2))

-- ---- the latest sixteen

module _ {A : Type 0} where
  pub length-pushed : (xs : List A) (x : A) → length xs ≡ 16 → length (drop 1 xs ++ x ∷ []) ≡ 16
  length-pushed xs x len = omega (arith, length_push (drop 1 xs) x, length-drop 1 xs)

  pub latest_pushed : (xs : List A) (x d : A) → length xs ≡ 16 → get_or (drop 1 xs ++ x ∷ []) (15 - 0) d ≡ x
  latest_pushed xs x d len = get_or_at (drop 1 xs) x [] d 15 (omega (arith, length-drop 1 xs))

  pub earlier_pushed : (xs : List A) (x d : A) (back : ℕ) → length xs ≡ 16 → back < 15 → get_or (drop 1 xs ++ x ∷ []) (15 - suc back) d ≡ get_or xs (15 - back) d
  earlier_pushed xs x d back len lt =
      let at : 1 + (15 - suc back) ≡ 15 - back = omega arith in
      get_or_append_left (drop 1 xs) (x ∷ []) d (15 - suc back) (omega (arith, length-drop 1 xs))
      ∙ get_or-drop 1 xs (15 - suc back) d ∙ ap (λ i. get_or xs i d) at

-- the oldest of sixteen taken out, and one more put in
pub Buffer-pushed : {A : Type 0} (old mid new : Buffer A) (x y : A) → length old.items ≡ 16 → old.capacity ≡ 16 → mid ≡ buffer (drop 1 old.items) old.capacity → new ≡ buffer (keep_last mid.capacity (mid.items ++ x ∷ [])) mid.capacity → x ≡ y → new ≡ buffer (drop 1 old.items ++ y ∷ []) 16
Buffer-pushed {A} old mid new x y len capacity mid_is new_is same =
    let none : length (drop 1 old.items ++ x ∷ []) - 16 ≡ 0 = omega (arith, length-pushed old.items x len) in
    new_is ∙ ap (λ (b : Buffer A). buffer (keep_last b.capacity (b.items ++ x ∷ [])) b.capacity) (mid_is ∙ ap (buffer (drop 1 old.items)) capacity)
    ∙ ap (λ n. buffer (drop n (drop 1 old.items ++ x ∷ [])) 16) none
    ∙ ap (λ z. buffer (drop 1 old.items ++ z ∷ []) 16) same

pub All-pushed : {A : Type 0} (P : A → Type 0) (xs : List A) (x : A) → All P xs → P x → All P (drop 1 xs ++ x ∷ [])
All-pushed P xs x all one = All-append P (drop 1 xs) (x ∷ []) (All-drop P 1 xs all) (All-cons P x [] one (All-nil P))

-- ---- the steps

pub mask_step-before : (steps : List MaskStep) (step : MaskStep) (s : ℕ) → s < length steps → mask_step (steps ++ step ∷ []) s ≡ mask_step steps s
mask_step-before steps step s lt = get_or_append_left steps (step ∷ []) no_mask_step s lt

pub mask_step-last : (steps : List MaskStep) (step : MaskStep) → mask_step (steps ++ step ∷ []) (length steps) ≡ step
mask_step-last steps step = get_or_at steps step [] no_mask_step (length steps) refl

pub latest_change-push : (steps : List MaskStep) (step : MaskStep) → latest_change (steps ++ step ∷ []) ≡ length steps
latest_change-push steps step = omega (arith, length_push steps step)

-- ---- one more step

module _ {A : Type 0} where
  pub HoldsLatest-more : (old new : List A) (d none x : A) (value new_value : ℕ → A) (count : ℕ) → length old ≡ 16 → new ≡ drop 1 old ++ x ∷ [] → HoldsLatest (λ back. get_or old (15 - back) d) value none count → ((s : ℕ) → s < count → new_value s ≡ value s) → new_value count ≡ x → HoldsLatest (λ back. get_or new (15 - back) d) new_value none (count + 1)
  HoldsLatest-more old new d none x value new_value count len new_is holds before last =
      record { same = same; past = past }
    where
      same : (back : ℕ) → back < 16 → back < count + 1 → get_or new (15 - back) d ≡ new_value (count + 1 - 1 - back)
      same zero lt within =
          let at : count ≡ count + 1 - 1 - 0 = omega arith in
          ap (λ xs. get_or xs (15 - 0) d) new_is ∙ latest_pushed old x d len ∙ sym last ∙ ap new_value at
      same (suc back) lt within =
          let at : count - 1 - back ≡ count + 1 - 1 - suc back = omega arith in
          ap (λ xs. get_or xs (15 - suc back) d) new_is ∙ earlier_pushed old x d back len (omega arith)
          ∙ holds.same back (omega arith) (omega arith) ∙ sym (before (count - 1 - back) (omega arith)) ∙ ap new_value at

      past : (back : ℕ) → back < 16 → count + 1 ≤ back → get_or new (15 - back) d ≡ none
      past zero lt le = absurd (omega arith)
      past (suc back) lt le =
          ap (λ xs. get_or xs (15 - suc back) d) new_is ∙ earlier_pushed old x d back len (omega arith) ∙ holds.past back (omega arith) (omega arith)

zero_place : (n place : ℕ) → get_or (replicate n false) place false ≡ false
zero_place n place =
    elim (cases_lt place n) [
      | inl lt ↦ get_or-replicate n place false false lt
      | inr le ↦ get_or_past (replicate n false) place false (omega (arith, length-replicate {A = Bool} n false))
    ]

recent_of-is : (steps : List MaskStep) (t f robust : ℕ) → (mask_step steps t).robust ≡ robust → length (mask_step steps t).change ≡ f → vector_by f (λ place. list_any (changes_place steps place) (steps_from (max 1 (t - robust)) (t + 1))) ≡ recent_of steps t
unfolding recent_of
recent_of-is steps t f robust robust_is len =
    ap (λ n. vector_by n (λ place. list_any (changes_place steps place) (steps_from (max 1 (t - robust)) (t + 1)))) (sym len)
    ∙ ap (λ r. vector_by (length (mask_step steps t).change) (λ place. list_any (changes_place steps place) (steps_from (max 1 (t - r)) (t + 1)))) (sym robust_is)

twice_of-is : (steps : List MaskStep) (t level : ℕ) → level_of steps t ≡ level → nat_le 2 (count_by (takes_new_mask steps) (steps_from (t - level) (t + 1))) ≡ twice_of steps t
unfolding twice_of
twice_of-is steps t level level_is = ap (λ v. nat_le 2 (count_by (takes_new_mask steps) (steps_from (t - v) (t + 1)))) (sym level_is)

-- before the first step
pub StandsFor-none : (value : WindowState) → value.changes ≡ replicate 16 (replicate (length value.recent) false) → value.new_masks ≡ replicate 16 false → value.taken ≡ 0 → StandsFor [] value
StandsFor-none value changes new_masks taken =
    record {
      changes = record {
        same = λ back lt within. absurd (omega arith);
        past = λ back lt past.
            ap (λ (l : List (List Bool)). get_or l (15 - back) []) changes ∙ get_or-replicate 16 (15 - back) (replicate (length value.recent) false) [] (omega arith);
      };
      new_masks = record {
        same = λ back lt within. absurd (omega arith);
        past = λ back lt past. ap (λ (l : List Bool). get_or l (15 - back) false) new_masks ∙ get_or-replicate 16 (15 - back) false false (omega arith);
      };
      first = λ place. refl;
      recent = λ some. absurd (omega arith);
      level = λ some. absurd (omega arith);
      twice = λ some. absurd (omega arith);
      taken = taken;
    }

-- a step whose change is taken first
pub StandsFor-next : (steps : List MaskStep) (step : MaskStep) (old new : WindowState) → StandsFor steps old → length old.changes ≡ 16 → step.robust ≤ 7 → length step.change ≡ length old.recent → (old.taken ≡ 0 → step.change ≡ replicate (length step.change) false)
    → Advances (record old { changes = drop 1 old.changes ++ step.change ∷ [] }) new step.new_mask step.robust → StandsFor (steps ++ step ∷ []) new
StandsFor-next steps step old new stands full robust_most places start a =
    record {
      changes =
          subst (λ n. HoldsLatest (change_back new.changes) change_at (replicate n false) (length after)) (sym a.recent_len)
          (subst (λ n. HoldsLatest (change_back new.changes) change_at (replicate f false) n) (sym (length_push steps step)) changes);
      new_masks = subst (λ n. HoldsLatest (new_mask_back new.new_masks) (takes_new_mask after) false n) (sym (length_push steps step)) new_masks;
      first = first;
      recent = λ some. recent ∙ ap (recent_of after) (sym at);
      level = λ some. sym level ∙ ap (level_of after) (sym at);
      twice = λ some. twice ∙ ap (twice_of after) (sym at);
      taken = a.taken ∙ ap (λ n. n + 1) stands.taken ∙ sym (length_push steps step);
    }
  where
    after : List MaskStep
    after = steps ++ step ∷ []

    t : ℕ
    t = length steps

    at : latest_change after ≡ t
    at = latest_change-push steps step

    f : ℕ
    f = length old.recent

    change_at : ℕ → List Bool
    change_at s = (mask_step after s).change

    last : mask_step after t ≡ step
    last = mask_step-last steps step

    changes : HoldsLatest (change_back new.changes) change_at (replicate f false) (t + 1)
    changes =
        HoldsLatest-more old.changes new.changes [] (replicate f false) step.change (λ s. (mask_step steps s).change) change_at t full a.changes stands.changes
        (λ s lt. ap (λ (m : MaskStep). m.change) (mask_step-before steps step s lt)) (ap (λ (m : MaskStep). m.change) last)

    new_masks : HoldsLatest (new_mask_back new.new_masks) (takes_new_mask after) false (t + 1)
    new_masks =
        HoldsLatest-more old.new_masks new.new_masks false false step.new_mask (takes_new_mask steps) (takes_new_mask after) t a.flags_full a.new_masks stands.new_masks
        (λ s lt. ap (λ (m : MaskStep). m.new_mask) (mask_step-before steps step s lt)) (ap (λ (m : MaskStep). m.new_mask) last)

    quiet_start : (t ≡ 0) ⊎ (t ≡ 0 → ⊥) → IsQuiet after 0
    quiet_start (inl none) place =
        ap (λ s. get_or (change_at s) place false) (sym none) ∙ ap (λ (m : MaskStep). get_or m.change place false) last
        ∙ ap (λ v. get_or v place false) (start (stands.taken ∙ none)) ∙ zero_place (length step.change) place
    quiet_start (inr some) place =
        ap (λ (m : MaskStep). get_or m.change place false) (mask_step-before steps step 0 (omega arith)) ∙ stands.first place

    first : IsQuiet after 0
    first = quiet_start (cases_eq t 0)

    -- the change the given number of steps back is that of the step
    change_is : (back : ℕ) → back < 16 → back ≤ t → change_back new.changes back ≡ change_at (t - back)
    change_is back lt within =
        let same : t + 1 - 1 - back ≡ t - back = omega arith in
        changes.same back lt (omega arith) ∙ ap change_at same

    recent : new.recent ≡ recent_of after t
    recent =
        a.recent ∙ ap (λ (v : List (List Bool)). gathered f v (step.robust + 1)) (sym a.changes)
        ∙ vector_of_same f _ _ (λ place.
        any_back t step.robust (λ back. get_or (change_back new.changes back) place false) (changes_place after place)
        (record {
          same = λ back lt within. ap (λ v. get_or v place false) (change_is back (omega (arith, robust_most)) within);
          none = λ back lt past. ap (λ v. get_or v place false) (changes.past back (omega (arith, robust_most)) (omega arith)) ∙ zero_place f place;
        })
        (first place))
        ∙ recent_of-is after t f step.robust (ap (λ (m : MaskStep). m.robust) last) (ap (λ (m : MaskStep). length m.change) last ∙ places)

    level : level_of after t ≡ new.level
    level =
        level_of-is after t step.robust new.level (ap (λ (m : MaskStep). m.robust) last) a.level_least (omega (arith, a.level_most, stands.taken))
        (λ s ge lt. is_quiet-zeros after s (quiet_at s ge lt))
        (λ less. is_quiet-one after (t - (new.level + 1)) (one_at less))
      where
        quiet_at : (s : ℕ) → t - new.level ≤ s → s < t - step.robust → change_at s ≡ replicate (length (change_at s)) false
        quiet_at s ge lt =
            let back : t - (t - s) ≡ s = omega arith in
            let is : change_back new.changes (t - s) ≡ change_at s = change_is (t - s) (omega (arith, a.level_most, robust_most)) (omega arith) ∙ ap change_at back in
            let zeros : change_at s ≡ replicate f false = sym is ∙ ap (λ (v : List (List Bool)). change_back v (t - s)) a.changes ∙ a.quiet (t - s) (omega arith) (omega arith) in
            zeros ∙ ap (λ n. replicate n false) (sym (ap length zeros ∙ length-replicate f false))

        one_at : new.level < most_level step.robust t → Contains (change_at (t - (new.level + 1))) true
        one_at less =
            subst (λ v. Contains v true) (ap (λ (v : List (List Bool)). change_back v (new.level + 1)) (sym a.changes) ∙ change_is (new.level + 1) (omega (arith, robust_most)) (omega (arith, a.level_least))) (a.stops (omega (arith, stands.taken)))

    twice : new.twice ≡ twice_of after t
    twice =
        let from : t + 1 - (new.level + 1) ≡ t - new.level = omega arith in
        a.twice
        ∙ ap (nat_le 2) (count_back t (new.level + 1) (new_mask_back new.new_masks) (takes_new_mask after) (record {
          same = λ back lt within.
              let same : t + 1 - 1 - back ≡ t - back = omega arith in
              new_masks.same back (omega (arith, a.level_most, robust_most)) (omega arith) ∙ ap (takes_new_mask after) same;
          none = λ back lt past. new_masks.past back (omega (arith, a.level_most, robust_most)) (omega arith);
        }))
        ∙ ap (λ a. nat_le 2 (count_by (takes_new_mask after) (steps_from a (t + 1)))) from
        ∙ twice_of-is after t new.level level
