-- The window values of a history, in terms of its changes, which more steps do not change.
use Rattle.std.specs.List.{count_by, list_all, list_any, range_with_len}
use Rattle.std.specs.Prelude.{nat_le, not, Contains, IsTrue}
use Rattle.std.proofs.Common.{◌≡◌, ℕ, ◌+◌, ◌-◌, ◌<◌, ◌≤◌, Bool, false, List, [], ◌∷◌, ◌++◌, length, map, get_or, refl, sym, ap, ◌∙◌, inl, inr, max, arith, true, replicate, subst}
use Rattle.std.proofs.lemmas.Bool.{cases_order, false≢true, cases_eq, cases_lt, leb-true, le-leb}
use Rattle.std.proofs.lemmas.List.{length_push, get_or-replicate}
use Rattle.std.proofs.lemmas.List.FromFn.{length-map-range_with_len, map-range_with_len_more, get_or-map-range_with_len}
use Rattle.bit_vectors.specs.Vectors.{IsOne}
use Rattle.mask_update.specs.Histories.{History, Step, latest_step, with_step, robust_at}
use Rattle.mask_update.specs.Masks.{vector_by, change_at, new_mask_at}
use Rattle.mask_update.proofs.Standing.{change_at-before, step_at-before, change_at-zero}
use Rattle.mask_update.proofs.StepByStep.{vector_of_same, place_of, length-change_at}
use Rattle.robust_window.specs.Changes.{MaskStep, changes_place, is_quiet, is_quiet_back, latest_change, level_of, mask_step, recent_of, steps_from, takes_new_mask, twice_of, most_level, no_mask_step}
use Rattle.robust_window.specs.Histories.{level_at, mask_step_at, mask_steps, recent_at, twice_at, IsLevel, LeavesMask, Twice}
use Rattle.robust_window.proofs.Ranges.{level_of-greatest, all_same, any_same, count_same, map_same, is_quiet-zeros, one-is_quiet, zeros-is_quiet, TwoPass, TwoPass-from_count, count-from_TwoPass, list_all-from_range, list_all-in_range, list_any-from_range, list_any-in_range, true_or}
use Rattle.robust_window.proofs.Standing.{mask_step-before}

-- ---- more steps do not change the window values of the earlier steps

-- the steps are the same up to a number
abbrev SameSteps : List MaskStep → List MaskStep → ℕ → Type 0
SameSteps steps others t = (s : ℕ) → s ≤ t → mask_step steps s ≡ mask_step others s

recent_of-same : (steps others : List MaskStep) (t : ℕ) → SameSteps steps others t → recent_of steps t ≡ recent_of others t
unfolding recent_of
recent_of-same steps others t agree =
    ap (λ (m : MaskStep). vector_by (length m.change) (λ place. list_any (changes_place steps place) (steps_from (max 1 (t - m.robust)) (t + 1)))) (agree t (omega arith))
    ∙ vector_of_same (length (mask_step others t).change) _ _ (λ place.
    any_same (changes_place steps place) (changes_place others place) (max 1 (t - (mask_step others t).robust)) (t + 1)
    (λ s lt. ap (λ (m : MaskStep). get_or m.change place false) (agree s (omega arith))))

is_quiet_back_to : List MaskStep → ℕ → ℕ → ℕ → Bool
is_quiet_back_to steps t level robust = list_all (is_quiet steps) (steps_from (t - level) (t - robust))

quiet_same : (steps others : List MaskStep) (t level : ℕ) → SameSteps steps others t → is_quiet_back steps t level ≡ is_quiet_back others t level
unfolding is_quiet_back_to
quiet_same steps others t level agree =
    ap (λ (m : MaskStep). is_quiet_back_to steps t level m.robust) (agree t (omega arith))
    ∙ all_same (is_quiet steps) (is_quiet others) (t - level) (t - (mask_step others t).robust)
    (λ s lt. ap (λ (m : MaskStep). not (list_any (λ bit. bit) m.change)) (agree s (omega arith)))

level_of-same : (steps others : List MaskStep) (t : ℕ) → SameSteps steps others t → level_of steps t ≡ level_of others t
level_of-same steps others t agree =
    let robust = (mask_step others t).robust in
    let one = level_of-greatest steps t robust (ap (λ (m : MaskStep). m.robust) (agree t (omega arith))) in
    let other = level_of-greatest others t robust refl in
    elim (cases_order (level_of steps t) (level_of others t)) [
      | inl same ↦ same
      | inr apart ↦ elim apart [
        | inl below ↦
            absurd (false≢true (sym (one.others (level_of others t) below other.most) ∙ quiet_same steps others t (level_of others t) agree ∙ other.passes))
        | inr above ↦
            absurd (false≢true (sym (other.others (level_of steps t) above one.most) ∙ sym (quiet_same steps others t (level_of steps t) agree) ∙ one.passes))
      ]
    ]

twice_of-same : (steps others : List MaskStep) (t : ℕ) → SameSteps steps others t → twice_of steps t ≡ twice_of others t
unfolding twice_of
twice_of-same steps others t agree =
    ap (λ v. nat_le 2 (count_by (takes_new_mask steps) (steps_from (t - v) (t + 1)))) (level_of-same steps others t agree)
    ∙ ap (nat_le 2) (count_same (takes_new_mask steps) (takes_new_mask others) (t - level_of others t) (t + 1) (λ s lt. ap (λ (m : MaskStep). m.new_mask) (agree s (omega arith))))

-- ---- for a history

mask_step_at-before : (h : History) (step : Step) (s : ℕ) → s < length h.steps → mask_step_at (with_step h step) s ≡ mask_step_at h s
mask_step_at-before h step s lt =
    ap (λ v. record { change = v; new_mask = (mask_step_at (with_step h step) s).new_mask; robust = (mask_step_at (with_step h step) s).robust }) (change_at-before h step s (omega arith))
    ∙ ap (λ (x : Step). record { change = (mask_step_at h s).change; new_mask = x.flags.p; robust = x.robust }) (step_at-before h step s lt)

pub mask_steps-push : (h : History) (step : Step) → mask_steps (with_step h step) ≡ mask_steps h ++ mask_step_at (with_step h step) (length h.steps) ∷ []
mask_steps-push h step =
    ap (λ n. map (mask_step_at (with_step h step)) (range_with_len 0 n)) (length_push h.steps step)
    ∙ map-range_with_len_more (mask_step_at (with_step h step)) 0 (length h.steps) (length h.steps) (omega arith)
    ∙ ap (λ xs. xs ++ mask_step_at (with_step h step) (length h.steps) ∷ [])
    (map_same (mask_step_at (with_step h step)) (mask_step_at h) 0 (length h.steps) (λ s lt. mask_step_at-before h step s (omega arith)))

agree-before : (h : History) (step : Step) (t : ℕ) → t < length h.steps → SameSteps (mask_steps (with_step h step)) (mask_steps h) t
agree-before h step t lt s le =
    ap (λ steps. mask_step steps s) (mask_steps-push h step)
    ∙ mask_step-before (mask_steps h) (mask_step_at (with_step h step) (length h.steps)) s (omega (arith, length-map-range_with_len (mask_step_at h) 0 (length h.steps)))

pub recent_at-before : (h : History) (step : Step) (t : ℕ) → t < length h.steps → recent_at (with_step h step) t ≡ recent_at h t
recent_at-before h step t lt = recent_of-same (mask_steps (with_step h step)) (mask_steps h) t (agree-before h step t lt)

pub level_at-before : (h : History) (step : Step) (t : ℕ) → t < length h.steps → level_at (with_step h step) t ≡ level_at h t
level_at-before h step t lt = level_of-same (mask_steps (with_step h step)) (mask_steps h) t (agree-before h step t lt)

pub twice_at-before : (h : History) (step : Step) (t : ℕ) → t < length h.steps → twice_at (with_step h step) t ≡ twice_at h t
twice_at-before h step t lt = twice_of-same (mask_steps (with_step h step)) (mask_steps h) t (agree-before h step t lt)

-- the latest of a history's changes is the change at its latest step
pub latest_change-is : (h : History) → latest_change (mask_steps h) ≡ latest_step h
latest_change-is h = ap (λ n. n - 1) (length-map-range_with_len (mask_step_at h) 0 (length h.steps))

-- ---- the window values of a history, in terms of its changes

pub mask_step-is : (h : History) (t : ℕ) → t < length h.steps → mask_step (mask_steps h) t ≡ mask_step_at h t
mask_step-is h t lt = get_or-map-range_with_len (mask_step_at h) 0 (length h.steps) t t no_mask_step lt (omega arith)

change-is : (h : History) (t : ℕ) → t < length h.steps → (mask_step (mask_steps h) t).change ≡ change_at h t
change-is h t lt = ap (λ (m : MaskStep). m.change) (mask_step-is h t lt)

robust-is : (h : History) (t : ℕ) → t < length h.steps → (mask_step (mask_steps h) t).robust ≡ robust_at h t
robust-is h t lt = ap (λ (m : MaskStep). m.robust) (mask_step-is h t lt)

-- ---- recent changes

pub length-recent_at : (h : History) (t : ℕ) → t < length h.steps → length (recent_at h t) ≡ h.places
unfolding recent_of
length-recent_at h t lt = length-map-range_with_len _ 0 (length (mask_step (mask_steps h) t).change) ∙ ap length (change-is h t lt) ∙ length-change_at h t

recent_bit : (h : History) (t place : ℕ) → t < length h.steps → place < h.places → get_or (recent_at h t) place false ≡ list_any (changes_place (mask_steps h) place) (steps_from (max 1 (t - robust_at h t)) (t + 1))
unfolding recent_of
recent_bit h t place lt within =
    let steps = mask_steps h in
    place_of (length (mask_step steps t).change) (λ k. list_any (changes_place steps k) (steps_from (max 1 (t - (mask_step steps t).robust)) (t + 1))) place
    (omega (arith, ap length (change-is h t lt), length-change_at h t))
    ∙ ap (λ r. list_any (changes_place steps place) (steps_from (max 1 (t - r)) (t + 1))) (robust-is h t lt)

-- one of the latest steps changes the place
abbrev pub ChangedLately : History → ℕ → ℕ → Type 0
ChangedLately h t place = (s : ℕ) × (t - robust_at h t ≤ s) × (s ≤ t) × IsOne (change_at h s) place

pub recent_at-places : (h : History) (t place : ℕ) → t < length h.steps → place < h.places → (IsOne (recent_at h t) place → ChangedLately h t place) × (ChangedLately h t place → IsOne (recent_at h t) place)
recent_at-places h t place lt within = (forth, back)
  where
    from : ℕ
    from = max 1 (t - robust_at h t)

    forth : IsOne (recent_at h t) place → (s : ℕ) × (t - robust_at h t ≤ s) × (s ≤ t) × IsOne (change_at h s) place
    forth one =
        let found = list_any-from_range (changes_place (mask_steps h) place) from (t + 1) (sym (recent_bit h t place lt within) ∙ one) in
        (found.0, omega (arith, found.1), omega (arith, found.2), ap (λ v. get_or v place false) (sym (change-is h found.0 (omega (arith, found.2)))) ∙ found.3)

    back : (s : ℕ) × (t - robust_at h t ≤ s) × (s ≤ t) × IsOne (change_at h s) place → IsOne (recent_at h t) place
    back changed =
        elim (cases_eq changed.0 0) [
          | inl start ↦
              absurd (false≢true (sym (get_or-replicate h.places place false false within) ∙ ap (λ v. get_or v place false) (sym (change_at-zero h)) ∙ ap (λ s. get_or (change_at h s) place false) (sym start) ∙ changed.3))
          | inr some ↦
              recent_bit h t place lt within
              ∙ list_any-in_range (changes_place (mask_steps h) place) from (t + 1) changed.0 (omega (arith, changed.1)) (omega (arith, changed.2))
              (ap (λ v. get_or v place false) (change-is h changed.0 (omega (arith, changed.2))) ∙ changed.3)
        ]

-- ---- the level

quiet-at : (h : History) (s : ℕ) → s < length h.steps → is_quiet (mask_steps h) s ≡ true → LeavesMask h s
quiet-at h s lt quiet =
    let same = change-is h s lt in
    sym same ∙ zeros-is_quiet (mask_steps h) s quiet ∙ ap (λ n. replicate n false) (ap length same ∙ length-change_at h s)

at-quiet : (h : History) (s : ℕ) → s < length h.steps → LeavesMask h s → is_quiet (mask_steps h) s ≡ true
at-quiet h s lt quiet =
    let same = change-is h s lt in
    is_quiet-zeros (mask_steps h) s (same ∙ quiet ∙ ap (λ n. replicate n false) (sym (ap length same ∙ length-change_at h s)))

pub IsLevel-level_at : (h : History) (t : ℕ) → t < length h.steps → IsLevel h t (level_at h t)
IsLevel-level_at h t lt =
    let greatest = level_of-greatest (mask_steps h) t (robust_at h t) (robust-is h t lt) in
    record {
      least = greatest.least;
      most = omega (arith, greatest.most);
      quiet = λ s ge below.
          quiet-at h s (omega arith)
          (list_all-in_range (is_quiet (mask_steps h)) (t - level_at h t) (t - (mask_step (mask_steps h) t).robust) s greatest.passes ge (omega (arith, robust-is h t lt)));
    }

pub level_at-greatest : (h : History) (t level : ℕ) → t < length h.steps → IsLevel h t level → level ≤ level_at h t
level_at-greatest h t level lt is =
    let greatest = level_of-greatest (mask_steps h) t (robust_at h t) (robust-is h t lt) in
    elim (cases_lt (level_at h t) level) [
      | inl above ↦
          absurd (false≢true (sym (greatest.others level above (omega (arith, is.most)))
          ∙ list_all-from_range (is_quiet (mask_steps h)) (t - level) (t - (mask_step (mask_steps h) t).robust) (λ s ge below.
          at-quiet h s (omega arith) (is.quiet s ge (omega (arith, robust-is h t lt))))))
      | inr le ↦ le
    ]

pub level_at-stops : (h : History) (t : ℕ) → t < length h.steps → level_at h t < most_level (robust_at h t) t → Contains (change_at h (t - (level_at h t + 1))) true
level_at-stops h t lt less =
    elim (true_or (is_quiet (mask_steps h) before)) [
      | inl quiet ↦ absurd (omega (arith, level_at-greatest h t (level_at h t + 1) lt (further quiet)))
      | inr changes ↦ subst (λ v. Contains v true) (change-is h before (omega arith)) (one-is_quiet (mask_steps h) before changes)
    ]
  where
    before : ℕ
    before = t - (level_at h t + 1)

    is : IsLevel h t (level_at h t)
    is = IsLevel-level_at h t lt

    further : is_quiet (mask_steps h) before ≡ true → IsLevel h t (level_at h t + 1)
    further quiet =
        record {
          least = omega (arith, is.least);
          most = omega arith;
          quiet = λ s ge below.
              elim (cases_eq s before) [
                | inl at ↦ quiet-at h s (omega arith) (ap (is_quiet (mask_steps h)) at ∙ quiet)
                | inr other ↦ is.quiet s (omega arith) below
              ];
        }

-- ---- twice

twice-pass : (h : History) (t : ℕ) → IsTrue (twice_at h t) → TwoPass (takes_new_mask (mask_steps h)) (t - level_at h t) (t + 1)
unfolding twice_of
twice-pass h t twice = TwoPass-from_count (takes_new_mask (mask_steps h)) (t - level_at h t) (t + 1) (leb-true 2 _ twice)

pass-twice : (h : History) (t : ℕ) → TwoPass (takes_new_mask (mask_steps h)) (t - level_at h t) (t + 1) → IsTrue (twice_at h t)
unfolding twice_of
pass-twice h t two = le-leb 2 _ (count-from_TwoPass (takes_new_mask (mask_steps h)) (t - level_at h t) (t + 1) two)

pub twice_at-meaning : (h : History) (t : ℕ) → t < length h.steps → (IsTrue (twice_at h t) → Twice h t) × (Twice h t → IsTrue (twice_at h t))
twice_at-meaning h t lt = (forth, back)
  where
    flag-is : (s : ℕ) → s < length h.steps → takes_new_mask (mask_steps h) s ≡ new_mask_at h s
    flag-is s within = ap (λ (m : MaskStep). m.new_mask) (mask_step-is h s within)

    forth : IsTrue (twice_at h t) → Twice h t
    forth twice =
        let two = twice-pass h t twice in
        record {
          first = two.first;
          second = two.second;
          from = two.from_is;
          apart = two.apart;
          to = omega (arith, two.to_is);
          first_takes = sym (flag-is two.first (omega (arith, two.apart, two.to_is))) ∙ two.first_passes;
          second_takes = sym (flag-is two.second (omega (arith, two.to_is))) ∙ two.second_passes;
        }

    back : Twice h t → IsTrue (twice_at h t)
    back two =
        pass-twice h t (record {
          first = two.first;
          second = two.second;
          from_is = two.from;
          apart = two.apart;
          to_is = omega (arith, two.to);
          first_passes = flag-is two.first (omega (arith, two.apart, two.to)) ∙ two.first_takes;
          second_passes = flag-is two.second (omega (arith, two.to)) ∙ two.second_takes;
        })
