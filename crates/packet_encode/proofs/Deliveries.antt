-- Which numbers are written and which are listed; later steps do not change earlier packets.
use Rattle.std.specs.List.{filter, flat_map, last_or, range_with_len}
use Rattle.std.proofs.Common.{◌≡◌, ℕ, zero, suc, ◌+◌, ◌-◌, ◌<◌, ◌≤◌, Bool, true, false, cond, ◌⊎◌, List, [], ◌∷◌, ◌++◌, length, replicate, Contains, Option, Some, None, inl, inr, refl, sym, ap, subst, ◌∙◌, arith, take}
use Rattle.std.proofs.lemmas.Bool.{cases_eq, cases_lt, true≢false}
use Rattle.std.proofs.lemmas.Grind.{common_steps, flat_map-append}
use Rattle.std.proofs.lemmas.List.{append-nil, length-take, take_all, take_more}
use Rattle.std.proofs.lemmas.List.Elements.{filter-append, Contains-append_left, Contains-push, Contains-push_cases}
use Rattle.bit_vectors.specs.Vectors.{padded}
use Rattle.mask_update.specs.Histories.{History, Step, flags_at, input_at, no_step, step_at, with_step}
use Rattle.mask_update.specs.Masks.{mask_at}
use Rattle.mask_update.proofs.Standing.{mask_at-before, step_at-before}
use Rattle.mask_update.proofs.StepByStep.{range_push}
use Rattle.robust_window.specs.Histories.{level_at, recent_at, twice_at}
use Rattle.robust_window.proofs.OfHistories.{level_at-before, recent_at-before, twice_at-before}
use Rattle.packet_encode.specs.Deliveries.{arrivals, count_to_last, count_up_to, latest_by, is_mask_known_from, is_mask_known, latest_mask_known, is_written_from, is_written, latest_written, is_known_together_from, is_known_together, latest_known_together, CarriesBoth, IsReached, IsLatest, KnownTogetherAt, Listed, MaskKnownAt, WrittenAt}
use Rattle.packet_encode.specs.Forms.{form_bits, AgreeUpTo, form_at, packet_at}
use Rattle.packet_encode.proofs.Packets.{form_of-same}

-- ---- the latest one that passes a test

pub latest_by-zero : (test : Option ℕ → ℕ → Bool) → latest_by test 0 ≡ None
unfolding latest_by
latest_by-zero test = refl

pub latest_by-suc : (test : Option ℕ → ℕ → Bool) (t : ℕ) → latest_by test (suc t) ≡ cond (test (latest_by test t) t) (Some t) (latest_by test t)
unfolding latest_by
latest_by-suc test t = refl

-- it holds for none before a number, or this is the latest one
abbrev pub IsLatestOr : (ℕ → Type 0) → ℕ → Option ℕ → Type 0
IsLatestOr Holds t None = (s : ℕ) → s < t → Holds s → ⊥
IsLatestOr Holds t (Some latest) = IsLatest Holds t latest

module _ (test : Option ℕ → ℕ → Bool) (Holds : ℕ → Type 0) (from : (t : ℕ) → test (latest_by test t) t ≡ true → Holds t) (to : (t : ℕ) → Holds t → test (latest_by test t) t ≡ true) where
  -- one more number, which passes or doesn't
  latest-more : (t : ℕ) (latest : Option ℕ) → IsLatestOr Holds t latest → (b : Bool) → test (latest_by test t) t ≡ b → IsLatestOr Holds (suc t) (cond b (Some t) latest)
  latest-more t latest is true e = record {
    before = omega arith;
    holds = from t e;
    none_later = λ s after before holds. absurd (omega (arith, after, before));
  }
  latest-more t None none false e = λ s before holds. by_place (cases_eq s t) before holds
    where
      by_place : {s : ℕ} → (s ≡ t) ⊎ (s ≡ t → ⊥) → s < suc t → Holds s → ⊥
      by_place {s} (inl same) before holds = absurd (true≢false (sym (to t (subst Holds same holds)) ∙ e))
      by_place {s} (inr other) before holds = none s (omega (arith, before, other)) holds
  latest-more t (Some latest) is false e = record {
    before = let before = is.before in omega (arith, before);
    holds = is.holds;
    none_later = λ s after before holds. by_place (cases_eq s t) after before holds;
  }
    where
      by_place : {s : ℕ} → (s ≡ t) ⊎ (s ≡ t → ⊥) → latest < s → s < suc t → Holds s → ⊥
      by_place {s} (inl same) after before holds = absurd (true≢false (sym (to t (subst Holds same holds)) ∙ e))
      by_place {s} (inr other) after before holds = is.none_later s after (omega (arith, before, other)) holds

  pub latest-right : (t : ℕ) → IsLatestOr Holds t (latest_by test t)
  latest-right zero = subst (IsLatestOr Holds 0) (sym (latest_by-zero test)) (λ s before holds. absurd (omega (arith, before)))
  latest-right (suc t) =
      subst (IsLatestOr Holds (suc t)) (sym (latest_by-suc test t))
      (latest-more t (latest_by test t) (latest-right t) (test (latest_by test t) t) refl)

-- there is only one answer
pub latest-only : (Holds : ℕ → Type 0) (t : ℕ) (latest other : Option ℕ) → IsLatestOr Holds t latest → IsLatestOr Holds t other → latest ≡ other
latest-only Holds t None None is was = refl
latest-only Holds t None (Some other) none was = absurd (none other was.before was.holds)
latest-only Holds t (Some latest) None is none = absurd (none latest is.before is.holds)
latest-only Holds t (Some latest) (Some other) is was = by_order (cases_lt latest other) (cases_lt other latest)
  where
    by_order : (latest < other) ⊎ (other ≤ latest) → (other < latest) ⊎ (latest ≤ other) → Some latest ≡ Some other
    by_order (inl less) order = absurd (is.none_later other less was.before was.holds)
    by_order (inr most) (inl less) = absurd (was.none_later latest less is.before is.holds)
    by_order (inr most) (inr least) = let same : latest ≡ other = omega (arith, most, least) in ap Some same

-- a level that reaches an earlier one for which it holds reaches the latest one
pub reached_later : (Holds : ℕ → Type 0) (t s level : ℕ) (latest : Option ℕ) → IsLatestOr Holds t latest → s < t → Holds s → t - 1 - s ≤ level → IsReached latest t level
reached_later Holds t s level None none before holds within = absurd (none s before holds)
reached_later Holds t s level (Some latest) is before holds within = elim (cases_lt latest s) [
  | inl less ↦ absurd (is.none_later s less before holds)
  | inr least ↦ omega (arith, least, within)
]

-- ---- masks that become known, and what is written

-- a mask becomes known exactly if the packet arrives and carries it or reaches the latest known one
pub mask_known-from : (h : History) (copies : ℕ → ℕ) (t : ℕ) → is_mask_known h copies t ≡ true → MaskKnownAt h copies t
mask_known-from h copies t is = grind (arith, common_steps)

pub mask_known-to : (h : History) (copies : ℕ → ℕ) (t : ℕ) → MaskKnownAt h copies t → is_mask_known h copies t ≡ true
mask_known-to h copies t known = grind (arith, common_steps)

-- it is written exactly if it arrives and is understood
pub written-from : (h : History) (copies : ℕ → ℕ) (t : ℕ) → is_written h copies t ≡ true → WrittenAt h copies t
written-from h copies t is = grind (arith, common_steps, mask_known-from h copies t)

pub written-to : (h : History) (copies : ℕ → ℕ) (t : ℕ) → WrittenAt h copies t → is_written h copies t ≡ true
written-to h copies t written = grind (arith, common_steps, mask_known-to h copies t)

pub latest_mask-right : (h : History) (copies : ℕ → ℕ) (t : ℕ) → IsLatestOr (MaskKnownAt h copies) t (latest_mask_known h copies t)
latest_mask-right h copies = latest-right (is_mask_known_from h copies) (MaskKnownAt h copies) (mask_known-from h copies) (mask_known-to h copies)

pub latest_written-right : (h : History) (copies : ℕ → ℕ) (t : ℕ) → IsLatestOr (WrittenAt h copies) t (latest_written h copies t)
latest_written-right h copies = latest-right (is_written_from h copies) (WrittenAt h copies) (written-from h copies) (written-to h copies)

-- ---- no packet is lost

pub together-from : (h : History) (copies : ℕ → ℕ) (t : ℕ) → is_known_together h copies t ≡ true → KnownTogetherAt h copies t
together-from h copies t is = grind (arith, common_steps)

pub together-to : (h : History) (copies : ℕ → ℕ) (t : ℕ) → KnownTogetherAt h copies t → is_known_together h copies t ≡ true
together-to h copies t written = grind (arith, common_steps)

pub latest_together-right : (h : History) (copies : ℕ → ℕ) (t : ℕ) → IsLatestOr (KnownTogetherAt h copies) t (latest_known_together h copies t)
latest_together-right h copies = latest-right (is_known_together_from h copies) (KnownTogetherAt h copies) (together-from h copies) (together-to h copies)

-- a packet that arrives and reaches one that is written with its mask known is itself written with its mask known
both_reach : (h : History) (copies : ℕ → ℕ) (t s : ℕ) → 1 ≤ copies t → s < t → t - 1 - s ≤ level_at h t → WrittenAt h copies s × MaskKnownAt h copies s → WrittenAt h copies t × MaskKnownAt h copies t
both_reach h copies t s arrives before within was =
    let mask : MaskKnownAt h copies t = record { arrives = arrives; known = inr (reached_later (MaskKnownAt h copies) t s (level_at h t) (latest_mask_known h copies t) (latest_mask-right h copies t) before was.1 within) } in (
      record { arrives = arrives; known = inr (mask, reached_later (WrittenAt h copies) t s (level_at h t) (latest_written h copies t) (latest_written-right h copies t) before was.0 within) },
      mask,
    )

kept_by : (h : History) (copies : ℕ → ℕ) (t : ℕ) → 1 ≤ copies t → ((s : ℕ) → s < t → KnownTogetherAt h copies s → WrittenAt h copies s × MaskKnownAt h copies s)
    → (latest : Option ℕ) → IsLatestOr (KnownTogetherAt h copies) t latest → CarriesBoth h t ⊎ IsReached latest t (level_at h t) → WrittenAt h copies t × MaskKnownAt h copies t
kept_by h copies t arrives earlier latest is (inl both) = (record { arrives = arrives; known = inl both.1 }, record { arrives = arrives; known = inl both.0 })
kept_by h copies t arrives earlier None none (inr within) = absurd within
kept_by h copies t arrives earlier (Some s) is (inr within) = both_reach h copies t s arrives is.before within (earlier s is.before is.holds)

pub kept_below : (h : History) (copies : ℕ → ℕ) (n t : ℕ) → t < n → KnownTogetherAt h copies t → WrittenAt h copies t × MaskKnownAt h copies t
kept_below h copies zero t below written = absurd (omega (arith, below))
kept_below h copies (suc n) t below written =
    kept_by h copies t written.arrives (λ s before was. kept_below h copies n s (omega (arith, below, before)) was) (latest_known_together h copies t) (latest_together-right h copies t) written.known

-- ---- numbers that pass a test

-- one more number
pub passing_more : (p : ℕ → Bool) (n : ℕ) → filter p (range_with_len 0 (suc n)) ≡ filter p (range_with_len 0 n) ++ cond (p n) (n ∷ []) []
passing_more p n = ap (filter p) (range_push 0 n n (omega arith)) ∙ filter-append p (range_with_len 0 n) (n ∷ [])

passing-to_more : (p : ℕ → Bool) (n t : ℕ) (earlier : List ℕ) → (Contains earlier t → (t < n) × (p t ≡ true))
    → (b : Bool) → p n ≡ b → Contains (earlier ++ cond b (n ∷ []) []) t → (t < suc n) × (p t ≡ true)
passing-to_more p n t earlier before true e has = by_end (Contains-push_cases earlier n t has)
  where
    by_end : Contains earlier t ⊎ (n ≡ t) → (t < suc n) × (p t ≡ true)
    by_end (inl has) = let (below, passes) = before has in (omega (arith, below), passes)
    by_end (inr same) = (omega (arith, same), ap p (sym same) ∙ e)
passing-to_more p n t earlier before false e has =
    let (below, passes) = before (subst (λ xs. Contains xs t) (append-nil earlier) has) in (omega (arith, below), passes)

-- a number is among those below n that pass exactly if it is below n and passes
pub passing-to : (p : ℕ → Bool) (n t : ℕ) → Contains (filter p (range_with_len 0 n)) t → (t < n) × (p t ≡ true)
passing-to p zero t (place, below, is) = absurd (omega (arith, below))
passing-to p (suc n) t has =
    passing-to_more p n t (filter p (range_with_len 0 n)) (passing-to p n t) (p n) refl (subst (λ xs. Contains xs t) (passing_more p n) has)

passing-from_more : (p : ℕ → Bool) (n t : ℕ) (earlier : List ℕ) → (t < n → Contains earlier t) → t < suc n → p t ≡ true
    → (t ≡ n) ⊎ (t ≡ n → ⊥) → Contains (earlier ++ cond (p n) (n ∷ []) []) t
passing-from_more p n t earlier before below passes (inl same) =
    subst (λ b. Contains (earlier ++ cond b (n ∷ []) []) t) (sym passes ∙ ap p same)
    (subst (λ m. Contains (earlier ++ m ∷ []) t) same (Contains-push earlier t))
passing-from_more p n t earlier before below passes (inr other) =
    Contains-append_left earlier (cond (p n) (n ∷ []) []) t (before (omega (arith, below, other)))

pub passing-from : (p : ℕ → Bool) (n t : ℕ) → t < n → p t ≡ true → Contains (filter p (range_with_len 0 n)) t
passing-from p zero t below passes = absurd (omega (arith, below))
passing-from p (suc n) t below passes =
    subst (λ xs. Contains xs t) (sym (passing_more p n))
    (passing-from_more p n t (filter p (range_with_len 0 n)) (λ less. passing-from p n t less passes) below passes (cases_eq t n))

-- ---- the last arrival

last_or-copies : (o : Option ℕ) (numbers : List ℕ) (c t : ℕ) → last_or o (numbers ++ replicate (suc c) t) ≡ Some t
last_or-copies o [] zero t = refl
last_or-copies o [] (suc c) t = last_or-copies (Some t) [] c t
last_or-copies o (x ∷ numbers) c t = last_or-copies (Some x) numbers c t

-- one more packet
pub arrivals-suc : (copies : ℕ → ℕ) (n : ℕ) → arrivals copies (suc n) ≡ arrivals copies n ++ replicate (copies n) n
arrivals-suc copies n =
    ap (flat_map (λ t. replicate (copies t) t)) (range_push 0 n n (omega arith))
    ∙ flat_map-append (λ t. replicate (copies t) t) (range_with_len 0 n) (n ∷ [])
    ∙ ap (λ xs. arrivals copies n ++ xs) (append-nil (replicate (copies n) n))

-- the number of packets up to the last arrival: if the last packet arrives, it is the last arrival
pub count_to_last-none : (copies : ℕ → ℕ) (n : ℕ) → copies n ≡ 0 → count_to_last copies (suc n) ≡ count_to_last copies n
count_to_last-none copies n e =
    ap (λ xs. count_up_to (last_or None xs)) (arrivals-suc copies n ∙ ap (λ c. arrivals copies n ++ replicate c n) e ∙ append-nil (arrivals copies n))

pub count_to_last-some : (copies : ℕ → ℕ) (n c : ℕ) → copies n ≡ suc c → count_to_last copies (suc n) ≡ n + 1
count_to_last-some copies n c e =
    ap (λ xs. count_up_to (last_or None xs)) (arrivals-suc copies n ∙ ap (λ c. arrivals copies n ++ replicate c n) e)
    ∙ ap count_up_to (last_or-copies None (arrivals copies n) c n)

-- a packet that arrives is one up to the last arrival
pub arrived-heard : (copies : ℕ → ℕ) (n t : ℕ) → t < n → 1 ≤ copies t → t < count_to_last copies n
arrived-heard copies zero t below arrives = absurd (omega (arith, below))
arrived-heard copies (suc n) t below arrives = by_copies (copies n) refl (λ less. arrived-heard copies n t less arrives) (cases_eq t n)
  where
    by_copies : (c : ℕ) → copies n ≡ c → (t < n → t < count_to_last copies n) → (t ≡ n) ⊎ (t ≡ n → ⊥) → t < count_to_last copies (suc n)
    by_copies zero none before (inl same) = let arrives = subst (λ m. 1 ≤ copies m) same arrives in absurd (omega (arith, arrives, none))
    by_copies zero none before (inr other) =
        let heard : t < count_to_last copies n = before (omega (arith, below, other)) in
        let is : count_to_last copies (suc n) ≡ count_to_last copies n = count_to_last-none copies n none in
        omega (arith, heard, is)
    by_copies (suc c) some before order = let is : count_to_last copies (suc n) ≡ n + 1 = count_to_last-some copies n c some in omega (arith, below, is)

-- each packet up to the last arrival is written or listed
pub written_or_listed : (h : History) (copies : ℕ → ℕ) (t : ℕ) → t < count_to_last copies (length h.steps) → WrittenAt h copies t ⊎ Listed h copies t
written_or_listed h copies t heard = by_test (is_written h copies t) refl
  where
    by_test : (b : Bool) → is_written h copies t ≡ b → WrittenAt h copies t ⊎ Listed h copies t
    by_test true e = inl (written-from h copies t e)
    by_test false e = inr (record { heard = heard; unwritten = λ written. let is = written-to h copies t written in grind (arith, common_steps) })

-- ---- later steps do not change the packets of the earlier steps

form_at-before : (h : History) (step : Step) (t : ℕ) → t < length h.steps → form_at (with_step h step) t ≡ form_at h t
form_at-before h step t lt =
    let after : History = with_step h step in
    form_of-same (mask_at after t) (mask_at h t) (recent_at after t) (recent_at h t) (level_at after t) (level_at h t) (twice_at after t) (twice_at h t)
    (input_at after t) (input_at h t) (flags_at after t) (flags_at h t)
    (mask_at-before h step t (omega arith)) (recent_at-before h step t lt) (level_at-before h step t lt) (twice_at-before h step t lt)
    (ap (λ (s : Step). s.input) (step_at-before h step t lt)) (ap (λ (s : Step). s.flags) (step_at-before h step t lt))

pub packet_at-before : (h : History) (step : Step) (t : ℕ) → t < length h.steps → packet_at (with_step h step) t ≡ packet_at h t
packet_at-before h step t lt = ap (λ form. padded (form_bits form)) (form_at-before h step t lt)

-- ---- the first steps alone

abbrev with_steps : ℕ → List Bool → List Step → History
with_steps places first_mask steps = record { places = places; first_mask = first_mask; steps = steps }

-- the history of the given number of first steps
abbrev first_steps : History → ℕ → History
first_steps h count = with_steps h.places h.first_mask (take count h.steps)

first_steps-more : (h : History) (count : ℕ) → count < length h.steps → first_steps h (count + 1) ≡ with_step (first_steps h count) (step_at h count)
first_steps-more h count lt = ap (with_steps h.places h.first_mask) (take_more h.steps count no_step lt)

fewer_steps : (h : History) (t more : ℕ) → t + 1 + more ≤ length h.steps → packet_at (first_steps h (t + 1 + more)) t ≡ packet_at (first_steps h (t + 1)) t
fewer_steps h t zero le = let same : t + 1 + 0 ≡ t + 1 = omega arith in ap (λ n. packet_at (first_steps h n) t) same
fewer_steps h t (suc more) le =
    let next : t + 1 + suc more ≡ t + 1 + more + 1 = omega arith in
    ap (λ n. packet_at (first_steps h n) t) next
    ∙ ap (λ (x : History). packet_at x t) (first_steps-more h (t + 1 + more) (omega arith))
    ∙ packet_at-before (first_steps h (t + 1 + more)) (step_at h (t + 1 + more)) t (omega (arith, length-take (t + 1 + more) h.steps))
    ∙ fewer_steps h t more (omega arith)

packet_at-first : (h : History) (t : ℕ) → t < length h.steps → packet_at h t ≡ packet_at (first_steps h (t + 1)) t
packet_at-first h t lt =
    let all : t + 1 + (length h.steps - (t + 1)) ≡ length h.steps = omega arith in
    ap (λ steps. packet_at (with_steps h.places h.first_mask steps) t) (sym (take_all (length h.steps) h.steps (omega arith)))
    ∙ ap (λ n. packet_at (first_steps h n) t) (sym all)
    ∙ fewer_steps h t (length h.steps - (t + 1)) (omega arith)

pub packet_at-same : (h other : History) (t : ℕ) → t < length h.steps → AgreeUpTo h other t → packet_at h t ≡ packet_at other t
packet_at-same h other t lt agree =
    let within : t < length other.steps = omega (arith, ap length agree.steps, length-take (t + 1) h.steps, length-take (t + 1) other.steps) in
    packet_at-first h t lt
    ∙ ap (λ places. packet_at (with_steps places h.first_mask (take (t + 1) h.steps)) t) agree.places
    ∙ ap (λ first_mask. packet_at (with_steps other.places first_mask (take (t + 1) h.steps)) t) agree.first_mask
    ∙ ap (λ steps. packet_at (with_steps other.places other.first_mask steps) t) agree.steps
    ∙ sym (packet_at-first other t within)
