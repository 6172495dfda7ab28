-- What is sure: which masks and packets, for each history that was foreseen.
use Rattle.std.proofs.Common.{◌≡◌, ℕ, ◌+◌, ◌==◌, nat_lt, ◌&&◌, ◌||◌, Bool, true, false, cond, Some, refl, add-one, arith, zero, suc, ◌-◌, ◌<◌, ◌≤◌, ◌⊎◌, List, length, Option, None, inl, inr, sym, ap, ◌∙◌, subst}
use Rattle.std.proofs.lemmas.Bool.{cases_lt}
use Rattle.std.proofs.lemmas.Grind.{common_steps}
use Rattle.bit_vectors.specs.declared.flags.Flags.{Flags}
use Rattle.mask_update.specs.Histories.{History, Step, flags_at, history_of, robust_at}
use Rattle.mask_update.proofs.StepByStep.{length-history_of, step_at-history_of}
use Rattle.robust_window.specs.Histories.{level_at}
use Rattle.robust_window.proofs.OfHistories.{IsLevel-level_at}
use Rattle.side_tables.specs.Rows.{ScheduleRows, flags_of}
use Rattle.side_tables.specs.declared.rows.CopyRow.{CopyRow}
use Rattle.packet_encode.specs.Deliveries.{reaches, IsReached, MaskKnownAt, WrittenAt, latest_mask_known, latest_written}
use Rattle.packet_encode.proofs.Deliveries.{IsLatestOr, latest-right, latest_by-suc, latest_mask-right, latest_written-right, reached_later}
use Rattle.forecast.specs.Prospects.{Prospect, IsMaskSure, IsSure, fate_by, fate_of, is_mask_sure, is_mask_sure_from, is_sure, is_sure_from, latest_mask_sure, latest_sure, IsForeseen, prospect_of, robust_by}
use Rattle.forecast.specs.Stretches.{same_fate}
use Rattle.forecast.specs.declared.fate.Fate.TheVariants.{Sure}

-- ---- which masks and packets are sure

pub mask_sure-from : (p : Prospect) (t : ℕ) → is_mask_sure p t ≡ true → IsMaskSure p t
mask_sure-from p t is = grind (arith, common_steps)

pub mask_sure-to : (p : Prospect) (t : ℕ) → IsMaskSure p t → is_mask_sure p t ≡ true
mask_sure-to p t sure = grind (arith, common_steps)

pub sure-from : (p : Prospect) (t : ℕ) → is_sure p t ≡ true → IsSure p t
sure-from p t is = grind (arith, common_steps, mask_sure-from p t)

pub sure-to : (p : Prospect) (t : ℕ) → IsSure p t → is_sure p t ≡ true
sure-to p t sure = grind (arith, common_steps, mask_sure-to p t)

pub mask_sure-right : (p : Prospect) (t : ℕ) → IsLatestOr (IsMaskSure p) t (latest_mask_sure p t)
mask_sure-right p = latest-right (is_mask_sure_from p) (IsMaskSure p) (mask_sure-from p) (mask_sure-to p)

pub latest_sure-right : (p : Prospect) (t : ℕ) → IsLatestOr (IsSure p) t (latest_sure p t)
latest_sure-right p = latest-right (is_sure_from p) (IsSure p) (sure-from p) (sure-to p)

-- ---- one more packet

pub latest_mask-next : (p : Prospect) (t : ℕ) → latest_mask_sure p (t + 1) ≡ cond (is_mask_sure p t) (Some t) (latest_mask_sure p t)
latest_mask-next p t = rw add-one (latest_by-suc (is_mask_sure_from p) t)

pub latest_sure-next : (p : Prospect) (t : ℕ) → latest_sure p (t + 1) ≡ cond (is_sure p t) (Some t) (latest_sure p t)
latest_sure-next p t = rw add-one (latest_by-suc (is_sure_from p) t)

-- ---- fates

pub same_sure : (p : Prospect) (t : ℕ) → same_fate (fate_of p t) Sure ≡ is_sure p t
same_sure p t = by_tests (p.copies t) (nat_lt 0 (p.copies t)) refl ((p.flags t).r || is_mask_sure p t && reaches (latest_sure p t) t (p.robust t))
  where
    by_tests : (copies : ℕ) (arrives : Bool) → nat_lt 0 copies ≡ arrives → (known : Bool) → same_fate (fate_by copies (arrives && known)) Sure ≡ (arrives && known)
    by_tests copies false none known = let is : copies ≡ 0 = grind (arith, common_steps) in rw is refl
    by_tests copies true some known = by_known known (let is : (copies == 0) ≡ false = grind (arith, common_steps) in is)
      where
        by_known : (known : Bool) → (copies == 0) ≡ false → same_fate (fate_by copies known) Sure ≡ known
        by_known true is = rw is refl
        by_known false is = rw is refl

-- ---- what is sure is written, for each history that was foreseen; and what is written is sure if the levels are the required ones

-- A latest packet here is at most the latest there, so what reaches it here reaches the latest one there, if it reaches as far.
carried : (Here There : ℕ → Type 0) (t level wider : ℕ) (latest other : Option ℕ) → IsLatestOr Here t latest → IsLatestOr There t other
    → ((s : ℕ) → s < t → Here s → There s) → ((s : ℕ) → s < t → t - 1 - s ≤ level → t - 1 - s ≤ wider) → IsReached latest t level → IsReached other t wider
carried Here There t level wider None other is was along reach within = absurd within
carried Here There t level wider (Some s) other is was along reach within =
    reached_later There t s wider other was is.before (along s is.before is.holds) (reach s is.before within)

module _ (p : Prospect) (h : History) (foreseen : IsForeseen p h) (levels : (t : ℕ) → t < length h.steps → robust_at h t ≤ level_at h t) where
  -- the level reaches at least as far as the required robustness
  wider : (t : ℕ) → t < length h.steps → (s : ℕ) → s < t → t - 1 - s ≤ p.robust t → t - 1 - s ≤ level_at h t
  wider t below s before within =
      let robust = foreseen.robust t below in
      let level = levels t below in
      omega (arith, robust, level, within)

  pub mask_known : (n t : ℕ) → t < n → t < length h.steps → IsMaskSure p t → MaskKnownAt h p.copies t
  mask_known zero t under below sure = absurd (omega (arith, under))
  mask_known (suc n) t under below sure =
      record { arrives = sure.arrives; known = by_known (λ s before was. mask_known n s (omega (arith, under, before)) (omega (arith, below, before)) was) sure.known }
    where
      by_known : ((s : ℕ) → s < t → IsMaskSure p s → MaskKnownAt h p.copies s) → ((p.flags t).f ≡ true) ⊎ IsReached (latest_mask_sure p t) t (p.robust t) → ((flags_at h t).f ≡ true) ⊎ IsReached (latest_mask_known h p.copies t) t (level_at h t)
      by_known earlier (inl sent) = inl (ap (λ (f : Flags). f.f) (foreseen.flags t below) ∙ sent)
      by_known earlier (inr within) =
          inr (carried (IsMaskSure p) (MaskKnownAt h p.copies) t (p.robust t) (level_at h t) (latest_mask_sure p t) (latest_mask_known h p.copies t)
          (mask_sure-right p t) (latest_mask-right h p.copies t) earlier (wider t below) within)

  pub written : (n t : ℕ) → t < n → t < length h.steps → IsSure p t → WrittenAt h p.copies t
  written zero t under below sure = absurd (omega (arith, under))
  written (suc n) t under below sure =
      record { arrives = sure.arrives; known = by_known (λ s before was. written n s (omega (arith, under, before)) (omega (arith, below, before)) was) sure.known }
    where
      by_known : ((s : ℕ) → s < t → IsSure p s → WrittenAt h p.copies s) → ((p.flags t).r ≡ true) ⊎ IsMaskSure p t × IsReached (latest_sure p t) t (p.robust t)
          → ((flags_at h t).r ≡ true) ⊎ MaskKnownAt h p.copies t × IsReached (latest_written h p.copies t) t (level_at h t)
      by_known earlier (inl whole) = inl (ap (λ (f : Flags). f.r) (foreseen.flags t below) ∙ whole)
      by_known earlier (inr (mask, within)) =
          inr (
            mask_known (suc t) t (omega arith) below mask,
            carried (IsSure p) (WrittenAt h p.copies) t (p.robust t) (level_at h t) (latest_sure p t) (latest_written h p.copies t)
                (latest_sure-right p t) (latest_written-right h p.copies t) earlier (wider t below) within,
          )

  -- ---- the other way, if each level is the required one

  module _ (exact : (s : ℕ) → s < length h.steps → robust_at h s + 1 < s → level_at h s ≡ robust_at h s) where
    -- up to one above its required robustness a packet reaches every one before it
    narrower : (t : ℕ) → t < length h.steps → (s : ℕ) → s < t → t - 1 - s ≤ level_at h t → t - 1 - s ≤ p.robust t
    narrower t below s before within = by_number (cases_lt (robust_at h t + 1) t)
      where
        robust : robust_at h t ≡ p.robust t
        robust = foreseen.robust t below

        by_number : (robust_at h t + 1 < t) ⊎ (t ≤ robust_at h t + 1) → t - 1 - s ≤ p.robust t
        by_number (inl above) = let level = exact t below above in omega (arith, level, within, robust)
        by_number (inr up_to) = omega (arith, up_to, robust)

    mask_sure : (n t : ℕ) → t < n → t < length h.steps → MaskKnownAt h p.copies t → IsMaskSure p t
    mask_sure zero t under below known = absurd (omega (arith, under))
    mask_sure (suc n) t under below known =
        record { arrives = known.arrives; known = by_known (λ s before was. mask_sure n s (omega (arith, under, before)) (omega (arith, below, before)) was) known.known }
      where
        by_known : ((s : ℕ) → s < t → MaskKnownAt h p.copies s → IsMaskSure p s) → ((flags_at h t).f ≡ true) ⊎ IsReached (latest_mask_known h p.copies t) t (level_at h t) → ((p.flags t).f ≡ true) ⊎ IsReached (latest_mask_sure p t) t (p.robust t)
        by_known earlier (inl sent) = inl (sym (ap (λ (f : Flags). f.f) (foreseen.flags t below)) ∙ sent)
        by_known earlier (inr within) =
            inr (carried (MaskKnownAt h p.copies) (IsMaskSure p) t (level_at h t) (p.robust t) (latest_mask_known h p.copies t) (latest_mask_sure p t)
            (latest_mask-right h p.copies t) (mask_sure-right p t) earlier (narrower t below) within)

    pub sure : (n t : ℕ) → t < n → t < length h.steps → WrittenAt h p.copies t → IsSure p t
    sure zero t under below is = absurd (omega (arith, under))
    sure (suc n) t under below is =
        record { arrives = is.arrives; known = by_known (λ s before was. sure n s (omega (arith, under, before)) (omega (arith, below, before)) was) is.known }
      where
        by_known : ((s : ℕ) → s < t → WrittenAt h p.copies s → IsSure p s) → ((flags_at h t).r ≡ true) ⊎ MaskKnownAt h p.copies t × IsReached (latest_written h p.copies t) t (level_at h t)
            → ((p.flags t).r ≡ true) ⊎ IsMaskSure p t × IsReached (latest_sure p t) t (p.robust t)
        by_known earlier (inl whole) = inl (sym (ap (λ (f : Flags). f.r) (foreseen.flags t below)) ∙ whole)
        by_known earlier (inr (mask, within)) =
            inr (
              mask_sure (suc t) t (omega arith) below mask,
              carried (WrittenAt h p.copies) (IsSure p) t (level_at h t) (p.robust t) (latest_written h p.copies t) (latest_sure p t)
                  (latest_written-right h p.copies t) (latest_sure-right p t) earlier (narrower t below) within,
            )

-- ---- of every history

-- a level is at least the required robustness
pub at_least : (h : History) (t : ℕ) → t < length h.steps → robust_at h t ≤ level_at h t
at_least h t below = (IsLevel-level_at h t below).least

-- a packet that is sure is written
pub written_sure : (p : Prospect) (h : History) (t : ℕ) → IsForeseen p h → t < length h.steps → IsSure p t → WrittenAt h p.copies t
written_sure p h t foreseen below is = written p h foreseen (at_least h) (suc t) t (omega arith) below is

-- the history of any inputs under a schedule is foreseen
pub IsForeseen-history_of : (plan : ScheduleRows) (robust : ℕ) (script : List CopyRow) (inputs : List (List Bool)) (f : ℕ) (mask : List Bool) → IsForeseen (prospect_of plan robust script) (history_of inputs (flags_of plan.flags) (robust_by plan robust) f mask)
IsForeseen-history_of plan robust script inputs f mask =
    let flags = flags_of plan.flags in
    let steps = length-history_of inputs flags (robust_by plan robust) f mask in
    record {
      flags = λ t below. ap (λ (s : Step). s.flags) (step_at-history_of inputs flags (robust_by plan robust) f mask t (subst (λ (n : ℕ). t < n) steps below));
      robust = λ t below. ap (λ (s : Step). s.robust) (step_at-history_of inputs flags (robust_by plan robust) f mask t (subst (λ (n : ℕ). t < n) steps below));
    }
