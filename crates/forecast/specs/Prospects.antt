-- Which packets are sure to be written, whatever the recording is.
use Rattle.std.specs.Prelude.{◌≡◌, ℕ, ◌<◌, ◌≤◌, nat_lt, ◌⊎◌, ◌==◌, Bool, true, ◌&&◌, ◌||◌, if◌then◌else◌, List, length, Option, unwrap_or}
use Rattle.bit_vectors.specs.declared.flags.Flags.{Flags}
use Rattle.mask_update.specs.Histories.{History, flags_after, flags_at, robust_at}
use Rattle.side_tables.specs.declared.rows.CopyRow.{CopyRow}
use Rattle.side_tables.specs.Rows.{ScheduleRows, copies_of, flags_of, robust_of}
use Rattle.packet_encode.specs.Deliveries.{IsReached, latest_by, reaches}
use Rattle.forecast.specs.declared.fate.Fate.{Fate}
use Rattle.forecast.specs.declared.fate.Fate.TheVariants.{Lost, Open, Sure}

-- What is known of the packets before there is a recording: the flags of each, after forcing, its required robustness, and
-- how many copies of it arrive.
pub record Prospect : Type 0 where
  pub flags : ℕ → Flags
  pub robust : ℕ → ℕ
  pub copies : ℕ → ℕ

-- the required robustness of a packet: what the schedule gives it, and this one if it gives none
abbrev pub robust_by : ScheduleRows → ℕ → ℕ → ℕ
robust_by plan robust t = unwrap_or (robust_of plan.robust t) robust

-- the prospect under a schedule, a required robustness of all packets to which that gives none, and a script
abbrev pub prospect_of : ScheduleRows → ℕ → List CopyRow → Prospect
prospect_of plan robust script = record {
  flags = λ t. flags_after (robust_by plan robust t) t (flags_of plan.flags t);
  robust = robust_by plan robust;
  copies = copies_of script;
}

-- the steps of a history have the flags and the required robustness of a prospect
pub record IsForeseen (p : Prospect) (h : History) : Type 0 where
  pub flags : (t : ℕ) → t < length h.steps → flags_at h t ≡ p.flags t
  pub robust : (t : ℕ) → t < length h.steps → robust_at h t ≡ p.robust t

-- ---- which masks are sure to become known

-- whether the mask of the packet t is sure, if this is the latest one before it that is
abbrev pub is_mask_sure_from : Prospect → Option ℕ → ℕ → Bool
is_mask_sure_from p latest t = nat_lt 0 (p.copies t) && ((p.flags t).f || reaches latest t (p.robust t))

-- the latest of the first t packets whose mask is sure
abbrev pub latest_mask_sure : Prospect → ℕ → Option ℕ
latest_mask_sure p t = latest_by (is_mask_sure_from p) t

-- whether the mask of the packet t is sure
abbrev pub is_mask_sure : Prospect → ℕ → Bool
is_mask_sure p t = is_mask_sure_from p (latest_mask_sure p t) t

-- The packet arrives, and either it carries the mask, or the number of packets since the latest one whose mask is sure is
-- at most its required robustness.
pub record IsMaskSure (p : Prospect) (t : ℕ) : Type 0 where
  pub arrives : 1 ≤ p.copies t
  pub known : ((p.flags t).f ≡ true) ⊎ IsReached (latest_mask_sure p t) t (p.robust t)

-- ---- which packets are sure to be written

-- whether the packet t is sure, if this is the latest one before it that is
abbrev pub is_sure_from : Prospect → Option ℕ → ℕ → Bool
is_sure_from p latest t = nat_lt 0 (p.copies t) && ((p.flags t).r || is_mask_sure p t && reaches latest t (p.robust t))

-- the latest of the first t packets that is sure
abbrev pub latest_sure : Prospect → ℕ → Option ℕ
latest_sure p t = latest_by (is_sure_from p) t

-- whether the packet t is sure
abbrev pub is_sure : Prospect → ℕ → Bool
is_sure p t = is_sure_from p (latest_sure p t) t

-- The packet arrives, and either it carries the whole content, or its mask is sure and the number of packets since the
-- latest sure one is at most its required robustness.
pub record IsSure (p : Prospect) (t : ℕ) : Type 0 where
  pub arrives : 1 ≤ p.copies t
  pub known : ((p.flags t).r ≡ true) ⊎ IsMaskSure p t × IsReached (latest_sure p t) t (p.robust t)

-- what becomes of a packet of which so many copies arrive, by whether it is sure: it is lost, it is sure to be written, or
-- that depends on the recording
abbrev pub fate_by : ℕ → Bool → Fate
fate_by copies sure = if copies == 0 then Lost else (if sure then Sure else Open)

-- what becomes of the packet t
abbrev pub fate_of : Prospect → ℕ → Fate
fate_of p t = fate_by (p.copies t) (is_sure p t)
