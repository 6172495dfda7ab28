-- Which of the arriving packets of a history can be written, and why the others can't. How often each packet arrives
-- is a function from the numbers of the packets.
use Rattle.std.specs.Prelude.{◌≡◌, ℕ, zero, suc, ◌+◌, ◌-◌, ◌<◌, ◌≤◌, nat_lt, nat_le, ◌⊎◌, ◌==◌, Bool, true, false, not, ◌&&◌, ◌||◌, if◌then◌else◌, List, length, replicate, Option, Some, None}
use Rattle.std.specs.List.{filter, flat_map, last_or, range_with_len}
use Rattle.mask_update.specs.Histories.{History, flags_at}
use Rattle.robust_window.specs.Histories.{level_at}

-- ---- what arrives

-- the numbers of the packets that arrive, of n packets, each as often as it arrives, in ascending order
abbrev pub arrivals : (ℕ → ℕ) → ℕ → List ℕ
arrivals copies n = flat_map (λ t. replicate (copies t) t) (range_with_len 0 n)

-- how many packets there are up to one
abbrev pub count_up_to : Option ℕ → ℕ
count_up_to None = 0
count_up_to (Some t) = t + 1

-- how many there are up to the last arrival, of n packets
abbrev pub count_to_last : (ℕ → ℕ) → ℕ → ℕ
count_to_last copies n = count_up_to (last_or None (arrivals copies n))

-- ---- what a level reaches

-- The number of packets between this one and the latest one of some kind is at most the level. If there is no latest one,
-- this doesn't hold.
abbrev pub reaches : Option ℕ → ℕ → ℕ → Bool
reaches None t level = false
reaches (Some latest) t level = nat_le (t - 1 - latest) level

abbrev pub IsReached : Option ℕ → ℕ → ℕ → Type 0
IsReached None t level = ⊥
IsReached (Some latest) t level = t - 1 - latest ≤ level

-- the latest of the first t numbers that passes a test, which is asked for each number with the latest one that passed
-- before
unfoldable pub latest_by : (Option ℕ → ℕ → Bool) → ℕ → Option ℕ
latest_by test zero = None
latest_by test (suc t) =
    let latest = latest_by test t in
    if test latest t then Some t else latest

-- this is the latest of the first t numbers for which this holds
pub record IsLatest (Holds : ℕ → Type 0) (t latest : ℕ) : Type 0 where
  pub before : latest < t
  pub holds : Holds latest
  pub none_later : (s : ℕ) → latest < s → s < t → Holds s → ⊥

-- ---- which masks become known

-- whether the mask of the packet t becomes known, if this is the latest one before it whose mask did
abbrev pub is_mask_known_from : History → (ℕ → ℕ) → Option ℕ → ℕ → Bool
is_mask_known_from h copies latest t = nat_lt 0 (copies t) && ((flags_at h t).f || reaches latest t (level_at h t))

-- the latest of the first t packets whose mask becomes known
abbrev pub latest_mask_known : History → (ℕ → ℕ) → ℕ → Option ℕ
latest_mask_known h copies t = latest_by (is_mask_known_from h copies) t

-- whether the mask of the packet t becomes known
abbrev pub is_mask_known : History → (ℕ → ℕ) → ℕ → Bool
is_mask_known h copies t = is_mask_known_from h copies (latest_mask_known h copies t) t

-- The packet arrives, and either it carries the mask, or the number of unknown masks since the latest known one is at
-- most its effective robustness level.
pub record MaskKnownAt (h : History) (copies : ℕ → ℕ) (t : ℕ) : Type 0 where
  pub arrives : 1 ≤ copies t
  pub known : ((flags_at h t).f ≡ true) ⊎ IsReached (latest_mask_known h copies t) t (level_at h t)

-- ---- what is written

-- whether the packet t is written, if this is the latest one written before it
abbrev pub is_written_from : History → (ℕ → ℕ) → Option ℕ → ℕ → Bool
is_written_from h copies latest t = nat_lt 0 (copies t) && ((flags_at h t).r || is_mask_known h copies t && reaches latest t (level_at h t))

-- the latest written one of the first t packets
abbrev pub latest_written : History → (ℕ → ℕ) → ℕ → Option ℕ
latest_written h copies t = latest_by (is_written_from h copies) t

-- whether the packet t is written
abbrev pub is_written : History → (ℕ → ℕ) → ℕ → Bool
is_written h copies t = is_written_from h copies (latest_written h copies t) t

-- the numbers of the written packets
abbrev pub written_numbers : History → (ℕ → ℕ) → List ℕ
written_numbers h copies = filter (is_written h copies) (range_with_len 0 (length h.steps))

-- The packet arrives, and either it carries the whole content, or its mask becomes known and the number of unwritten
-- packets since the latest written one is at most its effective robustness level.
pub record WrittenAt (h : History) (copies : ℕ → ℕ) (t : ℕ) : Type 0 where
  pub arrives : 1 ≤ copies t
  pub known : ((flags_at h t).r ≡ true) ⊎ MaskKnownAt h copies t × IsReached (latest_written h copies t) t (level_at h t)

-- ---- if mask and content could be known only together

-- the packet carries the mask and the whole content
abbrev pub CarriesBoth : History → ℕ → Type 0
CarriesBoth h t = ((flags_at h t).f ≡ true) × ((flags_at h t).r ≡ true)

-- whether mask and content of the packet t would be known, if this is the latest one before it of which they would be
abbrev pub is_known_together_from : History → (ℕ → ℕ) → Option ℕ → ℕ → Bool
is_known_together_from h copies latest t = nat_lt 0 (copies t) && ((flags_at h t).f && (flags_at h t).r || reaches latest t (level_at h t))

-- the latest of the first t packets of which mask and content would be known
abbrev pub latest_known_together : History → (ℕ → ℕ) → ℕ → Option ℕ
latest_known_together h copies t = latest_by (is_known_together_from h copies) t

abbrev pub is_known_together : History → (ℕ → ℕ) → ℕ → Bool
is_known_together h copies t = is_known_together_from h copies (latest_known_together h copies t) t

-- The packet arrives, and either it carries the mask and the whole content, or the number of packets since the latest one of
-- which both would be known is at most its effective robustness level.
pub record KnownTogetherAt (h : History) (copies : ℕ → ℕ) (t : ℕ) : Type 0 where
  pub arrives : 1 ≤ copies t
  pub known : CarriesBoth h t ⊎ IsReached (latest_known_together h copies t) t (level_at h t)

-- ---- what is listed

-- the packet is one up to the last arrival that is not written
pub record Listed (h : History) (copies : ℕ → ℕ) (t : ℕ) : Type 0 where
  pub heard : t < count_to_last copies (length h.steps)
  pub unwritten : WrittenAt h copies t → ⊥

-- the numbers of the listed packets
abbrev pub listed_numbers : History → (ℕ → ℕ) → List ℕ
listed_numbers h copies = filter (λ t. not (is_written h copies t)) (range_with_len 0 (count_to_last copies (length h.steps)))

-- why a packet is not written: it did not arrive; the part that is missing was never known before it; or the latest
-- packet with which that part became known is too far back for its effective robustness level
pub data Cause : Type 0 where
  Lost : Cause
  Unsynced : Cause
  Gap : ℕ → Cause

abbrev pub cause_from : Option ℕ → ℕ → Cause
cause_from None level = Unsynced
cause_from (Some latest) level = Gap level

-- The missing part is the mask if it doesn't become known, and otherwise the content: the latest packet before this one
-- with which that part became known.
abbrev pub latest_of_missing : History → (ℕ → ℕ) → ℕ → Option ℕ
latest_of_missing h copies t = if is_mask_known h copies t then latest_written h copies t else latest_mask_known h copies t

abbrev pub cause_at : History → (ℕ → ℕ) → ℕ → Cause
cause_at h copies t = if copies t == 0 then Lost else cause_from (latest_of_missing h copies t) (level_at h t)
