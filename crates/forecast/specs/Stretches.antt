-- Stretches of packets that have one fate.
use Rattle.std.specs.Prelude.{◌≡◌, ℕ, zero, suc, ◌+◌, ◌<◌, ◌≤◌, Bool, true, false, not, if◌then◌else◌, List, [], ◌∷◌, ◌++◌, map}
use Rattle.std.specs.List.{filter, range_with_len}
use Rattle.forecast.specs.declared.fate.Fate.{Fate}
use Rattle.forecast.specs.declared.fate.Fate.TheVariants.{Lost, Open, Sure}
use Rattle.forecast.specs.declared.stretch.Stretch.{Stretch}

-- whether two fates are the same
abbrev pub same_fate : Fate → Fate → Bool
same_fate Lost Lost = true
same_fate Sure Sure = true
same_fate Open Open = true
same_fate a b = false

-- the least number from which on all packets up to t have its fate
unfoldable pub first_alike : (ℕ → Fate) → ℕ → ℕ
first_alike fate zero = 0
first_alike fate (suc t) = if same_fate (fate t) (fate (suc t)) then first_alike fate t else suc t

-- the stretch that has the packet t as its last one
abbrev pub stretch_to : (ℕ → Fate) → ℕ → Stretch
stretch_to fate t = record { first = first_alike fate t; last = t; fate = fate t }

-- whether the packet after t has another fate
abbrev pub changes_after : (ℕ → Fate) → ℕ → Bool
changes_after fate t = not (same_fate (fate t) (fate (suc t)))

-- the stretches that end with one of the first n packets, as the packet after it shows
abbrev pub ended : (ℕ → Fate) → ℕ → List Stretch
ended fate n = map (stretch_to fate) (filter (changes_after fate) (range_with_len 0 n))

-- the stretches of n packets, the first one first
abbrev pub stretches : (ℕ → Fate) → ℕ → List Stretch
stretches fate zero = []
stretches fate (suc n) = ended fate n ++ stretch_to fate n ∷ []

-- packets of one fate, of the first n, and the packets beside them, if there are any, have another one
pub record IsLongest (fate : ℕ → Fate) (n : ℕ) (s : Stretch) : Type 0 where
  pub order : s.first ≤ s.last
  pub below : s.last < n
  pub alike : (t : ℕ) → s.first ≤ t → t ≤ s.last → fate t ≡ s.fate
  pub before : (t : ℕ) → t + 1 ≡ s.first → ¬ (fate t ≡ s.fate)
  pub after : s.last + 1 < n → ¬ (fate (s.last + 1) ≡ s.fate)
