-- Arrivals that may come late: their numbers, their order, and those that come too late.
use Rattle.std.specs.Fmt.{decimal}
use Rattle.std.specs.List.{count_by, filter}
use Rattle.std.specs.List.Sorted.{IsNonDecreasingBy}
use Rattle.std.specs.Prelude.{ℕ, ◌+◌, ◌-◌, ◌<◌, ◌≤◌, ◌⊎◌, ◌||◌, max, nat_le, nat_lt, if◌then◌else◌, List, [], ◌∷◌, Option, Some, None, ◌≡◌, ◌%◌, ◌==◌, Bool, ◌++◌, length, map, codes}
use Rattle.packet_store.specs.SpacePackets.{period}
use Rattle.ground_chain.specs.Run.{HasCount, distance, Arrival}

-- ---- the numbers of arrivals that may come late, from their sequence counts

-- t is from 8,191 below n to 8,192 above it: of any period of numbers one is
pub record IsAround (n t : ℕ) : Type 0 where
  pub least : n ≤ t + 8191
  pub most : t ≤ n + 8192

-- t is below the period, and one period before it, below 0, would be around n
pub record IsPeriodAfter (n t : ℕ) : Type 0 where
  pub least : n + period ≤ t + 8191
  pub most : t < period

-- The number t has this sequence count and is around n, or it is one period after the number that would be, if that would
-- be below 0.
pub record IsNear (n count t : ℕ) : Type 0 where
  pub counted : HasCount t count
  pub near : IsAround n t ⊎ IsPeriodAfter n t

-- the number that is so far above n, or if that is too far, one period before it
abbrev pub number_around : ℕ → ℕ → ℕ
number_around n above = if nat_le above 8192 || nat_lt (n + above) period then n + above else n + above - period

-- The number of the next arrival, with this sequence count, if this is the greatest number so far: the first arrival has
-- its count as its number, and any other the one near the greatest number.
abbrev pub near_number : Option ℕ → ℕ → ℕ
near_number None count = count
near_number (Some n) count = number_around n (distance n count)

-- the greatest number so far, with one more
abbrev pub highest_with : Option ℕ → ℕ → Option ℕ
highest_with None t = Some t
highest_with (Some n) t = Some (max n t)

-- an arrival with its number, by which its sequence count is known, and its data bytes
pub record Numbered : Type 0 where
  pub number : ℕ
  pub body : List ℕ

-- arrivals with their numbers, after this greatest number so far
abbrev pub numbered_from : Option ℕ → List Arrival → List Numbered
numbered_from highest [] = []
numbered_from highest (a ∷ arrivals) =
    let t = near_number highest a.count in
    record { number = t; body = a.body } ∷ numbered_from (highest_with highest t) arrivals

-- all arrivals with their numbers
abbrev pub numbered : List Arrival → List Numbered
numbered arrivals = numbered_from None arrivals

-- ---- too late

-- how many of these arrivals have a greater number
abbrev pub count_above : ℕ → List Numbered → ℕ
count_above t arrivals = count_by (λ a. nat_lt t a.number) arrivals

-- more of these arrivals than the window is large have a greater number
abbrev pub is_too_late : ℕ → List Numbered → ℕ → Bool
is_too_late window before t = nat_lt window (count_above t before)

-- these arrivals, none of them too late, and one more unless it is too late after them
abbrev pub kept_with : ℕ → List Numbered → Numbered → List Numbered
kept_with window before a = if is_too_late window before a.number then before else before ++ a ∷ []

abbrev pub kept_from : ℕ → List Numbered → List Numbered → List Numbered
kept_from window before [] = before
kept_from window before (a ∷ arrivals) = kept_from window (kept_with window before a) arrivals

-- The arrivals that are not too late. One is too late if more of those before it than the window is large, none of them too
-- late, have a greater number.
abbrev pub kept : ℕ → List Numbered → List Numbered
kept window arrivals = kept_from window [] arrivals

-- how many are too late
abbrev pub late_count : ℕ → List Numbered → ℕ
late_count window arrivals = length arrivals - length (kept window arrivals)

-- no arrival comes later than the window allows: at most so many before it have a greater number
abbrev pub AreWithinWindow : ℕ → List Numbered → Type 0
AreWithinWindow window arrivals = (front rest : List Numbered) (a : Numbered) → arrivals ≡ front ++ a ∷ rest → count_above a.number front ≤ window

-- ---- in order

-- an arrival among others in order, after all of a number that is no greater
abbrev pub placed : Numbered → List Numbered → List Numbered
placed a [] = a ∷ []
placed a (b ∷ arrivals) = if nat_lt a.number b.number then a ∷ b ∷ arrivals else b ∷ placed a arrivals

abbrev pub sorted_from : List Numbered → List Numbered → List Numbered
sorted_from done [] = done
sorted_from done (a ∷ arrivals) = sorted_from (placed a done) arrivals

-- arrivals sorted by number, equal numbers in the order of arrival
abbrev pub sorted : List Numbered → List Numbered
sorted arrivals = sorted_from [] arrivals

-- the arrivals with this number, in the order of arrival
abbrev pub with_number : ℕ → List Numbered → List Numbered
with_number t arrivals = filter (λ a. a.number == t) arrivals

-- the second list is the first one sorted by number, equal numbers in the order of arrival
pub record IsSorting (arrivals order : List Numbered) : Type 0 where
  pub rises : IsNonDecreasingBy (λ a. a.number) order
  pub same : (t : ℕ) → with_number t order ≡ with_number t arrivals

-- the arrivals that are not too late, in order
abbrev pub in_order : ℕ → List Numbered → List Numbered
in_order window arrivals = sorted (kept window arrivals)

-- ---- for the run

-- an arrival without its number
abbrev pub arrival_of : Numbered → Arrival
arrival_of a = record { count = a.number % period; body = a.body }

-- these arrivals, as they are judged: in order
abbrev pub ordered : ℕ → List Arrival → List Arrival
ordered window arrivals = map arrival_of (in_order window (numbered arrivals))

-- ---- the row of the arrivals that came too late

abbrev pub late_row : ℕ → List ℕ
late_row late = codes "late," ++ decimal late ++ codes "\n"
