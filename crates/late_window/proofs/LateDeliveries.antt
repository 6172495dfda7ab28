-- Packets of a history that come late: their numbers, and that all are kept which come no later than the window allows.
use Rattle.std.specs.List.{count_by, flat_map, range_with_len}
use Rattle.std.specs.Prelude.{Contains}
use Rattle.std.proofs.Common.{◌≡◌, ℕ, Some, arith, ◌≤◌, Bool, if◌then◌else◌, List, [], ◌∷◌, ◌++◌, refl, sym, ap, ◌∙◌, subst, append_assoc, append-nil, zero, suc, ◌+◌, ◌*◌, ◌%◌, ◌<◌, ◌⊎◌, inl, inr, max, ltb, eqb, true, false, cond, length, map, replicate, All, Option, None}
use Rattle.std.proofs.lemmas.Bool.{le-ltb, cases_lt, eq-eqb, eqb-true, eqb-false, ltb-true, ltb-false, ne_eqb}
use Rattle.std.proofs.lemmas.Grind.{common_steps}
use Rattle.std.proofs.lemmas.List.{map-append}
use Rattle.std.proofs.lemmas.List.Concat.{flat_map-cons}
use Rattle.std.proofs.lemmas.List.Elements.{All-cons, All-head, All-nil, All-push, All-tail, All-weaker, Contains-append_left, Contains-push, All-contains}
use Rattle.std.proofs.lemmas.List.Folds.{sum_by-replicate}
use Rattle.std.proofs.lemmas.List.Sums.{sum_by-append, sum_by-cons}
use Rattle.std.proofs.lemmas.Simd.{map-map}
use Rattle.mask_update.specs.Histories.{History}
use Rattle.packet_store.specs.SpacePackets.{period}
use Rattle.packet_encode.specs.Deliveries.{arrivals}
use Rattle.flight_chain.specs.Compressing.{data_at}
use Rattle.loss_player.specs.Played.{AreGapsShort, AreNext, IsFirst}
use Rattle.ground_chain.specs.Deliveries.{arrival_at}
use Rattle.late_window.specs.Deliveries.{IsGreatest, IsLateDelivery, IsNearNext}
use Rattle.late_window.specs.Lines.{AreFrom, AreRising}
use Rattle.late_window.specs.Order.{IsNear, near_number, Numbered, AreWithinWindow, count_above, kept, kept_from, IsAround, highest_with, numbered, numbered_from, arrival_of, in_order, late_count, ordered, sorted, with_number}
use Rattle.late_window.proofs.Sortings.{first_if, sorted-only}

-- ---- the number near another one that has a sequence count is the only one

pub near-only : (n count t : ℕ) → IsNear n count t → near_number (Some n) count ≡ t
near-only n count t near = grind (arith, common_steps)

-- ---- arrivals that come no later than the window allows are all kept

-- one that comes no later is kept
pub kept-one : (window : ℕ) (before later : List Numbered) (a : Numbered) → count_above a.number before ≤ window → kept_from window before (a ∷ later) ≡ kept_from window (before ++ a ∷ []) later
kept-one window before later a few = ap (λ (late : Bool). kept_from window (if late then before else before ++ a ∷ []) later) (le-ltb window (count_above a.number before) few)

kept_from-within : (window : ℕ) (before arrivals : List Numbered) → AreWithinWindow window (before ++ arrivals) → kept_from window before arrivals ≡ before ++ arrivals
kept_from-within window before [] within = sym (append-nil before)
kept_from-within window before (a ∷ arrivals) within =
    let more = subst (AreWithinWindow window) (sym (append_assoc before (a ∷ []) arrivals)) within in
    kept-one window before arrivals a (within before arrivals a refl)
    ∙ (kept_from-within window (before ++ a ∷ []) arrivals more ∙ append_assoc before (a ∷ []) arrivals)

pub kept-within : (window : ℕ) (arrivals : List Numbered) → AreWithinWindow window arrivals → kept window arrivals ≡ arrivals
kept-within window arrivals within = kept_from-within window [] arrivals within

-- ---- how often a number is among others

abbrev count_as : Bool → ℕ
count_as b = cond b 1 0

abbrev pub count_of : ℕ → List ℕ → ℕ
count_of t numbers = count_by (λ s. eqb s t) numbers

count_of-cons : (t s : ℕ) (numbers : List ℕ) → count_of t (s ∷ numbers) ≡ count_as (eqb s t) + count_of t numbers
count_of-cons t s numbers = sum_by-cons (λ x. count_as (eqb x t)) s numbers

count_as-same : (t : ℕ) → count_as (eqb t t) ≡ 1
count_as-same t = ap count_as (eq-eqb t t refl)

count_as-other : (s t : ℕ) → (s ≡ t → ⊥) → count_as (eqb s t) ≡ 0
count_as-other s t other = ap count_as (ne_eqb s t other)

-- one that is among them is counted
pub count-contained : (t : ℕ) (numbers : List ℕ) → Contains numbers t → 1 ≤ count_of t numbers
count-contained t [] among = absurd (omega (arith, among.1))
count-contained t (s ∷ numbers) (zero, lt, is) = let here : count_as (eqb s t) ≡ 1 = ap count_as (eq-eqb s t is) in omega (arith, here, count_of-cons t s numbers)
count-contained t (s ∷ numbers) (suc k, lt, is) = omega (arith, count_of-cons t s numbers, count-contained t numbers (k, omega (arith, lt), is))

-- one that is above all of them is not
pub count-above_all : (t : ℕ) (numbers : List ℕ) → All (λ s. s < t) numbers → count_of t numbers ≡ 0
count-above_all t [] all = refl
count-above_all t (s ∷ numbers) all =
    let below = All-head (λ x. x < t) s numbers all in
    let here = count_as-other s t (λ same. absurd (omega (arith, below, same))) in
    omega (arith, here, count_of-cons t s numbers, count-above_all t numbers (All-tail (λ x. x < t) s numbers all))

count-replicate-same : (t c : ℕ) → count_of t (replicate c t) ≡ c
count-replicate-same t c = sum_by-replicate (λ x. count_as (eqb x t)) c t ∙ (ap (λ (n : ℕ). c * n) (count_as-same t) ∙ (let all : c * 1 ≡ c = omega arith in all))

count-replicate-other : (s t c : ℕ) → (s ≡ t → ⊥) → count_of t (replicate c s) ≡ 0
count-replicate-other s t c other = sum_by-replicate (λ x. count_as (eqb x t)) c s ∙ (ap (λ (n : ℕ). c * n) (count_as-other s t other) ∙ (let none : c * 0 ≡ 0 = omega arith in none))

-- ---- the numbers that arrive, in order

module _ (copies : ℕ → ℕ) where
  abbrev pub arrivals_from : ℕ → ℕ → List ℕ
  arrivals_from s n = flat_map (λ t. replicate (copies t) t) (range_with_len s n)

  arrivals-more : (s n : ℕ) → arrivals_from s (suc n) ≡ replicate (copies s) s ++ arrivals_from (s + 1) n
  arrivals-more s n = flat_map-cons (λ t. replicate (copies t) t) s (range_with_len (s + 1) n)

  count-more : (t s n : ℕ) → count_of t (arrivals_from s (suc n)) ≡ count_of t (replicate (copies s) s) + count_of t (arrivals_from (s + 1) n)
  count-more t s n = ap (count_of t) (arrivals-more s n) ∙ sum_by-append (λ x. count_as (eqb x t)) (replicate (copies s) s) (arrivals_from (s + 1) n)

  count-outside : (t s n : ℕ) → (t < s) ⊎ (s + n ≤ t) → count_of t (arrivals_from s n) ≡ 0
  count-outside t s zero out = refl
  count-outside t s (suc n) (inl lt) = omega (arith, count-more t s n, count-replicate-other s t (copies s) (λ same. absurd (omega (arith, lt, same))), count-outside t (s + 1) n (inl (omega (arith, lt))))
  count-outside t s (suc n) (inr le) = omega (arith, count-more t s n, count-replicate-other s t (copies s) (λ same. absurd (omega (arith, le, same))), count-outside t (s + 1) n (inr (omega (arith, le))))

  count-inside-by : (t s n : ℕ) → s ≤ t → t < s + suc n → (s < t → count_of t (arrivals_from (s + 1) n) ≡ copies t) → (same : Bool) → eqb s t ≡ same → count_of t (arrivals_from s (suc n)) ≡ copies t
  count-inside-by t s n le lt more true is =
      let same : s ≡ t = eqb-true s t is in
      let here = subst (λ (x : ℕ). count_of t (replicate (copies x) x) ≡ copies t) (sym same) (count-replicate-same t (copies t)) in
      omega (arith, count-more t s n, here, count-outside t (s + 1) n (inl (omega (arith, same))))
  count-inside-by t s n le lt more false is =
      let other = eqb-false s t is in
      let above : s < t = by_order (cases_lt s t) other in
      omega (arith, count-more t s n, count-replicate-other s t (copies s) other, more above)
    where
      by_order : (s < t) ⊎ (t ≤ s) → (s ≡ t → ⊥) → s < t
      by_order (inl less) other = less
      by_order (inr most) other = absurd (other (omega (arith, most, le)))

  count-inside : (t s n : ℕ) → s ≤ t → t < s + n → count_of t (arrivals_from s n) ≡ copies t
  count-inside t s zero le lt = absurd (omega (arith, le, lt))
  count-inside t s (suc n) le lt = count-inside-by t s n le lt (λ above. count-inside t (s + 1) n (omega (arith, above)) (omega (arith, lt))) (eqb s t) refl

-- ---- with their numbers

-- the packet of a history with its number
abbrev pub numbered_packet : History → ℕ → Numbered
numbered_packet h t = record { number = t; body = data_at h t }

module _ (h : History) where
  abbrev packets : List ℕ → List Numbered
  packets numbers = map (numbered_packet h) numbers

  -- those with one number are the same packet
  with-by : (t s : ℕ) (numbers : List ℕ) (own : Bool) → eqb s t ≡ own → with_number t (packets numbers) ≡ replicate (count_of t numbers) (numbered_packet h t)
      → first_if own (numbered_packet h s) (with_number t (packets numbers)) ≡ replicate (count_as own + count_of t numbers) (numbered_packet h t)
  with-by t s numbers true is more =
      let same = eqb-true s t is in
      let count : suc (count_of t numbers) ≡ 1 + count_of t numbers = omega arith in
      (λ i. numbered_packet h (same i) ∷ more i) ∙ ap (λ (n : ℕ). replicate n (numbered_packet h t)) count
  with-by t s numbers false is more = more ∙ ap (λ (n : ℕ). replicate n (numbered_packet h t)) (let none : count_of t numbers ≡ 0 + count_of t numbers = omega arith in none)

  with-packets : (t : ℕ) (numbers : List ℕ) → with_number t (packets numbers) ≡ replicate (count_of t numbers) (numbered_packet h t)
  with-packets t [] = refl
  with-packets t (s ∷ numbers) =
      with-by t s numbers (eqb s t) refl (with-packets t numbers)
      ∙ ap (λ (n : ℕ). replicate n (numbered_packet h t)) (sym (count_of-cons t s numbers))

  -- the numbers that arrive rise
  from-append : (t : ℕ) (xs ys : List Numbered) → AreFrom t xs → AreFrom t ys → AreFrom t (xs ++ ys)
  from-append t [] ys first next = next
  from-append t (x ∷ xs) ys first next = (first.0, from-append t xs ys first.1 next)

  from-replicate : (t s c : ℕ) → t ≤ s → AreFrom t (packets (replicate c s))
  from-replicate t s zero le = tt
  from-replicate t s (suc c) le = (le, from-replicate t s c le)

  module _ (copies : ℕ → ℕ) where
    packets-more : (s n : ℕ) → packets (arrivals_from copies s (suc n)) ≡ packets (replicate (copies s) s) ++ packets (arrivals_from copies (s + 1) n)
    packets-more s n = ap packets (arrivals-more copies s n) ∙ map-append (numbered_packet h) (replicate (copies s) s) (arrivals_from copies (s + 1) n)

    from-arrivals : (t s n : ℕ) → t ≤ s → AreFrom t (packets (arrivals_from copies s n))
    from-arrivals t s zero le = tt
    from-arrivals t s (suc n) le =
        subst (AreFrom t) (sym (packets-more s n))
        (from-append t (packets (replicate (copies s) s)) (packets (arrivals_from copies (s + 1) n)) (from-replicate t s (copies s) le) (from-arrivals t (s + 1) n (omega (arith, le))))

    rising-replicate : (s c : ℕ) (rest : List Numbered) → AreFrom s rest → AreRising rest → AreRising (packets (replicate c s) ++ rest)
    rising-replicate s zero rest from rising = rising
    rising-replicate s (suc c) rest from rising = (from-append s (packets (replicate c s)) rest (from-replicate s s c (omega arith)) from, rising-replicate s c rest from rising)

    rising-arrivals : (s n : ℕ) → AreRising (packets (arrivals_from copies s n))
    rising-arrivals s zero = tt
    rising-arrivals s (suc n) =
        subst AreRising (sym (packets-more s n))
        (rising-replicate s (copies s) (packets (arrivals_from copies (s + 1) n)) (from-arrivals s (s + 1) n (omega arith)) (rising-arrivals (s + 1) n))

-- ---- the greatest number so far

-- the greatest of these numbers, or none if there is none
abbrev pub HasHighest : List ℕ → Option ℕ → Type 0
HasHighest numbers None = numbers ≡ []
HasHighest numbers (Some t) = IsGreatest numbers t

greatest-one : (t : ℕ) → IsGreatest ([] ++ t ∷ []) t
greatest-one t = record { among = Contains-push [] t; most = All-cons (λ s. s ≤ t) t [] (omega arith) (All-nil (λ s. s ≤ t)) }

greatest-max : (front : List ℕ) (g t : ℕ) → IsGreatest front g → (below : Bool) → ltb t g ≡ below → IsGreatest (front ++ t ∷ []) (max g t)
greatest-max front g t is true below =
    let lt = ltb-true t g below in
    let same : g ≡ max g t = omega (arith, lt) in
    subst (IsGreatest (front ++ t ∷ [])) same (record {
      among = Contains-append_left front (t ∷ []) g is.among;
      most = All-push (λ s. s ≤ g) front t is.most (omega (arith, lt));
    })
greatest-max front g t is false below =
    let le = ltb-false t g below in
    let same : t ≡ max g t = omega (arith, le) in
    subst (IsGreatest (front ++ t ∷ [])) same (record {
      among = Contains-push front t;
      most = All-push (λ s. s ≤ t) front t (All-weaker (λ s. s ≤ g) (λ s. s ≤ t) (λ s most. omega (arith, le, most)) front is.most) (omega arith);
    })

pub highest-next : (front : List ℕ) (t : ℕ) (highest : Option ℕ) → HasHighest front highest → HasHighest (front ++ t ∷ []) (highest_with highest t)
highest-next front t None is = subst (λ (l : List ℕ). IsGreatest (l ++ t ∷ []) t) (sym is) (greatest-one t)
highest-next front t (Some g) is = greatest-max front g t is (ltb t g) refl

-- the number of the next arrival is that of its packet
number-next : (front : List ℕ) (t : ℕ) (highest : Option ℕ) → HasHighest front highest → IsNearNext front t → near_number highest (t % period) ≡ t
number-next front t None is next = let below = next.first is in (let same : t % period ≡ t = omega (arith, below) in same)
number-next front t (Some g) is next =
    let around : IsAround g t = record { least = next.below g is; most = omega (arith, next.above g is) } in
    near-only g (t % period) t (record { counted = refl; near = inl around })

-- ---- a late delivery

module _ {window n : ℕ} {copies : ℕ → ℕ} {numbers : List ℕ} (h : History) (is : IsLateDelivery window n copies numbers) where
  split-next : (front later : List ℕ) (t : ℕ) → numbers ≡ front ++ t ∷ later → numbers ≡ (front ++ t ∷ []) ++ later
  split-next front later t split = split ∙ sym (append_assoc front (t ∷ []) later)

  numbered-from : (later front : List ℕ) (highest : Option ℕ) → HasHighest front highest → numbers ≡ front ++ later → numbered_from highest (map (arrival_at h) later) ≡ packets h later
  numbered-from [] front highest has split = refl
  numbered-from (t ∷ later) front highest has split =
      let number = number-next front t highest has (is.near front later t split) in
      let next = numbered-from later (front ++ t ∷ []) (highest_with highest t) (highest-next front t highest has) (split-next front later t split) in
      (λ i. record { number = number i; body = data_at h t } ∷ numbered_from (highest_with highest (number i)) (map (arrival_at h) later)) ∙ ap (λ (l : List Numbered). numbered_packet h t ∷ l) next

  pub numbered-delivery : numbered (map (arrival_at h) numbers) ≡ packets h numbers
  numbered-delivery = numbered-from numbers [] None refl refl

  -- none is too late
  count-packets : (t : ℕ) (front : List ℕ) → count_above t (packets h front) ≡ count_by (λ s. ltb t s) front
  count-packets t [] = refl
  count-packets t (s ∷ front) =
      omega (arith, sum_by-cons (λ (a : Numbered). count_as (ltb t a.number)) (numbered_packet h s) (packets h front), sum_by-cons (λ (x : ℕ). count_as (ltb t x)) s front, count-packets t front)

  kept-from : (later front : List ℕ) → numbers ≡ front ++ later → kept_from window (packets h front) (packets h later) ≡ packets h numbers
  kept-from [] front split = ap (packets h) (sym (split ∙ append-nil front))
  kept-from (t ∷ later) front split =
      let few = is.within front later t split in
      let next = kept-from later (front ++ t ∷ []) (split-next front later t split) in
      kept-one window (packets h front) (packets h later) (numbered_packet h t) (omega (arith, few, count-packets t front))
      ∙ (ap (λ (l : List Numbered). kept_from window l (packets h later)) (sym (map-append (numbered_packet h) front (t ∷ []))) ∙ next)

  kept-delivery : kept window (packets h numbers) ≡ packets h numbers
  kept-delivery = kept-from numbers [] refl

  pub late-delivery : late_count window (numbered (map (arrival_at h) numbers)) ≡ 0
  late-delivery =
      let same = ap length kept-delivery in
      let none : late_count window (packets h numbers) ≡ 0 = omega (arith, same) in
      ap (late_count window) numbered-delivery ∙ none

  -- in order they are the packets that arrive
  same-count : (t : ℕ) → count_of t (arrivals copies n) ≡ count_of t numbers
  same-count t = by_order (cases_lt t n) where
    by_order : (t < n) ⊎ (n ≤ t) → count_of t (arrivals copies n) ≡ count_of t numbers
    by_order (inl lt) = count-inside copies t 0 n (omega arith) (omega (arith, lt)) ∙ sym (is.copied t lt)
    by_order (inr le) = count-outside copies t 0 n (inr (omega (arith, le))) ∙ sym (count-above_all t numbers (All-weaker (λ s. s < n) (λ s. s < t) (λ s less. omega (arith, less, le)) numbers is.known))

  sorted-delivery : packets h (arrivals copies n) ≡ sorted (packets h numbers)
  sorted-delivery = sorted-only (packets h numbers) (packets h (arrivals copies n)) (rising-arrivals h copies 0 n) (λ t.
      with-packets h t (arrivals copies n) ∙ (ap (λ (k : ℕ). replicate k (numbered_packet h t)) (same-count t) ∙ sym (with-packets h t numbers)))

  pub ordered-delivery : ordered window (map (arrival_at h) numbers) ≡ map (arrival_at h) (arrivals copies n)
  ordered-delivery =
      ap (λ (l : List Numbered). map arrival_of (in_order window l)) numbered-delivery
      ∙ (ap (λ (l : List Numbered). map arrival_of (sorted l)) kept-delivery
      ∙ (ap (map arrival_of) (sym sorted-delivery) ∙ map-map arrival_of (numbered_packet h) (arrivals copies n)))

-- ---- packets that come near the greatest number before them have gaps that are shorter than the period of the sequence counts

-- the first number that is not below this one, and those before it
record IsFirstFrom (numbers : List ℕ) (t : ℕ) : Type 0 where
  front : List ℕ
  later : List ℕ
  number : ℕ
  split : numbers ≡ front ++ number ∷ later
  below : All (λ s. s < t) front
  from : t ≤ number

first-by : (front later numbers : List ℕ) (t u : ℕ) → numbers ≡ front ++ u ∷ later → All (λ s. s < t) front → (u < t) ⊎ (t ≤ u) → (u < t → IsFirstFrom numbers t) → IsFirstFrom numbers t
first-by front later numbers t u split below (inl lt) more = more lt
first-by front later numbers t u split below (inr le) more = record { front = front; later = later; number = u; split = split; below = below; from = le }

first-from : (later front numbers : List ℕ) (t : ℕ) → numbers ≡ front ++ later → All (λ s. s < t) front → 1 ≤ count_of t numbers → IsFirstFrom numbers t
first-from [] front numbers t split below some =
    let none : count_of t numbers ≡ 0 = ap (count_of t) (split ∙ append-nil front) ∙ count-above_all t front below in
    absurd (omega (arith, none, some))
first-from (u ∷ later) front numbers t split below some =
    first-by front later numbers t u split below (cases_lt u t) (λ lt.
    first-from later (front ++ u ∷ []) numbers t (split ∙ sym (append_assoc front (u ∷ []) later)) (All-push (λ s. s < t) front u below lt) some)

-- a list of numbers has a greatest one, if it has one at all
record IsHighestOf (numbers : List ℕ) : Type 0 where
  highest : Option ℕ
  has : HasHighest numbers highest

highest-from : (later front : List ℕ) (highest : Option ℕ) → HasHighest front highest → IsHighestOf (front ++ later)
highest-from [] front highest has = subst IsHighestOf (sym (append-nil front)) (record { highest = highest; has = has })
highest-from (t ∷ later) front highest has =
    subst IsHighestOf (append_assoc front (t ∷ []) later) (highest-from later (front ++ t ∷ []) (highest_with highest t) (highest-next front t highest has))

highest-of : (numbers : List ℕ) → IsHighestOf numbers
highest-of numbers = highest-from numbers [] None refl

-- A number that arrives is below the period, or less than half a period above a smaller one that arrives.
record IsAboveArrival (copies : ℕ → ℕ) (t : ℕ) : Type 0 where
  earlier : ℕ
  arrives : 1 ≤ copies earlier
  below : earlier < t
  near : t ≤ earlier + 8191

module _ {window n : ℕ} {copies : ℕ → ℕ} {numbers : List ℕ} (is : IsLateDelivery window n copies numbers) where
  arrives-in : (g : ℕ) → Contains numbers g → 1 ≤ copies g
  arrives-in g among = omega (arith, count-contained g numbers among, is.copied g (All-contains (λ t. t < n) numbers g is.known among))

  above-by : (t : ℕ) (first : IsFirstFrom numbers t) (highest : Option ℕ) → HasHighest first.front highest → (t < period) ⊎ IsAboveArrival copies t
  above-by t first None has = inl (let near = is.near first.front first.later first.number first.split in let lt = near.first has in omega (arith, lt, first.from))
  above-by t first (Some g) has =
      let near = is.near first.front first.later first.number first.split in
      let most = near.above g has in
      let among = subst (λ (l : List ℕ). Contains l g) (sym first.split) (Contains-append_left first.front (first.number ∷ first.later) g has.among) in
      inr (record {
        earlier = g;
        arrives = arrives-in g among;
        below = All-contains (λ s. s < t) first.front g first.below has.among;
        near = omega (arith, most, first.from);
      })

  above-one : (t : ℕ) → t < n → 1 ≤ copies t → (t < period) ⊎ IsAboveArrival copies t
  above-one t lt some =
      let first = first-from numbers [] numbers t refl (All-nil (λ s. s < t)) (omega (arith, some, is.copied t lt)) in
      let highest = highest-of first.front in
      above-by t first highest.highest highest.has

  first-below : (t : ℕ) → IsFirst copies t → (t < period) ⊎ IsAboveArrival copies t → t < period
  first-below t first (inl lt) = lt
  first-below t first (inr above) = absurd (omega (arith, above.arrives, first.none above.earlier above.below (omega arith)))

  next-by : (s t g : ℕ) → AreNext copies s t → 1 ≤ copies g → g < t → t ≤ g + 8191 → (s < g) ⊎ (g ≤ s) → t < s + period
  next-by s t g next some below near (inl lt) = absurd (omega (arith, some, next.none g below (omega (arith, lt))))
  next-by s t g next some below near (inr le) = omega (arith, near, le)

  next-below : (s t : ℕ) → AreNext copies s t → (t < period) ⊎ IsAboveArrival copies t → t < s + period
  next-below s t next (inl lt) = omega (arith, lt)
  next-below s t next (inr above) = next-by s t above.earlier next above.arrives above.below above.near (cases_lt s above.earlier)

  pub short-gaps : AreGapsShort copies n
  short-gaps = record {
    first = λ t lt first. first-below t first (above-one t lt first.arrives);
    between = λ s t lt next. next-below s t next (above-one t lt next.later);
  }
