-- The numbers of the packets so far, packet by packet: the first delivered number and the widest difference.
use Rattle.std.specs.List.{filter, sum_by, range_with_len, last_or}
use Rattle.std.proofs.Common.{◌≡◌, ℕ, zero, suc, ◌+◌, ◌-◌, ◌==◌, nat_lt, max, Bool, true, false, if◌then◌else◌, List, [], ◌∷◌, ◌++◌, length, Option, Some, None, refl, sym, ap, ◌∙◌, append-nil, zero-add, arith, ◌<◌, ◌≤◌, ltb, ◌⊎◌, IfSome, unwrap_or, inl, inr, below_more, subst}
use Rattle.std.proofs.Math.Nat.{max_comm}
use Rattle.std.proofs.lemmas.Grind.{common_steps}
use Rattle.std.proofs.lemmas.List.{length_push}
use Rattle.std.proofs.lemmas.List.Elements.{filter-append}
use Rattle.std.proofs.lemmas.List.Sums.{sum_by_push}
use Rattle.packet_store.specs.SpacePackets.{period}
use Rattle.loss_player.specs.Played.{delivered, first_of, widest_gap, played_of, AreDropped, IsFirst, AreNext, AreGapsShort, TellsShortGaps}
use Rattle.loss_player.specs.Tallies.{tally_of, first_with, widest_with, with_dropped, with_delivered, tally_with}
use Rattle.loss_player.specs.declared.played.Tally.{Tally}

-- ---- the numbers of the packets so far, packet by packet

range-more : (n a : ℕ) → range_with_len a (n + 1) ≡ range_with_len a n ++ (a + n) ∷ []
range-more zero a =
    let first : a ≡ a + zero = omega arith in
    ap (λ (k : ℕ). k ∷ []) first
range-more (suc n) a =
    let place : a + 1 + n ≡ a + suc n = omega arith in
    let next : suc n + 1 ≡ suc (n + 1) = omega arith in
    ap (range_with_len a) next ∙ ap (λ (l : List ℕ). a ∷ l) (range-more n (a + 1) ∙ ap (λ (k : ℕ). range_with_len (a + 1) n ++ k ∷ []) place)

pub range_next : (n : ℕ) → range_with_len 0 (n + 1) ≡ range_with_len 0 n ++ n ∷ []
range_next n = range-more n 0 ∙ ap (λ (k : ℕ). range_with_len 0 n ++ k ∷ []) (zero-add n)

-- ---- the delivered numbers, with one more

last_or-more : (o : Option ℕ) (numbers : List ℕ) (t : ℕ) → last_or o (numbers ++ t ∷ []) ≡ Some t
last_or-more o [] t = refl
last_or-more o (x ∷ numbers) t = last_or-more (Some x) numbers t

first_some : (a : ℕ) (more : List ℕ) (x t : ℕ) → Some x ≡ first_with (last_or (Some a) more) (Some x) t
first_some a [] x t = refl
first_some a (b ∷ more) x t = first_some b more x t

first_of-more : (numbers : List ℕ) (t : ℕ) → first_of (numbers ++ t ∷ []) ≡ first_with (last_or None numbers) (first_of numbers) t
first_of-more [] t = refl
first_of-more (x ∷ numbers) t = first_some x numbers x t

widest_max : (a : ℕ) (more : List ℕ) (gap widest t : ℕ) → max gap (widest_with (last_or (Some a) more) widest t) ≡ widest_with (last_or (Some a) more) (max gap widest) t
widest_max a [] gap widest t = omega arith
widest_max a (b ∷ more) gap widest t = widest_max b more gap widest t

widest_gap-more : (numbers : List ℕ) (t : ℕ) → widest_gap (numbers ++ t ∷ []) ≡ widest_with (last_or None numbers) (widest_gap numbers) t
widest_gap-more [] t = refl
widest_gap-more (a ∷ []) t = max_comm (t - a) 0
widest_gap-more (a ∷ b ∷ numbers) t =
    ap (max (b - a)) (widest_gap-more (b ∷ numbers) t) ∙ widest_max b numbers (b - a) (widest_gap (b ∷ numbers)) t

-- ---- one more packet

delivered_next : (copies : ℕ → ℕ) (n : ℕ) → delivered copies (n + 1) ≡ delivered copies n ++ (if nat_lt 0 (copies n) then n ∷ [] else [])
delivered_next copies n =
    ap (filter (λ (t : ℕ). nat_lt 0 (copies t))) (range_next n) ∙ filter-append (λ (t : ℕ). nat_lt 0 (copies t)) (range_with_len 0 n) (n ∷ [])

dropped_next : (copies : ℕ → ℕ) (n : ℕ) → (played_of copies (n + 1)).dropped ≡ (played_of copies n).dropped + (if copies n == 0 then 1 else 0)
dropped_next copies n =
    let one : ℕ → ℕ = λ t. if copies t == 0 then 1 else 0 in
    ap (sum_by one) (range_next n) ∙ sum_by_push one (range_with_len 0 n) n

repeats_next : (copies : ℕ → ℕ) (n : ℕ) → (played_of copies (n + 1)).repeats ≡ (played_of copies n).repeats + (copies n - 1)
repeats_next copies n = ap (sum_by (λ (t : ℕ). copies t - 1)) (range_next n) ∙ sum_by_push (λ (t : ℕ). copies t - 1) (range_with_len 0 n) n

has_some : (copies : ℕ) → (copies == 0) ≡ false → nat_lt 0 copies ≡ true
has_some copies some = grind (arith, common_steps)

has_none : (copies : ℕ) → (copies == 0) ≡ true → nat_lt 0 copies ≡ false
has_none copies none = grind (arith, common_steps)

-- one more packet, which is dropped or delivered
tally_by : (copies : ℕ → ℕ) (n : ℕ) (none : Bool) → (copies n == 0) ≡ none → tally_of copies (n + 1) ≡ (if none then with_dropped (tally_of copies n) else with_delivered (tally_of copies n) (copies n))
tally_by copies n true is =
    let same : delivered copies (n + 1) ≡ delivered copies n =
    delivered_next copies n ∙ (ap (λ (b : Bool). delivered copies n ++ (if b then n ∷ [] else [])) (has_none (copies n) is) ∙ append-nil (delivered copies n)) in
    let dropped = dropped_next copies n ∙ ap (λ (b : Bool). (played_of copies n).dropped + (if b then 1 else 0)) is in
    let none : copies n ≡ 0 = grind (arith, common_steps) in
    let repeats : (played_of copies (n + 1)).repeats ≡ (played_of copies n).repeats = omega (arith, repeats_next copies n, none) in
    λ i. record {
      played = record { packets = n + 1; delivered = length (same i); dropped = dropped i; repeats = repeats i; first = first_of (same i); widest = widest_gap (same i) };
      latest = last_or None (same i);
    }
tally_by copies n false is =
    let more : delivered copies (n + 1) ≡ delivered copies n ++ n ∷ [] =
    delivered_next copies n ∙ ap (λ (b : Bool). delivered copies n ++ (if b then n ∷ [] else [])) (has_some (copies n) is) in
    let count = ap length more ∙ length_push (delivered copies n) n in
    let counted : (played_of copies n).dropped + 0 ≡ (played_of copies n).dropped = omega arith in
    let dropped = dropped_next copies n ∙ (ap (λ (b : Bool). (played_of copies n).dropped + (if b then 1 else 0)) is ∙ counted) in
    let first = ap first_of more ∙ first_of-more (delivered copies n) n in
    let widest = ap widest_gap more ∙ widest_gap-more (delivered copies n) n in
    let latest = ap (last_or None) more ∙ last_or-more None (delivered copies n) n in
    λ i. record {
      played = record { packets = n + 1; delivered = count i; dropped = dropped i; repeats = repeats_next copies n i; first = first i; widest = widest i };
      latest = latest i;
    }

pub tally_next : (copies : ℕ → ℕ) (n : ℕ) → tally_of copies (n + 1) ≡ tally_with (tally_of copies n) (copies n)
tally_next copies n = tally_by copies n (copies n == 0) refl

-- the numbers so far with one more packet
tally_more : (copies : ℕ → ℕ) (old new : Tally) (times : ℕ) → old ≡ tally_of copies old.played.packets → times ≡ copies old.played.packets → new ≡ tally_with old times → new ≡ tally_of copies (old.played.packets + 1)
tally_more copies old new times before is counted = counted ∙ ((λ i. tally_with (before i) (is i)) ∙ sym (tally_next copies old.played.packets))

pub tally_packets : (copies : ℕ → ℕ) (old new : Tally) (times : ℕ) → old ≡ tally_of copies old.played.packets → times ≡ copies old.played.packets → new ≡ tally_with old times → new.played.packets ≡ old.played.packets + 1
tally_packets copies old new times before is counted = ap (λ (t : Tally). t.played.packets) (tally_more copies old new times before is counted)

pub tally_counted : (copies : ℕ → ℕ) (old new : Tally) (times : ℕ) → old ≡ tally_of copies old.played.packets → times ≡ copies old.played.packets → new ≡ tally_with old times → new ≡ tally_of copies new.played.packets
tally_counted copies old new times before is counted =
    tally_more copies old new times before is counted ∙ ap (tally_of copies) (sym (tally_packets copies old new times before is counted))

-- ---- the first delivered number and the widest difference, as the packets are counted

-- the latest number that arrives, of n packets
abbrev IsLatestDelivered : (ℕ → ℕ) → ℕ → Option ℕ → Type 0
IsLatestDelivered copies n None = AreDropped copies 0 n
IsLatestDelivered copies n (Some t) = (t < n) × (1 ≤ copies t) × AreDropped copies (t + 1) n

-- the first
abbrev IsFirstOf : (ℕ → ℕ) → ℕ → Option ℕ → Type 0
IsFirstOf copies n None = AreDropped copies 0 n
IsFirstOf copies n (Some t) = (t < n) × IsFirst copies t

-- two numbers that follow one another have this difference
record IsReached (copies : ℕ → ℕ) (n widest : ℕ) : Type 0 where
  pub s : ℕ
  pub t : ℕ
  pub below : t < n
  pub next : AreNext copies s t
  pub is : t ≡ s + widest

-- what the numbers of n packets say of them
record AreTold (copies : ℕ → ℕ) (n : ℕ) (latest first : Option ℕ) (widest : ℕ) : Type 0 where
  pub latest_is : IsLatestDelivered copies n latest
  pub first_is : IsFirstOf copies n first
  pub within : (t : ℕ) → t < n → (s : ℕ) → AreNext copies s t → t ≤ s + widest
  pub reached : (widest ≡ 0) ⊎ IsReached copies n widest

-- ---- one more dropped packet

dropped_more : (copies : ℕ → ℕ) (from n : ℕ) → AreDropped copies from n → copies n ≡ 0 → AreDropped copies from (n + 1)
dropped_more copies from n all none = below_more (λ t. from ≤ t → copies t ≡ 0) n all (λ le. none)

latest_more : (copies : ℕ → ℕ) (n : ℕ) (latest : Option ℕ) → IsLatestDelivered copies n latest → copies n ≡ 0 → IsLatestDelivered copies (n + 1) latest
latest_more copies n None is none = dropped_more copies 0 n is none
latest_more copies n (Some t) (below, arrives, dropped) none = (omega (arith, below), arrives, dropped_more copies (t + 1) n dropped none)

first_more : (copies : ℕ → ℕ) (n : ℕ) (first : Option ℕ) → IsFirstOf copies n first → copies n ≡ 0 → IsFirstOf copies (n + 1) first
first_more copies n None is none = dropped_more copies 0 n is none
first_more copies n (Some t) (below, is) none = (omega (arith, below), is)

reached_more : (copies : ℕ → ℕ) (n widest : ℕ) → (widest ≡ 0) ⊎ IsReached copies n widest → (widest ≡ 0) ⊎ IsReached copies (n + 1) widest
reached_more copies n widest (inl none) = inl none
reached_more copies n widest (inr r) = let below = r.below in inr (record { s = r.s; t = r.t; below = omega (arith, below); next = r.next; is = r.is })

told_dropped : (copies : ℕ → ℕ) (n : ℕ) (latest first : Option ℕ) (widest : ℕ) → AreTold copies n latest first widest → copies n ≡ 0 → AreTold copies (n + 1) latest first widest
told_dropped copies n latest first widest told none = record {
  latest_is = latest_more copies n latest told.latest_is none;
  first_is = first_more copies n first told.first_is none;
  within = below_more (λ t. (s : ℕ) → AreNext copies s t → t ≤ s + widest) n told.within (λ s next. let later = next.later in absurd (omega (arith, later, none)));
  reached = reached_more copies n widest told.reached;
}

-- ---- one more delivered packet

latest_delivered : (copies : ℕ → ℕ) (n : ℕ) → 1 ≤ copies n → IsLatestDelivered copies (n + 1) (Some n)
latest_delivered copies n arrives = (omega arith, arrives, λ t below from. absurd (omega (arith, below, from)))

first_delivered : (copies : ℕ → ℕ) (n : ℕ) (latest first : Option ℕ) → IsLatestDelivered copies n latest → IsFirstOf copies n first → 1 ≤ copies n → IsFirstOf copies (n + 1) (first_with latest first n)
first_delivered copies n None first is was arrives = (omega arith, record { arrives = arrives; none = is })
first_delivered copies n (Some s) None (below, earlier, dropped) was arrives = let none = was s below (omega arith) in absurd (omega (arith, earlier, none))
first_delivered copies n (Some s) (Some t) is (below, was) arrives = (omega (arith, below), was)

-- the number before is the latest one
same_latest : (copies : ℕ → ℕ) (n latest s : ℕ) → IsLatestDelivered copies n (Some latest) → AreNext copies s n → (less more : Bool) → ltb s latest ≡ less → ltb latest s ≡ more → s ≡ latest
same_latest copies n latest s (below, arrives, dropped) next true more less_is more_is =
    let less : s < latest = grind (arith, common_steps) in
    let none = next.none latest below (omega (arith, less)) in
    absurd (omega (arith, arrives, none))
same_latest copies n latest s (below, arrives, dropped) next false true less_is more_is =
    let more : latest < s = grind (arith, common_steps) in
    let order = next.order in
    let earlier = next.earlier in
    let none = dropped s order (omega (arith, more)) in
    absurd (omega (arith, earlier, none))
same_latest copies n latest s is next false false less_is more_is = grind (arith, common_steps)

within_delivered : (copies : ℕ → ℕ) (n : ℕ) (latest : Option ℕ) (widest : ℕ) → IsLatestDelivered copies n latest → ((t : ℕ) → t < n → (s : ℕ) → AreNext copies s t → t ≤ s + widest)
    → (t : ℕ) → t < n + 1 → (s : ℕ) → AreNext copies s t → t ≤ s + widest_with latest widest n
within_delivered copies n None widest is all =
    below_more (λ t. (s : ℕ) → AreNext copies s t → t ≤ s + widest) n all (λ s next.
    let none = is s next.order (omega arith) in
    let earlier = next.earlier in
    absurd (omega (arith, earlier, none)))
within_delivered copies n (Some latest) widest is all =
    below_more (λ t. (s : ℕ) → AreNext copies s t → t ≤ s + max widest (n - latest)) n
    (λ t below s next. let le = all t below s next in omega (arith, le))
    (λ s next. let same = same_latest copies n latest s is next (ltb s latest) (ltb latest s) refl refl in omega (arith, same))

reached_delivered : (copies : ℕ → ℕ) (n : ℕ) (latest : Option ℕ) (widest : ℕ) → IsLatestDelivered copies n latest → 1 ≤ copies n → (widest ≡ 0) ⊎ IsReached copies n widest
    → (less : Bool) → ltb widest (n - unwrap_or latest 0) ≡ less → (widest_with latest widest n ≡ 0) ⊎ IsReached copies (n + 1) (widest_with latest widest n)
reached_delivered copies n None widest is arrives was less less_is = reached_more copies n widest was
reached_delivered copies n (Some latest) widest is arrives was false less_is =
    let same : widest ≡ max widest (n - latest) = grind (arith, common_steps) in
    subst (λ (w : ℕ). (w ≡ 0) ⊎ IsReached copies (n + 1) w) same (reached_more copies n widest was)
reached_delivered copies n (Some latest) widest (below, earlier, dropped) arrives was true less_is =
    let less : widest < n - latest = grind (arith, common_steps) in
    inr (record { s = latest; t = n; below = omega arith; next = record { order = below; earlier = earlier; later = arrives; none = dropped }; is = omega (arith, less, below) })

told_delivered : (copies : ℕ → ℕ) (n : ℕ) (latest first : Option ℕ) (widest : ℕ) → AreTold copies n latest first widest → 1 ≤ copies n → AreTold copies (n + 1) (Some n) (first_with latest first n) (widest_with latest widest n)
told_delivered copies n latest first widest told arrives = record {
  latest_is = latest_delivered copies n arrives;
  first_is = first_delivered copies n latest first told.latest_is told.first_is arrives;
  within = within_delivered copies n latest widest told.latest_is told.within;
  reached = reached_delivered copies n latest widest told.latest_is arrives told.reached (ltb widest (n - unwrap_or latest 0)) refl;
}

-- ---- all packets

abbrev Told : (ℕ → ℕ) → ℕ → Tally → Type 0
Told copies n tally = AreTold copies n tally.latest tally.played.first tally.played.widest

told_by : (copies : ℕ → ℕ) (n : ℕ) (none : Bool) → (copies n == 0) ≡ none → Told copies n (tally_of copies n)
    → Told copies (n + 1) (if none then with_dropped (tally_of copies n) else with_delivered (tally_of copies n) (copies n))
told_by copies n true is told =
    let none : copies n ≡ 0 = grind (arith, common_steps) in
    told_dropped copies n (tally_of copies n).latest (played_of copies n).first (played_of copies n).widest told none
told_by copies n false is told =
    let arrives : 1 ≤ copies n = grind (arith, common_steps) in
    told_delivered copies n (tally_of copies n).latest (played_of copies n).first (played_of copies n).widest told arrives

all_told : (copies : ℕ → ℕ) (n : ℕ) → Told copies n (tally_of copies n)
all_told copies zero = record {
  latest_is = λ t below from. absurd (omega (arith, below));
  first_is = λ t below from. absurd (omega (arith, below));
  within = λ t below s next. absurd (omega (arith, below));
  reached = inl refl;
}
all_told copies (suc n) =
    let next : n + 1 ≡ suc n = omega arith in
    let told = subst (Told copies (n + 1)) (sym (tally_next copies n)) (told_by copies n (copies n == 0) refl (all_told copies n)) in
    subst (λ (m : ℕ). Told copies m (tally_of copies m)) next told

-- ---- short gaps

-- no packet arrives twice for the first time
same_first : (copies : ℕ → ℕ) (s t : ℕ) → IsFirst copies s → IsFirst copies t → (less : Bool) → ltb s t ≡ less → t ≤ s
same_first copies s t p q true is =
    let less : s < t = grind (arith, common_steps) in
    let none = q.none s less (omega arith) in
    let arrives = p.arrives in
    absurd (omega (arith, arrives, none))
same_first copies s t p q false is = grind (arith, common_steps)

first_short : (copies : ℕ → ℕ) (n : ℕ) (first : Option ℕ) → IsFirstOf copies n first → IfSome first (λ t. t < period) → (t : ℕ) → t < n → IsFirst copies t → t < period
first_short copies n None dropped told t below is =
    let none = dropped t below (omega arith) in
    let arrives = is.arrives in
    absurd (omega (arith, arrives, none))
first_short copies n (Some s) (within, was) told t below is = let le = same_first copies s t was is (ltb s t) refl in omega (arith, le, told)

first_tells : (copies : ℕ → ℕ) (n : ℕ) (first : Option ℕ) → IsFirstOf copies n first → ((t : ℕ) → t < n → IsFirst copies t → t < period) → IfSome first (λ t. t < period)
first_tells copies n None dropped short = tt
first_tells copies n (Some t) (below, is) short = short t below is

widest_tells : (copies : ℕ → ℕ) (n widest : ℕ) → (widest ≡ 0) ⊎ IsReached copies n widest → ((s t : ℕ) → t < n → AreNext copies s t → t < s + period) → widest < period
widest_tells copies n widest (inl none) short = omega (arith, none)
widest_tells copies n widest (inr r) short =
    let less = short r.s r.t r.below r.next in
    let is = r.is in
    omega (arith, less, is)

pub gaps_told : (copies : ℕ → ℕ) (n : ℕ) → AreGapsShort copies n → TellsShortGaps (played_of copies n)
gaps_told copies n short =
    let told = all_told copies n in
    record {
      first = first_tells copies n (played_of copies n).first told.first_is short.first;
      widest = widest_tells copies n (played_of copies n).widest told.reached short.between;
    }

pub gaps_short : (copies : ℕ → ℕ) (n : ℕ) → TellsShortGaps (played_of copies n) → AreGapsShort copies n
gaps_short copies n tells =
    let told = all_told copies n in
    let small = tells.widest in
    record {
      first = first_short copies n (played_of copies n).first told.first_is tells.first;
      between = λ s t below next. let le = told.within t below s next in omega (arith, le, small);
    }
