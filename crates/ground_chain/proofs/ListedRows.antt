-- The rows on listed numbers: how far numbers with a count are apart, and the latest of the first packets that arrives.
use Rattle.std.specs.List.{last_or, AllByRecursion, flat_map, range_with_len}
use Rattle.std.specs.Prelude.{IfSome, All}
use Rattle.std.proofs.Common.{◌≡◌, refl, ℕ, ◌+◌, ◌<◌, ◌≤◌, ◌==◌, ◌↔◌, Bool, true, false, if◌then◌else◌, Some, None, ap, subst, arith, zero, suc, ◌-◌, ◌%◌, ◌⊎◌, List, [], ◌∷◌, ◌++◌, replicate, Option, sym, ◌∙◌, inl, inr, ◌&&◌}
use Rattle.std.proofs.lemmas.Bool.{cases_lt, ne_eqb, and_from, and_parts, both_ways, cases_eq, eq-eqb, eqb-true}
use Rattle.std.proofs.lemmas.Grind.{common_steps}
use Rattle.std.proofs.lemmas.List.Elements.{All-from_recursion}
use Rattle.mask_update.specs.Histories.{History}
use Rattle.packet_store.specs.SpacePackets.{period}
use Rattle.packet_encode.specs.Deliveries.{arrivals, Cause, Lost, Unsynced, Gap, cause_at}
use Rattle.packet_encode.proofs.Deliveries.{arrivals-suc}
use Rattle.loss_player.specs.Played.{AreDropped, AreGapsShort}
use Rattle.ground_chain.specs.Deliveries.{ListedRow, TellsOf, is_lost, before_rows, row_numbers, rows_of_numbers}
use Rattle.ground_chain.specs.Run.{HasCount, distance, number_after, expected}

-- ---- how far the next number with a count is above a number

pub distance-none : (n count : ℕ) → count < period → distance n count ≡ 0 → HasCount n count
distance-none n count few none = omega arith

pub distance-repeat : (n count : ℕ) → count < period → HasCount n count → distance n count ≡ 0
distance-repeat n count few has = omega arith

distance-period : (n count : ℕ) → distance n count < period
distance-period n count = omega arith

distance-count : (n count : ℕ) → count < period → HasCount (n + distance n count) count
distance-count n count few = omega arith

distance-least : (n count other : ℕ) → count < period → n < other → HasCount other count → n + distance n count ≤ other
distance-least n count other few above has = omega arith

by_distance : (none : Bool) (n d t : ℕ) → (d == 0) ≡ none → (if none then None else Some (n + d)) ≡ Some t → (0 < d) × (n + d ≡ t)
by_distance true n d t e is = absurd cc
by_distance false n d t e is = (grind (arith, common_steps), cc)

pub number_after-Some : (n count t : ℕ) → number_after (Some n) count ≡ Some t → (0 < distance n count) × (n + distance n count ≡ t)
number_after-Some n count t is = by_distance (distance n count == 0) n (distance n count) t refl is

pub number_after-above : (n count t : ℕ) → count < period → number_after (Some n) count ≡ Some t → (n < t) × (t < n + period)
number_after-above n count t few is =
    let at = number_after-Some n count t is in
    (omega (arith, at.0, at.1), omega (arith, at.1, distance-period n count))

pub number_after-count : (n count t : ℕ) → count < period → number_after (Some n) count ≡ Some t → HasCount t count
number_after-count n count t few is = subst (λ m. HasCount m count) (number_after-Some n count t is).1 (distance-count n count few)

pub number_after-least : (n count t other : ℕ) → count < period → number_after (Some n) count ≡ Some t → n < other → HasCount other count → t ≤ other
number_after-least n count t other few is above has = subst (λ m. m ≤ other) (number_after-Some n count t is).1 (distance-least n count other few above has)

none_by : (none : Bool) (n d : ℕ) → (d == 0) ≡ none → (if none then None else Some (n + d)) ≡ None → d ≡ 0
none_by true n d e is = grind (arith, common_steps)
none_by false n d e is = absurd cc

pub number_after-repeat : (n count : ℕ) → count < period → (number_after (Some n) count ≡ None) ↔ HasCount n count
number_after-repeat n count few = (
  λ is. distance-none n count few (none_by (distance n count == 0) n (distance n count) refl is),
  λ has. ap (λ d. if d == 0 then None else Some (n + d)) (distance-repeat n count few has),
)

-- ---- the latest of the first packets that arrives

last_or-append : {A : Type 0} (o : Option A) (xs ys : List A) → last_or o (xs ++ ys) ≡ last_or (last_or o xs) ys
last_or-append o [] ys = refl
last_or-append o (x ∷ xs) ys = last_or-append (Some x) xs ys

last_or-replicate : {A : Type 0} (n : ℕ) (x : A) → last_or (Some x) (replicate n x) ≡ Some x
last_or-replicate zero x = refl
last_or-replicate (suc n) x = last_or-replicate n x

-- all arrivals of one packet
abbrev pub copies_of : (ℕ → ℕ) → ℕ → List ℕ
copies_of copies t = replicate (copies t) t

-- the latest of the first t packets that arrives
abbrev pub last_before : (ℕ → ℕ) → ℕ → Option ℕ
last_before copies t = last_or None (arrivals copies t)

-- the same as a fact
pub record IsLastBefore (copies : ℕ → ℕ) (t : ℕ) (latest : Option ℕ) : Type 0 where
  pub before : IfSome latest (λ s. s < t)
  pub arrives : IfSome latest (λ s. 1 ≤ copies s)
  pub none : AreDropped copies (expected latest) t

pub expected-below : (t : ℕ) (latest : Option ℕ) → IfSome latest (λ s. s < t) → expected latest ≤ t
expected-below t None before = omega arith
expected-below t (Some s) before = omega arith

module _ (copies : ℕ → ℕ) where
  -- ---- step by step

  arrivals-more : (t : ℕ) → arrivals copies (t + 1) ≡ arrivals copies t ++ replicate (copies t) t
  arrivals-more t = let next : t + 1 ≡ suc t = omega arith in ap (arrivals copies) next ∙ arrivals-suc copies t

  last-more : (t c : ℕ) → copies t ≡ c → last_before copies (t + 1) ≡ last_or (last_before copies t) (replicate c t)
  last-more t c is =
      ap (λ (l : List ℕ). last_or None l) (arrivals-more t) ∙ (last_or-append None (arrivals copies t) (replicate (copies t) t) ∙ ap (λ (n : ℕ). last_or (last_before copies t) (replicate n t)) is)

  pub last-dropped : (t : ℕ) → copies t ≡ 0 → last_before copies (t + 1) ≡ last_before copies t
  last-dropped t none = last-more t 0 none

  pub last-arrived : (t c : ℕ) → copies t ≡ suc c → last_before copies (t + 1) ≡ Some t
  last-arrived t c is = last-more t (suc c) is ∙ last_or-replicate c t

  -- ---- what it is

  none-more : (first t : ℕ) → copies t ≡ 0 → AreDropped copies first t → AreDropped copies first (t + 1)
  none-more first t none dropped s lt le = at (cases_lt s t) where
    at : (s < t) ⊎ (t ≤ s) → copies s ≡ 0
    at (inl less) = dropped s less le
    at (inr not_less) = let same : t ≡ s = omega arith in subst (λ k. copies k ≡ 0) same none

  before-more : (t : ℕ) (latest : Option ℕ) → IfSome latest (λ s. s < t) → IfSome latest (λ s. s < t + 1)
  before-more t None before = tt
  before-more t (Some s) before = omega arith

  is-more : (t c : ℕ) → copies t ≡ c → IsLastBefore copies t (last_before copies t) → IsLastBefore copies (t + 1) (last_before copies (t + 1))
  is-more t zero none is =
      let latest = last_before copies t in
      subst (IsLastBefore copies (t + 1)) (sym (last-dropped t none)) (record { before = before-more t latest is.before; arrives = is.arrives; none = none-more (expected latest) t none is.none })
  is-more t (suc c) some is =
      let arrives : 1 ≤ copies t = omega (arith, some) in
      let before : t < t + 1 = omega arith in
      let none : AreDropped copies (t + 1) (t + 1) = λ s lt le. absurd (omega arith) in
      subst (IsLastBefore copies (t + 1)) (sym (last-arrived t c some)) (record { before = before; arrives = arrives; none = none })

  pub last_before-is : (t : ℕ) → IsLastBefore copies t (last_before copies t)
  last_before-is zero = record { before = tt; arrives = tt; none = λ s lt le. absurd (omega arith) }
  last_before-is (suc t) =
      let next : t + 1 ≡ suc t = omega arith in
      subst (λ k. IsLastBefore copies k (last_before copies k)) next (is-more t (copies t) refl (last_before-is t))

  -- ---- numbers

  number-at : (n t : ℕ) → n < t → t < n + period → number_after (Some n) (t % period) ≡ Some t
  number-at n t above near =
      let distance_is : distance n (t % period) ≡ t - n = omega arith in
      let some : t - n ≡ 0 → ⊥ = λ e. omega arith in
      let number : n + (t - n) ≡ t = omega arith in
      ap (λ (d : ℕ). if d == 0 then None else Some (n + d)) distance_is
      ∙ (ap (λ (b : Bool). if b then None else Some (n + (t - n))) (ne_eqb (t - n) 0 some) ∙ ap Some number)

  -- the number of a packet that arrives after the latest one before it
  number-by : (n t : ℕ) (latest : Option ℕ) → AreGapsShort copies n → t < n → 1 ≤ copies t → IsLastBefore copies t latest → number_after latest (t % period) ≡ Some t
  number-by n t None short lt arrives is =
      let few = short.first t lt (record { arrives = arrives; none = is.none }) in
      let same : t % period ≡ t = omega (arith, few) in
      ap Some same
  number-by n t (Some s) short lt arrives is =
      number-at s t is.before (short.between s t lt (record { order = is.before; earlier = is.arrives; later = arrives; none = is.none }))

  pub number-arrived : (n t : ℕ) → AreGapsShort copies n → t < n → 1 ≤ copies t → number_after (last_before copies t) (t % period) ≡ Some t
  number-arrived n t short lt arrives = number-by n t (last_before copies t) short lt arrives (last_before-is t)

-- a copy of the latest packet is a repeat
pub number-repeated : (t : ℕ) → number_after (Some t) (t % period) ≡ None
number-repeated t =
    let few : t % period < period = omega arith in
    ap (λ (d : ℕ). if d == 0 then None else Some (t + d)) (distance-repeat t (t % period) few refl)

-- ---- what the rows on listed numbers tell

lost-true : (cause : Cause) → is_lost cause ≡ true → cause ≡ Lost
lost-true Lost is = refl
lost-true Unsynced is = absurd cc
lost-true (Gap level) is = absurd cc

-- both rows are of lost numbers, and the second follows the first
abbrev follow : ListedRow → ListedRow → Bool
follow row next = is_lost row.cause && is_lost next.cause && (next.first == row.last + 1)

record Follow (row next : ListedRow) : Type 0 where
  earlier : row.cause ≡ Lost
  later : next.cause ≡ Lost
  neighbours : next.first ≡ row.last + 1

follow-true : (row next : ListedRow) → follow row next ≡ true → Follow row next
follow-true row next is =
    let outer = and_parts (is_lost row.cause && is_lost next.cause) (next.first == row.last + 1) is in
    let inner = and_parts (is_lost row.cause) (is_lost next.cause) outer.0 in
    record { earlier = lost-true row.cause inner.0; later = lost-true next.cause inner.1; neighbours = eqb-true next.first (row.last + 1) outer.1 }

follow-from : (row next : ListedRow) → row.cause ≡ Lost → next.cause ≡ Lost → next.first ≡ row.last + 1 → follow row next ≡ true
follow-from row next earlier later neighbours =
    and_from (is_lost row.cause && is_lost next.cause) (next.first == row.last + 1) (and_from (is_lost row.cause) (is_lost next.cause) (ap is_lost earlier) (ap is_lost later)) (eq-eqb next.first (row.last + 1) neighbours)

-- no row follows the one before it
abbrev AreApart : List ListedRow → Type 0
AreApart [] = Unit {0}
AreApart (row ∷ []) = Unit {0}
AreApart (row ∷ next ∷ rows) = (follow row next ≡ false) × AreApart (next ∷ rows)

apart-later : (row : ListedRow) (rows : List ListedRow) → AreApart (row ∷ rows) → AreApart rows
apart-later row [] apart = tt
apart-later row (next ∷ rows) apart = apart.1

apart-first : (row : ListedRow) (first : ℕ) (rows : List ListedRow) → AreApart (row ∷ rows) → AreApart (record row { first = first } ∷ rows)
apart-first row first [] apart = tt
apart-first row first (next ∷ rows) apart = apart

apart-at : (before after rows : List ListedRow) (row next : ListedRow) → before ++ row ∷ next ∷ after ≡ rows → AreApart rows → follow row next ≡ false
apart-at [] after rows row next is apart = (subst AreApart (sym is) apart).0
apart-at (x ∷ before) after rows row next is apart =
    apart-at before after (before ++ row ∷ next ∷ after) row next refl (apart-later x (before ++ row ∷ next ∷ after) (subst AreApart (sym is) apart))

module _ (h : History) (copies : ℕ → ℕ) where
  record AreRowsOf (rows : List ListedRow) (numbers : List ℕ) : Type 0 where
    tells : AllByRecursion (TellsOf h copies) rows
    apart : AreApart rows
    numbers_are : flat_map row_numbers rows ≡ numbers

  abbrev own_row_of : ℕ → ListedRow
  own_row_of t = record { first = t; last = t; cause = cause_at h copies t }

  own-tells : (t : ℕ) → TellsOf h copies (own_row_of t)
  own-tells t = record {
    order = omega arith;
    cause = λ s from to. let same : s ≡ t = omega (arith, from, to) in ap (cause_at h copies) same;
    alone = λ other. refl;
  }

  own-numbers : (t : ℕ) → row_numbers (own_row_of t) ≡ t ∷ []
  own-numbers t = let one : t - t + 1 ≡ 1 = omega arith in ap (range_with_len t) one

  joined-tells : (t : ℕ) (next : ListedRow) → Follow (own_row_of t) next → TellsOf h copies next → TellsOf h copies (record next { first = t })
  joined-tells t next follows tells = record {
    order = omega (arith, tells.order, follows.neighbours);
    cause = λ s from to. by s to (cases_eq s t) (λ other. tells.cause s (omega (arith, from, other, follows.neighbours)) to);
    alone = λ other. absurd (both_ways (is_lost next.cause) other (ap is_lost follows.later));
  } where
    by : (s : ℕ) → s ≤ next.last → (s ≡ t) ⊎ (s ≡ t → ⊥) → ((s ≡ t → ⊥) → cause_at h copies s ≡ next.cause) → cause_at h copies s ≡ next.cause
    by s to (inl same) later = ap (cause_at h copies) same ∙ (follows.earlier ∙ sym follows.later)
    by s to (inr other) later = later other

  joined-numbers : (t : ℕ) (next : ListedRow) → Follow (own_row_of t) next → next.first ≤ next.last → row_numbers (record next { first = t }) ≡ t ∷ row_numbers next
  joined-numbers t next follows order =
      let count : next.last - t + 1 ≡ suc (next.last - next.first + 1) = omega (arith, order, follows.neighbours) in
      ap (range_with_len t) count ∙ ap (λ (s : ℕ). t ∷ range_with_len s (next.last - next.first + 1)) (sym follows.neighbours)

  rows-before : (t : ℕ) (rows : List ListedRow) (numbers : List ℕ) → AreRowsOf rows numbers → AreRowsOf (before_rows (own_row_of t) rows) (t ∷ numbers)
  rows-before t [] numbers are = record { tells = (own-tells t, tt); apart = tt; numbers_are = ap (λ (l : List ℕ). l ++ []) (own-numbers t) ∙ ap (λ (l : List ℕ). t ∷ l) are.numbers_are }
  rows-before t (next ∷ rows) numbers are = by (follow (own_row_of t) next) refl where
    by : (b : Bool) → follow (own_row_of t) next ≡ b → AreRowsOf (if b then record next { first = t } ∷ rows else own_row_of t ∷ next ∷ rows) (t ∷ numbers)
    by true is =
        let follows = follow-true (own_row_of t) next is in
        record {
          tells = (joined-tells t next follows are.tells.0, are.tells.1);
          apart = apart-first next t rows are.apart;
          numbers_are = ap (λ (l : List ℕ). l ++ flat_map row_numbers rows) (joined-numbers t next follows are.tells.0.order) ∙ ap (λ (l : List ℕ). t ∷ l) are.numbers_are;
        }
    by false is = record {
      tells = (own-tells t, are.tells);
      apart = (is, are.apart);
      numbers_are = ap (λ (l : List ℕ). l ++ flat_map row_numbers (next ∷ rows)) (own-numbers t) ∙ ap (λ (l : List ℕ). t ∷ l) are.numbers_are;
    }

  rows-are : (numbers : List ℕ) → AreRowsOf (rows_of_numbers h copies numbers) numbers
  rows-are [] = record { tells = tt; apart = tt; numbers_are = refl }
  rows-are (t ∷ numbers) = rows-before t (rows_of_numbers h copies numbers) numbers (rows-are numbers)

  pub rows-numbers : (numbers : List ℕ) → flat_map row_numbers (rows_of_numbers h copies numbers) ≡ numbers
  rows-numbers numbers = (rows-are numbers).numbers_are

  pub rows-tell : (numbers : List ℕ) → All (TellsOf h copies) (rows_of_numbers h copies numbers)
  rows-tell numbers = All-from_recursion (TellsOf h copies) (rows_of_numbers h copies numbers) (rows-are numbers).tells

  pub rows-apart : (numbers : List ℕ) (before after : List ListedRow) (row next : ListedRow) → before ++ row ∷ next ∷ after ≡ rows_of_numbers h copies numbers → row.cause ≡ Lost → next.cause ≡ Lost → next.first ≡ row.last + 1 → ⊥
  rows-apart numbers before after row next is earlier later neighbours =
      both_ways (follow row next) (apart-at before after (rows_of_numbers h copies numbers) row next is (rows-are numbers).apart) (follow-from row next earlier later neighbours)
