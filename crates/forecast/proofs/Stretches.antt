-- Stretches: the longest ones of one fate, and their lines.
use Rattle.std.specs.List.{filter, range_with_len, count_by, flat_map}
use Rattle.std.proofs.Common.{◌≡◌, ℕ, zero, suc, ◌+◌, ◌<◌, ◌≤◌, Bool, true, false, not, cond, ◌⊎◌, List, [], ◌∷◌, map, Contains, inl, inr, refl, sym, ap, subst, ◌∙◌, arith, IfSome, if◌then◌else◌, ◌-◌, ◌++◌, Option, Some, None, append_assoc, append-nil}
use Rattle.std.proofs.lemmas.Bool.{cases_eq, cases_lt, true≢false}
use Rattle.std.proofs.lemmas.Grind.{flat_map-append}
use Rattle.std.proofs.lemmas.List.{map-append}
use Rattle.std.proofs.lemmas.List.Elements.{Contains-append_left, Contains-push, Contains-push_cases}
use Rattle.std.proofs.lemmas.List.Sums.{sum_by_push}
use Rattle.packet_encode.proofs.Deliveries.{passing-from, passing-to, passing_more}
use Rattle.loss_player.proofs.Tallies.{range_next}
use Rattle.forecast.specs.Outlooks.{stretch_row, stretch_rows, sure_count, ended_before, row_of, rows_at, stretch_at}
use Rattle.forecast.specs.Prospects.{Prospect, is_sure}
use Rattle.forecast.specs.Stretches.{IsLongest, changes_after, ended, first_alike, same_fate, stretch_to, stretches}
use Rattle.forecast.specs.declared.fate.Fate.{Fate}
use Rattle.forecast.specs.declared.fate.Fate.TheVariants.{Lost, Open, Sure}
use Rattle.forecast.specs.declared.stretch.Stretch.{Stretch}

-- ---- whether two fates are the same

pub same-from : (a b : Fate) → same_fate a b ≡ true → a ≡ b
same-from Lost Lost is = refl
same-from Sure Sure is = refl
same-from Open Open is = refl
same-from Lost Sure is = absurd cc
same-from Lost Open is = absurd cc
same-from Sure Lost is = absurd cc
same-from Sure Open is = absurd cc
same-from Open Lost is = absurd cc
same-from Open Sure is = absurd cc

pub same-self : (a : Fate) → same_fate a a ≡ true
same-self Lost = refl
same-self Sure = refl
same-self Open = refl

differ : (a b : Fate) → same_fate a b ≡ false → a ≡ b → ⊥
differ a b other is = true≢false (sym (same-self b) ∙ (ap (λ (f : Fate). same_fate f b) (sym is) ∙ other))

-- ---- from which number on all have the fate of one

pub first_alike-suc : (fate : ℕ → Fate) (t : ℕ) → first_alike fate (suc t) ≡ cond (same_fate (fate t) (fate (suc t))) (first_alike fate t) (suc t)
unfolding first_alike
first_alike-suc fate t = refl

pub first_alike-zero : (fate : ℕ → Fate) → first_alike fate 0 ≡ 0
unfolding first_alike
first_alike-zero fate = refl

-- all from there on have the fate, and the one before, if there is one, has another
record IsFirstAlike (fate : ℕ → Fate) (t first : ℕ) : Type 0 where
  pub order : first ≤ t
  pub alike : (u : ℕ) → first ≤ u → u ≤ t → fate u ≡ fate t
  pub before : (u : ℕ) → u + 1 ≡ first → fate u ≡ fate t → ⊥

first-right : (fate : ℕ → Fate) (t : ℕ) → IsFirstAlike fate t (first_alike fate t)
first-right fate zero = subst (IsFirstAlike fate 0) (sym (first_alike-zero fate)) (record {
  order = omega arith;
  alike = λ u from to. let none : u ≡ 0 = omega (arith, to) in ap fate none;
  before = λ u is same. absurd (omega (arith, is));
})
first-right fate (suc t) = subst (IsFirstAlike fate (suc t)) (sym (first_alike-suc fate t)) (by_same (first-right fate t) (same_fate (fate t) (fate (suc t))) refl)
  where
    alike_more : IsFirstAlike fate t (first_alike fate t) → fate t ≡ fate (suc t) → (u : ℕ) → first_alike fate t ≤ u → u ≤ suc t → (u ≡ suc t) ⊎ (u ≡ suc t → ⊥) → fate u ≡ fate (suc t)
    alike_more earlier is u from to (inl same) = ap fate same
    alike_more earlier is u from to (inr other) = earlier.alike u from (omega (arith, to, other)) ∙ is

    by_same : IsFirstAlike fate t (first_alike fate t) → (b : Bool) → same_fate (fate t) (fate (suc t)) ≡ b → IsFirstAlike fate (suc t) (cond b (first_alike fate t) (suc t))
    by_same earlier true same =
        let is = same-from (fate t) (fate (suc t)) same in
        let order = earlier.order in
        record {
          order = omega (arith, order);
          alike = λ u from to. alike_more earlier is u from to (cases_eq u (suc t));
          before = λ u next equal. earlier.before u next (equal ∙ sym is);
        }
    by_same earlier false other = record {
      order = omega arith;
      alike = λ u from to. let is : u ≡ suc t = omega (arith, from, to) in ap fate is;
      before = λ u next equal. let is : u ≡ t = omega (arith, next) in differ (fate t) (fate (suc t)) other (ap fate (sym is) ∙ equal);
    }

-- there is only one such number
first-only : (fate : ℕ → Fate) (t a b : ℕ) → IsFirstAlike fate t a → IsFirstAlike fate t b → a ≡ b
first-only fate t a b is was = by_order (cases_lt a b) (cases_lt b a)
  where
    -- the one before the greater is from the lesser on
    no_less : (x y : ℕ) → IsFirstAlike fate t x → IsFirstAlike fate t y → x < y → ⊥
    no_less x zero here there less = omega (arith, less)
    no_less x (suc y) here there less = let order = there.order in there.before y (omega arith) (here.alike y (omega (arith, less)) (omega (arith, order)))

    by_order : (a < b) ⊎ (b ≤ a) → (b < a) ⊎ (a ≤ b) → a ≡ b
    by_order (inl less) order = absurd (no_less a b is was less)
    by_order (inr most) (inl less) = absurd (no_less b a was is less)
    by_order (inr most) (inr least) = omega (arith, most, least)

-- ---- lists of stretches

Contains-map : (fate : ℕ → Fate) (ends : List ℕ) (s : Stretch) → Contains (map (stretch_to fate) ends) s → (t : ℕ) × Contains ends t × (stretch_to fate t ≡ s)
Contains-map fate [] s (place, below, is) = absurd (omega (arith, below))
Contains-map fate (t ∷ ends) s (zero, below, is) = (t, (0, omega arith, refl), is)
Contains-map fate (t ∷ ends) s (suc place, below, is) =
    let (u, (at, inside, here), same) = Contains-map fate ends s (place, omega (arith, below), is) in
    (u, (suc at, omega (arith, inside), here), same)

map-Contains : (fate : ℕ → Fate) (ends : List ℕ) (t : ℕ) → Contains ends t → Contains (map (stretch_to fate) ends) (stretch_to fate t)
map-Contains fate [] t (place, below, is) = absurd (omega (arith, below))
map-Contains fate (u ∷ ends) t (zero, below, is) = (0, omega arith, ap (stretch_to fate) is)
map-Contains fate (u ∷ ends) t (suc place, below, is) =
    let (at, inside, here) = map-Contains fate ends t (place, omega (arith, below), is) in (suc at, omega (arith, inside), here)

not_true : (b : Bool) → not b ≡ true → b ≡ false
not_true true is = absurd cc
not_true false is = refl

longest-at : (fate : ℕ → Fate) (n t : ℕ) → t < n → (t + 1 < n → changes_after fate t ≡ true) → IsLongest fate n (stretch_to fate t)
longest-at fate n t below ends =
    let is = first-right fate t in
    let next : t + 1 ≡ suc t = omega arith in
    record {
      order = is.order;
      below = below;
      alike = is.alike;
      before = is.before;
      after = λ more same. differ (fate t) (fate (suc t)) (not_true (same_fate (fate t) (fate (suc t))) (ends more)) (sym same ∙ ap fate next);
    }

pub longest-from : (fate : ℕ → Fate) (n : ℕ) (s : Stretch) → Contains (stretches fate n) s → IsLongest fate n s
longest-from fate zero s (place, below, is) = absurd (omega (arith, below))
longest-from fate (suc n) s has = by_end (Contains-push_cases (ended fate n) (stretch_to fate n) s has)
  where
    by_end : Contains (ended fate n) s ⊎ (stretch_to fate n ≡ s) → IsLongest fate (suc n) s
    by_end (inl earlier) =
        let (t, here, same) = Contains-map fate (filter (changes_after fate) (range_with_len 0 n)) s earlier in
        let (below, changes) = passing-to (changes_after fate) n t here in
        subst (IsLongest fate (suc n)) same (longest-at fate (suc n) t (omega (arith, below)) (λ more. changes))
    by_end (inr same) = subst (IsLongest fate (suc n)) same (longest-at fate (suc n) n (omega arith) (λ more. absurd (omega (arith, more))))

-- a longest stretch is the one up to its last packet
longest-is : (fate : ℕ → Fate) (n : ℕ) (s : Stretch) → IsLongest fate n s → stretch_to fate s.last ≡ s
longest-is fate n s longest =
    let own : fate s.last ≡ s.fate = longest.alike s.last longest.order (omega arith) in
    let first : first_alike fate s.last ≡ s.first = first-only fate s.last (first_alike fate s.last) s.first (first-right fate s.last) (record {
      order = longest.order;
      alike = λ u from to. longest.alike u from to ∙ sym own;
      before = λ u next same. longest.before u next (same ∙ own);
    }) in
    λ i. record { first = first i; last = s.last; fate = own i }

pub longest-to : (fate : ℕ → Fate) (n : ℕ) (s : Stretch) → IsLongest fate n s → Contains (stretches fate n) s
longest-to fate zero s longest = let below = longest.below in absurd (omega (arith, below))
longest-to fate (suc n) s longest = by_end (cases_eq s.last n)
  where
    by_end : (s.last ≡ n) ⊎ (s.last ≡ n → ⊥) → Contains (stretches fate (suc n)) s
    by_end (inl same) =
        subst (λ (last : Stretch). Contains (stretches fate (suc n)) last) (ap (stretch_to fate) (sym same) ∙ longest-is fate (suc n) s longest) (Contains-push (ended fate n) (stretch_to fate n))
    by_end (inr other) =
        let within = longest.below in
        let below : s.last < n = omega (arith, within, other) in
        let own : fate s.last ≡ s.fate = longest.alike s.last longest.order (omega arith) in
        let next : s.last + 1 ≡ suc s.last = omega arith in
        let changes : changes_after fate s.last ≡ true = by_same (same_fate (fate s.last) (fate (suc s.last))) refl (λ same. longest.after (omega (arith, below)) (ap fate next ∙ sym same ∙ own)) in
        let here = map-Contains fate (filter (changes_after fate) (range_with_len 0 n)) s.last (passing-from (changes_after fate) n s.last below changes) in
        Contains-append_left (ended fate n) (stretch_to fate n ∷ []) s (subst (Contains (ended fate n)) (longest-is fate (suc n) s longest) here)
      where
        by_same : (b : Bool) → same_fate (fate s.last) (fate (suc s.last)) ≡ b → (fate s.last ≡ fate (suc s.last) → ⊥) → not b ≡ true
        by_same true same never = absurd (never (same-from (fate s.last) (fate (suc s.last)) same))
        by_same false same never = refl

-- ---- the lines of the stretches, one after the other

ended-by : (fate : ℕ → Fate) (t : ℕ) (earlier : List Stretch) (b : Bool) → flat_map stretch_row (earlier ++ map (stretch_to fate) (cond b (t ∷ []) [])) ≡ flat_map stretch_row earlier ++ row_of (cond b (Some (stretch_to fate t)) None)
ended-by fate t earlier true = flat_map-append stretch_row earlier (stretch_to fate t ∷ []) ∙ ap (λ (l : List ℕ). flat_map stretch_row earlier ++ l) (append-nil (stretch_row (stretch_to fate t)))
ended-by fate t earlier false = flat_map-append stretch_row earlier []

-- the lines so far, and that of the stretch that ends before the next packet
pub rows-next : (fate : ℕ → Fate) (t : ℕ) → rows_at fate (t + 1) ≡ rows_at fate t ++ row_of (ended_before fate t)
rows-next fate zero = refl
rows-next fate (suc t) =
    ap (rows_at fate) more ∙ (ap (λ (ends : List ℕ). flat_map stretch_row (map (stretch_to fate) ends)) (passing_more (changes_after fate) t)
    ∙ (ap (flat_map stretch_row) (map-append (stretch_to fate) (filter (changes_after fate) (range_with_len 0 t)) (cond (changes_after fate t) (t ∷ []) []))
    ∙ ended-by fate t (ended fate t) (changes_after fate t)))
  where
    more : suc t + 1 ≡ suc (suc t)
    more = omega arith

-- with the line of the last stretch these are all
pub rows-last : (fate : ℕ → Fate) (t : ℕ) → stretch_rows fate (suc t) ≡ rows_at fate (suc t) ++ stretch_row (stretch_to fate t)
rows-last fate t = flat_map-append stretch_row (ended fate t) (stretch_to fate t ∷ []) ∙ ap (λ (l : List ℕ). rows_at fate (suc t) ++ l) (append-nil (stretch_row (stretch_to fate t)))

-- the lines so far are a front of all
pub record AreFirstRows (fate : ℕ → Fate) (n t : ℕ) : Type 0 where
  pub rest : List ℕ
  pub joined : rows_at fate t ++ rest ≡ stretch_rows fate n

first_rows : (fate : ℕ → Fate) (t k : ℕ) → AreFirstRows fate (t + k + 1) (t + 1)
first_rows fate t zero =
    let same : t + zero + 1 ≡ suc t = omega arith in
    let next : t + 1 ≡ suc t = omega arith in
    record {
      rest = stretch_row (stretch_to fate t);
      joined = ap (λ (k : ℕ). rows_at fate k ++ stretch_row (stretch_to fate t)) next ∙ sym (ap (stretch_rows fate) same ∙ rows-last fate t);
    }
first_rows fate t (suc k) =
    let more = first_rows fate (t + 1) k in
    let same : t + suc k + 1 ≡ t + 1 + k + 1 = omega arith in
    record {
      rest = row_of (ended_before fate (t + 1)) ++ more.rest;
      joined = sym (append_assoc (rows_at fate (t + 1)) (row_of (ended_before fate (t + 1))) more.rest)
          ∙ (ap (λ (l : List ℕ). l ++ more.rest) (sym (rows-next fate (t + 1))) ∙ (more.joined ∙ ap (stretch_rows fate) (sym same)));
    }

pub first_rows-at : (fate : ℕ → Fate) (n t : ℕ) → t < n → AreFirstRows fate n (t + 1)
first_rows-at fate n t below =
    let place : t + (n - t - 1) + 1 ≡ n = omega (arith, below) in
    let rows = first_rows fate t (n - t - 1) in
    record { rest = rows.rest; joined = rows.joined ∙ ap (stretch_rows fate) place }

-- ---- the stretch of the latest packet

-- the next packet has its fate
pub stretch-longer : (fate : ℕ → Fate) (t : ℕ) (s : Stretch) → Some s ≡ stretch_at fate t → same_fate s.fate (fate t) ≡ true → Some (record s { last = t }) ≡ stretch_at fate (t + 1)
stretch-longer fate zero s is same = absurd cc
stretch-longer fate (suc t) s is same =
    let own : s ≡ stretch_to fate t = cc in
    let alike : same_fate (fate t) (fate (suc t)) ≡ true = sym (ap (λ (l : Stretch). same_fate l.fate (fate (suc t))) own) ∙ same in
    let first : s.first ≡ first_alike fate (suc t) = ap (λ (l : Stretch). l.first) own ∙ sym (first_alike-suc fate t ∙ ap (λ (b : Bool). cond b (first_alike fate t) (suc t)) alike) in
    let next : s.fate ≡ fate (suc t) = same-from s.fate (fate (suc t)) same in
    let more : suc t + 1 ≡ suc (suc t) = omega arith in
    (λ i. Some (record { first = first i; last = suc t; fate = next i })) ∙ ap (stretch_at fate) (sym more)

-- it has another fate, or there was none before it
pub stretch-new : (fate : ℕ → Fate) (t : ℕ) (s : Option Stretch) → s ≡ stretch_at fate t → IfSome s (λ l. same_fate l.fate (fate t) ≡ false) → Some (record { first = t; last = t; fate = fate t }) ≡ stretch_at fate (t + 1)
stretch-new fate zero s is other = ap (λ (first : ℕ). Some (record { first = first; last = 0; fate = fate 0 })) (sym (first_alike-zero fate))
stretch-new fate (suc t) s is other =
    let differs : same_fate (fate t) (fate (suc t)) ≡ false = subst (λ (o : Option Stretch). IfSome o (λ l. same_fate l.fate (fate (suc t)) ≡ false)) is other in
    let first : suc t ≡ first_alike fate (suc t) = sym (first_alike-suc fate t ∙ ap (λ (b : Bool). cond b (first_alike fate t) (suc t)) differs) in
    let more : suc t + 1 ≡ suc (suc t) = omega arith in
    (λ i. Some (record { first = first i; last = suc t; fate = fate (suc t) })) ∙ ap (stretch_at fate) (sym more)

-- ---- how many packets are sure

pub sure_count-next : (p : Prospect) (t : ℕ) → sure_count p (t + 1) ≡ sure_count p t + cond (is_sure p t) 1 0
sure_count-next p t =
    ap (count_by (is_sure p)) (range_next t) ∙ sum_by_push (λ (s : ℕ). if is_sure p s then 1 else 0) (range_with_len 0 t) t
