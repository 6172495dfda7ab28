-- A line that takes arrivals one after another gives them up in order: what was given up and what is held are together all
-- that are not too late, in order.
use Rattle.std.proofs.Common.{◌≡◌, ℕ, ◌+◌, ◌-◌, ◌<◌, ◌≤◌, ltb, Bool, true, false, if◌then◌else◌, cond, List, [], ◌∷◌, ◌++◌, length, take, drop, Option, Some, None, refl, sym, ap, ◌∙◌, subst, append_assoc, append-nil, length-append, arith}
use Rattle.std.specs.List.{count_by}
use Rattle.std.proofs.lemmas.Bool.{ltb-true, ltb-false, lt-ltb, le-ltb}
use Rattle.std.proofs.lemmas.List.{take_at, drop_at}
use Rattle.std.proofs.lemmas.List.Sums.{count_by-le-length, sum_by-append, sum_by-cons}
use Rattle.late_window.specs.Order.{Numbered, count_above, in_order, is_too_late, kept, kept_from, kept_with, late_count, placed, sorted, sorted_from}
use Rattle.late_window.specs.Lines.{AreFrom, AreRising, Line, empty_line, given_from, gives, holding, is_below, late_from, line_after, next_line, passed_over, taken_in, without_first}
use Rattle.late_window.proofs.Sortings.{AreFrom-placed, AreRising-placed, AreUpTo, AreUpTo-more, length-placed, placed-after, placed_by}

-- ---- one list of arrivals and then another

pub kept_from-append : (window : ℕ) (before xs ys : List Numbered) → kept_from window before (xs ++ ys) ≡ kept_from window (kept_from window before xs) ys
kept_from-append window before [] ys = refl
kept_from-append window before (x ∷ xs) ys = kept_from-append window (kept_with window before x) xs ys

pub sorted_from-append : (done xs ys : List Numbered) → sorted_from done (xs ++ ys) ≡ sorted_from (sorted_from done xs) ys
sorted_from-append done [] ys = refl
sorted_from-append done (x ∷ xs) ys = sorted_from-append (placed x done) xs ys

-- ---- how many there are

abbrev count_as : Bool → ℕ
count_as b = cond b 1 0

abbrev one : (Numbered → Bool) → Numbered → ℕ
one test a = count_as (test a)

count-by : (test : Numbered → Bool) (a b : Numbered) (arrivals : List Numbered) (before : Bool) → count_by test (placed a arrivals) ≡ one test a + count_by test arrivals
    → count_by test (placed_by before a b arrivals) ≡ one test a + count_by test (b ∷ arrivals)
count-by test a b arrivals true more = sum_by-cons (one test) a (b ∷ arrivals)
count-by test a b arrivals false more =
    let first = sum_by-cons (one test) b (placed a arrivals) in
    let next = sum_by-cons (one test) b arrivals in
    omega (arith, first, next, more)

pub count-placed : (test : Numbered → Bool) (a : Numbered) (arrivals : List Numbered) → count_by test (placed a arrivals) ≡ one test a + count_by test arrivals
count-placed test a [] = sum_by-cons (one test) a []
count-placed test a (b ∷ arrivals) = count-by test a b arrivals (ltb a.number b.number) (count-placed test a arrivals)

count-sorted_from : (test : Numbered → Bool) (done arrivals : List Numbered) → count_by test (sorted_from done arrivals) ≡ count_by test done + count_by test arrivals
count-sorted_from test done [] = omega arith
count-sorted_from test done (a ∷ arrivals) =
    let here = count-placed test a done in
    let next = sum_by-cons (one test) a arrivals in
    omega (arith, here, next, count-sorted_from test (placed a done) arrivals)

pub count-sorted : (test : Numbered → Bool) (arrivals : List Numbered) → count_by test (sorted arrivals) ≡ count_by test arrivals
count-sorted test arrivals = count-sorted_from test [] arrivals ∙ (let none : 0 + count_by test arrivals ≡ count_by test arrivals = omega arith in none)

-- all of them are above a number, or none is
count_above-all : (t r : ℕ) (arrivals : List Numbered) → t < r → AreFrom r arrivals → count_above t arrivals ≡ length arrivals
count_above-all t r [] lt from = refl
count_above-all t r (a ∷ arrivals) lt from =
    let here : count_as (ltb t a.number) ≡ 1 = ap count_as (lt-ltb t a.number (omega (arith, lt, from.0))) in
    let next = sum_by-cons (one (λ x. ltb t x.number)) a arrivals in
    omega (arith, here, next, count_above-all t r arrivals lt from.1)

count_above-none : (t r : ℕ) (arrivals : List Numbered) → r ≤ t → AreUpTo r arrivals → count_above t arrivals ≡ 0
count_above-none t r [] le all = refl
count_above-none t r (a ∷ arrivals) le all =
    let here : count_as (ltb t a.number) ≡ 0 = ap count_as (le-ltb t a.number (omega (arith, le, all.0))) in
    let next = sum_by-cons (one (λ x. ltb t x.number)) a arrivals in
    omega (arith, here, next, count_above-none t r arrivals le all.1)

AreUpTo-push : (t : ℕ) (arrivals : List Numbered) (a : Numbered) → AreUpTo t arrivals → a.number ≤ t → AreUpTo t (arrivals ++ a ∷ [])
AreUpTo-push t [] a all le = (le, tt)
AreUpTo-push t (b ∷ arrivals) a all le = (all.0, AreUpTo-push t arrivals a all.1 le)

-- ---- a line after some arrivals

-- the arrival with this number was given up last: the window is full, and the numbers given up are not above those held
pub record HasGivenUp (window r : ℕ) (out held : List Numbered) : Type 0 where
  pub full : window ≤ length held
  pub below : AreUpTo r out
  pub above : AreFrom r held
  pub some : (t : ℕ) → t < r → 1 ≤ count_above t out

abbrev pub AreGivenUp : Option ℕ → ℕ → List Numbered → List Numbered → Type 0
AreGivenUp None window out held = out ≡ []
AreGivenUp (Some r) window out held = HasGivenUp window r out held

-- the line after these arrivals, of which these were given up; so many more are held than the window is large
pub record IsLine (window more : ℕ) (line : Line) (past out : List Numbered) : Type 0 where
  pub window_is : line.window ≡ window
  pub all : in_order window past ≡ out ++ line.held
  pub rising : AreRising line.held
  pub few : length line.held ≤ window + more
  pub given : AreGivenUp line.released window out line.held

pub IsLine-empty : (window : ℕ) → IsLine window 0 (empty_line window) [] []
IsLine-empty window = record { window_is = refl; all = refl; rising = tt; few = omega arith; given = refl }

-- ---- an arrival is too late if its number is below that of the one that was given up last

late-below : (window t r n : ℕ) (out held : List Numbered) → HasGivenUp window r out held → length held ≤ window → n ≡ count_above t out + count_above t held → (below : Bool) → ltb t r ≡ below → ltb window n ≡ below
late-below window t r n out held has few is true below =
    let lt = ltb-true t r below in
    lt-ltb window n (omega (arith, is, has.full, has.some t lt, count_above-all t r held lt has.above))
late-below window t r n out held has few is false below =
    le-ltb window n (omega (arith, is, few, count_above-none t r out (ltb-false t r below) has.below, count_by-le-length (λ (a : Numbered). ltb t a.number) held))

late-by : (window t n : ℕ) (out held : List Numbered) (released : Option ℕ) → AreGivenUp released window out held → length held ≤ window → n ≡ count_above t out + count_above t held → ltb window n ≡ is_below t released
late-by window t n out held None given few is =
    let none : count_above t out ≡ 0 = ap (count_above t) given in
    le-ltb window n (omega (arith, is, few, none, count_by-le-length (λ (a : Numbered). ltb t a.number) held))
late-by window t n out held (Some r) given few is = late-below window t r n out held given few is (ltb t r) refl

late-is : {window : ℕ} {line : Line} {past out : List Numbered} → IsLine window 0 line past out → (t : ℕ) → is_too_late window (kept window past) t ≡ is_below t line.released
late-is {window = window} {line = line} {past = past} {out = out} is t =
    let count : count_above t (kept window past) ≡ count_above t out + count_above t line.held =
    sym (count-sorted (λ (a : Numbered). ltb t a.number) (kept window past))
    ∙ (ap (count_above t) is.all ∙ sum_by-append (one (λ a. ltb t a.number)) out line.held) in
    late-by window t (count_above t (kept window past)) out line.held line.released is.given (omega (arith, is.few)) count

-- ---- one more arrival

kept-next : (window : ℕ) (past : List Numbered) (a : Numbered) (late : Bool) → is_too_late window (kept window past) a.number ≡ late → kept window (past ++ a ∷ []) ≡ (if late then kept window past else kept window past ++ a ∷ [])
kept-next window past a late is = kept_from-append window [] past (a ∷ []) ∙ ap (λ (b : Bool). if b then kept window past else kept window past ++ a ∷ []) is

up-to : (released : Option ℕ) (window t : ℕ) (out held : List Numbered) → AreGivenUp released window out held → is_below t released ≡ false → AreUpTo t out
up-to None window t out held given above = subst (AreUpTo t) (sym given) tt
up-to (Some r) window t out held given above = AreUpTo-more r t out (ltb-false t r above) given.below

given-placed : (released : Option ℕ) (window : ℕ) (a : Numbered) (out held : List Numbered) → AreGivenUp released window out held → is_below a.number released ≡ false → AreGivenUp released window out (placed a held)
given-placed None window a out held given above = given
given-placed (Some r) window a out held given above = record {
  full = omega (arith, given.full, length-placed a held);
  below = given.below;
  above = AreFrom-placed r a held (ltb-false a.number r above) given.above;
  some = given.some;
}

taking-by : {window : ℕ} {line : Line} {past out : List Numbered} → IsLine window 0 line past out → (a : Numbered) (below : Bool) → is_below a.number line.released ≡ below
    → IsLine window 1 (if below then line else holding line a) (past ++ a ∷ []) out
taking-by {window = window} {line = line} {past = past} {out = out} is a true below = record {
  window_is = is.window_is;
  all = ap sorted (kept-next window past a true (late-is is a.number ∙ below)) ∙ is.all;
  rising = is.rising;
  few = omega (arith, is.few);
  given = is.given;
}
taking-by {window = window} {line = line} {past = past} {out = out} is a false below = record {
  window_is = is.window_is;
  all =
      ap sorted (kept-next window past a false (late-is is a.number ∙ below))
      ∙ (sorted_from-append [] (kept window past) (a ∷ [])
      ∙ (ap (placed a) is.all ∙ placed-after a out line.held (up-to line.released window a.number out line.held is.given below)));
  rising = AreRising-placed a line.held is.rising;
  few = omega (arith, is.few, length-placed a line.held);
  given = given-placed line.released window a out line.held is.given below;
}

up-to-first : (released : Option ℕ) (window : ℕ) (h : Numbered) (out held : List Numbered) → AreGivenUp released window out (h ∷ held) → AreUpTo h.number out
up-to-first None window h out held given = subst (AreUpTo h.number) (sym given) tt
up-to-first (Some r) window h out held given = AreUpTo-more r h.number out given.above.0 given.below

some-first : (h : Numbered) (out : List Numbered) (t : ℕ) → t < h.number → 1 ≤ count_above t (out ++ h ∷ [])
some-first h out t lt =
    let here : count_as (ltb t h.number) ≡ 1 = ap count_as (lt-ltb t h.number lt) in
    let last = sum_by-cons (one (λ x. ltb t x.number)) h [] in
    omega (arith, here, last, sum_by-append (one (λ a. ltb t a.number)) out (h ∷ []))

settling-first : {window : ℕ} {line : Line} {past out : List Numbered} → IsLine window 1 line past out → (held : List Numbered) → line.held ≡ held → window < length held → IsLine window 0 (without_first line held) past (out ++ take 1 held)
settling-first is [] same over = absurd (omega (arith, over))
settling-first {window = window} {line = line} {past = past} {out = out} is (h ∷ held) same over =
    let given = subst (λ (l : List Numbered). AreGivenUp line.released window out l) same is.given in
    let rising = subst AreRising same is.rising in
    record {
      window_is = is.window_is;
      all = is.all ∙ (ap (λ (l : List Numbered). out ++ l) same ∙ sym (append_assoc out (h ∷ []) held));
      rising = rising.1;
      few = omega (arith, is.few, ap length same);
      given = record {
        full = omega (arith, over);
        below = AreUpTo-push h.number out h (up-to-first line.released window h out held given) (omega arith);
        above = rising.0;
        some = some-first h out;
      };
    }

settling-by : {window : ℕ} {line : Line} {past out : List Numbered} → IsLine window 1 line past out → (over : Bool) → ltb line.window (length line.held) ≡ over
    → IsLine window 0 (if over then without_first line line.held else line) past (out ++ (if over then take 1 line.held else []))
settling-by {window = window} {line = line} {past = past} {out = out} is false over = record {
  window_is = is.window_is;
  all = is.all ∙ ap (λ (l : List Numbered). l ++ line.held) (sym (append-nil out));
  rising = is.rising;
  few = omega (arith, ltb-false line.window (length line.held) over, is.window_is);
  given = subst (λ (l : List Numbered). AreGivenUp line.released window l line.held) (sym (append-nil out)) is.given;
}
settling-by {window = window} {line = line} {past = past} {out = out} is true over =
    settling-first is line.held refl (omega (arith, ltb-true line.window (length line.held) over, is.window_is))

IsLine-next : {window : ℕ} {line : Line} {past out : List Numbered} → IsLine window 0 line past out → (a : Numbered) → IsLine window 0 (next_line line a) (past ++ a ∷ []) (out ++ gives line a)
IsLine-next {line = line} is a =
    let taken = taken_in line a in
    settling-by (taking-by is a (is_below a.number line.released) refl) (ltb taken.window (length taken.held)) refl

-- ---- all of them

pub IsLine-after : (window : ℕ) (later : List Numbered) (line : Line) (past out : List Numbered) → IsLine window 0 line past out → IsLine window 0 (line_after line later) (past ++ later) (out ++ given_from line later)
IsLine-after window [] line past out is =
    subst (λ (o : List Numbered). IsLine window 0 line (past ++ []) o) (sym (append-nil out)) (subst (λ (p : List Numbered). IsLine window 0 line p out) (sym (append-nil past)) is)
IsLine-after window (a ∷ later) line past out is =
    let next = next_line line a in
    let rest = given_from next later in
    let after = IsLine-after window later next (past ++ a ∷ []) (out ++ gives line a) (IsLine-next is a) in
    subst (λ (o : List Numbered). IsLine window 0 (line_after next later) (past ++ a ∷ later) o) (append_assoc out (gives line a) rest)
    (subst (λ (p : List Numbered). IsLine window 0 (line_after next later) p ((out ++ gives line a) ++ rest)) (append_assoc past (a ∷ []) later) after)

late-passed : (below : Bool) (before : List Numbered) (a : Numbered) → (if below then 1 else 0) + length (if below then before else before ++ a ∷ []) ≡ length before + 1
late-passed true before a = omega arith
late-passed false before a = omega (arith, length-append before (a ∷ []))

late-after : (window : ℕ) (later : List Numbered) (line : Line) (past out : List Numbered) → IsLine window 0 line past out → late_from line later + length (kept_from window (kept window past) later) ≡ length (kept window past) + length later
late-after window [] line past out is = omega arith
late-after window (a ∷ later) line past out is =
    let before = kept window past in
    let below = is_below a.number line.released in
    let same = late-is is a.number in
    let kept_is : kept window (past ++ a ∷ []) ≡ kept_with window before a = kept_from-append window [] past (a ∷ []) in
    let rest = subst (λ (l : List Numbered). late_from (next_line line a) later + length (kept_from window l later) ≡ length l + length later) kept_is
    (late-after window later (next_line line a) (past ++ a ∷ []) (out ++ gives line a) (IsLine-next is a)) in
    let here : passed_over line a + length (kept_with window before a) ≡ length before + 1 =
    ap (λ (b : Bool). passed_over line a + length (if b then before else before ++ a ∷ [])) same ∙ late-passed below before a in
    omega (arith, rest, here)

-- ---- from the first one on

record IsSplit (window : ℕ) (all out held : List Numbered) : Type 0 where
  joined : all ≡ out ++ held
  count : length all - window ≡ length out

split-by : (released : Option ℕ) (window : ℕ) (all out held : List Numbered) → AreGivenUp released window out held → length held ≤ window → all ≡ out ++ held → IsSplit window all out held
split-by None window all out held given few joined = record { joined = joined; count = omega (arith, few, ap length joined, length-append out held, ap length given) }
split-by (Some r) window all out held given few joined = record { joined = joined; count = omega (arith, few, given.full, ap length joined, length-append out held) }

module _ (window : ℕ) (arrivals : List Numbered) where
  line_is : IsLine window 0 (line_after (empty_line window) arrivals) arrivals (given_from (empty_line window) arrivals)
  line_is = IsLine-after window arrivals (empty_line window) [] [] (IsLine-empty window)

  split : IsSplit window (in_order window arrivals) (given_from (empty_line window) arrivals) (line_after (empty_line window) arrivals).held
  split =
      let line = line_after (empty_line window) arrivals in
      split-by line.released window (in_order window arrivals) (given_from (empty_line window) arrivals) line.held line_is.given (omega (arith, line_is.few)) line_is.all

  pub order-is : in_order window arrivals ≡ given_from (empty_line window) arrivals ++ (line_after (empty_line window) arrivals).held
  order-is = split.joined

  pub given-count : length (in_order window arrivals) - window ≡ length (given_from (empty_line window) arrivals)
  given-count = split.count

  pub given-is : given_from (empty_line window) arrivals ≡ take (length (in_order window arrivals) - window) (in_order window arrivals)
  given-is = sym ((λ i. take (given-count i) (order-is i)) ∙ take_at (given_from (empty_line window) arrivals) (line_after (empty_line window) arrivals).held (length (given_from (empty_line window) arrivals)) refl)

  pub held-is : (line_after (empty_line window) arrivals).held ≡ drop (length (in_order window arrivals) - window) (in_order window arrivals)
  held-is = sym ((λ i. drop (given-count i) (order-is i)) ∙ drop_at (given_from (empty_line window) arrivals) (line_after (empty_line window) arrivals).held (length (given_from (empty_line window) arrivals)) refl)

  pub late-is-count : late_from (empty_line window) arrivals ≡ late_count window arrivals
  late-is-count = omega (arith, late-after window arrivals (empty_line window) [] [] (IsLine-empty window))
