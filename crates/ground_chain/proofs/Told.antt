-- The verdicts of a run tell of each number up to the last arrival once.
use Rattle.std.proofs.Common.{◌≡◌, ℕ, zero, suc, ◌+◌, ◌-◌, ◌<◌, ◌≤◌, ltb, Bool, true, false, if◌then◌else◌, List, [], ◌∷◌, ◌++◌, All, Option, Some, None, Result, Ok, Err, unwrap_or, refl, sym, ap, ◌∙◌, append_assoc, append-nil, arith}
use Rattle.std.specs.List.{range_with_len}
use Rattle.std.proofs.lemmas.List.Elements.{All-cons}
use Rattle.std.proofs.lemmas.List.Concat.{flat_map-cons}
use Rattle.std.proofs.lemmas.Grind.{common_steps}
use Rattle.bit_vectors.specs.declared.fault.BitFault.{BitFault}
use Rattle.packet_store.specs.SpacePackets.{period}
use Rattle.packet_decode.specs.declared.decoder.Reading.{Reading}
use Rattle.packet_decode.specs.declared.decoder.Reading.TheVariants.{Written, Unsynced, Gap}
use Rattle.ground_chain.specs.Run.{number_after, expected, Arrival, Known, Judged, lost_from, answer_kind, verdict_of, judged_by, judge, run_from, known_from}
use Rattle.ground_chain.specs.Report.{is_repeat, AreArrivals, lost_numbers, numbers_of, run_numbers}
use Rattle.ground_chain.proofs.ListedRows.{number_after-above}

-- ---- numbers of arrivals

-- a number of its own is not below the expected one
abbrev pub IsLater : Option ℕ → Option ℕ → Type 0
IsLater latest None = expected latest ≡ unwrap_or latest 0 + 1
IsLater latest (Some t) = expected latest ≤ t

some_later : (latest count : ℕ) → count < period → (number : Option ℕ) → number_after (Some latest) count ≡ number → IsLater (Some latest) number
some_later latest count few None is = refl
some_later latest count few (Some t) is = let above = number_after-above latest count t few is in omega (arith, above.0)

pub number_later : (latest : Option ℕ) (count : ℕ) → count < period → IsLater latest (number_after latest count)
number_later None count few = omega arith
number_later (Some latest) count few = some_later latest count few (number_after (Some latest) count) refl

-- ---- ranges

pub range_then : (n a m : ℕ) → range_with_len a n ++ range_with_len (a + n) m ≡ range_with_len a (n + m)
range_then zero a m =
    let first : a + zero ≡ a = omega arith in
    let count : m ≡ zero + m = omega arith in
    ap (λ (k : ℕ). range_with_len k m) first ∙ ap (range_with_len a) count
range_then (suc n) a m =
    let first : a + suc n ≡ a + 1 + n = omega arith in
    let count : suc (n + m) ≡ suc n + m = omega arith in
    ap (λ (k : ℕ). a ∷ (range_with_len (a + 1) n ++ range_with_len k m)) first ∙ (ap (λ (l : List ℕ). a ∷ l) (range_then n (a + 1) m) ∙ ap (range_with_len a) count)

pub ranges : (a b : ℕ) → a ≤ b → range_with_len 0 a ++ range_with_len a (b - a) ≡ range_with_len 0 b
ranges a b le =
    let first : a ≡ 0 + a = omega arith in
    let count : a + (b - a) ≡ b = omega arith in
    ap (λ (k : ℕ). range_with_len 0 a ++ range_with_len k (b - a)) first ∙ (range_then a 0 (b - a) ∙ ap (range_with_len 0) count)

-- ---- one verdict

never_repeat : (answer : Result Reading BitFault) → is_repeat (answer_kind answer) ≡ false
never_repeat (Ok Written) = refl
never_repeat (Ok (Unsynced mask)) = refl
never_repeat (Ok (Gap level mask)) = refl
never_repeat (Err fault) = refl

numbers_from : (first t : ℕ) → first ≤ t → (lost : Bool) → ltb first t ≡ lost → lost_numbers (if lost then Some (record { first = first; last = t - 1 }) else None) ++ t ∷ [] ≡ range_with_len first (t + 1 - first)
numbers_from first t le true is =
    let less : first < t = grind (arith, common_steps) in
    let count : t - 1 - first + 1 ≡ t - first = omega arith in
    let place : t ≡ first + (t - first) = omega arith in
    let all : t - first + 1 ≡ t + 1 - first = omega arith in
    ap (λ (n : ℕ). range_with_len first n ++ t ∷ []) count
    ∙ (ap (λ (k : ℕ). range_with_len first (t - first) ++ range_with_len k 1) place ∙ (range_then (t - first) first 1 ∙ ap (range_with_len first) all))
numbers_from first t le false is =
    let same : t ≡ first = grind (arith, common_steps) in
    let count : 1 ≡ t + 1 - first = omega arith in
    ap (λ (k : ℕ). range_with_len k 1) same ∙ ap (range_with_len first) count

numbers_read : (latest : Option ℕ) (t : ℕ) (answer : Result Reading BitFault) → expected latest ≤ t → numbers_of (verdict_of latest t answer) ≡ range_with_len (expected latest) (t + 1 - expected latest)
numbers_read latest t answer le =
    ap (λ (r : Bool). lost_numbers (lost_from (expected latest) t) ++ (if r then [] else t ∷ [])) (never_repeat answer) ∙ numbers_from (expected latest) t le (ltb (expected latest) t) refl

-- the numbers of a verdict follow those before it
numbers_judged : (f : ℕ) (known : Known) (body : List ℕ) (number : Option ℕ) → IsLater known.latest number
    → range_with_len 0 (expected known.latest) ++ numbers_of (judged_by f known body number).verdict ≡ range_with_len 0 (expected (judged_by f known body number).after.latest)
numbers_judged f known body None later = append-nil (range_with_len 0 (expected known.latest))
numbers_judged f known body (Some t) later =
    ap (λ (l : List ℕ). range_with_len 0 (expected known.latest) ++ l) (numbers_read known.latest t _ later) ∙ ranges (expected known.latest) (t + 1) (omega arith)

-- ---- all verdicts

pub first_arrival : (a : Arrival) (arrivals : List Arrival) → AreArrivals (a ∷ arrivals) → a.count < period
first_arrival a arrivals all = all 0 a (omega arith)

pub later_arrivals : (a : Arrival) (arrivals : List Arrival) → AreArrivals (a ∷ arrivals) → AreArrivals arrivals
later_arrivals a arrivals all = λ k d within. all (suc k) d (omega arith)

pub numbers_once : (f : ℕ) (known : Known) (arrivals : List Arrival) → AreArrivals arrivals
    → range_with_len 0 (expected known.latest) ++ run_numbers (run_from f known arrivals) ≡ range_with_len 0 (expected (known_from f known arrivals).latest)
numbers_once f known [] all = append-nil (range_with_len 0 (expected known.latest))
numbers_once f known (a ∷ arrivals) all =
    let j = judge f known a in
    let before = range_with_len 0 (expected known.latest) in
    let here = numbers_judged f known a.body (number_after known.latest a.count) (number_later known.latest a.count (first_arrival a arrivals all)) in
    ap (λ (l : List ℕ). before ++ l) (flat_map-cons (λ (x : Judged). numbers_of x.verdict) j (run_from f j.after arrivals))
    ∙ (sym (append_assoc before (numbers_of j.verdict) (run_numbers (run_from f j.after arrivals)))
    ∙ (ap (λ (l : List ℕ). l ++ run_numbers (run_from f j.after arrivals)) here ∙ numbers_once f j.after arrivals (later_arrivals a arrivals all)))

-- ---- rising

-- the number of a verdict is below the one that is expected after it
below_judged : (f : ℕ) (known : Known) (body : List ℕ) (number : Option ℕ) → IsLater known.latest number → (judged_by f known body number).verdict.t < expected (judged_by f known body number).after.latest
below_judged f known body None later = omega (arith, later)
below_judged f known body (Some t) later = omega arith

rising_judged : (f : ℕ) (known : Known) (body : List ℕ) (number : Option ℕ) → IsLater known.latest number → expected known.latest ≤ expected (judged_by f known body number).after.latest
rising_judged f known body None later = omega arith
rising_judged f known body (Some t) later = omega (arith, later)

pub expected_rises : (f : ℕ) (known : Known) (arrivals : List Arrival) → AreArrivals arrivals → expected known.latest ≤ expected (known_from f known arrivals).latest
expected_rises f known [] all = omega arith
expected_rises f known (a ∷ arrivals) all =
    let here = rising_judged f known a.body (number_after known.latest a.count) (number_later known.latest a.count (first_arrival a arrivals all)) in
    omega (arith, here, expected_rises f (judge f known a).after arrivals (later_arrivals a arrivals all))

none_below : (bound : ℕ) → All (λ (j : Judged). j.verdict.t < bound) []
none_below bound = λ k d within. absurd (omega arith)

pub numbers_below : (f : ℕ) (known : Known) (arrivals : List Arrival) → AreArrivals arrivals → All (λ (j : Judged). j.verdict.t < expected (known_from f known arrivals).latest) (run_from f known arrivals)
numbers_below f known [] all = none_below (expected known.latest)
numbers_below f known (a ∷ arrivals) all =
    let number = number_after known.latest a.count in
    let j = judge f known a in
    let rest = later_arrivals a arrivals all in
    let here = below_judged f known a.body number (number_later known.latest a.count (first_arrival a arrivals all)) in
    All-cons (λ (x : Judged). x.verdict.t < expected (known_from f j.after arrivals).latest) j (run_from f j.after arrivals) (omega (arith, here, expected_rises f j.after arrivals rest)) (numbers_below f j.after arrivals rest)

-- an arrival that is no repeat has at least the expected number, and a repeat the latest one
pub expected_own : (f : ℕ) (known : Known) (body : List ℕ) (number : Option ℕ) → IsLater known.latest number → is_repeat (judged_by f known body number).verdict.kind ≡ false → expected known.latest ≤ (judged_by f known body number).verdict.t
expected_own f known body None later own = absurd cc
expected_own f known body (Some t) later own = later
