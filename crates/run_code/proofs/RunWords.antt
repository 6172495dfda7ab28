-- The run words of vectors, and that reading them is exact.
use Rattle.std.specs.Prelude.{IsOk, OnOk}
use Rattle.std.proofs.Common.{◌≡◌, ℕ, zero, suc, ◌+◌, ◌-◌, ◌*◌, ◌^◌, ◌<◌, ◌≤◌, Bool, true, false, cond, List, [], ◌∷◌, ◌++◌, length, get_or, replicate, reverse, refl, ap, ◌∙◌, arith, inl, inr, add-one, ◌≢◌, set, Result, Ok, Err, sym}
use Rattle.std.proofs.lemmas.Bool.{cases_lt, cases_eq}
use Rattle.std.proofs.lemmas.List.{length-append, length-set, length-replicate, get_or-set_same, get_or-set_other, get_or_past, ext_get_or}
use Rattle.bit_vectors.specs.Reading.{EyeState, bits_left, Parsed, Read, Gives, IsExact}
use Rattle.bit_vectors.specs.Vectors.{number_bits, NoneIsOne}
use Rattle.bit_vectors.specs.declared.fault.BitFault.{BitFault}
use Rattle.bit_vectors.proofs.ExactReading.{IsWordThen, IsExact-give, IsExact-same, IsExact-then, Gives-then_err, only_read}
use Rattle.count_code.specs.Code.{count_bits, end_bits}
use Rattle.count_code.specs.Counts.{IsCodeOf, parse_count}
use Rattle.count_code.specs.declared.count.Count.{Count}
use Rattle.count_code.specs.declared.count.Count.TheVariants.{Value, End}
use Rattle.count_code.proofs.CountWords.{power_more, digits_of, count_bits-one, length-count_bits-short, length-count_bits-long}
use Rattle.count_code.proofs.ExactCounts.{IsExact-count_at}
use Rattle.run_code.specs.Extraction.{ones_from, places_down}
use Rattle.run_code.specs.Runs.{runs_from, run_bits, IsRunWordOf, at_count, parse_ones, parse_vector}
use Rattle.run_code.proofs.Ones.{ones_below, places_down_is, zeros_at, ones_below-one, ones_below-none, greatest_one}

-- ---- the run words of vectors

pub run_bits_is : (v : List Bool) → run_bits v ≡ runs_from (length v) (ones_below (length v) v)
unfolding run_bits
run_bits_is v = ap (runs_from (length v)) (places_down_is v)

pub runs_from-cons : (place next : ℕ) (places : List ℕ) → runs_from place (next ∷ places) ≡ count_bits (place - next) ++ runs_from next places
unfolding runs_from
runs_from-cons place next places = refl

pub runs_from-nil : (place : ℕ) → runs_from place [] ≡ end_bits
unfolding runs_from
runs_from-nil place = refl

-- ---- without a 1

no_places : (place f : ℕ) → ones_from place (replicate f false) ≡ []
unfolding ones_from
no_places place zero = refl
no_places place (suc f) = no_places (place + 1) f

-- the run word is the end alone
pub run_bits-zeros : (v : List Bool) → v ≡ replicate (length v) false → run_bits v ≡ number_bits 2 2
unfolding run_bits number_bits
run_bits-zeros v zeros =
    ap (λ places. runs_from (length v) (reverse places)) (ap (ones_from 0) zeros ∙ no_places 0 (length v)) ∙ runs_from-nil (length v)

-- ---- how long

below_power : (k : ℕ) → k < 2 ^ k
below_power zero = omega arith
below_power (suc k) =
    let more : 2 ^ suc k ≡ 2 * 2 ^ k = rw add-one at (power_more k) in
    omega (arith, below_power k)

pub count_bits_most : (a : ℕ) → 1 ≤ a → length (count_bits a) ≤ 4 * a
count_bits_most a some =
    elim (cases_eq a 1) [
      | inl one ↦ rw (one, count_bits-one) (omega arith)
      | inr more ↦ elim (cases_lt a 34) [
        | inl short ↦ omega (arith, length-count_bits-short a (omega arith) (omega arith))
        | inr long ↦
            let d = digits_of (a - 2) (omega arith) in
            omega (arith, length-count_bits-long a long, d.1, d.2.low, below_power d.0)
      ]
    ]

-- each place is below the one before
abbrev pub AreFalling : ℕ → List ℕ → Type 0
AreFalling place [] = Unit {0}
AreFalling place (next ∷ places) = (next < place) × AreFalling next places

falling_from : (places : List ℕ) (n m : ℕ) → n ≤ m → AreFalling n places → AreFalling m places
falling_from [] n m le h = tt
falling_from (next ∷ places) n m le h = (omega (arith, h.0), h.1)

falling_case : (bit : Bool) (n : ℕ) (places : List ℕ) → AreFalling n places → AreFalling (suc n) (cond bit (n ∷ places) places)
falling_case true n places h = (omega arith, h)
falling_case false n places h = falling_from places n (suc n) (omega arith) h

ones_below_fall : (n : ℕ) (v : List Bool) → AreFalling n (ones_below n v)
unfolding ones_below
ones_below_fall zero v = tt
ones_below_fall (suc n) v = falling_case (get_or v n false) n (ones_below n v) (ones_below_fall n v)

pub places_down_fall : (v : List Bool) → AreFalling (length v) (places_down v)
places_down_fall v = rw (places_down_is v) (ones_below_fall (length v) v)

runs_from_most : (place : ℕ) (places : List ℕ) → AreFalling place places → length (runs_from place places) ≤ 4 * place + 2
unfolding runs_from
runs_from_most place [] h = omega arith
runs_from_most place (next ∷ places) h =
    omega (arith, h.0, length-append (count_bits (place - next)) (runs_from next places), count_bits_most (place - next) (omega (arith, h.0)), runs_from_most next places h.1)

pub run_bits_most : (v : List Bool) → length (run_bits v) ≤ 4 * length v + 2
run_bits_most v = rw (run_bits_is v) (runs_from_most (length v) (ones_below (length v) v) (ones_below_fall (length v) v))

-- ---- steps of the reader

pub parse_ones-value : (most below : ℕ) (v bits : List Bool) (a : ℕ) (rest : List Bool) → below < most → 1 ≤ a → a ≤ below → parse_count below bits ≡ Read (Value a) rest
    → (m : ℕ) × (below - a < m) × (parse_ones most below v bits ≡ parse_ones m (below - a) (set v (below - a) true) rest)
unfolding parse_ones
parse_ones-value zero below v bits a rest lt some le read = absurd (omega arith)
parse_ones-value (suc most) below v bits a rest lt some le read = (most, omega arith, rw read refl)

pub parse_ones-end : (most below : ℕ) (v bits rest : List Bool) → below < most → parse_count below bits ≡ Read End rest → parse_ones most below v bits ≡ Read v rest
unfolding parse_ones
parse_ones-end zero below v bits rest lt read = absurd (omega arith)
parse_ones-end (suc most) below v bits rest lt read = rw read refl

pub parse_ones-fault : {A : Type 0} (see : A → List Bool) (most below : ℕ) (v bits : List Bool) (fault : BitFault) (new : EyeState) → below < most
    → Gives (λ (count : Count). count) (Err fault) new (parse_count below bits) → Gives see (Err fault) new (parse_ones most below v bits)
unfolding parse_ones
parse_ones-fault see zero below v bits fault new lt given = absurd (omega arith)
parse_ones-fault see (suc most) below v bits fault new lt given =
    Gives-then_err (λ (count : Count). count) see fault new (parse_count below bits) (λ count rest. at_count count (λ a. parse_ones most (below - a) (set v (below - a) true) rest) (Read v rest)) given

pub vector_at_is : (f : ℕ) (bits : List Bool) → parse_vector f bits ≡ parse_ones (suc f) f (replicate f false) bits
unfolding parse_vector
vector_at_is f bits = refl

-- ---- words

-- the word for the ones of u below a place, if u is v from that place on
record Completes (below : ℕ) (v u word : List Bool) : Type 0 where
  places : length u ≡ length v
  above : (k : ℕ) → below ≤ k → get_or u k false ≡ get_or v k false
  is : word ≡ runs_from below (ones_below below u)

abbrev IsRest : ℕ → List Bool → Count → List Bool → List Bool → Type 0
IsRest below v (Value a) u word = Completes (below - a) (set v (below - a) true) u word
IsRest below v End u word = (u ≡ v) × (word ≡ [])

joined_value : (below : ℕ) (v u word : List Bool) (a : ℕ) (rest : List Bool) → below ≤ length v → NoneIsOne v 0 below → 1 ≤ a → a ≤ below
    → Completes (below - a) (set v (below - a) true) u rest → word ≡ count_bits a ++ rest → Completes below v u word
joined_value below v u word a rest fits none some le h parts =
    let one : get_or u (below - a) false ≡ true = h.above (below - a) (omega arith) ∙ get_or-set_same v (below - a) true false (omega arith) in
    let other : (k : ℕ) → below - a + 1 ≤ k → get_or u k false ≡ get_or v k false =
    λ k after. let ne : k ≢ below - a = omega arith in h.above k (omega arith) ∙ get_or-set_other v (below - a) k true false ne in
    let step = ones_below-one u (below - a) below (omega arith) one (λ k from to. other k from ∙ none k (omega arith) to) in
    let back : below - (below - a) ≡ a = omega arith in
    record {
      places = h.places ∙ length-set v (below - a) true;
      above = λ k after. other k (omega arith);
      is = parts ∙ rw (step, runs_from-cons below (below - a) (ones_below (below - a) u), back, ← h.is) refl;
    }

joined_end : (below : ℕ) (v u word rest : List Bool) → NoneIsOne v 0 below → u ≡ v → rest ≡ [] → word ≡ end_bits ++ rest → Completes below v u word
joined_end below v u word rest none same end parts = record {
  places = ap (λ (bits : List Bool). length bits) same;
  above = λ k after. ap (λ (bits : List Bool). get_or bits k false) same;
  is = parts ∙ rw (end, same, ones_below-none v below none, runs_from-nil below) refl;
}

joined : (below : ℕ) (v : List Bool) → below ≤ length v → NoneIsOne v 0 below → (u word : List Bool) (count : Count) (first rest : List Bool) → IsCodeOf below count first → IsRest below v count u rest → word ≡ first ++ rest → Completes below v u word
joined below v fits none u word (Value a) first rest code h parts = joined_value below v u word a rest fits none code.0.0 code.0.1 h (parts ∙ ap (λ (bits : List Bool). bits ++ rest) code.1)
joined below v fits none u word End first rest code h parts = joined_end below v u word rest none h.0 h.1 (parts ∙ ap (λ (bits : List Bool). bits ++ rest) code.1)

apart_end : (below : ℕ) (v : List Bool) → NoneIsOne v 0 below → (u word : List Bool) → Completes below v u word → NoneIsOne u 0 below → IsWordThen (IsCodeOf below) (IsRest below v) u word
apart_end below v none u word h all =
    let same : u ≡ v = ext_get_or false u v h.places (λ k lt. elim (cases_lt k below) [
      | inl under ↦ all k (omega arith) under ∙ sym (none k (omega arith) under)
      | inr over ↦ h.above k over
    ]) in
    (End, end_bits, [], (tt, refl), (same, refl), h.is ∙ rw (ones_below-none u below all, runs_from-nil below) refl)

apart_value : (below : ℕ) (v : List Bool) → below ≤ length v → NoneIsOne v 0 below → (u word : List Bool) → Completes below v u word → (p : ℕ) → p < below → get_or u p false ≡ true → NoneIsOne u (p + 1) below
    → IsWordThen (IsCodeOf below) (IsRest below v) u word
apart_value below v fits none u word h p lt one over =
    let back : below - (below - p) ≡ p = omega arith in
    let rest : Completes p (set v p true) u (runs_from p (ones_below p u)) = record {
      places = h.places ∙ sym (length-set v p true);
      above = λ k after. elim (cases_eq k p) [
        | inl here ↦ rw here (one ∙ sym (get_or-set_same v p true false (omega arith)))
        | inr other ↦ elim (cases_lt k below) [
          | inl under ↦ over k (omega arith) under ∙ sym (none k (omega arith) under) ∙ sym (get_or-set_other v p k true false other)
          | inr outside ↦ h.above k outside ∙ sym (get_or-set_other v p k true false other)
        ]
      ];
      is = refl;
    } in (
      Value (below - p),
      count_bits (below - p),
      runs_from p (ones_below p u),
      ((omega arith, omega arith), refl),
      rw back rest,
      h.is ∙ rw (ones_below-one u p below lt one over, runs_from-cons below p (ones_below p u)) refl,
    )

apart : (below : ℕ) (v : List Bool) → below ≤ length v → NoneIsOne v 0 below → (u word : List Bool) → Completes below v u word → IsWordThen (IsCodeOf below) (IsRest below v) u word
apart below v fits none u word h =
    elim (greatest_one below u) [
      | inl all ↦ apart_end below v none u word h all
      | inr g ↦ apart_value below v fits none u word h g.0 g.1 g.2 g.3
    ]

some_rest : (below : ℕ) (v : List Bool) (count : Count) → (u : List Bool) × (word : List Bool) × IsRest below v count u word
some_rest below v (Value a) = (set v (below - a) true, runs_from (below - a) (ones_below (below - a) (set v (below - a) true)), record { places = refl; above = λ k after. refl; is = refl })
some_rest below v End = (v, [], (refl, refl))

none_after_set : (below : ℕ) (v : List Bool) (a : ℕ) → NoneIsOne v 0 below → NoneIsOne (set v (below - a) true) 0 (below - a)
none_after_set below v a none k from to =
    let ne : k ≢ below - a = omega arith in
    get_or-set_other v (below - a) k true false ne ∙ none k from (omega arith)

-- reading on after a count
rest_exact : (most below : ℕ) (v : List Bool) → ((a : ℕ) → 1 ≤ a → a ≤ below → IsExact (Completes (below - a) (set v (below - a) true)) (parse_ones most (below - a) (set v (below - a) true)))
    → (count : Count) (first : List Bool) → IsCodeOf below count first → IsExact (IsRest below v count) (λ rest. at_count count (λ a. parse_ones most (below - a) (set v (below - a) true) rest) (Read v rest))
rest_exact most below v later (Value a) first code = later a code.0.0 code.0.1
rest_exact most below v later End first code = IsExact-give v

IsExact-ones_at : (most below : ℕ) (v : List Bool) → below < most → below ≤ length v → NoneIsOne v 0 below → IsExact (Completes below v) (parse_ones most below v)
unfolding parse_ones
IsExact-ones_at zero below v lt fits none = absurd (omega arith)
IsExact-ones_at (suc most) below v lt fits none =
    IsExact-same (IsWordThen (IsCodeOf below) (IsRest below v)) (Completes below v) (parse_ones (suc most) below v)
    (λ u word w. joined below v fits none u word w.0 w.1 w.2 w.3 w.4 w.5)
    (apart below v fits none)
    (IsExact-then (IsCodeOf below) (IsRest below v) (parse_count below) (λ count rest. at_count count (λ a. parse_ones most (below - a) (set v (below - a) true) rest) (Read v rest))
    (IsExact-count_at below)
    (rest_exact most below v (λ a some le. IsExact-ones_at most (below - a) (set v (below - a) true) (omega arith) (omega (arith, length-set v (below - a) true)) (none_after_set below v a none)))
    (λ count first code. some_rest below v count))

run_word_of : (f : ℕ) (u word : List Bool) → Completes f (replicate f false) u word → IsRunWordOf f u word
run_word_of f u word h =
    let len : length u ≡ f = h.places ∙ length-replicate f false in
    (len, h.is ∙ sym (rw len at (run_bits_is u)))

completes : (f : ℕ) (u word : List Bool) → IsRunWordOf f u word → Completes f (replicate f false) u word
completes f u word w = record {
  places = w.0 ∙ sym (length-replicate f false);
  above = λ k after. get_or_past u k false (omega (arith, w.0)) ∙ sym (zeros_at f k);
  is = w.1 ∙ rw w.0 at (run_bits_is u);
}

pub IsExact-vector_at : (f : ℕ) → IsExact (IsRunWordOf f) (parse_vector f)
unfolding parse_vector
IsExact-vector_at f =
    IsExact-same (Completes f (replicate f false)) (IsRunWordOf f) (parse_vector f) (run_word_of f) (completes f)
    (IsExact-ones_at (suc f) f (replicate f false) (omega arith) (omega (arith, length-replicate f false)) (λ k from to. zeros_at f k))

-- ---- no word is a prefix of another

same_read : (a b r s : List Bool) → ◌≡◌ {A = Parsed (List Bool)} (Read a r) (Read b s) → (a ≡ b) × (r ≡ s)
same_read a b r s e = (cc, cc)

pub one_run_word : (a b rest others : List Bool) → length a ≡ length b → run_bits a ++ rest ≡ run_bits b ++ others → (a ≡ b) × (rest ≡ others)
one_run_word a b rest others len same =
    let exact = IsExact-vector_at (length a) in
    same_read a b rest others (sym (exact.reads a (run_bits a) rest (refl, refl)) ∙ ap (parse_vector (length a)) same ∙ exact.reads b (run_bits b) others (sym len, refl))

-- ---- what follows from a reading

pub run_taken : (f : ℕ) (v : List Bool) (old new : EyeState) (result : Result (Unit {0}) BitFault) → Gives (λ (u : Unit {0}). v) result new (parse_vector f (bits_left old)) → OnOk result (bits_left old ≡ run_bits v ++ bits_left new)
run_taken f v old new (Ok u) given =
    let r = (IsExact-vector_at f).read_is (bits_left old) v (bits_left new) given in
    r.2 ∙ ap (λ (w : List Bool). w ++ bits_left new) r.1.1
run_taken f v old new (Err fault) given = tt

-- a reading that gives a value corresponds to an answer `Ok`
pub run_only : (f : ℕ) (v : List Bool) (old new : EyeState) (result : Result (Unit {0}) BitFault) → Gives (λ (u : Unit {0}). v) result new (parse_vector f (bits_left old))
    → (w rest : List Bool) → length w ≡ f → bits_left old ≡ run_bits w ++ rest → IsOk result × (v ≡ w)
run_only f v old new result given w rest len parts = only_read v w rest new result (parse_vector f (bits_left old)) given (ap (parse_vector f) parts ∙ (IsExact-vector_at f).reads w (run_bits w) rest (len, refl))
