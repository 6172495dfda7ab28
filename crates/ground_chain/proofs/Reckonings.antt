-- One more judged arrival: the numbers of the run, and the bytes of a reckoning in a saved state.
use Rattle.std.specs.Prelude.{IfSome}
use Rattle.std.proofs.Common.{◌≡◌, ℕ, suc, ◌+◌, ◌-◌, ◌<◌, ◌≤◌, ltb, Bool, true, false, if◌then◌else◌, List, [], ◌∷◌, ◌++◌, length, Option, Some, None, Result, Ok, Err, refl, sym, ap, ◌∙◌, arith, zero, subst, ◌*◌, ◌^◌, take, drop, append_assoc}
use Rattle.std.proofs.lemmas.Grind.{common_steps}
use Rattle.std.proofs.lemmas.List.{length-append, length-drop, length-take-le}
use Rattle.std.proofs.lemmas.List.Sums.{sum_by-cons}
use Rattle.bit_vectors.specs.Vectors.{bits_of}
use Rattle.bit_vectors.specs.declared.fault.BitFault.{BitFault}
use Rattle.state_bytes.specs.Parts.{Puts, number_bytes}
use Rattle.state_bytes.proofs.Parts.{length-number_bytes, number_agrees}
use Rattle.packet_decode.specs.PacketReading.{answer_of}
use Rattle.packet_decode.specs.Saved.{AreOfDecoding, decoding_bytes, number_and_one}
use Rattle.packet_decode.specs.State.{IsState, KnownVector, known_number}
use Rattle.packet_decode.specs.declared.decoder.Reading.{Reading}
use Rattle.packet_decode.specs.declared.decoder.Reading.TheVariants.{Written, Unsynced, Gap}
use Rattle.packet_decode.proofs.SavedDecoders.{decodings_agree}
use Rattle.ground_chain.specs.Reception.{known_of, next_judged, Reckoning, HasJudged, Judges, next_run, IsWithinLimits}
use Rattle.ground_chain.specs.Report.{is_written_kind, is_repeat, is_unwritten, lost_count, listed_by, restored_of, restored_by, added, AreArrivals, Texts, all_parts, IsRestored}
use Rattle.ground_chain.specs.Run.{number_after, expected, Arrival, Known, Judged, answer_kind, judged_by, judge, run_from, known_from, nothing_known, run, known_after}
use Rattle.ground_chain.specs.Saved.{AreFitting, AreOfReckoning, IsReckoning, counts_before, counts_bytes, reckoning_bytes}
use Rattle.ground_chain.specs.declared.restored.Restored.{Restored}
use Rattle.ground_chain.proofs.EveryRun.{run_from-append, stands_next}
use Rattle.ground_chain.proofs.Told.{IsLater, number_later, first_arrival, later_arrivals}

-- ---- the numbers of a run, arrival by arrival

-- one arrival and then the others
pub restored_of-cons : (j : Judged) (run : List Judged) → restored_of (j ∷ run) ≡ added (restored_by j.verdict) (restored_of run)
restored_of-cons j run =
    let packets : suc (length run) ≡ 1 + length run = omega arith in
    let written = sum_by-cons (λ (x : Judged). if is_written_kind x.verdict.kind then 1 else 0) j run in
    let repeats = sum_by-cons (λ (x : Judged). if is_repeat x.verdict.kind then 1 else 0) j run in
    let listed = sum_by-cons (λ (x : Judged). listed_by x.verdict) j run in
    λ i. record { packets = packets i; written = written i; repeats = repeats i; listed = listed i }

pub added-assoc : (a b c : Restored) → added (added a b) c ≡ added a (added b c)
added-assoc a b c =
    let packets : a.packets + b.packets + c.packets ≡ a.packets + (b.packets + c.packets) = omega arith in
    let written : a.written + b.written + c.written ≡ a.written + (b.written + c.written) = omega arith in
    let repeats : a.repeats + b.repeats + c.repeats ≡ a.repeats + (b.repeats + c.repeats) = omega arith in
    let listed : a.listed + b.listed + c.listed ≡ a.listed + (b.listed + c.listed) = omega arith in
    λ i. record { packets = packets i; written = written i; repeats = repeats i; listed = listed i }

pub none-added : (a : Restored) → added (restored_of []) a ≡ a
none-added a =
    let packets : 0 + a.packets ≡ a.packets = omega arith in
    let written : 0 + a.written ≡ a.written = omega arith in
    let repeats : 0 + a.repeats ≡ a.repeats = omega arith in
    let listed : 0 + a.listed ≡ a.listed = omega arith in
    λ i. record { packets = packets i; written = written i; repeats = repeats i; listed = listed i }

pub added-none : (a : Restored) → added a (restored_of []) ≡ a
added-none a =
    let packets : a.packets + 0 ≡ a.packets = omega arith in
    let written : a.written + 0 ≡ a.written = omega arith in
    let repeats : a.repeats + 0 ≡ a.repeats = omega arith in
    let listed : a.listed + 0 ≡ a.listed = omega arith in
    λ i. record { packets = packets i; written = written i; repeats = repeats i; listed = listed i }

-- one part of a run and then another
pub restored_of-append : (xs ys : List Judged) → restored_of (xs ++ ys) ≡ added (restored_of xs) (restored_of ys)
restored_of-append [] ys = sym (none-added (restored_of ys))
restored_of-append (x ∷ xs) ys =
    restored_of-cons x (xs ++ ys)
    ∙ (ap (added (restored_by x.verdict)) (restored_of-append xs ys)
    ∙ (sym (added-assoc (restored_by x.verdict) (restored_of xs) (restored_of ys)) ∙ ap (λ (r : Restored). added r (restored_of ys)) (sym (restored_of-cons x xs))))

-- ---- what the numbers say together

lost_count_is : (first t : ℕ) → first ≤ t → (lost : Bool) → ltb first t ≡ lost → lost_count (if lost then Some (record { first = first; last = t - 1 }) else None) + first ≡ t
lost_count_is first t le true is = let less : first < t = grind (arith, common_steps) in omega arith
lost_count_is first t le false is = grind (arith, common_steps)

-- an answer is a written packet or one that is not written
answer_counts : (answer : Result Reading BitFault) → (if is_written_kind (answer_kind answer) then 1 else 0) + (if is_unwritten (answer_kind answer) then 1 else 0) ≡ 1
answer_counts (Ok Written) = refl
answer_counts (Ok (Unsynced mask)) = refl
answer_counts (Ok (Gap level mask)) = refl
answer_counts (Err fault) = refl

judged_counts : (f : ℕ) (known : Known) (body : List ℕ) (number : Option ℕ) → IsLater known.latest number
    → (restored_by (judged_by f known body number).verdict).written + (restored_by (judged_by f known body number).verdict).listed + expected known.latest ≡ expected (judged_by f known body number).after.latest
judged_counts f known body None later = omega arith
judged_counts f known body (Some t) later =
    omega (arith, answer_counts (answer_of f known.state t (bits_of body)), lost_count_is (expected known.latest) t later (ltb (expected known.latest) t) refl)

pub run_counts : (f : ℕ) (known : Known) (arrivals : List Arrival) → AreArrivals arrivals
    → (restored_of (run_from f known arrivals)).written + (restored_of (run_from f known arrivals)).listed + expected known.latest ≡ expected (known_from f known arrivals).latest
run_counts f known [] all = omega arith
run_counts f known (a ∷ arrivals) all =
    let j = judge f known a in
    let run = run_from f j.after arrivals in
    let here = judged_counts f known a.body (number_after known.latest a.count) (number_later known.latest a.count (first_arrival a arrivals all)) in
    let more = run_counts f j.after arrivals (later_arrivals a arrivals all) in
    let written = ap (λ (r : Restored). r.written) (restored_of-cons j run) in
    let listed = ap (λ (r : Restored). r.listed) (restored_of-cons j run) in
    omega (arith, here, more, written, listed)

pub run_packets : (f : ℕ) (known : Known) (arrivals : List Arrival) → length (run_from f known arrivals) ≡ length arrivals
run_packets f known [] = refl
run_packets f known (a ∷ arrivals) = ap suc (run_packets f (judge f known a).after arrivals)

-- ---- one more judged arrival: what the run over it and the arrivals after it is, what is written of it, and its numbers

abbrev pub arrival_with : ℕ → List ℕ → Arrival
arrival_with count body = record { count = count; body = body }

module _ {old new : Reckoning} {count : ℕ} {body : List ℕ} (is : Judges old new count body) where
  -- the run goes on after it
  pub next_run-judged : (arrivals : List Arrival) → next_run old (arrival_with count body ∷ arrivals) ≡ next_judged old.reception count body ∷ next_run new arrivals
  next_run-judged arrivals = let places = sym is.places in let known = sym is.known in λ i. next_judged old.reception count body ∷ run_from (places i) (known i) arrivals

  -- what is written of it comes before what is written of the others
  pub all_parts-judged : (texts : Texts) (arrivals : List Arrival) → all_parts texts (next_run old (arrival_with count body ∷ arrivals)) ≡ texts.parts (next_judged old.reception count body) ++ all_parts texts (next_run new arrivals)
  all_parts-judged texts arrivals = ap (all_parts texts) (next_run-judged arrivals)

  -- its numbers are counted
  pub added-judged : (arrivals : List Arrival) → added old.restored (restored_of (next_run old (arrival_with count body ∷ arrivals))) ≡ added new.restored (restored_of (next_run new arrivals))
  added-judged arrivals =
      ap (λ (l : List Judged). added old.restored (restored_of l)) (next_run-judged arrivals)
      ∙ (ap (added old.restored) (restored_of-cons (next_judged old.reception count body) (next_run new arrivals))
      ∙ (sym (added-assoc old.restored (restored_by (next_judged old.reception count body).verdict) (restored_of (next_run new arrivals)))
      ∙ ap (λ (r : Restored). added r (restored_of (next_run new arrivals))) (sym is.restored)))

  -- and if some arrivals were judged, then these and it are
  pub HasJudged-next : (f : ℕ) (arrivals : List Arrival) → HasJudged f arrivals old → HasJudged f (arrivals ++ arrival_with count body ∷ []) new
  HasJudged-next f arrivals has =
      let arrival = arrival_with count body in
      let known : known_of old.reception ≡ known_after f arrivals = has.stands ∙ ap (λ (n : ℕ). known_after n arrivals) has.places in
      let places = has.places in
      let one : restored_of (judge f (known_after f arrivals) arrival ∷ []) ≡ restored_by (judge f (known_after f arrivals) arrival).verdict =
      restored_of-cons (judge f (known_after f arrivals) arrival) [] ∙ added-none (restored_by (judge f (known_after f arrivals) arrival).verdict) in
      let all : restored_of (run f (arrivals ++ arrival ∷ [])) ≡ added (restored_of (run f arrivals)) (restored_by (judge f (known_after f arrivals) arrival).verdict) =
      ap restored_of (run_from-append f nothing_known arrivals (arrival ∷ []))
      ∙ (restored_of-append (run f arrivals) (judge f (known_after f arrivals) arrival ∷ []) ∙ ap (added (restored_of (run f arrivals))) one) in
      record {
        places = is.places ∙ has.places;
        stands = stands_next arrivals old.reception new.reception count body is.places is.known has.stands;
        counted = is.restored ∙ (λ i. added (has.counted i) (restored_by (judge (places i) (known i) arrival).verdict)) ∙ sym all;
      }

-- ---- the bytes of a reckoning in a saved state

pub after_eight : (n : ℕ) (bytes rest : List ℕ) → bytes ≡ number_bytes n ++ rest → length bytes ≡ 8 + length rest
after_eight n bytes rest is = omega (arith, ap (λ (xs : List ℕ). length xs) is, length-append (number_bytes n) rest, length-number_bytes n)

pub counts_size : (next : ℕ) (r : Restored) (bytes rest : List ℕ) → bytes ≡ counts_before next r rest → length bytes ≡ 40 + length rest
counts_size next r bytes rest is =
    let fifth = after_eight r.listed (number_bytes r.listed ++ rest) rest refl in
    let fourth = after_eight r.repeats (number_bytes r.repeats ++ (number_bytes r.listed ++ rest)) (number_bytes r.listed ++ rest) refl in
    let third = after_eight r.written (number_bytes r.written ++ (number_bytes r.repeats ++ (number_bytes r.listed ++ rest))) (number_bytes r.repeats ++ (number_bytes r.listed ++ rest)) refl in
    let second = after_eight r.packets (number_bytes r.packets ++ (number_bytes r.written ++ (number_bytes r.repeats ++ (number_bytes r.listed ++ rest)))) (number_bytes r.written ++ (number_bytes r.repeats ++ (number_bytes r.listed ++ rest))) refl in
    let first = after_eight next bytes (number_bytes r.packets ++ (number_bytes r.written ++ (number_bytes r.repeats ++ (number_bytes r.listed ++ rest)))) is in
    omega (arith, first, second, third, fourth, fifth)

pub counts_length : (next : ℕ) (r : Restored) → length (counts_bytes next r) ≡ 40
counts_length next r =
    let fourth = after_eight r.repeats (number_bytes r.repeats ++ number_bytes r.listed) (number_bytes r.listed) refl in
    let third = after_eight r.written (number_bytes r.written ++ (number_bytes r.repeats ++ number_bytes r.listed)) (number_bytes r.repeats ++ number_bytes r.listed) refl in
    let second = after_eight r.packets (number_bytes r.packets ++ (number_bytes r.written ++ (number_bytes r.repeats ++ number_bytes r.listed))) (number_bytes r.written ++ (number_bytes r.repeats ++ number_bytes r.listed)) refl in
    let first = after_eight next (counts_bytes next r) (number_bytes r.packets ++ (number_bytes r.written ++ (number_bytes r.repeats ++ number_bytes r.listed))) refl in
    omega (arith, first, second, third, fourth, length-number_bytes r.listed)

-- the counts and what follows
pub counts_then : (next : ℕ) (r : Restored) (rest : List ℕ) → counts_bytes next r ++ rest ≡ counts_before next r rest
counts_then next r rest = simp append_assoc refl

-- what was below what comes next, and what is a number and one more up to it
pub below_next : (part : Option KnownVector) (next : ℕ) → IfSome (known_number part) (λ t. t < next) → number_and_one (known_number part) ≤ next
below_next None next below = omega arith
below_next (Some known) next below = omega (arith, below)

pub next_below : (part : Option KnownVector) (next : ℕ) → number_and_one (known_number part) ≤ next → IfSome (known_number part) (λ t. t < next)
next_below None next le = tt
next_below (Some known) next le = omega (arith, le)

-- the latest number by the next one
pub latest_is : (a b : Option ℕ) (next : ℕ) → expected a ≡ next → expected b ≡ next → a ≡ b
latest_is None None next first second = refl
latest_is None (Some n) next first second = absurd (omega (arith, first, second))
latest_is (Some m) None next first second = absurd (omega (arith, first, second))
latest_is (Some m) (Some n) next first second = let e : m ≡ n = omega (arith, first, second) in ap (λ k. Some k) e

-- ---- a reckoning

latest_of : ℕ → Option ℕ
latest_of zero = None
latest_of (suc n) = Some n

expected-latest_of : (next : ℕ) → expected (latest_of next) ≡ next
unfolding latest_of
expected-latest_of zero = refl
expected-latest_of (suc n) = omega arith

pub fitting : (latest : Option ℕ) (r : Restored) → IsWithinLimits latest r → AreFitting r × (expected latest < 2 ^ 64)
fitting latest r limits =
    let near = limits.near in
    let most = limits.most in
    let tally = limits.tally in
    (record { packets = omega (arith, most); written = omega (arith, most, tally.0); repeats = omega (arith, most, tally.1); listed = omega (arith, most, tally.2) }, omega (arith, near, most))

pub reckoning_made : (f next : ℕ) (r : Restored) (rest bytes : List ℕ) → next ≤ 2 ^ 14 * r.packets → IsRestored r → r.packets ≤ 2 ^ 32 → AreOfDecoding f next rest → bytes ≡ counts_before next r rest → AreOfReckoning f bytes
unfolding reckoning_bytes
reckoning_made f next r rest bytes near tally most saved is =
    let e = expected-latest_of next in
    let d = saved.decoding in
    record {
      reckoning = record { reception = record { latest = latest_of next; decoder = d }; restored = r };
      valid = record {
        decoding = saved.valid;
        reception = record {
          places = subst (λ n. IsState n saved.decoding.state) (sym saved.valid.places) saved.valid.state;
          arrived = next_below saved.decoding.state.content (expected (latest_of next)) (rw e saved.content);
          mask_arrived = next_below saved.decoding.state.mask (expected (latest_of next)) (rw e saved.mask);
        };
        limits = record { near = rw e near; tally = tally; most = most };
      };
      bytes_are = is ∙ ap (λ (xs : List ℕ). counts_before next r xs) saved.bytes_are ∙ ap (λ n. counts_before n r (decoding_bytes saved.decoding)) (sym e);
    }

pub counted : (r : Reckoning) (bytes : List ℕ) → bytes ≡ reckoning_bytes r → bytes ≡ counts_before (expected r.reception.latest) r.restored (decoding_bytes r.reception.decoder)
unfolding reckoning_bytes
counted r bytes is = is

pub decoding_of : (f next : ℕ) (r : Reckoning) (rest : List ℕ) → IsReckoning f r → next ≡ expected r.reception.latest → rest ≡ decoding_bytes r.reception.decoder → AreOfDecoding f next rest
decoding_of f next r rest valid next_is rest_is =
    record {
      decoding = r.reception.decoder;
      valid = valid.decoding;
      mask = rw next_is (below_next r.reception.decoder.state.mask (expected r.reception.latest) valid.reception.mask_arrived);
      content = rw next_is (below_next r.reception.decoder.state.content (expected r.reception.latest) valid.reception.arrived);
      bytes_are = rest_is;
    }

-- what is written ends within the room
pub Puts-within : (old new bytes : List ℕ) (at end : ℕ) → Puts old new at bytes end → at ≤ length old → end ≤ length old
Puts-within old new bytes at end puts le =
    omega (arith, puts.len, puts.end_is, ap (λ (xs : List ℕ). length xs) puts.is, length-append (take at old ++ bytes) (drop end old), length-append (take at old) bytes, length-take-le at old le, length-drop end old)

-- ---- what has the same bytes

counts_agree : (m n : ℕ) (r s : Restored) (rest left : List ℕ) → m < 2 ^ 64 → n < 2 ^ 64 → AreFitting r → AreFitting s → counts_before m r rest ≡ counts_before n s left → (m ≡ n) × (r ≡ s) × (rest ≡ left)
counts_agree m n r s rest left m_fits n_fits r_fits s_fits e =
    let a = number_agrees m n _ _ m_fits n_fits e in
    let b = number_agrees r.packets s.packets _ _ r_fits.packets s_fits.packets a.1 in
    let c = number_agrees r.written s.written _ _ r_fits.written s_fits.written b.1 in
    let d = number_agrees r.repeats s.repeats _ _ r_fits.repeats s_fits.repeats c.1 in
    let g = number_agrees r.listed s.listed rest left r_fits.listed s_fits.listed d.1 in
    (a.0, (λ i. record { packets = b.0 i; written = c.0 i; repeats = d.0 i; listed = g.0 i }), g.1)

pub reckonings_agree : (f : ℕ) (a b : Reckoning) → IsReckoning f a → IsReckoning f b → reckoning_bytes a ≡ reckoning_bytes b → a ≡ b
unfolding reckoning_bytes
reckonings_agree f a b first second e =
    let fa = fitting a.reception.latest a.restored first.limits in
    let fb = fitting b.reception.latest b.restored second.limits in
    let told = counts_agree _ _ a.restored b.restored _ _ fa.1 fb.1 fa.0 fb.0 e in
    let decoder = decodings_agree f a.reception.decoder b.reception.decoder first.decoding second.decoding told.2 in
    let latest = latest_is a.reception.latest b.reception.latest (expected b.reception.latest) told.0 refl in
    let restored = told.1 in
    λ i. record { reception = record { latest = latest i; decoder = decoder i }; restored = restored i }
