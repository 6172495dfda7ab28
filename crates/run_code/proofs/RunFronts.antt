-- Which bits begin a run word, and the shortest ending of one.
use Rattle.std.specs.Prelude.{count_by}
use Rattle.std.proofs.Common.{◌≡◌, ◌≢◌, ℕ, zero, suc, ◌+◌, ◌-◌, ◌<◌, ◌≤◌, Bool, true, false, cond, List, [], ◌∷◌, ◌++◌, length, get_or, set, replicate, refl, sym, ap, ◌∙◌, append_assoc, arith, inl, inr, ◌⊎◌, subst, append-nil}
use Rattle.std.proofs.lemmas.Bool.{cases_eq, cases_lt}
use Rattle.std.proofs.lemmas.List.{length-set, length-append, length-replicate, get_or-set_same, get_or-set_other, append_cancel_left}
use Rattle.bit_vectors.specs.Reading.{CanBegin}
use Rattle.bit_vectors.specs.Vectors.{NoneIsOne}
use Rattle.bit_vectors.proofs.ExactReading.{cut_longer}
use Rattle.count_code.specs.Code.{count_bits, end_bits}
use Rattle.count_code.specs.Counts.{IsCount, IsCode, IsBegunBy, IsLeastWithin, word_of}
use Rattle.count_code.specs.declared.count.Count.{Count}
use Rattle.count_code.specs.declared.count.Count.TheVariants.{Value, End}
use Rattle.count_code.proofs.CountWords.{length-count_bits-grow}
use Rattle.count_code.proofs.ExactCounts.{prefix_free}
use Rattle.count_code.proofs.LeastCounts.{least_completes}
use Rattle.run_code.specs.Extraction.{places_down, IsInverseWord}
use Rattle.run_code.specs.Runs.{runs_from, counts_from, lowest_from, counts_of, lowest_of, run_bits, IsRunFront, IsRunWord}
use Rattle.run_code.proofs.InverseBits.{a_word}
use Rattle.run_code.proofs.Ones.{ones_below, one_or_zero, places_down_is, ones_below-none, length-ones_from, zeros_at}
use Rattle.run_code.proofs.RunWords.{AreFalling, places_down_fall}

-- ---- words from places

pub runs_end : (place : ℕ) (places : List ℕ) → runs_from place places ≡ counts_from place places ++ end_bits
unfolding runs_from counts_from
runs_end place [] = refl
runs_end place (next ∷ places) =
    ap (λ (bits : List Bool). count_bits (place - next) ++ bits) (runs_end next places) ∙ sym (append_assoc (count_bits (place - next)) (counts_from next places) end_bits)

runs_further : (place : ℕ) (places : List ℕ) (last : ℕ) → runs_from place (places ++ last ∷ []) ≡ counts_from place places ++ (count_bits (lowest_from place places - last) ++ end_bits)
unfolding runs_from counts_from lowest_from
runs_further place [] last = refl
runs_further place (next ∷ places) last =
    ap (λ (bits : List Bool). count_bits (place - next) ++ bits) (runs_further next places last)
    ∙ sym (append_assoc (count_bits (place - next)) (counts_from next places) (count_bits (lowest_from next places - last) ++ end_bits))

-- ---- below the lowest 1

lowest_by : (n : ℕ) (v : List Bool) (places : List ℕ) → ones_below n v ≡ places → NoneIsOne v 0 (lowest_from n places) → get_or v n false ≡ false → NoneIsOne v 0 (lowest_from (suc n) places)
unfolding lowest_from
lowest_by n v [] is none here = λ k from to.
    elim (cases_eq k n) [
      | inl same ↦ ap (λ (p : ℕ). get_or v p false) same ∙ here
      | inr other ↦ none k from (omega (arith, other, to))
    ]
lowest_by n v (next ∷ places) is none here = none

none_lowest : (n : ℕ) (v : List Bool) → NoneIsOne v 0 (lowest_from n (ones_below n v))
unfolding ones_below lowest_from
none_lowest zero v = λ k from to. absurd (omega (arith, to))
none_lowest (suc n) v =
    elim (one_or_zero (get_or v n false)) [
      | inl one ↦ rw one (none_lowest n v)
      | inr none ↦ rw none (lowest_by n v (ones_below n v) refl (none_lowest n v) none)
    ]

push_by : (bit : Bool) (n last : ℕ) (places : List ℕ) → cond bit (n ∷ (places ++ last ∷ [])) (places ++ last ∷ []) ≡ cond bit (n ∷ places) places ++ last ∷ []
push_by true n last places = refl
push_by false n last places = refl

none_set : (v : List Bool) (p : ℕ) → NoneIsOne v 0 (p + 1) → NoneIsOne (set v p true) 0 p
none_set v p none k from to =
    let ne : k ≢ p = omega arith in
    get_or-set_other v p k true false ne ∙ none k from (omega arith)

-- a 1 below all others is the last
set_below : (n : ℕ) (v : List Bool) (p : ℕ) → p < n → p < length v → NoneIsOne v 0 (p + 1) → ones_below n (set v p true) ≡ ones_below n v ++ p ∷ []
unfolding ones_below
set_below zero v p lt within none = absurd (omega (arith, lt))
set_below (suc n) v p lt within none =
    elim (cases_eq p n) [
      | inl same ↦
          let one : get_or (set v p true) n false ≡ true = ap (λ (k : ℕ). get_or (set v p true) k false) (sym same) ∙ get_or-set_same v p true false within in
          let zero_here : get_or v n false ≡ false = none n (omega arith) (omega (arith, same)) in
          let before : ones_below n (set v p true) ≡ [] = ones_below-none (set v p true) n (λ k from to. none_set v p none k from (omega (arith, same, to))) in
          let after : ones_below n v ≡ [] = ones_below-none v n (λ k from to. none k from (omega (arith, same, to))) in
          rw (one, zero_here, before, after) (ap (λ (k : ℕ). k ∷ []) (sym same))
      | inr other ↦
          let ne : n ≢ p = λ e. other (sym e) in
          let below : p < n = omega (arith, lt, other) in
          rw (get_or-set_other v p n true false ne, set_below n v p below within none) (push_by (get_or v n false) n p (ones_below n v))
    ]

-- ---- whole vectors

pub run_ended : (v : List Bool) → run_bits v ≡ counts_of v ++ end_bits
unfolding run_bits
run_ended v = runs_end (length v) (places_down v)

lowest_most : (place : ℕ) (n : ℕ) (v : List Bool) → n ≤ place → lowest_from place (ones_below n v) ≤ place
unfolding ones_below lowest_from
lowest_most place zero v le = omega arith
lowest_most place (suc n) v le =
    elim (one_or_zero (get_or v n false)) [
      | inl one ↦ let low = lowest_most n n v (omega arith) in rw one (omega (arith, low, le))
      | inr none ↦ rw none (lowest_most place n v (omega (arith, le)))
    ]

-- below the lowest 1 one more place comes last
pub places_further : (v : List Bool) (p : ℕ) → p < lowest_of v → places_down (set v p true) ≡ places_down v ++ p ∷ []
places_further v p lt =
    let low : lowest_from (length v) (ones_below (length v) v) ≡ lowest_of v = ap (lowest_from (length v)) (sym (places_down_is v)) in
    let top : lowest_from (length v) (ones_below (length v) v) ≤ length v = lowest_most (length v) (length v) v (omega arith) in
    let none : NoneIsOne v 0 (lowest_of v) = rw low at (none_lowest (length v) v) in
    let within : p < length v = omega (arith, low, top, lt) in
    places_down_is (set v p true) ∙ ap (λ (n : ℕ). ones_below n (set v p true)) (length-set v p true)
    ∙ set_below (length v) v p within within (λ k from to. none k from (omega (arith, to, lt)))
    ∙ ap (λ (l : List ℕ). l ++ p ∷ []) (sym (places_down_is v))

pub run_further : (v : List Bool) (a : ℕ) → 1 ≤ a → a ≤ lowest_of v → run_bits (set v (lowest_of v - a) true) ≡ counts_of v ++ (count_bits a ++ end_bits)
unfolding run_bits
run_further v a some le =
    let back : lowest_of v - (lowest_of v - a) ≡ a = omega (arith, le) in
    ap (λ (n : ℕ). runs_from n (places_down (set v (lowest_of v - a) true))) (length-set v (lowest_of v - a) true)
    ∙ ap (runs_from (length v)) (places_further v (lowest_of v - a) (omega (arith, some, le)))
    ∙ runs_further (length v) (places_down v) (lowest_of v - a)
    ∙ ap (λ (n : ℕ). counts_of v ++ (count_bits n ++ end_bits)) back

-- ---- directions

pub last_one : (x front : List Bool) → length front < count_by (λ bit. bit) x → (y : List Bool) × IsInverseWord x y (front ++ (replicate (count_by (λ bit. bit) x - length front - 1) false ++ true ∷ []))
last_one x front lt =
    let many = length-ones_from 0 x in
    let zeros = replicate (count_by (λ bit. bit) x - length front - 1) false in
    let w = a_word x (front ++ replicate (count_by (λ bit. bit) x - length front - 1) false) (omega (arith, many, lt, length-append front (replicate (count_by (λ bit. bit) x - length front - 1) false), length-replicate (count_by (λ bit. bit) x - length front - 1) false)) in
    (w.0, rw append_assoc at w.1)

-- ---- what follows the counts of a vector

same_count : (a b : ℕ) → Value a ≡ Value b → a ≡ b
same_count a b e = cc

no_end : (a : ℕ) → End ≡ Value a → (P : Type 0) → P
no_end a e P = cc

-- further counts, below the lowest one, and the end
pub counts_then : (n : ℕ) (ps qs : List ℕ) (more : List Bool) → AreFalling n ps → AreFalling n qs → runs_from n qs ≡ counts_from n ps ++ more → (after : List ℕ) × AreFalling (lowest_from n ps) after × (more ≡ runs_from (lowest_from n ps) after)
unfolding runs_from counts_from lowest_from
counts_then n [] qs more falls others is = (qs, others, sym is)
counts_then n (p ∷ ps) [] more falls others is =
    no_end (n - p) (prefix_free End (Value (n - p)) [] (counts_from p ps ++ more) tt (omega (arith, falls.0)) (append-nil end_bits ∙ is ∙ append_assoc (count_bits (n - p)) (counts_from p ps) more)) _
counts_then n (p ∷ ps) (q ∷ qs) more falls others is =
    let parts : count_bits (n - q) ++ runs_from q qs ≡ count_bits (n - p) ++ (counts_from p ps ++ more) = is ∙ append_assoc (count_bits (n - p)) (counts_from p ps) more in
    let same : n - q ≡ n - p = same_count (n - q) (n - p) (prefix_free (Value (n - q)) (Value (n - p)) (runs_from q qs) (counts_from p ps ++ more) (omega (arith, others.0)) (omega (arith, falls.0)) parts) in
    let here : q ≡ p = omega (arith, same, falls.0, others.0) in
    let tails : runs_from q qs ≡ counts_from p ps ++ more =
    append_cancel_left (count_bits (n - p)) (runs_from q qs) (counts_from p ps ++ more) (ap (λ (a : ℕ). count_bits a ++ runs_from q qs) (sym same) ∙ parts) in
    counts_then p ps qs more falls.1 (subst (λ (k : ℕ). AreFalling k qs) here others.1) (subst (λ (k : ℕ). runs_from k qs ≡ counts_from p ps ++ more) here tails)

-- the same of vectors
record RunsOn (v more : List Bool) : Type 0 where
  after : List ℕ
  falls : AreFalling (lowest_of v) after
  is : more ≡ runs_from (lowest_of v) after

runs_on : (v w more : List Bool) → length w ≡ length v → run_bits w ≡ counts_of v ++ more → RunsOn v more
unfolding run_bits
runs_on v w more len is =
    let c = counts_then (length v) (places_down v) (places_down w) more (places_down_fall v) (subst (λ (n : ℕ). AreFalling n (places_down w)) len (places_down_fall w)) (ap (λ (n : ℕ). runs_from n (places_down w)) (sym len) ∙ is) in
    record { after = c.0; falls = c.1; is = c.2 }

-- ---- the front of one more word

-- if a list begins with a count's word, then bits at its front that begin any word begin that one
count_begun : (a : ℕ) (more front rest : List Bool) (count : Count) → 1 ≤ a → IsCount count → IsBegunBy front count → front ++ rest ≡ count_bits a ++ more → IsBegunBy front (Value a)
count_begun a more front rest count some is_count begun is =
    elim (cases_lt (length (count_bits a)) (length front)) [
      | inl longer ↦
          let m = cut_longer (count_bits a) more front rest (sym is) (omega arith) in
          let parts : word_of count ++ [] ≡ count_bits a ++ (m.0 ++ begun.0) = append-nil (word_of count) ∙ begun.1 ∙ ap (λ (b : List Bool). b ++ begun.0) m.1 ∙ append_assoc (count_bits a) m.0 begun.0 in
          (begun.0, sym (ap word_of (prefix_free count (Value a) [] (m.0 ++ begun.0) is_count some parts)) ∙ begun.1)
      | inr within ↦ let m = cut_longer front rest (count_bits a) more is within in (m.0, m.1)
    ]

-- the end, or a count within the place of the lowest one
word_begun : (low : ℕ) (after : List ℕ) (front rest : List Bool) (count : Count) → AreFalling low after → IsCount count → IsBegunBy front count → front ++ rest ≡ runs_from low after → CanBegin (IsCode low) front
unfolding runs_from
word_begun low [] front rest count falls some begun is = (rest, (End, (tt, is)))
word_begun low (q ∷ qs) front rest count falls some begun is =
    let b = count_begun (low - q) (runs_from q qs) front rest count (omega (arith, falls.0)) some begun is in
    (b.0, (Value (low - q), ((omega (arith, falls.0), omega arith), sym b.1)))

completed : (v front : List Bool) → IsBegunBy front End ⊎ IsLeastWithin (lowest_of v) front → CanBegin (IsRunWord (length v)) (counts_of v ++ front)
completed v front (inl end) =
    (end.0, (v, (refl, append_assoc (counts_of v) front end.0 ∙ ap (λ (b : List Bool). counts_of v ++ b) (sym end.1) ∙ sym (run_ended v))))
completed v front (inr l) =
    let more = l.begun.0 in (
      more ++ end_bits,
      (
        set v (lowest_of v - l.least) true,
        (
          length-set v (lowest_of v - l.least) true,
          append_assoc (counts_of v) front (more ++ end_bits)
              ∙ ap (λ (b : List Bool). counts_of v ++ b) (sym (append_assoc front more end_bits) ∙ ap (λ (b : List Bool). b ++ end_bits) (sym l.begun.1))
              ∙ sym (run_further v l.least l.within.0 l.within.1),
        ),
      ),
    )

begun : (v front : List Bool) (count : Count) → IsCount count → IsBegunBy front count → CanBegin (IsRunWord (length v)) (counts_of v ++ front) → IsBegunBy front End ⊎ IsLeastWithin (lowest_of v) front
begun v front count some is (rest, (w, (len, word))) =
    let r = runs_on v w (front ++ rest) len (sym word ∙ append_assoc (counts_of v) front rest) in
    (least_completes (lowest_of v) front).0 (word_begun (lowest_of v) r.after front rest count r.falls some is r.is)

-- after the counts of a vector, bits in the middle of a word
pub begins_next : (v front : List Bool) (count : Count) → IsCount count → IsBegunBy front count
    → (CanBegin (IsRunWord (length v)) (counts_of v ++ front) → IsBegunBy front End ⊎ IsLeastWithin (lowest_of v) front) × (IsBegunBy front End ⊎ IsLeastWithin (lowest_of v) front → CanBegin (IsRunWord (length v)) (counts_of v ++ front))
begins_next v front count some is = (begun v front count some is, completed v front)

-- ---- all fronts

counts_further : (n : ℕ) (ps : List ℕ) (q : ℕ) → counts_from n (ps ++ q ∷ []) ≡ counts_from n ps ++ count_bits (lowest_from n ps - q)
unfolding counts_from lowest_from
counts_further n [] q = append-nil (count_bits (n - q))
counts_further n (p ∷ ps) q = ap (λ (b : List Bool). count_bits (n - p) ++ b) (counts_further p ps q) ∙ sym (append_assoc (count_bits (n - p)) (counts_from p ps) (count_bits (lowest_from p ps - q)))

lowest_further : (n : ℕ) (ps : List ℕ) (q : ℕ) → lowest_from n (ps ++ q ∷ []) ≡ q
unfolding lowest_from
lowest_further n [] q = refl
lowest_further n (p ∷ ps) q = lowest_further p ps q

counts_set : (v : List Bool) (q : ℕ) → q < lowest_of v → counts_of (set v q true) ≡ counts_of v ++ count_bits (lowest_of v - q)
counts_set v q lt =
    ap (λ (n : ℕ). counts_from n (places_down (set v q true))) (length-set v q true) ∙ ap (counts_from (length v)) (places_further v q lt) ∙ counts_further (length v) (places_down v) q

lowest_set : (v : List Bool) (q : ℕ) → q < lowest_of v → lowest_of (set v q true) ≡ q
lowest_set v q lt =
    ap (λ (n : ℕ). lowest_from n (places_down (set v q true))) (length-set v q true) ∙ ap (lowest_from (length v)) (places_further v q lt) ∙ lowest_further (length v) (places_down v) q

front_of : (after : List ℕ) (f : ℕ) (v front rest bits : List Bool) → length v ≡ f → bits ≡ counts_of v ++ front → AreFalling (lowest_of v) after → front ++ rest ≡ runs_from (lowest_of v) after → IsRunFront f bits
unfolding runs_from
front_of [] f v front rest bits len parts falls is = record { vector = v; places = len; front = front; parts = parts; next = inl (rest, sym is) }
front_of (q ∷ qs) f v front rest bits len parts falls is =
    let a = lowest_of v - q in
    let low : lowest_of (set v q true) ≡ q = lowest_set v q falls.0 in
    elim (cases_lt (length (count_bits (lowest_of v - q))) (length front)) [
      | inl longer ↦
          let m = cut_longer (count_bits a) (runs_from q qs) front rest (sym is) (omega arith) in
          front_of qs f (set v q true) m.0 rest bits (length-set v q true ∙ len)
          (parts ∙ ap (λ (b : List Bool). counts_of v ++ b) m.1 ∙ sym (append_assoc (counts_of v) (count_bits a) m.0) ∙ ap (λ (b : List Bool). b ++ m.0) (sym (counts_set v q falls.0)))
          (subst (λ (k : ℕ). AreFalling k qs) (sym low) falls.1)
          (sym m.2 ∙ ap (λ (k : ℕ). runs_from k qs) (sym low))
      | inr within ↦
          let m = cut_longer front rest (count_bits a) (runs_from q qs) is within in
          record {
            vector = v;
            places = len;
            front = front;
            parts = parts;
            next = (least_completes (lowest_of v) front).0 (m.0, (Value a, ((omega (arith, falls.0), omega arith), sym m.1)));
          }
    ]

no_places : (f : ℕ) → places_down (replicate f false) ≡ []
no_places f = places_down_is (replicate f false) ∙ ones_below-none (replicate f false) (length (replicate f false)) (λ k from to. zeros_at f k)

pub front_is : (f : ℕ) (bits : List Bool) → CanBegin (IsRunWord f) bits → IsRunFront f bits
unfolding run_bits counts_from lowest_from
front_is f bits (rest, (w, (len, word))) =
    let none = no_places f in
    let zeros = length-replicate f false in
    let low : lowest_of (replicate f false) ≡ f = ap (lowest_from (length (replicate f false))) none ∙ zeros in
    front_of (places_down w) f (replicate f false) bits rest bits zeros
    (ap (λ (ps : List ℕ). counts_from (length (replicate f false)) ps ++ bits) (sym none))
    (subst (λ (n : ℕ). AreFalling n (places_down w)) (len ∙ sym low) (places_down_fall w))
    (word ∙ ap (λ (n : ℕ). runs_from n (places_down w)) (len ∙ sym low))

pub front_begins : (f : ℕ) (bits : List Bool) → IsRunFront f bits → CanBegin (IsRunWord f) bits
front_begins f bits r =
    let c = completed r.vector r.front r.next in
    (c.0, (c.1.0, (c.1.1.0 ∙ r.places, ap (λ (b : List Bool). b ++ c.0) r.parts ∙ c.1.1.1)))

-- ---- the shortest ending

pub shortest_ended : (v w rest : List Bool) → length w ≡ length v → run_bits w ≡ counts_of v ++ rest → length (run_bits v) ≤ length (run_bits w)
shortest_ended v w rest len is =
    let r = runs_on v w rest len is in
    let whole : length (run_bits w) ≡ length (counts_of v) + length rest = ap length is ∙ length-append (counts_of v) rest in
    let ended : length (run_bits v) ≡ length (counts_of v) + 2 = ap length (run_ended v) ∙ length-append (counts_of v) end_bits in
    let end : length rest ≡ length (counts_from (lowest_of v) r.after) + 2 = ap length (r.is ∙ runs_end (lowest_of v) r.after) ∙ length-append (counts_from (lowest_of v) r.after) end_bits in
    omega (arith, whole, ended, end)

-- a word that the bits begin is that of the least count or longer
no_shorter : (low : ℕ) (after : List ℕ) (front rest : List Bool) (l : IsLeastWithin low front) → (IsBegunBy front End → ⊥) → AreFalling low after → front ++ rest ≡ runs_from low after → length (count_bits l.least) + 2 ≤ length (front ++ rest)
unfolding runs_from
no_shorter low [] front rest l no_end falls is = absurd (no_end (rest, sym is))
no_shorter low (q ∷ qs) front rest l no_end falls is =
    let many : length (runs_from q qs) ≡ length (counts_from q qs) + 2 = ap length (runs_end q qs) ∙ length-append (counts_from q qs) end_bits in
    let whole : length (front ++ rest) ≡ length (count_bits (low - q)) + length (runs_from q qs) = ap length is ∙ length-append (count_bits (low - q)) (runs_from q qs) in
    let some : 1 ≤ low - q = omega (arith, falls.0) in
    let least : l.least ≤ low - q = l.lower (low - q) some (count_begun (low - q) (runs_from q qs) front rest (Value l.least) some l.within.0 l.begun is) in
    omega (arith, many, whole, length-count_bits-grow l.least (low - q) l.within.0 least)

pub shortest_further : (v w front rest : List Bool) (next : IsLeastWithin (lowest_of v) front) → (IsBegunBy front End → ⊥) → length w ≡ length v → run_bits w ≡ counts_of v ++ (front ++ rest)
    → length (run_bits (set v (lowest_of v - next.least) true)) ≤ length (run_bits w)
shortest_further v w front rest next no_end len is =
    let r = runs_on v w (front ++ rest) len is in
    let least = next.least in
    let whole : length (run_bits w) ≡ length (counts_of v) + length (front ++ rest) = ap length is ∙ length-append (counts_of v) (front ++ rest) in
    let ended : length (run_bits (set v (lowest_of v - next.least) true)) ≡ length (counts_of v) + length (count_bits next.least ++ end_bits) =
    ap length (run_further v least next.within.0 next.within.1) ∙ length-append (counts_of v) (count_bits least ++ end_bits) in
    omega (arith, whole, ended, length-append (count_bits next.least) end_bits, no_shorter (lowest_of v) r.after front rest next no_end r.falls r.is)
