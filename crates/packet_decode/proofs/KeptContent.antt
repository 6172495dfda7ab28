-- A content that is known outside some places: reading it, taking it at once, and the extracted bits.
use Rattle.std.specs.Prelude.{◌||◌, count_by}
use Rattle.std.proofs.Common.{◌≡◌, ℕ, zero, suc, ◌+◌, ◌-◌, ◌<◌, ◌≤◌, Bool, true, false, cond, List, [], ◌∷◌, ◌++◌, length, get_or, take, drop, refl, sym, ap, ◌∙◌, arith, inl, inr, ◌↔◌, not, ◌&&◌, Result, Ok, Err, IsErr, IfErr, OnOk, set}
use Rattle.std.proofs.lemmas.Bool.{cases_lt}
use Rattle.std.proofs.lemmas.List.{length-take, take-append-drop, get_or_append_left, get_or-take, get_or-append_right, get_or-drop, drop_all, append-nil, length-drop, get_or_past, drop_at}
use Rattle.std.proofs.lemmas.Simd.{length-zip2}
use Rattle.bit_vectors.specs.Reading.{Read, WrongBit, TooShort, ◌>>=◌, bit_where, allowed, IsExact, EyeState, bits_left, Gives, parse_front}
use Rattle.bit_vectors.specs.Vectors.{xor_bits, without_bits}
use Rattle.bit_vectors.specs.declared.fault.BitFault.{BitFault}
use Rattle.bit_vectors.specs.declared.fault.BitFault.TheVariants.{Wrong, EndsEarly}
use Rattle.bit_vectors.proofs.ExactReading.{IsBitWhere, IsWordThen, IsExact-give, IsExact-bit_where, IsExact-same, IsExact-then, read_same}
use Rattle.bit_vectors.proofs.FrontReading.{parse_front-enough, parse_front-short}
use Rattle.bit_vectors.proofs.Places.{get_or-zip2_all}
use Rattle.run_code.specs.Extraction.{SameOutside, places_down, parse_filled}
use Rattle.run_code.proofs.Filling.{parse_filled-no_wrong, parse_filled-read, parse_filled-short}
use Rattle.run_code.proofs.Ones.{length-places_down}
use Rattle.packet_decode.specs.PacketReading.{parse_kept, Tells, Outcome}
use Rattle.packet_decode.proofs.Readers.{IsImage, IsExact-map}

-- ---- reading a content that is known outside some places

-- a content that has the known bit at each place but these, and its bits
abbrev pub IsKept : List Bool → List Bool → List Bool → List Bool → Type 0
IsKept places known v word = (length v ≡ length known) × SameOutside places known v × (word ≡ v)

-- which bits may come at a place
abbrev may_come : Bool → Bool → Bool → Bool
may_come free was = allowed (free || not was) (free || was)

known_may : (free was : Bool) → may_come free was was ≡ true
known_may true true = refl
known_may true false = refl
known_may false true = refl
known_may false false = refl

same_bit : (free was bit : Bool) → may_come free was bit ≡ true → free ≡ false → bit ≡ was
same_bit true was bit may bound = absurd cc
same_bit false true true may bound = refl
same_bit false true false may bound = absurd cc
same_bit false false true may bound = absurd cc
same_bit false false false may bound = refl

may_by : (free was bit : Bool) → (free ≡ false → bit ≡ was) → may_come free was bit ≡ true
may_by true was true same = refl
may_by true was false same = refl
may_by false was bit same = rw (same refl) (known_may false was)

SameOutside-cons : (free was bit : Bool) (places known v : List Bool) → (free ≡ false → bit ≡ was) → SameOutside places known v → SameOutside (free ∷ places) (was ∷ known) (bit ∷ v)
SameOutside-cons free was bit places known v first later zero bound = first bound
SameOutside-cons free was bit places known v first later (suc place) bound = later place bound

abbrev IsKeptThen : Bool → Bool → List Bool → List Bool → List Bool → List Bool → Type 0
IsKeptThen free was places known = IsWordThen (IsBitWhere (may_come free was)) (λ bit. IsImage (λ content. bit ∷ content) (IsKept places known))

kept_joined : (free was : Bool) (places known v word : List Bool) → IsKeptThen free was places known v word → IsKept (free ∷ places) (was ∷ known) v word
kept_joined free was places known v word (bit, front, back, first, (content, kept, is), parts) =
    rw is (
      omega (arith, kept.0),
      SameOutside-cons free was bit places known content (same_bit free was bit first.0) kept.1,
      parts ∙ rw (first.1, kept.2) refl,
    )

kept_apart : (free was : Bool) (places known v word : List Bool) → IsKept (free ∷ places) (was ∷ known) v word → IsKeptThen free was places known v word
kept_apart free was places known [] word (len, same, is) = absurd (omega (arith, len))
kept_apart free was places known (bit ∷ v) word (len, same, is) =
    (bit, bit ∷ [], v, (may_by free was bit (same 0), refl), (v, (omega (arith, len), λ place. same (suc place), refl), refl), is)

no_place : (places v word : List Bool) → IsKept places [] v word → (v ≡ []) × (word ≡ [])
no_place places [] word (len, same, is) = (refl, is)
no_place places (bit ∷ v) word (len, same, is) = absurd (omega (arith, len))

nothing_kept : (v word : List Bool) → (v ≡ []) × (word ≡ []) → IsKept [] [] v word
nothing_kept v word (none, empty) = rw (none, empty) (refl, λ place bound. refl, refl)

pub IsExact-kept_at : (places known : List Bool) → length places ≡ length known → IsExact (IsKept places known) (parse_kept places known)
unfolding parse_kept
IsExact-kept_at [] [] len =
    IsExact-same (λ (v : List Bool) (word : List Bool). (v ≡ []) × (word ≡ [])) (IsKept [] []) (parse_kept [] []) nothing_kept (no_place []) (IsExact-give [])
IsExact-kept_at [] (was ∷ known) len = absurd (omega (arith, len))
IsExact-kept_at (free ∷ places) [] len = absurd (omega (arith, len))
IsExact-kept_at (free ∷ places) (was ∷ known) len =
    IsExact-same (IsKeptThen free was places known) (IsKept (free ∷ places) (was ∷ known)) (parse_kept (free ∷ places) (was ∷ known))
    (kept_joined free was places known) (kept_apart free was places known)
    (IsExact-then (IsBitWhere (may_come free was)) (λ bit. IsImage (λ content. bit ∷ content) (IsKept places known))
    (bit_where (may_come free was)) (λ bit rest. parse_kept places known rest >>= λ content last. Read (bit ∷ content) last)
    (IsExact-bit_where (may_come free was) was (known_may free was))
    (λ bit word w. IsExact-map (λ content. bit ∷ content) (IsKept places known) (parse_kept places known) (IsExact-kept_at places known (omega (arith, len))))
    (λ bit word w. (bit ∷ known, known, (known, (refl, λ place bound. refl, refl), refl))))

-- ---- what whole vectors tell of it

may_not : (free was bit : Bool) → free ≡ false → (bit ≡ was → ⊥) → may_come free was bit ≡ false
may_not true was bit bound differs = absurd cc
may_not false true true bound differs = absurd (differs refl)
may_not false true false bound differs = refl
may_not false false true bound differs = refl
may_not false false false bound differs = absurd (differs refl)

-- no bit differs
parse_kept-read : (places known bits : List Bool) → length places ≡ length known → length known ≤ length bits → SameOutside places known (take (length known) bits) → parse_kept places known bits ≡ Read (take (length known) bits) (drop (length known) bits)
parse_kept-read places known bits len enough same =
    ap (parse_kept places known) (sym (take-append-drop (length known) bits))
    ∙ (IsExact-kept_at places known len).reads (take (length known) bits) (take (length known) bits) (drop (length known) bits) (omega (arith, length-take (length known) bits), same, refl)

-- the bits end before one differs
parse_kept-short : (places known bits : List Bool) → length places ≡ length known → length bits < length known → ((k : ℕ) → k < length bits → get_or places k false ≡ false → get_or bits k false ≡ get_or known k false) → parse_kept places known bits ≡ TooShort
unfolding parse_kept
parse_kept-short [] known bits len less same = absurd (omega (arith, len))
parse_kept-short (free ∷ places) [] bits len less same = absurd (omega (arith, len))
parse_kept-short (free ∷ places) (was ∷ known) [] len less same = refl
parse_kept-short (free ∷ places) (was ∷ known) (bit ∷ bits) len less same =
    rw (may_by free was bit (same 0 (omega arith)), parse_kept-short places known bits (omega (arith, len)) (omega (arith, less)) (λ k lt. same (suc k) (omega arith))) refl

-- the first bit that differs
parse_kept-wrong : (places known bits : List Bool) (p : ℕ) → length places ≡ length known → p < length known → p < length bits
    → ((k : ℕ) → k < p → get_or places k false ≡ false → get_or bits k false ≡ get_or known k false) → get_or places p false ≡ false → (get_or bits p false ≡ get_or known p false → ⊥)
    → parse_kept places known bits ≡ WrongBit (drop (p + 1) bits)
unfolding parse_kept
parse_kept-wrong [] known bits p len place inside same bound differs = absurd (omega (arith, len))
parse_kept-wrong (free ∷ places) [] bits p len place inside same bound differs = absurd (omega (arith, len))
parse_kept-wrong (free ∷ places) (was ∷ known) [] p len place inside same bound differs = absurd (omega (arith, inside))
parse_kept-wrong (free ∷ places) (was ∷ known) (bit ∷ bits) zero len place inside same bound differs = rw (may_not free was bit bound differs) refl
parse_kept-wrong (free ∷ places) (was ∷ known) (bit ∷ bits) (suc p) len place inside same bound differs =
    let more : suc p + 1 ≡ suc (p + 1) = omega arith in
    rw (may_by free was bit (same 0 (omega arith)), parse_kept-wrong places known bits p (omega (arith, len)) (omega (arith, place)) (omega (arith, inside)) (λ k lt. same (suc k) (omega arith)) bound differs, more) refl

-- ---- a content taken at once, over the known one

-- The bits that were left, and after them the known ones. What differs outside the places is the fault.
module _ (places known left content : List Bool) (len : length places ≡ length known) (taken : content ≡ take (length known) left ++ drop (length left) known) where
  in_front : (k : ℕ) → k < length known → k < length left → get_or content k false ≡ get_or left k false
  in_front k lt inside =
      rw taken (get_or_append_left (take (length known) left) (drop (length left) known) false k (omega (arith, length-take (length known) left)) ∙ get_or-take (length known) left k false lt)

  past_the_end : (k : ℕ) → length left < length known → length left ≤ k → get_or content k false ≡ get_or known k false
  past_the_end k less past =
      let place : length left + (k - length left) ≡ k = omega arith in
      rw taken (get_or-append_right (take (length known) left) (drop (length left) known) (length left) k false (omega (arith, length-take (length known) left)) past ∙ rw place at (get_or-drop (length left) known (k - length left) false))

  all_taken : length known ≤ length left → content ≡ take (length known) left
  all_taken enough = taken ∙ rw (drop_all (length left) known enough) (append-nil (take (length known) left))

  pub kept_whole : length known ≤ length left → SameOutside places known content → parse_kept places known left ≡ Read content (drop (length known) left)
  kept_whole enough same = rw (all_taken enough) (parse_kept-read places known left len enough (rw (all_taken enough) at same))

  pub kept_early : length left < length known → SameOutside places known content → parse_kept places known left ≡ TooShort
  kept_early less same = parse_kept-short places known left len less (λ k lt bound. sym (in_front k (omega arith) lt) ∙ same k bound)

  inside : (p : ℕ) → p < length known → (get_or content p false ≡ get_or known p false → ⊥) → p < length left
  inside p place differs = elim (cases_lt p (length left)) [ inl lt ↦ lt | inr past ↦ absurd (differs (past_the_end p (omega arith) past)) ]

  pub kept_wrong : (p : ℕ) → p < length known → get_or places p false ≡ false → (get_or content p false ≡ get_or known p false → ⊥) → ((k : ℕ) → k < p → get_or places k false ≡ false → get_or content k false ≡ get_or known k false)
      → (p < length left) × (parse_kept places known left ≡ WrongBit (drop (p + 1) left))
  kept_wrong p place bound differs same =
      let within = inside p place differs in (
        within,
        parse_kept-wrong places known left p len place within (λ k lt free. sym (in_front k (omega arith) (omega (arith, within))) ∙ same k lt free) bound (λ e. differs (in_front p place within ∙ e)),
      )

-- ---- where two contents differ outside places

differ : Bool → Bool → Bool → Bool
differ a b free = cond a (not b) b && not free

differ_parts : (a b free : Bool) → differ a b free ≡ true → (free ≡ false) × (a ≡ b → ⊥)
unfolding differ
differ_parts true true free e = absurd cc
differ_parts true false true e = absurd cc
differ_parts true false false e = (refl, λ same. cc)
differ_parts false true true e = absurd cc
differ_parts false true false e = (refl, λ same. cc)
differ_parts false false free e = absurd cc

same_parts : (a b free : Bool) → differ a b free ≡ false → free ≡ false → a ≡ b
unfolding differ
same_parts true true free e bound = refl
same_parts true false true e bound = absurd cc
same_parts true false false e bound = absurd cc
same_parts false true true e bound = absurd cc
same_parts false true false e bound = absurd cc
same_parts false false free e bound = refl

-- the ones of the exclusive or of two contents, outside these places
module _ (places known content : List Bool) (known_places : length content ≡ length known) (places_len : length content ≡ length places) where
  differ_at : (k : ℕ) → get_or (without_bits (xor_bits content known) places) k false ≡ differ (get_or content k false) (get_or known k false) (get_or places k false)
  unfolding differ
  differ_at k =
      get_or-zip2_all (λ a b. a && not b) refl (xor_bits content known) places k (length-zip2 (λ (a b : Bool). cond a (not b) b) content known known_places ∙ places_len)
      ∙ ap (λ (b : Bool). b && not (get_or places k false)) (get_or-zip2_all (λ a b. cond a (not b) b) refl content known k known_places)

  pub differs_at : (k : ℕ) → get_or (without_bits (xor_bits content known) places) k false ≡ true → (get_or places k false ≡ false) × (get_or content k false ≡ get_or known k false → ⊥)
  differs_at k one = differ_parts (get_or content k false) (get_or known k false) (get_or places k false) (sym (differ_at k) ∙ one)

  pub same_at_place : (k : ℕ) → get_or (without_bits (xor_bits content known) places) k false ≡ false → get_or places k false ≡ false → get_or content k false ≡ get_or known k false
  same_at_place k none bound = same_parts (get_or content k false) (get_or known k false) (get_or places k false) (sym (differ_at k) ∙ none) bound

-- ---- what a content that was taken at once tells, by where it differs from the known one

module _ (places known content : List Bool) (old new : EyeState) (len : length places ≡ length known) (content_len : length content ≡ length known)
    (taken : content ≡ take (length known) (bits_left old) ++ drop (length (bits_left old)) known) where
  abbrev differences : List Bool
  differences = without_bits (xor_bits content known) places

  places_len : length content ≡ length places
  places_len = content_len ∙ sym len

  differences_len : length differences ≡ length known
  differences_len =
      let xor_len : length (xor_bits content known) ≡ length content = length-zip2 (λ (a b : Bool). cond a (not b) b) content known content_len in
      length-zip2 (λ (a b : Bool). a && not b) (xor_bits content known) places (xor_len ∙ places_len) ∙ xor_len ∙ content_len

  is_place : (p : ℕ) → get_or differences p false ≡ true → p < length known
  is_place p one = elim (cases_lt p (length known)) [
    | inl lt ↦ lt
    | inr past ↦ let none = get_or_past differences p false (omega (arith, differences_len)) in absurd cc
  ]

  -- the first place at which they differ
  pub first_difference : (p : ℕ) → get_or differences p false ≡ true → ((k : ℕ) → k < p → get_or differences k false ≡ false) → (p < length (bits_left old)) × (parse_kept places known (bits_left old) ≡ WrongBit (drop (p + 1) (bits_left old)))
  first_difference p one before =
      let parts = differs_at places known content content_len places_len p one in
      kept_wrong places known (bits_left old) content len taken p (is_place p one) parts.0 parts.1
      (λ k lt bound. same_at_place places known content content_len places_len k (before k lt) bound)

  pub difference_tells : (p start : ℕ) → get_or differences p false ≡ true → ((k : ℕ) → k < p → get_or differences k false ≡ false) → start ≡ old.place → new.bits ≡ old.bits
      → Tells (λ (u : Unit {0}). content) (Err (Wrong (start + p))) new (parse_kept places known (bits_left old))
  difference_tells p start one before at bits =
      let first = first_difference p one before in (
        drop (p + 1) (bits_left old),
        first.1,
        omega (arith, first.0, at, length-drop (p + 1) (bits_left old), length-drop old.place old.bits, ap (λ (b : List Bool). length b) bits),
      )

  same : ((k : ℕ) → 0 ≤ k → k < length differences → get_or differences k false ≡ false) → SameOutside places known content
  same none k = same_at_place places known content content_len places_len k (elim (cases_lt k (length differences)) [
    | inl lt ↦ none k (omega arith) lt
    | inr past ↦ get_or_past differences k false past
  ])

  -- no place
  pub same_tells : (result : Result (Unit {0}) BitFault) → ((k : ℕ) → 0 ≤ k → k < length differences → get_or differences k false ≡ false)
      → OnOk result (bits_left old ≡ content ++ bits_left new) → (IsErr result ↔ (length (bits_left old) < length known)) → IfErr result (λ fault. fault ≡ EndsEarly (length old.bits)) → new.bits ≡ old.bits
      → Tells (λ (u : Unit {0}). content) result new (parse_kept places known (bits_left old))
  same_tells (Ok u) none all short fault bits = elim (cases_lt (length (bits_left old)) (length known)) [
    | inl less ↦ let failed = short.1 less in absurd cc
    | inr enough ↦
        let rest : drop (length known) (bits_left old) ≡ bits_left new = rw all (drop_at content (bits_left new) (length known) content_len) in
        kept_whole places known (bits_left old) content len taken enough (same none) ∙ ap (λ (r : List Bool). Read content r) rest
  ]
  same_tells (Err (EndsEarly n)) none all short fault bits =
      (kept_early places known (bits_left old) content len taken (short.0 refl) (same none), let n_is : n ≡ length old.bits = cc in n_is ∙ ap (λ (b : List Bool). length b) (sym bits))
  same_tells (Err (Wrong n)) none all short fault bits = absurd cc

-- the same, of the vectors as a body makes them
module _ (places known copied content again xored workspace : List Bool) (old new : EyeState) (places_are : length places ≡ length known) (copied_is : copied ≡ known) (content_len : length content ≡ length copied)
    (taken : content ≡ take (length copied) (bits_left old) ++ drop (length (bits_left old)) copied) (again_is : again ≡ content) (xored_is : xored ≡ xor_bits again known) (spare_is : workspace ≡ without_bits xored places) where
  spare_are : workspace ≡ without_bits (xor_bits content known) places
  spare_are = spare_is ∙ ap (λ (x : List Bool). without_bits x places) (xored_is ∙ ap (λ (x : List Bool). xor_bits x known) again_is)

  len_are : length content ≡ length known
  len_are = content_len ∙ ap (λ (x : List Bool). length x) copied_is

  taken_are : content ≡ take (length known) (bits_left old) ++ drop (length (bits_left old)) known
  taken_are = rw copied_is at taken

  pub place_inside : (p : ℕ) → get_or workspace p false ≡ true → ((k : ℕ) → 0 ≤ k → k < p → get_or workspace k false ≡ false) → p < length (bits_left old)
  place_inside p one before = (first_difference places known content old new places_are len_are taken_are p (rw spare_are at one) (λ k lt. rw spare_are at (before k (omega arith) lt))).0

  pub tells_place : (p start : ℕ) → get_or workspace p false ≡ true → ((k : ℕ) → 0 ≤ k → k < p → get_or workspace k false ≡ false) → start ≡ old.place → new.bits ≡ old.bits
      → Tells (λ (u : Unit {0}). content) (Err (Wrong (start + p))) new (parse_kept places known (bits_left old))
  tells_place p start one before = difference_tells places known content old new places_are len_are taken_are p start (rw spare_are at one) (λ k lt. rw spare_are at (before k (omega arith) lt))

  pub tells_same : (result : Result (Unit {0}) BitFault) → ((k : ℕ) → 0 ≤ k → k < length workspace → get_or workspace k false ≡ false)
      → OnOk result (bits_left old ≡ content ++ bits_left new) → (IsErr result ↔ (length (bits_left old) < length copied)) → IfErr result (λ fault. fault ≡ EndsEarly (length old.bits)) → new.bits ≡ old.bits
      → Tells (λ (u : Unit {0}). content) result new (parse_kept places known (bits_left old))
  tells_same result none all short = same_tells places known content old new places_are len_are taken_are result (rw spare_are at none) all (rw copied_is at short)

-- ---- extracted bits that are taken into a vector are as many bits from the front of those that are left

-- if the bits suffice, those after them are left
filled_front : (places : List ℕ) (v bits : List Bool) → length places ≤ length bits → (new : List Bool) × (parse_filled places v bits ≡ Read new (drop (length places) bits))
unfolding parse_filled
filled_front [] v bits enough = (v, refl)
filled_front (place ∷ places) v [] enough = absurd (omega (arith, enough))
filled_front (place ∷ places) v (bit ∷ bits) enough = filled_front places (set v place bit) bits (omega (arith, enough))

front_rest : (places : List ℕ) (v bits new rest : List Bool) → parse_filled places v bits ≡ Read new rest → drop (length places) bits ≡ rest
front_rest places v bits new rest read =
    let f = filled_front places v bits (parse_filled-read places v bits new rest read) in
    (read_same f.0 new (drop (length places) bits) rest (sym f.1 ∙ read)).1

-- what is told by them, whatever they are
pub front_tells : (o : Outcome) (places v filled : List Bool) (old new : EyeState) (result : Result (Unit {0}) BitFault) → Gives (λ (u : Unit {0}). filled) result new (parse_filled (places_down places) v (bits_left old))
    → Tells (λ (u : Unit {0}). o) result new (parse_front (count_by (λ bit. bit) places) (bits_left old) >>= λ part rest. Read o rest)
front_tells o places v filled old new (Ok u) read =
    let enough = parse_filled-read (places_down places) v (bits_left old) filled (bits_left new) read in
    let left = front_rest (places_down places) v (bits_left old) filled (bits_left new) read in
    rw (parse_front-enough (count_by (λ bit. bit) places) (bits_left old) (omega (arith, enough, length-places_down places))) (ap (Read o) (ap (λ (n : ℕ). drop n (bits_left old)) (sym (length-places_down places)) ∙ left))
front_tells o places v filled old new (Err (Wrong bit)) gives = absurd (parse_filled-no_wrong (places_down places) v (bits_left old) (bits_left new) gives.0)
front_tells o places v filled old new (Err (EndsEarly bit)) gives =
    let few = parse_filled-short (places_down places) v (bits_left old) gives.0 in
    (rw (parse_front-short (count_by (λ bit. bit) places) (bits_left old) (omega (arith, few, length-places_down places))) refl, gives.1)
