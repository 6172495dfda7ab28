-- The running vectors follow one more step, which does not change the definitions for the earlier ones; and their bytes in a saved state.
use Rattle.std.specs.Prelude.{◌↔◌, IsTrue, if◌then◌else◌, not}
use Rattle.std.proofs.Common.{◌≡◌, ℕ, zero, suc, ◌+◌, ◌-◌, ◌<◌, ◌≤◌, Bool, false, List, [], ◌∷◌, length, replicate, get_or, refl, sym, subst, ap, ◌∙◌, arith, ◌*◌, ◌^◌, true, ◌++◌, ◌==◌, drop, append_assoc}
use Rattle.std.proofs.lemmas.Bool.{false≢true}
use Rattle.std.proofs.lemmas.Grind.{common_steps}
use Rattle.std.proofs.lemmas.List.{get_or_append_left, get_or_at, length_push, length-append}
use Rattle.bit_vectors.specs.Vectors.{xor_bits, IsPlaces, byte_count, or_bits}
use Rattle.state_bytes.specs.Parts.{BeginsVector, BeginsVectorIf, number_bytes, vector_part}
use Rattle.state_bytes.proofs.Parts.{length-number_bytes, number_agrees, vector_agrees, vector_part_size}
use Rattle.mask_update.specs.Histories.{History, Step, input_at, latest_step, no_step, no_steps, step_at, with_step}
use Rattle.mask_update.specs.Masks.{Advances, ComesAgain, Running, StandsFor, build_at, change_at, mask_at, has_moved, latest_new_mask, new_mask_at, next_build, next_mask, second_latest_new_mask, input_bit}
use Rattle.mask_update.specs.Saved.{BeginsFour, BeginsRunning, IsRunning, bit_byte, counted_before, four_before, running_before}
use Rattle.mask_update.proofs.StepByStep.{build_at-suc, build_at-zero, length-mask_at, mask_at-suc, mask_at-zero, moved_at, moved_is, vector_of_same}

-- ---- one more step does not change the definitions for the earlier steps, and the running vectors follow it

pub step_at-before : (h : History) (step : Step) (t : ℕ) → t < length h.steps → step_at (with_step h step) t ≡ step_at h t
step_at-before h step t lt = get_or_append_left h.steps (step ∷ []) no_step t lt

pub step_at-last : (h : History) (step : Step) → step_at (with_step h step) (length h.steps) ≡ step
step_at-last h step = get_or_at h.steps step [] no_step (length h.steps) refl

pub latest_step-with_step : (h : History) (step : Step) → latest_step (with_step h step) ≡ length h.steps
latest_step-with_step h step = omega (arith, length_push h.steps step)

differ : Bool → Bool → Bool
differ a b = if a then not b else b

moved_at-before : (h : History) (step : Step) (t : ℕ) → suc t < length h.steps → moved_at (with_step h step) (suc t) ≡ moved_at h (suc t)
unfolding differ
moved_at-before h step t lt = vector_of_same h.places _ _ (λ place. moved_in place)
  where
    moved_in : (place : ℕ) → has_moved (with_step h step) (suc t) place ≡ has_moved h (suc t) place
    moved_in place =
        ap (λ (s : Step). differ (get_or s.input place false) (input_bit (with_step h step) (suc t) place)) (step_at-before h step t (omega arith))
        ∙ ap (λ (s : Step). differ (input_bit h t place) (get_or s.input place false)) (step_at-before h step (suc t) lt)

pub build_at-before : (h : History) (step : Step) (t : ℕ) → t ≤ latest_step h → build_at (with_step h step) t ≡ build_at h t
build_at-before h step zero le = build_at-zero (with_step h step) ∙ sym (build_at-zero h)
build_at-before h step (suc t) le =
    build_at-suc (with_step h step) t
    ∙ ap (λ s. next_build s.flags.p (moved_at (with_step h step) (suc t)) (build_at (with_step h step) t)) (step_at-before h step (suc t) (omega arith))
    ∙ ap (λ moved. next_build (new_mask_at h (suc t)) moved (build_at (with_step h step) t)) (moved_at-before h step t (omega arith))
    ∙ ap (λ build. next_build (new_mask_at h (suc t)) (moved_at h (suc t)) build) (build_at-before h step t (omega arith))
    ∙ sym (build_at-suc h t)

mask_at-start : (h : History) (step : Step) → mask_at (with_step h step) 0 ≡ mask_at h 0
unfolding mask_at latest_new_mask second_latest_new_mask
mask_at-start h step = refl

pub mask_at-before : (h : History) (step : Step) (t : ℕ) → t ≤ latest_step h → mask_at (with_step h step) t ≡ mask_at h t
mask_at-before h step zero le = mask_at-start h step
mask_at-before h step (suc t) le =
    mask_at-suc (with_step h step) t
    ∙ ap (λ s. next_mask s.flags.p (moved_at (with_step h step) (suc t)) (build_at (with_step h step) t) (mask_at (with_step h step) t)) (step_at-before h step (suc t) (omega arith))
    ∙ ap (λ moved. next_mask (new_mask_at h (suc t)) moved (build_at (with_step h step) t) (mask_at (with_step h step) t)) (moved_at-before h step t (omega arith))
    ∙ ap (λ build. next_mask (new_mask_at h (suc t)) (moved_at h (suc t)) build (mask_at (with_step h step) t)) (build_at-before h step t (omega arith))
    ∙ ap (λ mask. next_mask (new_mask_at h (suc t)) (moved_at h (suc t)) (build_at h t) mask) (mask_at-before h step t (omega arith))
    ∙ sym (mask_at-suc h t)

pub change_at-zero : (h : History) → change_at h 0 ≡ replicate h.places false
unfolding change_at
change_at-zero h = refl

pub change_at-suc : (h : History) (t : ℕ) → xor_bits (mask_at h t) (mask_at h (suc t)) ≡ change_at h (suc t)
unfolding change_at
change_at-suc h t = refl

pub change_at-before : (h : History) (step : Step) (t : ℕ) → t ≤ latest_step h → change_at (with_step h step) t ≡ change_at h t
change_at-before h step zero le = change_at-zero (with_step h step) ∙ sym (change_at-zero h)
change_at-before h step (suc t) le =
    sym (change_at-suc (with_step h step) t)
    ∙ ap (λ v. xor_bits v (mask_at (with_step h step) (suc t))) (mask_at-before h step t (omega arith))
    ∙ ap (xor_bits (mask_at h t)) (mask_at-before h step (suc t) le)
    ∙ change_at-suc h t

pub StandsFor-none : (first_mask : List Bool) (value : Running) → value.build ≡ replicate (length first_mask) false → value.mask ≡ first_mask → value.change ≡ replicate (length first_mask) false → value.again ≡ false → value.taken ≡ 0 → StandsFor (no_steps first_mask) value
StandsFor-none first_mask value build mask change again taken =
    record {
      previous = λ lt. absurd (omega arith);
      build = build ∙ sym (build_at-zero (no_steps first_mask));
      mask = mask ∙ sym (mask_at-zero (no_steps first_mask) refl);
      change = change ∙ sym (change_at-zero (no_steps first_mask));
      again = (λ is. absurd (false≢true (sym again ∙ is)), λ comes. absurd (omega (arith, comes.0)));
      taken = taken;
    }

-- the values that the definitions give at step t are the running vectors of a history that ends there
stands_at : (h : History) (value : Running) (t : ℕ) → latest_step h ≡ t → value.previous ≡ input_at h t → value.build ≡ build_at h t → value.mask ≡ mask_at h t → value.change ≡ change_at h t → (IsTrue value.again ↔ ComesAgain h t) → value.taken ≡ length h.steps → StandsFor h value
stands_at h value t at previous build mask change again taken =
    record {
      previous = λ lt. previous ∙ ap (input_at h) (sym at);
      build = build ∙ ap (build_at h) (sym at);
      mask = mask ∙ ap (mask_at h) (sym at);
      change = change ∙ ap (change_at h) (sym at);
      again = subst (λ n. IsTrue value.again ↔ ComesAgain h n) (sym at) again;
      taken = taken;
    }

-- the first input does not change the masks
pub StandsFor-first : (h : History) (step : Step) (old : Running) → StandsFor h old → old.taken ≡ 0 → StandsFor (with_step h step) (record old { previous = step.input; change = replicate (length old.mask) false; again = false; taken = 1 })
StandsFor-first h step old s start =
    let none : length h.steps ≡ 0 = sym s.taken ∙ start in
    let at : latest_step h ≡ 0 = omega arith in
    let last : step_at (with_step h step) 0 ≡ step = ap (step_at (with_step h step)) (sym none) ∙ step_at-last h step in
    stands_at (with_step h step) _ 0 (latest_step-with_step h step ∙ none)
    (sym (ap (λ (x : Step). x.input) last))
    (s.build ∙ ap (build_at h) at ∙ build_at-zero h ∙ sym (build_at-zero (with_step h step)))
    (s.mask ∙ ap (mask_at h) at ∙ sym (mask_at-start h step))
    (ap (λ n. replicate n false) (ap length s.mask ∙ length-mask_at h (latest_step h)) ∙ sym (change_at-zero (with_step h step)))
    (λ is. absurd (false≢true is), λ comes. absurd (omega (arith, comes.0)))
    (omega (arith, none, length_push h.steps step))

-- each later input updates them by the recurrences
pub StandsFor-next : (h : History) (step : Step) (old new : Running) (again : Bool) → StandsFor h old → 0 < old.taken → length old.previous ≡ length old.mask → length step.input ≡ length old.mask → Advances step.input step.flags.p old new → (IsTrue again ↔ ((step.flags.p ≡ false) × (old.previous ≡ step.input))) → StandsFor (with_step h step) (record new { again = again; taken = new.taken + 1 })
StandsFor-next h step old new again s some len input_len a comes_again = next_in (latest_step h) refl
  where
    next_in : (t : ℕ) → latest_step h ≡ t → StandsFor (with_step h step) (record new { again = again; taken = new.taken + 1 })
    next_in t at =
        let count : length h.steps ≡ suc t = omega (arith, s.taken) in
        let after : History = with_step h step in
        let last : step_at after (suc t) ≡ step = ap (step_at after) (sym count) ∙ step_at-last h step in
        let before : step_at after t ≡ step_at h t = step_at-before h step t (omega arith) in
        let was : old.previous ≡ input_at after t = s.previous (omega (arith, s.taken)) ∙ ap (input_at h) at ∙ sym (ap (λ (x : Step). x.input) before) in
        let is : step.input ≡ input_at after (suc t) = sym (ap (λ (x : Step). x.input) last) in
        let new_mask : step.flags.p ≡ new_mask_at after (suc t) = sym (ap (λ (x : Step). x.flags.p) last) in
        let back : suc t - 1 ≡ t = omega arith in
        let places : length old.mask ≡ h.places = ap length s.mask ∙ length-mask_at h (latest_step h) in
        let moved : xor_bits old.previous step.input ≡ moved_at after (suc t) =
        ap (λ v. xor_bits v step.input) was ∙ ap (xor_bits (input_at after t)) is
        ∙ moved_is after t (ap length (sym was) ∙ len ∙ places) (ap length (sym is) ∙ input_len ∙ places) in
        let build_was : old.build ≡ build_at after t = s.build ∙ ap (build_at h) at ∙ sym (build_at-before h step t (omega arith)) in
        let mask_was : old.mask ≡ mask_at after t = s.mask ∙ ap (mask_at h) at ∙ sym (mask_at-before h step t (omega arith)) in
        let mask_is : new.mask ≡ mask_at after (suc t) =
        a.mask ∙ ap (λ b. next_mask b (xor_bits old.previous step.input) old.build old.mask) new_mask
        ∙ ap (λ v. next_mask (new_mask_at after (suc t)) v old.build old.mask) moved
        ∙ ap (λ v. next_mask (new_mask_at after (suc t)) (moved_at after (suc t)) v old.mask) build_was
        ∙ ap (λ v. next_mask (new_mask_at after (suc t)) (moved_at after (suc t)) (build_at after t) v) mask_was
        ∙ sym (mask_at-suc after t) in
        stands_at after _ (suc t) (latest_step-with_step h step ∙ count)
        (a.previous ∙ is)
        (a.build ∙ ap (λ b. next_build b (xor_bits old.previous step.input) old.build) new_mask
        ∙ ap (λ v. next_build (new_mask_at after (suc t)) v old.build) moved
        ∙ ap (λ v. next_build (new_mask_at after (suc t)) (moved_at after (suc t)) v) build_was
        ∙ sym (build_at-suc after t))
        mask_is
        (a.change ∙ ap (λ v. xor_bits v new.mask) mask_was ∙ ap (xor_bits (mask_at after t)) mask_is ∙ change_at-suc after t) (
          λ told. let comes = comes_again.0 told in (omega arith, sym new_mask ∙ comes.0, ap (input_at after) back ∙ sym was ∙ comes.1 ∙ is),
          λ comes. comes_again.1 (new_mask ∙ comes.1, was ∙ ap (input_at after) (sym back) ∙ comes.2 ∙ sym is),
        )
        (omega (arith, a.taken, s.taken, length_push h.steps step))

-- ---- the bytes of running vectors in a saved state

pub counted_size : (taken again : ℕ) (bytes rest : List ℕ) → bytes ≡ counted_before taken again rest → 9 ≤ length bytes
counted_size taken again bytes rest is = omega (arith, ap (λ (xs : List ℕ). length xs) is, length-append (number_bytes taken) (again ∷ rest), length-number_bytes taken)

pub part_within : (v : List Bool) (f : ℕ) → length v ≡ f → length (vector_part v) ≤ byte_count f + 1
part_within v f e = subst (λ n. length (vector_part v) ≤ byte_count n + 1) e (vector_part_size v)

pub begins_if : (f : ℕ) (v : List Bool) (bytes rest : List ℕ) → length v ≡ f → bytes ≡ vector_part v ++ rest → BeginsVectorIf true f v bytes rest
begins_if f v bytes rest places is = record { begins = record { places = places; bytes_are = is }; zero = λ never. absurd cc }

pub four_made : (f : ℕ) (bytes r s t u : List ℕ) → (a : (v : List Bool) × BeginsVectorIf true f v bytes r) → (b : (v : List Bool) × BeginsVectorIf true f v r s) → (c : (v : List Bool) × BeginsVectorIf true f v s t) → (d : (v : List Bool) × BeginsVectorIf true f v t u) → BeginsFour f a.0 b.0 c.0 d.0 bytes u
four_made f bytes r s t u a b c d =
    record {
      bytes_are = a.1.begins.bytes_are ∙ ap (λ (xs : List ℕ). vector_part a.0 ++ xs) (b.1.begins.bytes_are ∙ ap (λ (xs : List ℕ). vector_part b.0 ++ xs) (c.1.begins.bytes_are ∙ ap (λ (xs : List ℕ). vector_part c.0 ++ xs) d.1.begins.bytes_are));
      previous_places = a.1.begins.places;
      build_places = b.1.begins.places;
      mask_places = c.1.begins.places;
      change_places = d.1.begins.places;
    }

pub four_of : (f : ℕ) (m : Running) (bytes rest : List ℕ) → IsRunning f m → bytes ≡ four_before m.previous m.build m.mask m.change rest → BeginsFour f m.previous m.build m.mask m.change bytes rest
four_of f m bytes rest valid is = record { bytes_are = is; previous_places = valid.previous; build_places = valid.build; mask_places = valid.mask; change_places = valid.change }

pub counted : (m : Running) (bytes rest : List ℕ) → bytes ≡ running_before m rest → bytes ≡ counted_before m.taken (bit_byte m.again) (four_before m.previous m.build m.mask m.change rest)
unfolding running_before
counted m bytes rest is = is

pub fits : (m : Running) (f : ℕ) → IsRunning f m → m.taken < 2 ^ 64
fits m f valid = let most = valid.most in omega (arith, most)

pub bit_byte_most : (bit : Bool) → bit_byte bit ≤ 1
bit_byte_most true = omega arith
bit_byte_most false = omega arith

pub bit_is : (bit : Bool) → (bit_byte bit == 1) ≡ bit
bit_is true = refl
bit_is false = refl

pub byte_is : (n : ℕ) → n ≤ 1 → bit_byte (n == 1) ≡ n
byte_is n le = grind (arith, common_steps)

pub running_made : (f taken again : ℕ) (previous build mask change : List Bool) (bytes r rest : List ℕ) → IsPlaces f → taken ≤ 4294967296 → again ≤ 1 → bytes ≡ counted_before taken again r → BeginsFour f previous build mask change r rest
    → BeginsRunning f (record { previous = previous; build = build; mask = mask; change = change; again = again == 1; taken = taken }) bytes rest
unfolding running_before
running_made f taken again previous build mask change bytes r rest places most bit is four =
    record {
      valid = record { vector = places; previous = four.previous_places; build = four.build_places; mask = four.mask_places; change = four.change_places; most = most };
      bytes_are = is ∙ ap (λ (xs : List ℕ). counted_before taken again xs) four.bytes_are ∙ ap (λ n. counted_before taken n (four_before previous build mask change rest)) (sym (byte_is again bit));
    }

-- what is written after them
pub running_then : (m : Running) (rest : List ℕ) → running_before m [] ++ rest ≡ running_before m rest
unfolding running_before
running_then m rest = simp append_assoc

-- ---- how long they are, and what has the same bytes

pub running_size : (f : ℕ) (m : Running) (rest : List ℕ) → IsRunning f m → length (running_before m rest) ≤ 9 + 4 * (byte_count f + 1) + length rest
unfolding running_before
running_size f m rest valid =
    omega (
      arith,
      length-number_bytes m.taken,
      length-append (number_bytes m.taken) (bit_byte m.again ∷ four_before m.previous m.build m.mask m.change rest),
      length-append (vector_part m.previous) (vector_part m.build ++ (vector_part m.mask ++ (vector_part m.change ++ rest))),
      length-append (vector_part m.build) (vector_part m.mask ++ (vector_part m.change ++ rest)),
      length-append (vector_part m.mask) (vector_part m.change ++ rest),
      length-append (vector_part m.change) rest,
      part_within m.previous f valid.previous,
      part_within m.build f valid.build,
      part_within m.mask f valid.mask,
      part_within m.change f valid.change,
    )

begins : (f : ℕ) (v : List Bool) (bytes rest : List ℕ) → length v ≡ f → bytes ≡ vector_part v ++ rest → BeginsVector f v bytes rest
begins f v bytes rest places is = record { places = places; bytes_are = is }

bits_agree : (a b : Bool) → bit_byte a ≡ bit_byte b → a ≡ b
bits_agree true true e = refl
bits_agree false false e = refl
bits_agree true false e = absurd (omega (arith, e))
bits_agree false true e = absurd (omega (arith, e))

pub running_agree : (f : ℕ) (a b : Running) (rest other : List ℕ) → IsRunning f a → IsRunning f b → running_before a rest ≡ running_before b other → (a ≡ b) × (rest ≡ other)
unfolding running_before
running_agree f a b rest other first second e =
    let counts = number_agrees a.taken b.taken (bit_byte a.again ∷ four_before a.previous a.build a.mask a.change rest) (bit_byte b.again ∷ four_before b.previous b.build b.mask b.change other) (fits a f first) (fits b f second) e in
    let again = bits_agree a.again b.again (ap (λ (xs : List ℕ). get_or xs 0 0) counts.1) in
    let previous = vector_agrees f a.previous b.previous _ _ _ (begins f _ _ _ first.previous refl) (begins f _ _ _ second.previous (ap (λ (xs : List ℕ). drop 1 xs) counts.1)) in
    let build = vector_agrees f a.build b.build _ _ _ (begins f _ _ _ first.build refl) (begins f _ _ _ second.build previous.1) in
    let mask = vector_agrees f a.mask b.mask _ _ _ (begins f _ _ _ first.mask refl) (begins f _ _ _ second.mask build.1) in
    let change = vector_agrees f a.change b.change _ _ _ (begins f _ _ _ first.change refl) (begins f _ _ _ second.change mask.1) in
    let taken = counts.0 in
    ((λ i. record { previous = previous.0 i; build = build.0 i; mask = mask.0 i; change = change.0 i; again = again i; taken = taken i }), change.1)

-- ---- an input equal to the one before it moves no place

or_unmoved : (v input : List Bool) → length v ≡ length input → or_bits v (xor_bits input input) ≡ v
or_unmoved [] [] len = refl
or_unmoved [] (c ∷ input) len = absurd (omega arith)
or_unmoved (b ∷ v) [] len = absurd (omega arith)
or_unmoved (true ∷ v) (c ∷ input) len = ap (λ bits. true ∷ bits) (or_unmoved v input (omega arith))
or_unmoved (false ∷ v) (true ∷ input) len = ap (λ bits. false ∷ bits) (or_unmoved v input (omega arith))
or_unmoved (false ∷ v) (false ∷ input) len = ap (λ bits. false ∷ bits) (or_unmoved v input (omega arith))

pub stays : (v was input : List Bool) → was ≡ input → length v ≡ length input → v ≡ or_bits v (xor_bits was input)
stays v was input same len = sym (ap (λ x. or_bits v (xor_bits x input)) same ∙ or_unmoved v input len)
