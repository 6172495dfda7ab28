-- The bytes of a window in a saved state.
use Rattle.std.proofs.Common.{◌≡◌, ℕ, suc, ◌+◌, ◌-◌, ◌*◌, ◌/◌, ◌%◌, ◌^◌, ◌<◌, ◌≤◌, Bool, true, List, [], ◌∷◌, ◌++◌, ◌==◌, All, length, get_or, take, drop, refl, sym, ap, subst, ◌∙◌, append_assoc, arith, suc-mul, w16}
use Rattle.std.specs.Int.{to_be_bytes}
use Rattle.std.specs.List.{flat_map}
use Rattle.std.proofs.lemmas.List.{append-nil, drop-append-le, drop-drop, drop_all, drop_more, length-append, length-drop, length_push, take_more}
use Rattle.std.proofs.lemmas.List.Elements.{All-append, All-cons, All-get_or, All-head, All-nil, All-tail}
use Rattle.std.proofs.lemmas.Grind.{common_steps, flat_map-append}
use Rattle.bit_vectors.specs.Vectors.{IsPlaces, bits_number, byte_count, number_bits}
use Rattle.bit_vectors.proofs.NumberBits.{bits_number-number_bits, bits_number_below, number_bits-bits_number}
use Rattle.state_bytes.specs.Parts.{BeginsVector, BeginsVectorIf, Puts, vector_part}
use Rattle.state_bytes.proofs.Parts.{Puts-then, vector_agrees, vector_part_size}
use Rattle.robust_window.specs.Window.{WindowState, are_two_set, marks_of}
use Rattle.robust_window.specs.Saved.{AreChangesBytes, AreOfWindow, AreSixteen, IsWindowState, changes_before, level_before, window_bytes}
use Rattle.robust_window.proofs.Marking.{length-marks}

-- the changes so far, and what follows
pub record Passed (f count : ℕ) (bytes rest : List ℕ) : Type 0 where
  pub before : List (List Bool)
  pub counted : length before ≡ count
  pub places : All (λ change. length change ≡ f) before
  pub bytes_are : bytes ≡ flat_map vector_part before ++ rest

pub passed_none : (f : ℕ) (bytes : List ℕ) → Passed f 0 bytes bytes
passed_none f bytes = record { before = []; counted = refl; places = All-nil _; bytes_are = refl }

pub passed_more : (f count : ℕ) (bytes rest after : List ℕ) → Passed f count bytes rest → (v : List Bool) × BeginsVectorIf true f v rest after → Passed f (count + 1) bytes after
passed_more f count bytes rest after passed next =
    let e : flat_map vector_part (next.0 ∷ []) ≡ vector_part next.0 = append-nil (vector_part next.0) in
    record {
      before = passed.before ++ next.0 ∷ [];
      counted = length_push passed.before next.0 ∙ ap (λ n. n + 1) passed.counted;
      places = All-append (λ (change : List Bool). length change ≡ f) passed.before (next.0 ∷ []) passed.places (All-cons (λ (change : List Bool). length change ≡ f) next.0 [] next.1.begins.places (All-nil _));
      bytes_are = passed.bytes_are ∙ ap (λ (xs : List ℕ). flat_map vector_part passed.before ++ xs) next.1.begins.bytes_are ∙ sym (append_assoc (flat_map vector_part passed.before) (vector_part next.0) after)
          ∙ ap (λ (xs : List ℕ). xs ++ after) (sym (flat_map-append vector_part passed.before (next.0 ∷ []) ∙ ap (λ (xs : List ℕ). flat_map vector_part passed.before ++ xs) e));
    }

pub changes_made : (f count : ℕ) (bytes rest after : List ℕ) → count ≡ 16 → Passed f count bytes rest → (v : List Bool) × BeginsVectorIf true f v rest after → after ≡ [] → AreChangesBytes f bytes
changes_made f count bytes rest after all passed next end =
    record {
      changes = passed.before;
      recent = next.0;
      sixteen = record { count = passed.counted ∙ all; places = passed.places };
      recent_places = next.1.begins.places;
      bytes_are = passed.bytes_are ∙ ap (λ (xs : List ℕ). flat_map vector_part passed.before ++ xs) (next.1.begins.bytes_are ∙ ap (λ (xs : List ℕ). vector_part next.0 ++ xs) end ∙ append-nil (vector_part next.0));
    }

-- what is left after some of the changes
abbrev pub Left : ℕ → List (List Bool) → List Bool → List ℕ → Type 0
Left count changes recent rest = rest ≡ flat_map vector_part (drop count changes) ++ vector_part recent

left_split : (count : ℕ) (changes : List (List Bool)) (recent : List Bool) (rest : List ℕ) → count < length changes → Left count changes recent rest → rest ≡ vector_part (get_or changes count []) ++ (flat_map vector_part (drop (count + 1) changes) ++ vector_part recent)
left_split count changes recent rest lt is =
    is ∙ ap (λ (vs : List (List Bool)). flat_map vector_part vs ++ vector_part recent) (drop_more changes count [] lt)
    ∙ append_assoc (vector_part (get_or changes count [])) (flat_map vector_part (drop (count + 1) changes)) (vector_part recent)

pub next_begins : (f count : ℕ) (changes : List (List Bool)) (recent : List Bool) (rest : List ℕ) → count < 16 → AreSixteen f changes → Left count changes recent rest
    → BeginsVector f (get_or changes count []) rest (flat_map vector_part (drop (count + 1) changes) ++ vector_part recent)
next_begins f count changes recent rest lt sixteen is =
    let within : count < length changes = omega (arith, sixteen.count) in
    record { places = All-get_or (λ (change : List Bool). length change ≡ f) changes count [] within sixteen.places; bytes_are = left_split count changes recent rest within is }

pub begins_if : (f : ℕ) (v : List Bool) (bytes rest : List ℕ) → BeginsVector f v bytes rest → BeginsVectorIf true f v bytes rest
begins_if f v bytes rest begins = record { begins = begins; zero = λ never. absurd cc }

pub last_left : (f count : ℕ) (changes : List (List Bool)) (recent : List Bool) (rest : List ℕ) → 16 ≤ count → AreSixteen f changes → Left count changes recent rest → rest ≡ vector_part recent
last_left f count changes recent rest all sixteen is = is ∙ ap (λ (vs : List (List Bool)). flat_map vector_part vs ++ vector_part recent) (drop_all count changes (omega (arith, sixteen.count, all)))

pub last_begins : (f count : ℕ) (bytes rest : List ℕ) → 16 ≤ count → (given : AreChangesBytes f bytes) → Left count given.changes given.recent rest → BeginsVector f given.recent rest []
last_begins f count bytes rest all given is = record { places = given.recent_places; bytes_are = last_left f count given.changes given.recent rest all given.sixteen is ∙ sym (append-nil (vector_part given.recent)) }

pub of_places : (f g : ℕ) (v : List Bool) (bytes rest : List ℕ) → BeginsVector f v bytes rest → f ≡ g → BeginsVector g v bytes rest
of_places f g v bytes rest begins same = record { places = begins.places ∙ same; bytes_are = begins.bytes_are }

-- ---- changes that are written, and pushed

pub part_within : (v : List Bool) (f : ℕ) → length v ≡ f → length (vector_part v) ≤ byte_count f + 1
part_within v f e = subst (λ n. length (vector_part v) ≤ byte_count n + 1) e (vector_part_size v)

pub put_more : (old mid new : List ℕ) (changes : List (List Bool)) (count a b c : ℕ) → count < length changes → Puts old mid a (flat_map vector_part (take count changes)) b → Puts mid new b (vector_part (get_or changes count [])) c → c ≤ length old → Puts old new a (flat_map vector_part (take (count + 1) changes)) c
put_more old mid new changes count a b c lt first second most =
    let more : flat_map vector_part (take (count + 1) changes) ≡ flat_map vector_part (take count changes) ++ vector_part (get_or changes count []) =
    ap (λ (vs : List (List Bool)). flat_map vector_part vs) (take_more changes count [] lt) ∙ flat_map-append vector_part (take count changes) (get_or changes count [] ∷ [])
    ∙ ap (λ (xs : List ℕ). flat_map vector_part (take count changes) ++ xs) (append-nil (vector_part (get_or changes count []))) in
    subst (λ (xs : List ℕ). Puts old new a xs c) (sym more) (Puts-then old mid new _ _ a b c first second most)

pub room_more : (count end size room all : ℕ) → count < 16 → end + (16 - count) * room ≤ all → size ≤ room → end + size + (16 - (count + 1)) * room ≤ all
room_more count end size room all lt fits within =
    let one : 16 - count ≡ suc (16 - (count + 1)) = omega arith in
    let more : (16 - count) * room ≡ suc (16 - (count + 1)) * room = ap (λ n. n * room) one in
    let next : suc (16 - (count + 1)) * room ≡ (16 - (count + 1)) * room + room = suc-mul (16 - (count + 1)) room in
    omega (arith, more, next, fits, within)

pub pushed_more : (count : ℕ) (old changes : List (List Bool)) (v : List Bool) → count < 16 → length old ≡ 16 → length changes ≡ 16 → drop (16 - count) old ≡ take count changes → v ≡ get_or changes count [] → drop (16 - (count + 1)) (drop 1 old ++ v ∷ []) ≡ take (count + 1) changes
pushed_more count old changes v lt full sixteen is v_is =
    let within : 16 - (count + 1) ≤ length (drop 1 old) = omega (arith, length-drop 1 old, full) in
    let one : 1 + (16 - (count + 1)) ≡ 16 - count = omega arith in
    drop-append-le (16 - (count + 1)) (drop 1 old) (v ∷ []) within
    ∙ ap (λ (vs : List (List Bool)). vs ++ v ∷ []) (drop-drop (16 - (count + 1)) 1 old ∙ ap (λ n. drop n old) one ∙ is)
    ∙ ap (λ (w : List Bool). take count changes ++ w ∷ []) v_is ∙ sym (take_more changes count [] (omega (arith, sixteen)))

-- ---- windows

pub changes_size : (f : ℕ) (changes : List (List Bool)) → All (λ change. length change ≡ f) changes → length (flat_map vector_part changes) ≤ length changes * (byte_count f + 1)
changes_size f [] places = omega arith
changes_size f (change ∷ changes) places =
    let first : length (vector_part change) ≤ byte_count f + 1 = part_within change f (All-head (λ (v : List Bool). length v ≡ f) change changes places) in
    let others = changes_size f changes (All-tail (λ (v : List Bool). length v ≡ f) change changes places) in
    omega (arith, first, others, length-append (vector_part change) (flat_map vector_part changes), suc-mul (length changes) (byte_count f + 1))

pub sixteen_size : (f : ℕ) (changes : List (List Bool)) → AreSixteen f changes → length (flat_map vector_part changes) ≤ 16 * (byte_count f + 1)
sixteen_size f changes sixteen = subst (λ n. length (flat_map vector_part changes) ≤ n * (byte_count f + 1)) sixteen.count (changes_size f changes sixteen.places)

-- the most bytes of a window
pub window_size : (f : ℕ) (w : WindowState) → IsWindowState f w → length (window_bytes w) ≤ 3 + 17 * (byte_count f + 1)
unfolding window_bytes
window_size f w valid = omega (arith, sixteen_size f w.changes valid.changes, part_within w.recent f valid.recent, length-append (flat_map vector_part w.changes) (vector_part w.recent))

pub levelled : (w : WindowState) (bytes : List ℕ) → bytes ≡ window_bytes w → bytes ≡ level_before w.level (bits_number w.new_masks) (changes_before w.changes w.recent)
unfolding window_bytes
levelled w bytes is = is

pub level_size : (level marks : ℕ) (rest bytes : List ℕ) → bytes ≡ level_before level marks rest → 3 ≤ length bytes
level_size level marks rest bytes is = omega (arith, ap (λ (xs : List ℕ). length xs) is)

pub marks_fit : (f : ℕ) (w : WindowState) → IsWindowState f w → bits_number w.new_masks < 65536
marks_fit f w valid = subst (λ n. bits_number w.new_masks < 2 ^ n) valid.new_masks (bits_number_below w.new_masks)

pub number_is : (marks : ℕ) → marks < 65536 → bits_number (marks_of marks) ≡ marks
number_is marks fits = bits_number-number_bits 16 marks ∙ omega (arith, fits)

pub marks_are : (f marks : ℕ) (w : WindowState) → IsWindowState f w → marks ≡ bits_number w.new_masks → marks_of marks ≡ w.new_masks
marks_are f marks w valid is = ap (λ n. marks_of n) is ∙ ap (λ n. number_bits n (bits_number w.new_masks)) (sym valid.new_masks) ∙ number_bits-bits_number w.new_masks

abbrev pub given_of : (f : ℕ) (w : WindowState) (rest : List ℕ) → IsWindowState f w → rest ≡ changes_before w.changes w.recent → AreChangesBytes f rest
given_of f w rest valid is = record { changes = w.changes; recent = w.recent; sixteen = valid.changes; recent_places = valid.recent; bytes_are = is }

low_bytes : (marks : ℕ) → to_be_bytes w16 (bits_number (marks_of marks)) ≡ to_be_bytes w16 marks
low_bytes marks =
    let high : marks % 65536 / 256 % 256 ≡ marks / 256 % 256 = omega arith in
    let low : marks % 65536 % 256 ≡ marks % 256 = omega arith in
    ap (λ n. to_be_bytes w16 n) (bits_number-number_bits 16 marks) ∙ (λ i. high i ∷ low i ∷ [])

pub window_made : (f level marks : ℕ) (rest bytes : List ℕ) → IsPlaces f → level ≤ 15 → bytes ≡ level_before level marks rest → AreChangesBytes f rest → AreOfWindow f bytes
unfolding window_bytes
window_made f level marks rest bytes places most is given =
    let number = low_bytes marks in
    let changes = given.bytes_are in
    record {
      window = record { changes = given.changes; new_masks = marks_of marks; recent = given.recent; level = level; twice = are_two_set (marks_of marks) (level + 1); taken = 0 };
      valid = record { vector = places; changes = given.sixteen; new_masks = length-marks marks; recent = given.recent_places; level_most = most; twice = refl; most = omega arith };
      bytes_are = is ∙ ap (λ (xs : List ℕ). level_before level marks xs) changes ∙ ap (λ (xs : List ℕ). level ∷ (xs ++ changes_before given.changes given.recent)) (sym number);
    }

from_eq : (n : ℕ) → (n == 0) ≡ true → n ≡ 0
from_eq n e = grind (arith, common_steps)

no_bytes : (xs : List ℕ) → length xs ≡ 0 → xs ≡ []
no_bytes [] e = refl
no_bytes (x ∷ xs) e = absurd (omega (arith, e))

pub are_none : (xs : List ℕ) → (length xs == 0) ≡ true → xs ≡ []
are_none xs e = no_bytes xs (from_eq (length xs) e)

-- ---- what has the same bytes

changes_agree : (f : ℕ) (a b : List (List Bool)) (rest other : List ℕ) → length a ≡ length b → All (λ change. length change ≡ f) a → All (λ change. length change ≡ f) b → flat_map vector_part a ++ rest ≡ flat_map vector_part b ++ other → (a ≡ b) × (rest ≡ other)
changes_agree f [] [] rest other count first second e = (refl, e)
changes_agree f [] (w ∷ b) rest other count first second e = absurd (omega (arith, count))
changes_agree f (v ∷ a) [] rest other count first second e = absurd (omega (arith, count))
changes_agree f (v ∷ a) (w ∷ b) rest other count first second e =
    let one = vector_agrees f v w (vector_part v ++ (flat_map vector_part a ++ rest)) (flat_map vector_part a ++ rest) (flat_map vector_part b ++ other)
    (record { places = All-head (λ (change : List Bool). length change ≡ f) v a first; bytes_are = refl })
    (record { places = All-head (λ (change : List Bool). length change ≡ f) w b second; bytes_are = sym (append_assoc (vector_part v) (flat_map vector_part a) rest) ∙ e ∙ append_assoc (vector_part w) (flat_map vector_part b) other }) in
    let left : length a ≡ length b = omega (arith, count) in
    let others = changes_agree f a b rest other left (All-tail (λ (change : List Bool). length change ≡ f) v a first) (All-tail (λ (change : List Bool). length change ≡ f) w b second) one.1 in
    ((λ i. one.0 i ∷ others.0 i), others.1)

marks_agree : (a b : List Bool) → length a ≡ 16 → length b ≡ 16 → to_be_bytes w16 (bits_number a) ≡ to_be_bytes w16 (bits_number b) → a ≡ b
marks_agree a b first second e =
    let m : bits_number a < 2 ^ 16 = subst (λ n. bits_number a < 2 ^ n) first (bits_number_below a) in
    let n : bits_number b < 2 ^ 16 = subst (λ n. bits_number b < 2 ^ n) second (bits_number_below b) in
    let high : bits_number a / 256 % 256 ≡ bits_number b / 256 % 256 = ap (λ (xs : List ℕ). get_or xs 0 0) e in
    let low : bits_number a % 256 ≡ bits_number b % 256 = ap (λ (xs : List ℕ). get_or xs 1 0) e in
    let same : bits_number a ≡ bits_number b = omega (arith, m, n, high, low) in
    sym (number_bits-bits_number a) ∙ (λ i. number_bits (first i) (same i)) ∙ ap (λ k. number_bits k (bits_number b)) (sym second) ∙ number_bits-bits_number b

pub windows_agree : (f : ℕ) (a b : WindowState) → IsWindowState f a → IsWindowState f b → a.taken ≡ b.taken → window_bytes a ≡ window_bytes b → a ≡ b
unfolding window_bytes
windows_agree f a b first second taken e =
    let level : a.level ≡ b.level = ap (λ (xs : List ℕ). get_or xs 0 0) e in
    let marks = marks_agree a.new_masks b.new_masks first.new_masks second.new_masks (ap (λ (xs : List ℕ). take 2 (drop 1 xs)) e) in
    let changes = changes_agree f a.changes b.changes (vector_part a.recent) (vector_part b.recent) (first.changes.count ∙ sym second.changes.count) first.changes.places second.changes.places (ap (λ (xs : List ℕ). drop 3 xs) e) in
    let recent = vector_agrees f a.recent b.recent (vector_part a.recent) [] [] (record { places = first.recent; bytes_are = sym (append-nil (vector_part a.recent)) }) (record { places = second.recent; bytes_are = changes.1 ∙ sym (append-nil (vector_part b.recent)) }) in
    let twice = first.twice ∙ (λ i. are_two_set (marks i) (level i + 1)) ∙ sym second.twice in
    λ i. record { changes = changes.0 i; new_masks = marks i; recent = recent.0 i; level = level i; twice = twice i; taken = taken i }

-- how many steps were taken is not in the bytes
abbrev pub at_step : WindowState → ℕ → WindowState
at_step w taken = record { changes = w.changes; new_masks = w.new_masks; recent = w.recent; level = w.level; twice = w.twice; taken = taken }

pub valid_at : (f : ℕ) (w : WindowState) (taken : ℕ) → taken ≤ 4294967296 → IsWindowState f w → IsWindowState f (at_step w taken)
valid_at f w taken most valid = record { vector = valid.vector; changes = valid.changes; new_masks = valid.new_masks; recent = valid.recent; level_most = valid.level_most; twice = valid.twice; most = most }

pub bytes_at : (w : WindowState) (taken : ℕ) → window_bytes (at_step w taken) ≡ window_bytes w
unfolding window_bytes
bytes_at w taken = refl
