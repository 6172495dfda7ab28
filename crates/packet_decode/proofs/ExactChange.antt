-- Reading the first part of a packet is exact: the recent changes, the level, and the directions or none.
use Rattle.std.specs.List.{list_any}
use Rattle.std.specs.Prelude.{◌&&◌, IfSome, Contains}
use Rattle.std.proofs.Common.{◌≡◌, ℕ, ◌<◌, ltb, Bool, true, false, cond, List, [], ◌∷◌, ◌++◌, length, Option, Some, None, refl, sym, ap, ◌∙◌, subst, arith, replicate, take, drop}
use Rattle.std.proofs.lemmas.Bool.{true≢false, ltb-true, lt-ltb, false≢true}
use Rattle.std.proofs.lemmas.List.{get_or_default, take-append-drop}
use Rattle.std.proofs.lemmas.List.Folds.{list_any_at}
use Rattle.bit_vectors.specs.Reading.{any_bit, parse_number, Read, ◌>>=◌, bit_where, allowed, IsExact}
use Rattle.bit_vectors.specs.Vectors.{number_bits, IsOne}
use Rattle.bit_vectors.proofs.ExactReading.{IsBitWhere, IsWordThen, IsExact-give, IsExact-bit_where, IsExact-same, IsExact-then}
use Rattle.bit_vectors.proofs.Lists.{one_in}
use Rattle.bit_vectors.proofs.NumberBits.{IsNumberOfWidth, IsExact-number_at}
use Rattle.run_code.specs.Extraction.{bits_up, IsInverseWord, parse_inverse}
use Rattle.run_code.specs.Runs.{run_bits, IsRunWordOf, parse_vector}
use Rattle.run_code.proofs.InverseBits.{IsExact-inverse_at}
use Rattle.run_code.proofs.Ones.{one_within}
use Rattle.run_code.proofs.RunWords.{IsExact-vector_at, run_bits-zeros}
use Rattle.robust_window.proofs.Ranges.{list_any-zeros, no_ones, some_one}
use Rattle.packet_encode.specs.Forms.{Directions, Part, Form, AreDirections, direction_bits, change_bits}
use Rattle.packet_decode.specs.PacketReading.{parse_named, parse_directions, parse_change}
use Rattle.packet_decode.specs.PartWords.{IsBitThen}
use Rattle.packet_decode.specs.State.{Change, change_of}
use Rattle.packet_decode.proofs.Readers.{HasWord, IsImage, IsExact-map, IsExact-bit, any_may}

-- ---- reading the first part of a packet is exact: the recent changes, the level and the directions

-- a form with these recent changes and this level
abbrev pub bare : List Bool → ℕ → Form
bare recent level = record { recent = recent; level = level; directions = None; sent = None; content = Part [] }

-- directions are those of any form with the same recent changes and the same level
pub AreDirections-by : (form other : Form) (directions : Directions) → form.recent ≡ other.recent → form.level ≡ other.level → AreDirections form directions → AreDirections other directions
AreDirections-by form other directions recent level h = record {
  level = rw (← level) h.level;
  places = h.places ∙ ap (λ (bits : List Bool). length bits) recent;
  recent = λ place one. subst (λ (bits : List Bool). IsOne bits place) recent (h.recent place one);
  some = h.some;
}

-- ---- directions

abbrev IsNamed : List Bool → ℕ → Directions → List Bool → Type 0
IsNamed recent level directions word = AreDirections (bare recent level) directions × (word ≡ bits_up directions.predictable recent ++ directions.twice ∷ [])

abbrev named : List Bool → Bool → Directions
named predictable twice = record { predictable = predictable; twice = twice }

abbrev IsNamedThen : List Bool → Directions → List Bool → Type 0
IsNamedThen recent = IsWordThen (IsInverseWord recent) (λ predictable. IsImage (named predictable) (IsBitWhere (allowed true true)))

named_joined : (recent : List Bool) (level : ℕ) → 0 < level → (directions : Directions) (word : List Bool) → IsNamedThen recent directions word → IsNamed recent level directions word
named_joined recent level some directions word (predictable, front, back, set, (twice, bit, is), parts) =
    subst (λ (d : Directions). IsNamed recent level d word) (sym is) (
      record { level = some; places = set.places; recent = set.within; some = set.some },
      parts ∙ rw (set.bits, bit.1) refl,
    )

named_apart : (recent : List Bool) (level : ℕ) (directions : Directions) (word : List Bool) → IsNamed recent level directions word → IsNamedThen recent directions word
named_apart recent level directions word (are, is) = (
  directions.predictable,
  bits_up directions.predictable recent,
  directions.twice ∷ [],
  record { places = are.places; within = are.recent; some = are.some; bits = refl },
  (directions.twice, (any_may directions.twice, refl), refl),
  is,
)

IsExact-named_at : (recent : List Bool) (level : ℕ) → 0 < level → Contains recent true → IsExact (IsNamed recent level) (parse_named recent)
unfolding parse_named
IsExact-named_at recent level above some =
    IsExact-same (IsNamedThen recent) (IsNamed recent level) (parse_named recent) (named_joined recent level above) (named_apart recent level)
    (IsExact-then (IsInverseWord recent) (λ predictable. IsImage (named predictable) (IsBitWhere (allowed true true)))
    (parse_inverse recent) (λ predictable rest. any_bit rest >>= λ twice last. Read (named predictable twice) last)
    (IsExact-inverse_at recent some)
    (λ predictable word w. IsExact-map (named predictable) (IsBitWhere (allowed true true)) (bit_where (allowed true true)) (IsExact-bit_where (allowed true true) true refl))
    (λ predictable word w. (named predictable true, true ∷ [], (true, (refl, refl), refl))))

-- all recent changes
all_named : (recent : List Bool) (level : ℕ) → 0 < level → Contains recent true → HasWord (IsNamed recent level)
all_named recent level above some =
    (named recent false, bits_up recent recent ++ false ∷ [], (record { level = above; places = refl; recent = λ place one. one; some = some }, refl))

abbrev IsNone : Option Directions → List Bool → Type 0
IsNone o word = (o ≡ None) × (word ≡ [])

-- whether directions can be sent
abbrev IsDirectionsBy : Bool → List Bool → ℕ → Option Directions → List Bool → Type 0
IsDirectionsBy may recent level o word = IfSome o (AreDirections (bare recent level)) × (word ≡ cond may (direction_bits recent o) [])

sent_joined : (recent : List Bool) (level : ℕ) (o : Option Directions) (word : List Bool) → IsBitThen (IsImage Some (IsNamed recent level)) IsNone o word → IsDirectionsBy true recent level o word
sent_joined recent level o [] w = absurd w
sent_joined recent level o (true ∷ word) (directions, is, same) = subst (λ (x : Option Directions). IsDirectionsBy true recent level x (true ∷ word)) (sym same) (is.0, ap (λ (x : List Bool). true ∷ x) is.1)
sent_joined recent level o (false ∷ word) (none, empty) = subst (λ (x : Option Directions). IsDirectionsBy true recent level x (false ∷ word)) (sym none) (tt, ap (λ (x : List Bool). false ∷ x) empty)

sent_apart : (recent : List Bool) (level : ℕ) (o : Option Directions) (word : List Bool) → IsDirectionsBy true recent level o word → IsBitThen (IsImage Some (IsNamed recent level)) IsNone o word
sent_apart recent level None word (are, is) = rw is (refl, refl)
sent_apart recent level (Some directions) word (are, is) = rw is (directions, (are, refl), refl)

IsExact-directions_by : (may : Bool) (recent : List Bool) (level : ℕ) → (may ≡ true → (0 < level) × Contains recent true) → (may ≡ false → (directions : Directions) → AreDirections (bare recent level) directions → ⊥)
    → IsExact (IsDirectionsBy may recent level) (λ bits. cond may (any_bit bits >>= λ sent rest. cond sent (parse_named recent rest >>= λ directions last. Read (Some directions) last) (Read None rest)) (Read None bits))
IsExact-directions_by true recent level can cannot =
    let c = can refl in
    let some = all_named recent level c.0 c.1 in
    IsExact-same (IsBitThen (IsImage Some (IsNamed recent level)) IsNone) (IsDirectionsBy true recent level) (λ bits. any_bit bits >>= λ sent rest. cond sent (parse_named recent rest >>= λ directions last. Read (Some directions) last) (Read None rest))
    (sent_joined recent level) (sent_apart recent level)
    (IsExact-bit (IsImage Some (IsNamed recent level)) IsNone (λ rest. parse_named recent rest >>= λ directions last. Read (Some directions) last) (λ rest. Read None rest)
    (IsExact-map Some (IsNamed recent level) (parse_named recent) (IsExact-named_at recent level c.0 c.1))
    (IsExact-give None)
    (Some some.0, some.1, (some.0, some.2, refl))
    (None, [], (refl, refl)))
IsExact-directions_by false recent level can cannot =
    IsExact-same IsNone (IsDirectionsBy false recent level) (λ bits. Read None bits)
    (λ o word w. subst (λ (x : Option Directions). IsDirectionsBy false recent level x word) (sym w.0) (tt, w.1))
    (λ o word w. elim o as (λ (x : Option Directions). IsDirectionsBy false recent level x word → IsNone x word) [ None ↦ λ d. (refl, d.1) | Some directions ↦ λ d. absurd (cannot refl directions d.0) ] w)
    (IsExact-give None)

abbrev may_be_sent : List Bool → ℕ → Bool
may_be_sent recent level = list_any (λ (bit : Bool). bit) recent && ltb 0 level

abbrev pub IsDirectionsWord : List Bool → ℕ → Option Directions → List Bool → Type 0
IsDirectionsWord recent level = IsDirectionsBy (may_be_sent recent level) recent level

may_above : (any above : Bool) → (any && above) ≡ true → (any ≡ true) × (above ≡ true)
may_above true true e = (refl, refl)
may_above true false e = absurd cc
may_above false above e = absurd cc

pub any_one : (v : List Bool) (place : ℕ) → IsOne v place → list_any (λ (bit : Bool). bit) v ≡ true
any_one v place one = list_any_at (λ (bit : Bool). bit) v place false (one_within v place one) one

can_be : (recent : List Bool) (level : ℕ) → may_be_sent recent level ≡ true → (0 < level) × Contains recent true
can_be recent level may =
    let both = may_above (list_any (λ (bit : Bool). bit) recent) (ltb 0 level) may in
    (ltb-true 0 level both.1, one_in recent both.0)

both_true : (a b : Bool) → a ≡ true → b ≡ true → (a && b) ≡ true
both_true a b p q = rw (p, q) refl

cannot_be : (recent : List Bool) (level : ℕ) → may_be_sent recent level ≡ false → (directions : Directions) → AreDirections (bare recent level) directions → ⊥
cannot_be recent level may directions are =
    let place = are.some.0 in
    let one : IsOne recent place = are.recent place (get_or_default directions.predictable place false true are.some.1 ∙ are.some.2) in
    true≢false (sym (both_true (list_any (λ (bit : Bool). bit) recent) (ltb 0 level) (any_one recent place one) (lt-ltb 0 level are.level)) ∙ may)

IsExact-directions_at : (recent : List Bool) (level : ℕ) → IsExact (IsDirectionsWord recent level) (parse_directions recent level)
unfolding parse_directions
IsExact-directions_at recent level = IsExact-directions_by (may_be_sent recent level) recent level (can_be recent level) (cannot_be recent level)

-- none of them
no_directions : (may : Bool) (recent : List Bool) (level : ℕ) → HasWord (IsDirectionsBy may recent level)
no_directions may recent level = (None, cond may (false ∷ []) [], (tt, refl))

-- ---- the first part

-- a first part of vectors of f places
pub record IsChange (f : ℕ) (change : Change) : Type 0 where
  pub recent : length change.recent ≡ f
  pub level : change.level < 16
  pub directions : IfSome change.directions (AreDirections (bare change.recent change.level))

abbrev pub change_word : Change → List Bool
change_word change =
    run_bits change.recent ++ (number_bits 4 change.level ++ cond (may_be_sent change.recent change.level) (direction_bits change.recent change.directions) [])

abbrev pub IsChangeWord : ℕ → Change → List Bool → Type 0
IsChangeWord f change word = IsChange f change × (word ≡ change_word change)

pub change_bits_are : (form : Form) → change_bits form ≡ change_word (change_of form)
unfolding change_bits
change_bits_are form = refl

abbrev changed : List Bool → ℕ → Option Directions → Change
changed recent level directions = record { recent = recent; level = level; directions = directions }

abbrev IsLevelThen : List Bool → Change → List Bool → Type 0
IsLevelThen recent = IsWordThen (IsNumberOfWidth 4) (λ level. IsImage (changed recent level) (IsDirectionsWord recent level))

abbrev IsRecentThen : ℕ → Change → List Bool → Type 0
IsRecentThen f = IsWordThen (IsRunWordOf f) IsLevelThen

change_joined : (f : ℕ) (change : Change) (word : List Bool) → IsRecentThen f change word → IsChangeWord f change word
change_joined f change word (recent, front, back, runs, (level, middle, end, number, (directions, are, is), rest), parts) =
    subst (λ (c : Change). IsChangeWord f c word) (sym is) (
      record { recent = runs.0; level = number.0; directions = are.0 },
      parts ∙ rw (runs.1, rest, number.1, are.1) refl,
    )

change_apart : (f : ℕ) (change : Change) (word : List Bool) → IsChangeWord f change word → IsRecentThen f change word
change_apart f change word (is, bits) =
    let end = cond (may_be_sent change.recent change.level) (direction_bits change.recent change.directions) [] in (
      change.recent,
      run_bits change.recent,
      number_bits 4 change.level ++ end,
      (is.recent, refl),
      (change.level, number_bits 4 change.level, end, (is.level, refl), (change.directions, (is.directions, refl), refl), refl),
      bits,
    )

IsExact-level : (recent : List Bool) → IsExact (IsLevelThen recent) (λ rest. parse_number 4 rest >>= λ level more. parse_directions recent level more >>= λ directions last. Read (changed recent level directions) last)
IsExact-level recent =
    IsExact-then (IsNumberOfWidth 4) (λ level. IsImage (changed recent level) (IsDirectionsWord recent level))
    (parse_number 4) (λ level more. parse_directions recent level more >>= λ directions last. Read (changed recent level directions) last)
    (IsExact-number_at 4)
    (λ level word w. IsExact-map (changed recent level) (IsDirectionsWord recent level) (parse_directions recent level) (IsExact-directions_at recent level))
    (λ level word w. let none = no_directions (may_be_sent recent level) recent level in (changed recent level none.0, none.1, (none.0, none.2, refl)))

zero_level : (recent : List Bool) → HasWord (IsLevelThen recent)
zero_level recent =
    let none = no_directions (may_be_sent recent 0) recent 0 in
    (changed recent 0 none.0, number_bits 4 0 ++ none.1, (0, number_bits 4 0, none.1, (omega arith, refl), (none.0, none.2, refl), refl))

pub IsExact-change_at : (f : ℕ) → IsExact (IsChangeWord f) (parse_change f)
unfolding parse_change
IsExact-change_at f =
    IsExact-same (IsRecentThen f) (IsChangeWord f) (parse_change f) (change_joined f) (change_apart f)
    (IsExact-then (IsRunWordOf f) IsLevelThen
    (parse_vector f) (λ recent rest. parse_number 4 rest >>= λ level more. parse_directions recent level more >>= λ directions last. Read (changed recent level directions) last)
    (IsExact-vector_at f)
    (λ recent word w. IsExact-level recent)
    (λ recent word w. zero_level recent))

-- ---- the recent changes by their first two bits: the run word of a vector without a 1, and no other, begins with its end

-- the end comes first
pub nothing_comes : (v bits : List Bool) → v ≡ replicate (length v) false → take 2 bits ≡ number_bits 2 2 → parse_vector (length v) bits ≡ Read v (drop 2 bits)
nothing_comes v bits zeros front =
    let parts : bits ≡ run_bits v ++ drop 2 bits =
    sym (take-append-drop 2 bits) ∙ ap (λ (b : List Bool). b ++ drop 2 bits) (front ∙ sym (run_bits-zeros v zeros)) in
    ap (parse_vector (length v)) parts ∙ (IsExact-vector_at (length v)).reads v (run_bits v) (drop 2 bits) (refl, refl)

end_first : (rest : List Bool) → take 2 (number_bits 2 2 ++ rest) ≡ number_bits 2 2
unfolding number_bits
end_first rest = refl

-- it doesn't
pub one_comes : (v bits rest : List Bool) → bits ≡ run_bits v ++ rest → (take 2 bits ≡ number_bits 2 2 → ⊥) → Contains v true
one_comes v bits rest word other = by_ones (list_any (λ (bit : Bool). bit) v) refl
  where
    by_ones : (any : Bool) → list_any (λ (bit : Bool). bit) v ≡ any → Contains v true
    by_ones true is = some_one v is
    by_ones false is = absurd (other (ap (take 2) (word ∙ ap (λ (w : List Bool). w ++ rest) (run_bits-zeros v (no_ones v is))) ∙ end_first rest))

-- zeros have no 1
pub no_one : (v : List Bool) → v ≡ replicate (length v) false → Contains v true → ⊥
no_one v zeros one =
    false≢true (sym (ap (list_any (λ (bit : Bool). bit)) zeros ∙ list_any-zeros (length v)) ∙ list_any_at (λ (bit : Bool). bit) v one.0 true one.1 one.2)

-- ---- when no directions can be sent

nor : (bit : Bool) → (bit && false) ≡ false
nor true = refl
nor false = refl

-- without a change
pub no_change : (recent : List Bool) (level : ℕ) (bits : List Bool) → recent ≡ replicate (length recent) false → parse_directions recent level bits ≡ Read None bits
unfolding parse_directions
no_change recent level bits none =
    let any : list_any (λ (bit : Bool). bit) recent ≡ false = rw none (list_any-zeros (length recent)) in
    rw any refl

-- at level 0
pub no_level : (recent bits : List Bool) → parse_directions recent 0 bits ≡ Read None bits
unfolding parse_directions
no_level recent bits = rw (nor (list_any (λ (bit : Bool). bit) recent)) refl
