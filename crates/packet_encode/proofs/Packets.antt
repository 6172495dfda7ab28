-- The packets of histories: their forms, directions and bounds, and packets without recent changes.
use Rattle.std.specs.List.{list_any}
use Rattle.std.specs.Prelude.{IfSome, count_by, nat_lt, not, ◌&&◌, Contains}
use Rattle.std.proofs.Common.{◌≡◌, ℕ, ◌+◌, ◌-◌, ◌*◌, ◌<◌, ◌≤◌, Bool, true, false, cond, List, [], ◌∷◌, ◌++◌, length, drop, Option, Some, None, ap, ◌∙◌, ◌⊎◌, inl, inr, arith, replicate, refl, sym, append_assoc, get_or}
use Rattle.std.proofs.lemmas.Bool.{cases_eq, cases_lt, and_from, le-leb, and_parts, leb-true}
use Rattle.std.proofs.lemmas.List.{length-append, length-drop, length-map, append-nil, length-replicate}
use Rattle.std.proofs.lemmas.List.Folds.{list_any_at}
use Rattle.std.proofs.lemmas.List.Sums.{count_by-le-length}
use Rattle.std.proofs.lemmas.Simd.{length-zip2}
use Rattle.bit_vectors.specs.Vectors.{number_bits, without_bits, IsOne, or_bits}
use Rattle.bit_vectors.specs.declared.flags.Flags.{Flags}
use Rattle.bit_vectors.proofs.NumberBits.{length-number_bits, number_bits-cat}
use Rattle.bit_vectors.proofs.Places.{get_or-zip2_all}
use Rattle.count_code.specs.Code.{count_bits}
use Rattle.count_code.proofs.CountWords.{count_bits-one, length-count_bits-long, length-count_bits-short, digits_most, digits_of}
use Rattle.run_code.specs.Extraction.{bits_up, inverse_up, places_up, extract}
use Rattle.run_code.specs.Runs.{edges, run_bits}
use Rattle.run_code.proofs.InverseBits.{length-bits_at, length-extract}
use Rattle.run_code.proofs.Ones.{length-ones_from}
use Rattle.run_code.proofs.RunWords.{run_bits_most, run_bits-zeros}
use Rattle.mask_update.specs.Histories.{History, IsValid, flags_at, input_at}
use Rattle.mask_update.specs.Masks.{mask_at, Running}
use Rattle.mask_update.proofs.StepByStep.{length-mask_at}
use Rattle.robust_window.specs.Histories.{IsLevel, level_at, recent_at, twice_at}
use Rattle.robust_window.proofs.OfHistories.{IsLevel-level_at, length-recent_at}
use Rattle.robust_window.proofs.Ranges.{list_any-zeros, some_one}
use Rattle.packet_encode.specs.Encoder.{plain_data}
use Rattle.packet_encode.specs.Forms.{Content, Directions, Form, Part, Whole, change_bits, content_bits, data_bits, direction_bits, form_bits, mask_bits, directions_of, AreDirections, Fits, FitsPlaces, HasPlaces, IsForm, wide_by, sent_content, form_at, form_of, sent_of}

-- ---- how many bits the parts of a packet have

pub length-count_bits-most : (a : ℕ) → 1 ≤ a → a ≤ 49152 → length (count_bits a) ≤ 29
length-count_bits-most a least most = kind (cases_eq a 1) (cases_lt a 34)
  where
    kind : (a ≡ 1) ⊎ (a ≡ 1 → ⊥) → (a < 34) ⊎ (34 ≤ a) → length (count_bits a) ≤ 29
    kind (inl one) size = omega (arith, ap (λ n. length (count_bits n)) one, ap length count_bits-one)
    kind (inr more) (inl short) = omega (arith, length-count_bits-short a (omega arith) (omega arith))
    kind (inr more) (inr long) =
        let of = digits_of (a - 2) (omega arith) in
        omega (arith, length-count_bits-long a long, of.1, digits_most (a - 2) of.0 of.2 (omega arith))

pub ones_most : (v : List Bool) → count_by (λ bit. bit) v ≤ length v
ones_most v = count_by-le-length (λ (bit : Bool). bit) v

pub length-bits_up : (a b : List Bool) → length (bits_up a b) ≡ count_by (λ bit. bit) b
length-bits_up a b = length-bits_at a (places_up b) ∙ length-ones_from 0 b

pub length-inverse_up : (mask x : List Bool) → length (inverse_up mask x) ≡ count_by (λ bit. bit) x
length-inverse_up mask x = length-map (bits_up mask x) not ∙ length-bits_up mask x

pub direction_bits-most : (recent : List Bool) (directions : Option Directions) → length (direction_bits recent directions) ≤ length recent + 2
direction_bits-most recent None = omega arith
direction_bits-most recent (Some directions) =
    omega (arith, length-append (bits_up directions.predictable recent) (directions.twice ∷ []), length-bits_up directions.predictable recent, ones_most recent)

-- the directions if they are there, and nothing otherwise
directions_most : (there : Bool) (recent : List Bool) (directions : Option Directions) → length (cond there (direction_bits recent directions) []) ≤ length recent + 2
directions_most true recent directions = direction_bits-most recent directions
directions_most false recent directions = omega arith

pub change_bits-most : (form : Form) → length (change_bits form) ≤ 5 * length form.recent + 8
unfolding change_bits
change_bits-most form =
    let there = list_any (λ bit. bit) form.recent && nat_lt 0 form.level in
    let rest = cond there (direction_bits form.recent form.directions) [] in
    omega (
      arith,
      length-append (run_bits form.recent) (number_bits 4 form.level ++ rest),
      length-append (number_bits 4 form.level) rest,
      run_bits_most form.recent,
      length-number_bits 4 form.level,
      directions_most there form.recent form.directions,
    )

length-edges : (mask : List Bool) → 1 ≤ length mask → length (edges mask) ≡ length mask
length-edges mask some =
    length-zip2 (λ a b. cond a (not b) b) mask (drop 1 mask ++ false ∷ []) (omega (arith, length-append (drop 1 mask) (false ∷ []), length-drop 1 mask))

mask_bits-most : (f : ℕ) (sent : Option (List Bool)) → 1 ≤ f → IfSome sent (λ mask. length mask ≡ f) → length (mask_bits sent) ≤ 4 * f + 3
mask_bits-most f None some len = omega arith
mask_bits-most f (Some mask) some len = omega (arith, run_bits_most (edges mask), length-edges mask (omega arith))

-- the whole content has as many bits as there are places, and a part no more
abbrev pub HasMost : ℕ → Content → Type 0
HasMost f (Whole content) = length content ≡ f
HasMost f (Part bits) = length bits ≤ f

content_bits-most : (f : ℕ) (content : Content) → 1 ≤ f → f ≤ 49152 → HasMost f content → length (content_bits content) ≤ f + 30
content_bits-most f (Whole content) some most len =
    omega (arith, length-append (count_bits (length content)) content, length-count_bits-most (length content) (omega arith) (omega arith))
content_bits-most f (Part bits) some most len = omega arith

pub data_bits-most : (f : ℕ) (sent : Option (List Bool)) (content : Content) → 1 ≤ f → f ≤ 49152 → IfSome sent (λ mask. length mask ≡ f) → HasMost f content → length (data_bits sent content) ≤ 5 * f + 34
data_bits-most f None (Part bits) some most sent_len len = omega arith
data_bits-most f None (Whole content) some most sent_len len =
    omega (arith, length-append (mask_bits None) (content_bits (Whole content)), content_bits-most f (Whole content) some most len)
data_bits-most f (Some mask) content some most sent_len len =
    omega (arith, length-append (mask_bits (Some mask)) (content_bits content), mask_bits-most f (Some mask) some sent_len, content_bits-most f content some most len)

pub form_bits-most : (f : ℕ) (form : Form) → 1 ≤ f → f ≤ 49152 → length form.recent ≡ f → IfSome form.sent (λ mask. length mask ≡ f) → HasMost f form.content → length (form_bits form) ≤ 10 * f + 42
unfolding form_bits
form_bits-most f form some most recent_len sent_len len =
    omega (arith, length-append (change_bits form) (data_bits form.sent form.content), change_bits-most form, data_bits-most f form.sent form.content some most sent_len len)

pub form_bits-some : (form : Form) → 0 < length (form_bits form)
unfolding form_bits change_bits
form_bits-some form =
    let there = list_any (λ bit. bit) form.recent && nat_lt 0 form.level in
    let rest = cond there (direction_bits form.recent form.directions) [] in
    omega (
      arith,
      length-append (change_bits form) (data_bits form.sent form.content),
      length-append (run_bits form.recent) (number_bits 4 form.level ++ rest),
      length-append (number_bits 4 form.level) rest,
      length-number_bits 4 form.level,
    )

-- ---- when a packet has directions, and the first part of its bits

pub has_one : List Bool → Bool
has_one v = list_any (λ (bit : Bool). bit) v

pub has_one-zeros : (v : List Bool) → v ≡ replicate (length v) false → has_one v ≡ false
unfolding has_one
has_one-zeros v zeros = ap (list_any (λ (bit : Bool). bit)) zeros ∙ list_any-zeros (length v)

pub has_one-some : (v : List Bool) → Contains v true → has_one v ≡ true
unfolding has_one
has_one-some v one = list_any_at (λ (bit : Bool). bit) v one.0 true one.1 one.2

-- no 1 is left if there was none
pub has_one-without : (v mask : List Bool) → has_one v ≡ false → has_one (without_bits v mask) ≡ false
unfolding has_one
has_one-without [] mask none = refl
has_one-without (bit ∷ v) [] none = refl
has_one-without (true ∷ v) (other ∷ mask) none = let never : true ≡ false = none in cc
has_one-without (false ∷ v) (other ∷ mask) none = has_one-without v mask none

-- what was appended bit by bit and word by word
pub appended : (bits : List Bool) (bit : Bool) (word : List Bool) (last : Bool) → ((bits ++ bit ∷ []) ++ word) ++ last ∷ [] ≡ bits ++ (bit ∷ (word ++ last ∷ []))
appended bits bit word last = simp append_assoc

pub appended_words : (bits first second third : List Bool) → ((bits ++ first) ++ second) ++ third ≡ bits ++ (first ++ (second ++ third))
appended_words bits first second third = simp append_assoc

pub appended_pair : (bits first second : List Bool) → (bits ++ first) ++ second ≡ bits ++ (first ++ (second ++ []))
appended_pair bits first second = simp (append_assoc, append-nil)

-- no recent change is outside the mask
pub none_left : (recent mask : List Bool) → without_bits recent mask ≡ replicate (length recent) false → has_one (without_bits recent mask) ≡ false
none_left recent mask zeros =
    has_one-zeros (without_bits recent mask) (zeros ∙ ap (λ (n : ℕ). replicate n false) (sym (ap length zeros ∙ length-replicate (length recent) false)))

no_choice : {A : Type 0} (a b : Bool) (some : Option A) → b ≡ false → cond (a && b) some None ≡ None
no_choice true b some none = ap (λ c. cond c some None) none
no_choice false b some none = refl

pub directions-none : (mask recent : List Bool) (level : ℕ) (twice : Bool) → has_one (without_bits recent mask) ≡ false → directions_of mask recent level twice ≡ None
unfolding has_one
directions-none mask recent level twice none = no_choice (nat_lt 0 level) (list_any (λ (bit : Bool). bit) (without_bits recent mask)) (Some (record { predictable = without_bits recent mask; twice = twice })) none

pub directions-level_zero : (mask recent : List Bool) (level : ℕ) (twice : Bool) → level ≡ 0 → directions_of mask recent level twice ≡ None
directions-level_zero mask recent level twice zero_is = ap (λ n. directions_of mask recent n twice) zero_is

pub directions-some : (mask recent : List Bool) (level : ℕ) (twice : Bool) → 0 < level → has_one (without_bits recent mask) ≡ true → directions_of mask recent level twice ≡ Some (record { predictable = without_bits recent mask; twice = twice })
unfolding has_one
directions-some mask recent level twice above some =
    ap (λ b. cond b (Some (record { predictable = without_bits recent mask; twice = twice })) None) (and_from (nat_lt 0 level) (list_any (λ (bit : Bool). bit) (without_bits recent mask)) (le-leb 1 level (omega arith)) some)

-- the first part ends after the level if there is no change or the level is 0
pub change_bits-short : (form : Form) → (has_one form.recent && nat_lt 0 form.level) ≡ false → change_bits form ≡ run_bits form.recent ++ (number_bits 4 form.level ++ [])
unfolding change_bits has_one
change_bits-short form none = ap (λ b. run_bits form.recent ++ (number_bits 4 form.level ++ cond b (direction_bits form.recent form.directions) [])) none

pub change_bits-long : (form : Form) → has_one form.recent ≡ true → 0 < form.level → change_bits form ≡ run_bits form.recent ++ (number_bits 4 form.level ++ direction_bits form.recent form.directions)
unfolding change_bits has_one
change_bits-long form some above =
    ap (λ b. run_bits form.recent ++ (number_bits 4 form.level ++ cond b (direction_bits form.recent form.directions) []))
    (and_from (list_any (λ (bit : Bool). bit) form.recent) (nat_lt 0 form.level) some (le-leb 1 form.level (omega arith)))

and_none : (a b : Bool) → b ≡ false → (a && b) ≡ false
and_none true b none = none
and_none false b none = refl

pub no_level : (form : Form) → form.level ≡ 0 → (has_one form.recent && nat_lt 0 form.level) ≡ false
no_level form zero_is = and_none (has_one form.recent) (nat_lt 0 form.level) (ap (nat_lt 0) zero_is)

pub no_change : (form : Form) → has_one form.recent ≡ false → (has_one form.recent && nat_lt 0 form.level) ≡ false
no_change form none = ap (λ b. b && nat_lt 0 form.level) none

-- ---- the first part, as it is appended

pub front_is : (old runs numbered taken recent : List Bool) (taken_level level : ℕ) → runs ≡ old ++ run_bits taken → numbered ≡ runs ++ number_bits 4 taken_level → taken ≡ recent → taken_level ≡ level → numbered ≡ (old ++ run_bits recent) ++ number_bits 4 level
front_is old runs numbered taken recent taken_level level run number same same_level =
    number ∙ ap (λ bits. bits ++ number_bits 4 taken_level) (run ∙ ap (λ v. old ++ run_bits v) same) ∙ ap (λ n. (old ++ run_bits recent) ++ number_bits 4 n) same_level

-- without a change, the first part is one number
pub quiet_is : (old numbered taken : List Bool) (number level : ℕ) → numbered ≡ old ++ number_bits 6 number → number ≡ 32 + level → level < 16 → taken ≡ replicate (length taken) false → numbered ≡ (old ++ run_bits taken) ++ number_bits 4 level
quiet_is old numbered taken number level is sum below zeros =
    is ∙ ap (λ n. old ++ number_bits 6 n) sum
    ∙ ap (λ bits. old ++ bits) (number_bits-cat 2 4 2 level below ∙ ap (λ bits. bits ++ number_bits 4 level) (sym (run_bits-zeros taken zeros)))
    ∙ sym (append_assoc old (run_bits taken) (number_bits 4 level))

pub front_most : (old runs numbered taken : List Bool) (level : ℕ) → runs ≡ old ++ run_bits taken → numbered ≡ runs ++ number_bits 4 level → length numbered ≤ length old + (4 * length taken + 6)
front_most old runs numbered taken level run number =
    omega (arith, ap length number, length-append runs (number_bits 4 level), length-number_bits 4 level, ap length run, length-append old (run_bits taken), run_bits_most taken)

pub short_bits : (old : List Bool) (form : Form) → (has_one form.recent && nat_lt 0 form.level) ≡ false → (old ++ run_bits form.recent) ++ number_bits 4 form.level ≡ old ++ change_bits form
short_bits old form none =
    appended_pair old (run_bits form.recent) (number_bits 4 form.level) ∙ ap (λ bits. old ++ bits) (sym (change_bits-short form none))

pub long_bits : (old : List Bool) (form : Form) → has_one form.recent ≡ true → 0 < form.level → ((old ++ run_bits form.recent) ++ number_bits 4 form.level) ++ direction_bits form.recent form.directions ≡ old ++ change_bits form
long_bits old form some above =
    appended_words old (run_bits form.recent) (number_bits 4 form.level) (direction_bits form.recent form.directions)
    ∙ ap (λ bits. old ++ bits) (sym (change_bits-long form some above))

-- ---- the forms of histories

pub form_bits-is : (form : Form) → change_bits form ++ data_bits form.sent form.content ≡ form_bits form
unfolding form_bits
form_bits-is form = refl

-- equal values have equal forms
pub form_of-same : (mask mask' recent recent' : List Bool) (level level' : ℕ) (twice twice' : Bool) (input input' : List Bool) (flags flags' : Flags) → mask ≡ mask' → recent ≡ recent' → level ≡ level' → twice ≡ twice' → input ≡ input' → flags ≡ flags' → form_of mask recent level twice input flags ≡ form_of mask' recent' level' twice' input' flags'
form_of-same mask mask' recent recent' level level' twice twice' input input' flags flags' m r l t i f =
    ap (λ v. form_of v recent level twice input flags) m
    ∙ ap (λ v. form_of mask' v level twice input flags) r
    ∙ ap (λ n. form_of mask' recent' n twice input flags) l
    ∙ ap (λ b. form_of mask' recent' level' b input flags) t
    ∙ ap (λ v. form_of mask' recent' level' twice' v flags) i
    ∙ ap (form_of mask' recent' level' twice' input') f

pub length-wide_by : (directions : Option Directions) (recent mask : List Bool) → length recent ≡ length mask → length (wide_by directions recent mask) ≡ length mask
length-wide_by None recent mask len = refl
length-wide_by (Some directions) recent mask len = wide_in directions.twice
  where
    wide_in : (b : Bool) → length (cond b (or_bits mask recent) mask) ≡ length mask
    wide_in true = length-zip2 _ mask recent (sym len)
    wide_in false = refl

pub sent_of-places : (send : Bool) (mask : List Bool) (f : ℕ) → length mask ≡ f → IfSome (sent_of send mask) (λ sent. length sent ≡ f)
sent_of-places true mask f len = len
sent_of-places false mask f len = tt

pub sent_content-most : (whole : Bool) (content places : List Bool) (f : ℕ) → length content ≡ f → length places ≡ f → HasMost f (sent_content whole content places)
sent_content-most true content places f len places_len = len
sent_content-most false content places f len places_len = omega (arith, length-extract content places, ones_most places)

-- the first part and the second are the bits of a form
pub written_is : (written changed mask recent : List Bool) (level : ℕ) (twice : Bool) (input : List Bool) (flags : Flags) (wide : Bool) → changed ≡ change_bits (form_of mask recent level twice input flags) → wide_by (directions_of mask recent level twice) recent mask ≡ cond wide (or_bits mask recent) mask → written ≡ changed ++ data_bits (sent_of flags.f mask) (sent_content flags.r input (cond wide (or_bits mask recent) mask)) → written ≡ form_bits (form_of mask recent level twice input flags)
written_is written changed mask recent level twice input flags wide first places second =
    second
    ∙ ap (λ v. changed ++ data_bits (sent_of flags.f mask) (sent_content flags.r input v)) (sym places)
    ∙ ap (λ bits. bits ++ data_bits (sent_of flags.f mask) (sent_content flags.r input (wide_by (directions_of mask recent level twice) recent mask))) first
    ∙ form_bits-is (form_of mask recent level twice input flags)

-- vectors of one length have a form within the bound
pub form_of-most : (mask recent : List Bool) (level : ℕ) (twice : Bool) (input : List Bool) (flags : Flags) (f : ℕ) → 1 ≤ f → f ≤ 49152 → length mask ≡ f → length recent ≡ f → length input ≡ f → length (form_bits (form_of mask recent level twice input flags)) ≤ 10 * f + 42
form_of-most mask recent level twice input flags f some most mask_len recent_len input_len =
    form_bits-most f (form_of mask recent level twice input flags) some most recent_len (sent_of-places flags.f mask f mask_len)
    (sent_content-most flags.r input (wide_by (directions_of mask recent level twice) recent mask) f input_len
    (length-wide_by (directions_of mask recent level twice) recent mask (recent_len ∙ sym mask_len) ∙ mask_len))

-- ---- for a valid history

directions_of-are : (mask recent : List Bool) (level : ℕ) (twice : Bool) (form : Form) → form.recent ≡ recent → form.level ≡ level → length recent ≡ length mask → IfSome (directions_of mask recent level twice) (AreDirections form)
directions_of-are mask recent level twice form recent_is level_is len = are_in (nat_lt 0 level && list_any (λ bit. bit) left) refl
  where
    left : List Bool
    left = without_bits recent mask

    one_of : (place : ℕ) → IsOne left place → IsOne recent place
    one_of place one = (and_parts (get_or recent place false) (not (get_or mask place false)) (sym (get_or-zip2_all (λ a b. a && not b) refl recent mask place len) ∙ one)).0

    are_in : (there : Bool) → (nat_lt 0 level && list_any (λ bit. bit) left) ≡ there → IfSome (cond there (Some (record { predictable = left; twice = twice })) None) (AreDirections form)
    are_in false e = tt
    are_in true e =
        let parts = and_parts (nat_lt 0 level) (list_any (λ bit. bit) left) e in
        record {
          level = omega (arith, leb-true 1 level parts.0);
          places = length-zip2 _ recent mask len ∙ ap length (sym recent_is);
          recent = λ place one. ap (λ v. get_or v place false) recent_is ∙ one_of place one;
          some = some_one left parts.1;
        }

sent_content-places : (whole : Bool) (content places : List Bool) (f : ℕ) → length content ≡ f → HasPlaces f (sent_content whole content places)
sent_content-places true content places f len = len
sent_content-places false content places f len = tt

sent_content-fits : (whole : Bool) (content places : List Bool) → FitsPlaces places (sent_content whole content places)
sent_content-fits true content places = tt
sent_content-fits false content places = length-extract content places

pub form_at-is_form : (h : History) (t : ℕ) → IsValid h → t < length h.steps → IsForm h.places (form_at h t)
form_at-is_form h t valid lt =
    record {
      recent = length-recent_at h t lt;
      level = omega (arith, level.most, valid.robust t lt);
      directions = directions_of-are (mask_at h t) (recent_at h t) (level_at h t) (twice_at h t) (form_at h t) refl refl (length-recent_at h t lt ∙ sym (length-mask_at h t));
      sent = sent_of-places (flags_at h t).f (mask_at h t) h.places (length-mask_at h t);
      content = sent_content-places (flags_at h t).r (input_at h t) (wide_by (directions_of (mask_at h t) (recent_at h t) (level_at h t) (twice_at h t)) (recent_at h t) (mask_at h t)) h.places (valid.inputs t lt);
    }
  where
    level : IsLevel h t (level_at h t)
    level = IsLevel-level_at h t lt

pub form_at-fits : (h : History) (t : ℕ) → Fits (form_at h t) (mask_at h t)
form_at-fits h t = sent_content-fits (flags_at h t).r (input_at h t) (wide_by (directions_of (mask_at h t) (recent_at h t) (level_at h t) (twice_at h t)) (recent_at h t) (mask_at h t))

pub form_at-most : (h : History) (t : ℕ) → IsValid h → t < length h.steps → length (form_bits (form_at h t)) ≤ 10 * h.places + 42
form_at-most h t valid lt =
    form_of-most (mask_at h t) (recent_at h t) (level_at h t) (twice_at h t) (input_at h t) (flags_at h t) h.places
    (omega (arith, valid.places, valid.vector.0)) (omega (arith, valid.places, valid.vector.1)) (length-mask_at h t) (length-recent_at h t lt) (valid.inputs t lt)

pub places_most : (h : History) → IsValid h → h.places ≤ 49152
places_most h valid = omega (arith, valid.places, valid.vector.1)

-- ---- packets without recent changes, mask and whole content

abbrev no_flags : Flags
no_flags = record { p = false; f = false; r = false }

-- the form of a packet of the latest input with no recent change, at this level, that has neither its mask nor its whole content
abbrev pub plain_form : Running → ℕ → Form
plain_form masks level = form_of masks.mask (replicate (length masks.mask) false) level false masks.previous no_flags

-- without recent changes there are no directions, so that it does not matter whether there were two new masks
form_of-quiet : (mask recent : List Bool) (level : ℕ) (twice twice' : Bool) (input : List Bool) (flags : Flags) → recent ≡ replicate (length recent) false → form_of mask recent level twice input flags ≡ form_of mask recent level twice' input flags
form_of-quiet mask recent level twice twice' input flags quiet = ap form_with (none twice ∙ sym (none twice'))
  where
    none : (b : Bool) → directions_of mask recent level b ≡ None
    none b = directions-none mask recent level b (has_one-without recent mask (has_one-zeros recent quiet))

    form_with : Option Directions → Form
    form_with directions = record {
      recent = recent;
      level = level;
      directions = directions;
      sent = sent_of flags.f mask;
      content = sent_content flags.r input (wide_by directions recent mask);
    }

-- of the flags only these two matter
form_of-unflagged : (mask recent : List Bool) (level : ℕ) (twice : Bool) (input : List Bool) (flags : Flags) → flags.f ≡ false → flags.r ≡ false → form_of mask recent level twice input flags ≡ form_of mask recent level twice input no_flags
form_of-unflagged mask recent level twice input flags f r = ap (form_with flags.f) r ∙ ap (λ b. form_with b false) f
  where
    form_with : Bool → Bool → Form
    form_with send whole = form_of mask recent level twice input (record { p = false; f = send; r = whole })

-- such a packet has a plain form
pub plain_form-is : (masks : Running) (mask recent : List Bool) (level : ℕ) (twice : Bool) (input : List Bool) (flags : Flags) (n : ℕ) → flags.f ≡ false → flags.r ≡ false → recent ≡ replicate (length recent) false → level ≡ n → mask ≡ masks.mask → input ≡ masks.previous → length recent ≡ length masks.mask
    → form_of mask recent level twice input flags ≡ plain_form masks n
plain_form-is masks mask recent level twice input flags n f r quiet level_is mask_is input_is len =
    form_of-unflagged mask recent level twice input flags f r
    ∙ form_of-quiet mask recent level twice false input no_flags quiet
    ∙ form_of-same mask masks.mask recent (replicate (length masks.mask) false) level n false false input masks.previous no_flags no_flags mask_is (quiet ∙ ap (λ k. replicate k false) len) level_is refl input_is refl

-- ---- its bits

module _ (masks : Running) (level : ℕ) (below : level < 16) where
  abbrev zeros : List Bool
  zeros = replicate (length masks.mask) false

  are_zeros : zeros ≡ replicate (length zeros) false
  are_zeros = ap (λ n. replicate n false) (sym (length-replicate (length masks.mask) false))

  no_directions : directions_of masks.mask zeros level false ≡ None
  no_directions = directions-none masks.mask zeros level false (has_one-without zeros masks.mask (has_one-zeros zeros are_zeros))

  -- its first part is one number
  front : change_bits (plain_form masks level) ≡ number_bits 6 (32 + level)
  front =
      sym (quiet_is [] (number_bits 6 (32 + level)) zeros (32 + level) level refl refl below are_zeros
      ∙ short_bits [] (plain_form masks level) (no_change (plain_form masks level) (has_one-zeros zeros are_zeros)))

  pub plain_bits : form_bits (plain_form masks level) ≡ number_bits 6 (32 + level) ++ plain_data masks
  unfolding form_bits
  plain_bits = (λ i. front i ++ data_bits None (Part (extract masks.previous (wide_by (no_directions i) zeros masks.mask))))
