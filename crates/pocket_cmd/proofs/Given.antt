-- What right words give: values within their bounds, masks that digits denote, and no name that no word gives.
use Rattle.std.specs.List.{Contains, list_any, position_or_len}
use Rattle.std.specs.Option.{option_map}
use Rattle.std.specs.Prelude.{IfSome, IsSome, if◌then◌else◌, ◌%◌}
use Rattle.std.specs.Str.{bytes_eq}
use Rattle.std.specs.Str.Parse.{digits_value}
use Rattle.std.proofs.Common.{◌≡◌, ℕ, ◌≤◌, ◌&&◌, Bool, true, false, cond, nat_le, is_some, unwrap_or, List, Some, None, refl, sym, subst, arith, ◌+◌, ◌<◌, ◌||◌, not, eqb, nat_lt, [], ◌∷◌, ◌++◌, length, get_or, Option, Result, Ok, ap, ◌∙◌, codes, add-one, ◌*◌, ◌/◌, ◌==◌, take, Err}
use Rattle.std.proofs.lemmas.Bool.Decides.{nat_tests}
use Rattle.std.proofs.lemmas.List.{length-replicate, length-take-le}
use Rattle.std.proofs.lemmas.List.Sums.{split_at_first, passes_at_first}
use Rattle.std.proofs.lemmas.Map.Views.{Contains-from_any}
use Rattle.std.proofs.lemmas.Option.{same_Some}
use Rattle.std.proofs.lemmas.Slice.Eq.{bytes_eq-Decides}
use Rattle.hex.specs.Hex.{decode_sized, decode_pairs}
use Rattle.hex.specs.declared.error.FromHexError.{FromHexError}
use Rattle.hex.specs.declared.error.FromHexError.TheVariants.{OddLength, InvalidStringLength}
use Rattle.hex.proofs.HexLemmas.{decode_pairs-ok}
use Rattle.bit_vectors.specs.Vectors.{IsPlaces, bits_of, byte_count, has_spare_bit}
use Rattle.bit_vectors.proofs.NumberBits.{length-bits_of}
use Rattle.side_tables.specs.Numbers.{is_plain_decimal, number_of}
use Rattle.pocket_cmd.specs.Command.{AreGiven, AreInBounds, Command, IsRight, IsInBounds, command_after, command_of, unless_fault}
use Rattle.pocket_cmd.specs.Masks.{first_mask, mask_bytes, mask_of, no_mask, unless_spare}
use Rattle.pocket_cmd.specs.Verbs.{KeyRow, is_name_at, kind_of, verb_rows, verb_of}
use Rattle.pocket_cmd.specs.Words.{number_told, Words, Assigns, AssignsToOne, bits, fault_of, fits_key, has_key, is_equals_sign, is_missing, is_right, is_split, key_in, keys_at, name_of, number_at, or_missing, or_word, text_in, text_of, wrong_mask, wrong_word}
use Rattle.pocket_cmd.specs.declared.verbs.Port.{Port}
use Rattle.pocket_cmd.specs.declared.verbs.Port.TheVariants as port
use Rattle.pocket_cmd.specs.declared.verbs.ValueKind.{ValueKind}
use Rattle.pocket_cmd.specs.declared.verbs.ValueKind.TheVariants.{Name, Number, Mask}
use Rattle.pocket_cmd.specs.declared.verbs.Verb.{Verb}
use Rattle.pocket_cmd.specs.declared.verbs.Verb.TheVariants as verb

-- ---- A number that a text says is within the bounds that it was looked at with

all_three : (a b c : Bool) (x : ℕ) → is_some (cond (a && b && c) (Some x) None) ≡ true → (a ≡ true) × (b ≡ true) × (c ≡ true)
all_three true true true x e = (refl, refl, refl)
all_three true true false x e = absurd cc
all_three true false c x e = absurd cc
all_three false b c x e = absurd cc

found : (a b c : Bool) (x : ℕ) → a ≡ true → b ≡ true → c ≡ true → unwrap_or (cond (a && b && c) (Some x) None) 0 ≡ x
found true true true x p q r = refl
found true true false x p q r = absurd cc
found true false c x p q r = absurd cc
found false b c x p q r = absurd cc

above : (m n : ℕ) → nat_le m n ≡ true → m ≤ n
above m n h = grind (arith, nat_tests)

test : (m n : ℕ) → m ≤ n → nat_le m n ≡ true
test m n h = grind (arith, nat_tests)

pub number_told-bounds : (low high : ℕ) (text : List ℕ) → high ≤ 4294967295 → is_some (number_of low high text) ≡ true → (low ≤ number_told (Some text)) × (number_told (Some text) ≤ high)
number_told-bounds low high text most is =
    let value : ℕ = digits_value 10 text in
    let tests = all_three (is_plain_decimal text) (nat_le low value) (nat_le value high) value is in
    let least : low ≤ value = above low value tests.1 in
    let greatest : value ≤ high = above value high tests.2 in
    let same : number_told (Some text) ≡ value = found (is_plain_decimal text) (nat_le 0 value) (nat_le value 4294967295) value tests.0 (test 0 value (omega arith)) (test value 4294967295 (omega arith)) in
    (subst (λ n. low ≤ n) (sym same) least, subst (λ n. n ≤ high) (sym same) greatest)

-- ---- a word and its parts

split_joined : (word : List ℕ) → is_split word ≡ true → word ≡ key_in word ++ 61 ∷ text_in word
split_joined word split =
    let h : position_or_len is_equals_sign word < length word = below _ _ split in
    let sign : get_or word (position_or_len is_equals_sign word) 0 ≡ 61 = equal _ _ (passes_at_first is_equals_sign word 0 h) in
    split_at_first is_equals_sign word 0 h ∙ ap (λ c. key_in word ++ c ∷ text_in word) sign where
      below : (m n : ℕ) → nat_lt m n ≡ true → m < n
      below m n h = grind (arith, nat_tests)

      equal : (m n : ℕ) → eqb m n ≡ true → m ≡ n
      equal m n h = grind (arith, nat_tests)

pub later : (word : List ℕ) (words : List (List ℕ)) (text : List ℕ) → Contains words text → Contains (word ∷ words) text
later word words text h = (h.0 + 1, omega (arith, h.1), shifted h.0 h.2) where
  shifted : (k : ℕ) → get_or words k text ≡ text → get_or (word ∷ words) (k + 1) text ≡ text
  shifted k e = rw add-one e

pub both : (a b : Bool) → (a && b) ≡ true → (a ≡ true) × (b ≡ true)
both true true e = (refl, refl)
both true false e = absurd cc
both false b e = absurd cc

-- the first word has the key, or the text is that of the others
by_key : {P : Type 0} (key word : List ℕ) (others : Option (List ℕ)) (text : List ℕ) → cond (has_key key word) (Some (text_in word)) others ≡ Some text
    → (is_split word ≡ true → key_in word ≡ key → text_in word ≡ text → P) → (others ≡ Some text → P) → P
by_key {P = P} key word others text e this that = by_test (has_key key word) refl e where
  same : {x y : List ℕ} → Some x ≡ Some y → x ≡ y
  same e = cc

  by_test : (b : Bool) → has_key key word ≡ b → cond b (Some (text_in word)) others ≡ Some text → P
  by_test true is e = let (split, same_key) = both (is_split word) (bytes_eq (key_in word) key) is in this split ((bytes_eq-Decides (key_in word) key).0 same_key) (same e)
  by_test false is e = that e

-- a text that words give to a key is one that a word assigns to it
Assigns-text_of : (words : List (List ℕ)) (key text : List ℕ) → text_of words key ≡ Some text → Assigns words key text
Assigns-text_of [] key text e = absurd cc
Assigns-text_of (word ∷ words) key text e =
    by_key key word (text_of words key) text e
    (λ split is_key is_text. subst (Contains (word ∷ words)) (split_joined word split ∙ λ i. is_key i ++ 61 ∷ is_text i) (0, omega arith, refl))
    (λ e. later word words _ (Assigns-text_of words key text e))

-- the text of a right word is a value of its key's kind
fits-right : (rows : List KeyRow) (before : List (List ℕ)) (word : List ℕ) → is_right rows before word ≡ true → fits_key rows before (kind_of rows (key_in word)) (text_in word) ≡ true
fits-right rows before word e = last (is_split word) (not (is_some (text_of before (key_in word)))) (fits_key rows before (kind_of rows (key_in word)) (text_in word)) e where
  last : (a b c : Bool) → (a && b && c) ≡ true → c ≡ true
  last true true c e = e
  last true false c e = absurd cc
  last false b c e = absurd cc

-- so a text that words give to a key is one, if no word is wrong
fits-text_of : (rows : List KeyRow) (before words : List (List ℕ)) (key text : List ℕ) → wrong_word rows before words ≡ None → text_of words key ≡ Some text → (so_far : List (List ℕ)) × (fits_key rows so_far (kind_of rows key) text ≡ true)
fits-text_of rows before [] key text right e = absurd cc
fits-text_of rows before (word ∷ words) key text right e = by_right (is_right rows before word) refl right (fits-text_of rows (before ++ word ∷ []) words key text) where
  by_right : (b : Bool) → is_right rows before word ≡ b → cond b (wrong_word rows (before ++ word ∷ []) words) (Some (length before + 1)) ≡ None
      → (wrong_word rows (before ++ word ∷ []) words ≡ None → text_of words key ≡ Some text → (so_far : List (List ℕ)) × (fits_key rows so_far (kind_of rows key) text ≡ true))
      → (so_far : List (List ℕ)) × (fits_key rows so_far (kind_of rows key) text ≡ true)
  by_right false is r others = absurd cc
  by_right true is r others =
      by_key key word (text_of words key) text e
      (λ split is_key is_text. (before, subst (λ key. fits_key rows before (kind_of rows key) text ≡ true) is_key (subst (λ text. fits_key rows before (kind_of rows (key_in word)) text ≡ true) is_text (fits-right rows before word is))))
      (λ e. others r e)

-- ---- a key that is needed

-- a row needs this key
abbrev pub needs : List KeyRow → List ℕ → Bool
needs rows key = list_any (λ (row : KeyRow). row.is_needed && bytes_eq row.key key) rows

pub text_of-needed : (rows : List KeyRow) (words : Words) (key : List ℕ) → is_missing rows words ≡ false → needs rows key ≡ true → (text : List ℕ) × (text_of words key ≡ Some text)
text_of-needed [] words key whole need = absurd cc
text_of-needed (row ∷ rows) words key whole need = by_row row.is_needed (bytes_eq row.key key) refl whole need (text_of-needed rows words key) where
  others : (a b : Bool) → (a || b) ≡ false → b ≡ false
  others true b e = absurd cc
  others false b e = e

  told : (o : Option (List ℕ)) (rest : Bool) → (not (is_some o) || rest) ≡ false → (text : List ℕ) × (o ≡ Some text)
  told None rest e = absurd cc
  told (Some text) rest e = (text, refl)

  by_row : (n b : Bool) → bytes_eq row.key key ≡ b → ((n && not (is_some (text_of words row.key))) || is_missing rows words) ≡ false → ((n && b) || needs rows key) ≡ true
      → (is_missing rows words ≡ false → needs rows key ≡ true → (text : List ℕ) × (text_of words key ≡ Some text)) → (text : List ℕ) × (text_of words key ≡ Some text)
  by_row true true is whole need below = subst (λ key. (text : List ℕ) × (text_of words key ≡ Some text)) ((bytes_eq-Decides row.key key).0 is) (told (text_of words row.key) (is_missing rows words) whole)
  by_row true false is whole need below = below (others (not (is_some (text_of words row.key))) (is_missing rows words) whole) need
  by_row false b is whole need below = below whole need

-- ---- words without a fault

pub record AreSound (rows : List KeyRow) (words : List (List ℕ)) : Type 0 where
  pub right : wrong_word rows [] words ≡ None
  pub whole : is_missing rows words ≡ false

pub AreSound-by : (rows : List KeyRow) (words : List (List ℕ)) → fault_of rows words ≡ None → AreSound rows words
AreSound-by rows words h = by_word (wrong_word rows [] words) refl h where
  by_missing : wrong_word rows [] words ≡ None → (b : Bool) → is_missing rows words ≡ b → or_missing b (length words + 1) (wrong_mask words) ≡ None → AreSound rows words
  by_missing right true is e = absurd cc
  by_missing right false is e = record { right = right; whole = is }

  by_word : (o : Option ℕ) → wrong_word rows [] words ≡ o → or_word o (or_missing (is_missing rows words) (length words + 1) (wrong_mask words)) ≡ None → AreSound rows words
  by_word None is e = by_missing is (is_missing rows words) refl e
  by_word (Some place) is e = absurd cc

-- a number is within the bounds of its row
number_at-within : (rows : List KeyRow) (words : Words) (key : List ℕ) (low high : ℕ) → AreSound rows words → kind_of rows key ≡ Some (Number low high) → needs rows key ≡ true → high ≤ 4294967295
    → (low ≤ number_at words key) × (number_at words key ≤ high)
number_at-within rows words key low high sound kind need most =
    let (text, at) = text_of-needed rows words key sound.whole need in
    let (so_far, fit) = fits-text_of rows [] words key text sound.right at in
    subst (λ o. (low ≤ number_told o) × (number_told o ≤ high)) (sym at)
    (number_told-bounds low high text most (subst (λ kind. fits_key rows so_far kind text ≡ true) kind fit))

-- ---- the keys of a verb

-- the key of the first row for what is opened there
abbrev pub key_at : List KeyRow → Port → Option (List ℕ)
key_at [] at = None
key_at (row ∷ rows) at = if is_name_at at row.kind then Some row.key else key_at rows at

abbrev pub text_at : Words → Option (List ℕ) → Option (List ℕ)
text_at words None = None
text_at words (Some key) = text_of words key

pub name_of-key_at : (rows : List KeyRow) (words : Words) (at : Port) → name_of rows words at ≡ text_at words (key_at rows at)
name_of-key_at [] words at = refl
name_of-key_at (row ∷ rows) words at = by_test (is_name_at at row.kind) (name_of-key_at rows words at) where
  by_test : (b : Bool) → name_of rows words at ≡ text_at words (key_at rows at) → cond b (text_of words row.key) (name_of rows words at) ≡ text_at words (cond b (Some row.key) (key_at rows at))
  by_test true others = refl
  by_test false others = others

abbrev pub is_side : Port → Bool
is_side port.Side = true
is_side _ = false

-- a key for the name of what is opened there is one of these, and is needed unless that is a side input
pub record IsKeyAt (rows : List KeyRow) (at : Port) (key : List ℕ) : Type 0 where
  pub kind : kind_of rows key ≡ Some (Name at)
  pub known : list_any (bytes_eq key) (keys_at at) ≡ true
  pub needed : (is_side at || needs rows key) ≡ true

-- a key that has a number is needed, and no other row has it
abbrev IsNumbered : List KeyRow → List ℕ → ValueKind → Type 0
IsNumbered rows key (Number low high) = (kind_of rows key ≡ Some (Number low high)) × ((needs rows key && nat_le high 4294967295) ≡ true)
IsNumbered rows key (Name at) = Unit
IsNumbered rows key Mask = Unit

abbrev AreNumbered : List KeyRow → List KeyRow → Type 0
AreNumbered all [] = Unit
AreNumbered all (row ∷ rows) = IsNumbered all row.key row.kind × AreNumbered all rows

-- a mask has as many places as a packet has bits
abbrev HasPlaces : List KeyRow → Option ValueKind → Type 0
HasPlaces rows mask = IfSome mask (λ _. (kind_of rows (codes "bits") ≡ Some (Number 1 49152)) × (needs rows (codes "bits") ≡ true))

pub record AreKeys (rows : List KeyRow) : Type 0 where
  pub side : IfSome (key_at rows port.Side) (IsKeyAt rows port.Side)
  pub input : IfSome (key_at rows port.Input) (IsKeyAt rows port.Input)
  pub output : IfSome (key_at rows port.Output) (IsKeyAt rows port.Output)
  pub report : IfSome (key_at rows port.Report) (IsKeyAt rows port.Report)
  pub has_output : IsSome (key_at rows port.Output)
  pub numbers : AreNumbered rows rows
  pub mask : HasPlaces rows (kind_of rows (codes "mask"))

pub keys_of : (v : Verb) → AreKeys (verb_rows v)
keys_of verb.Compress = search
keys_of verb.Play = search
keys_of verb.Restore = search
keys_of verb.Show = search
keys_of verb.Trial = search
keys_of verb.Multi = search
keys_of verb.Late = search
keys_of verb.Table = search
keys_of verb.Forecast = search

-- ---- what words without a fault give to them

module _ (rows : List KeyRow) (words : Words) (sound : AreSound rows words) (keys : AreKeys rows) where
  pub key_for : (at : Port) → IfSome (key_at rows at) (IsKeyAt rows at)
  key_for port.Side = keys.side
  key_for port.Input = keys.input
  key_for port.Output = keys.output
  key_for port.Report = keys.report

  -- there is a name if there is a key for it
  pub is_some-name_of : (at : Port) → is_side at ≡ false → is_some (name_of rows words at) ≡ is_some (key_at rows at)
  is_some-name_of at other = ap is_some (name_of-key_at rows words at) ∙ by_key (key_at rows at) (key_for at) where
    second : (a b : Bool) → a ≡ false → (a || b) ≡ true → b ≡ true
    second true b is e = absurd cc
    second false b is e = e

    by_key : (o : Option (List ℕ)) → IfSome o (IsKeyAt rows at) → is_some (text_at words o) ≡ is_some o
    by_key None key = refl
    by_key (Some key) is = ap is_some (text_of-needed rows words key sound.whole (second (is_side at) (needs rows key) other is.needed)).1

  -- the numbers are within their bounds
  AreInBounds-sound : (more : List KeyRow) → AreNumbered rows more → AreInBounds more words
  AreInBounds-sound [] numbers = tt
  AreInBounds-sound (row ∷ more) numbers = (by_kind row.kind numbers.0, AreInBounds-sound more numbers.1) where
    by_kind : (kind : ValueKind) → IsNumbered rows row.key kind → IsInBounds kind (number_at words row.key)
    by_kind (Name at) h = tt
    by_kind Mask h = tt
    by_kind (Number low high) h =
        let (need, most) = both (needs rows row.key) (nat_le high 4294967295) h.1 in
        number_at-within rows words row.key low high sound h.0 need (below high 4294967295 most) where
          below : (m n : ℕ) → nat_le m n ≡ true → m ≤ n
          below m n h = grind (arith, nat_tests)

  -- each name is one that a word gives
  given : (word : List ℕ) (at : Port) → IfSome (name_of rows words at) (AssignsToOne (word ∷ words) (keys_at at))
  given word at = subst (λ o. IfSome o (AssignsToOne (word ∷ words) (keys_at at))) (sym (name_of-key_at rows words at)) (by_key (key_at rows at) (key_for at)) where
    by_text : (key : List ℕ) → IsKeyAt rows at key → (o : Option (List ℕ)) → text_of words key ≡ o → IfSome o (AssignsToOne (word ∷ words) (keys_at at))
    by_text key key_is None is = tt
    by_text key key_is (Some text) is =
        (key, Contains-from_any (λ one other. (bytes_eq-Decides one other).0) key (keys_at at) key_is.known, later word words _ (Assigns-text_of words key text is))

    by_key : (o : Option (List ℕ)) → IfSome o (IsKeyAt rows at) → IfSome (text_at words o) (AssignsToOne (word ∷ words) (keys_at at))
    by_key None key = tt
    by_key (Some key) key_is = by_text key key_is (text_of words key) refl

-- the numbers of a command are within their bounds, and its names are those that words give
pub IsRight-sound : (v : Verb) (words : Words) → fault_of (verb_rows v) words ≡ None → IsRight (v, words)
IsRight-sound v words h = AreInBounds-sound (verb_rows v) words (AreSound-by (verb_rows v) words h) (keys_of v) (verb_rows v) (keys_of v).numbers

pub record IsCommand (words : Words) (command : Command) : Type 0 where
  pub right : IsRight command
  pub given : AreGiven words command
  pub sound : AreSound (verb_rows command.0) command.1

IsCommand-sound : (word : List ℕ) (v : Verb) (words : Words) → fault_of (verb_rows v) words ≡ None → IsCommand (word ∷ words) (v, words)
IsCommand-sound word v words h =
    let sound = AreSound-by (verb_rows v) words h in
    record {
      right = IsRight-sound v words h;
      given = record { names = given (verb_rows v) words sound (keys_of v) word; output = is_some-name_of (verb_rows v) words sound (keys_of v) port.Output refl ∙ (keys_of v).has_output };
      sound = sound;
    }

pub IsCommand-command_of : (words : Words) (command : Command) → command_of words ≡ Ok command → IsCommand words command
IsCommand-command_of [] command e = absurd cc
IsCommand-command_of (word ∷ words) command e = by_verb (verb_of word) e where
  by_fault : (v : Verb) (o : Option ℕ) → fault_of (verb_rows v) words ≡ o → unless_fault o (v, words) ≡ Ok command → IsCommand (word ∷ words) command
  by_fault v (Some place) is e = absurd cc
  by_fault v None is e = subst (IsCommand (word ∷ words)) (same e) (IsCommand-sound word v words is) where
    same : {x y : Command} → ◌≡◌ {A = Result Command ℕ} (Ok x) (Ok y) → x ≡ y
    same e = cc

  by_verb : (o : Option Verb) → command_after o words ≡ Ok command → IsCommand (word ∷ words) command
  by_verb None e = absurd cc
  by_verb (Some v) e = by_fault v (fault_of (verb_rows v) words) refl e

-- ---- the mask

-- a verb whose words give a mask has the bits of a packet
pub IsPlaces-with_mask : (v : Verb) (words : Words) → wrong_word (verb_rows v) [] words ≡ None → is_missing (verb_rows v) words ≡ false → IsSome (text_of words (codes "mask")) → IsPlaces (bits words)
IsPlaces-with_mask v words right whole given = by_kind (kind_of (verb_rows v) (codes "mask")) refl (keys_of v).mask where
  none : (o : Option (List ℕ)) → text_of words (codes "mask") ≡ o → IsSome o → kind_of (verb_rows v) (codes "mask") ≡ None → ⊥
  none None is h kind = cc
  none (Some text) is h kind =
      let (so_far, fit) = fits-text_of (verb_rows v) [] words (codes "mask") text right is in
      no (subst (λ kind. fits_key (verb_rows v) so_far kind text ≡ true) kind fit) where
        no : ◌≡◌ {A = Bool} false true → ⊥
        no e = cc

  by_kind : (o : Option ValueKind) → kind_of (verb_rows v) (codes "mask") ≡ o → HasPlaces (verb_rows v) o → IsPlaces (bits words)
  by_kind None is places = absurd (none (text_of words (codes "mask")) refl given is)
  by_kind (Some kind) is (places, need) = number_at-within (verb_rows v) words (codes "bits") 1 49152 (record { right = right; whole = whole }) places need (omega arith)

-- ---- masks that hexadecimal digits denote

abbrev pub one_of : List Bool → Bool
one_of bits = list_any (λ bit. bit) bits

-- what decodes into room for n bytes is n bytes
decode_sized-length : (s bytes : List ℕ) (n : ℕ) → decode_sized s n ≡ Ok bytes → length bytes ≡ n
decode_sized-length s bytes n e = by_tests (length s % 2 == 1) (length s / 2 == n) refl e where
  by_tests : (odd half : Bool) → length s / 2 == n ≡ half → cond odd (Err OddLength) (cond half (decode_pairs 0 s) (Err InvalidStringLength)) ≡ Ok bytes → length bytes ≡ n
  by_tests true half at e = absurd cc
  by_tests false false at e = absurd cc
  by_tests false true at e =
      let same : length s / 2 ≡ n = grind (arith, nat_tests) in
      let twice = (decode_pairs-ok 0 s bytes e).1 in
      omega (arith, twice, same)

decoded : (f : ℕ) (r : Result (List ℕ) FromHexError) (bytes : List ℕ) → unless_spare f r ≡ Some bytes → r ≡ Ok bytes
decoded f (Err error) bytes e = absurd cc
decoded f (Ok found) bytes e = by_spare (has_spare_bit f found) e where
  by_spare : (b : Bool) → cond b None (Some found) ≡ Some bytes → ◌≡◌ {A = Result (List ℕ) FromHexError} (Ok found) (Ok bytes)
  by_spare true e = absurd cc
  by_spare false e = cc

-- a mask has f places
length-mask_of : (f : ℕ) (text : List ℕ) (mask : List Bool) → mask_of f text ≡ Some mask → length mask ≡ f
length-mask_of f text mask e = by_bytes (mask_bytes f text) refl e where
  by_bytes : (o : Option (List ℕ)) → mask_bytes f text ≡ o → option_map (λ bytes. take f (bits_of bytes)) o ≡ Some mask → length mask ≡ f
  by_bytes None at e = absurd cc
  by_bytes (Some bytes) at e =
      let len = decode_sized-length text bytes (byte_count f) (decoded f (decode_sized text (byte_count f)) bytes at) in
      let bits = length-bits_of bytes in
      let some : f ≤ 8 * byte_count f = omega arith in
      let all : f ≤ length (bits_of bytes) = omega (arith, len, bits, some) in
      sym (ap length (same_Some _ _ e)) ∙ length-take-le f (bits_of bytes) all

pub length-first_mask : (f : ℕ) (text : Option (List ℕ)) → length (first_mask f text) ≡ f
length-first_mask f None = length-replicate f false
length-first_mask f (Some text) = by_mask (mask_of f text) refl where
  by_mask : (o : Option (List Bool)) → mask_of f text ≡ o → length (unwrap_or o (no_mask f)) ≡ f
  by_mask None is = length-replicate f false
  by_mask (Some mask) is = length-mask_of f text mask is
