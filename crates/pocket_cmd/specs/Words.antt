-- What the words of a command line after its verb say: `key=value` in any order.
use Rattle.std.specs.Prelude.{ℕ, ◌+◌, Bool, true, false, not, ◌&&◌, ◌||◌, ◌==◌, nat_lt, List, [], ◌∷◌, ◌++◌, length, Contains, codes, Option, Some, None, is_some, unwrap_or, if◌then◌else◌}
use Rattle.std.specs.List.{list_any, before_first, after_first, position_or_len}
use Rattle.std.specs.Str.{bytes_eq}
use Rattle.side_tables.specs.Numbers.{number_of}
use Rattle.pocket_cmd.specs.declared.verbs.Port.TheVariants.{Side, Input, Output, Report}
use Rattle.pocket_cmd.specs.declared.verbs.ValueKind.{ValueKind}
use Rattle.pocket_cmd.specs.declared.verbs.ValueKind.TheVariants.{Name, Number, Mask}
use Rattle.pocket_cmd.specs.Masks.{first_mask, is_mask}
use Rattle.pocket_cmd.specs.declared.verbs.Port.{Port}
use Rattle.pocket_cmd.specs.Verbs.{KeyRow, kind_of, is_name_at}

-- words, each as its bytes
abbrev pub Words : Type 0
Words = List (List ℕ)

-- ---- one word, which is split at its first `=`

abbrev pub is_equals_sign : ℕ → Bool
is_equals_sign c = c == 61

abbrev pub is_split : List ℕ → Bool
is_split word = nat_lt (position_or_len is_equals_sign word) (length word)

abbrev pub key_in : List ℕ → List ℕ
key_in word = before_first is_equals_sign word

abbrev pub text_in : List ℕ → List ℕ
text_in word = after_first is_equals_sign word

abbrev pub has_key : List ℕ → List ℕ → Bool
has_key key word = is_split word && bytes_eq (key_in word) key

-- ---- what words give to a key

-- the text of the first word with this key
abbrev pub text_of : List (List ℕ) → List ℕ → Option (List ℕ)
text_of [] key = None
text_of (word ∷ words) key = if has_key key word then Some (text_in word) else text_of words key

-- the name of what is opened there, if a key of these rows has it and words give it
abbrev pub name_of : List KeyRow → List (List ℕ) → Port → Option (List ℕ)
name_of [] words port = None
name_of (row ∷ rows) words port = if is_name_at port row.kind then text_of words row.key else name_of rows words port

-- the number that this text says
abbrev pub number_told : Option (List ℕ) → ℕ
number_told None = 0
number_told (Some text) = unwrap_or (number_of 0 4294967295 text) 0

abbrev pub number_at : List (List ℕ) → List ℕ → ℕ
number_at words key = number_told (text_of words key)

-- what words give to the keys of numbers, and to that of the first mask
abbrev pub bits : Words → ℕ
bits words = number_at words (codes "bits")

abbrev pub apid : Words → ℕ
apid words = number_at words (codes "apid")

abbrev pub robust : Words → ℕ
robust words = number_at words (codes "robust")

abbrev pub seed : Words → ℕ
seed words = number_at words (codes "seed")

abbrev pub packets : Words → ℕ
packets words = number_at words (codes "packets")

abbrev pub window : Words → ℕ
window words = number_at words (codes "window")

abbrev pub mask : Words → List Bool
mask words = first_mask (bits words) (text_of words (codes "mask"))

-- ---- which words are right

abbrev pub is_text : Option (List ℕ) → List ℕ → Bool
is_text None name = false
is_text (Some text) name = bytes_eq text name

-- words give this name to what is opened at one of two ports
abbrev pub have_name : List KeyRow → List (List ℕ) → Port → Port → List ℕ → Bool
have_name rows words one other name = is_text (name_of rows words one) name || is_text (name_of rows words other) name

-- words give it to what is read, or to what is written
abbrev pub is_name_read : List KeyRow → List (List ℕ) → List ℕ → Bool
is_name_read rows words name = have_name rows words Side Input name

abbrev pub is_name_written : List KeyRow → List (List ℕ) → List ℕ → Bool
is_name_written rows words name = have_name rows words Output Report name

-- a name has at least one byte and does not stand in its own direction; but `-` may stand once to read and once to write
abbrev pub is_new : Bool → Bool → List ℕ → Bool
is_new own other name = not (length name == 0) && not own && (bytes_eq name (codes "-") || not other)

-- a text is a value of this kind, after these words; any is one of a mask
abbrev pub fits : List KeyRow → List (List ℕ) → ValueKind → List ℕ → Bool
fits rows words (Name Side) text = is_new (is_name_read rows words text) (is_name_written rows words text) text
fits rows words (Name Input) text = is_new (is_name_read rows words text) (is_name_written rows words text) text
fits rows words (Name Output) text = is_new (is_name_written rows words text) (is_name_read rows words text) text
fits rows words (Name Report) text = is_new (is_name_written rows words text) (is_name_read rows words text) text
fits rows words (Number low high) text = is_some (number_of low high text)
fits rows words Mask text = true

abbrev pub fits_key : List KeyRow → List (List ℕ) → Option ValueKind → List ℕ → Bool
fits_key rows words None text = false
fits_key rows words (Some kind) text = fits rows words kind text

-- a word is right after these: it has a key of a row, which none of them has, and a value of the key's kind
abbrev pub is_right : List KeyRow → List (List ℕ) → List ℕ → Bool
is_right rows words word = is_split word && not (is_some (text_of words (key_in word))) && fits_key rows words (kind_of rows (key_in word)) (text_in word)

-- the place of the first word that is not right after all before it, the verb's being 0
abbrev pub wrong_word : List KeyRow → List (List ℕ) → List (List ℕ) → Option ℕ
wrong_word rows before [] = None
wrong_word rows before (word ∷ words) = if is_right rows before word then wrong_word rows (before ++ word ∷ []) words else Some (length before + 1)

-- a key is needed that no word has
abbrev pub is_missing : List KeyRow → List (List ℕ) → Bool
is_missing rows words = list_any (λ (row : KeyRow). row.is_needed && not (is_some (text_of words row.key))) rows

-- the place of the word with the mask, if its text denotes none of as many places as a packet has bits
abbrev pub place_of : List (List ℕ) → List ℕ → ℕ
place_of words key = position_or_len (has_key key) words + 1

abbrev pub unless_mask : ℕ → ℕ → Option (List ℕ) → Option ℕ
unless_mask places place None = None
unless_mask places place (Some text) = if is_mask places text then None else Some place

abbrev pub wrong_mask : List (List ℕ) → Option ℕ
wrong_mask words = unless_mask (bits words) (place_of words (codes "mask")) (text_of words (codes "mask"))

-- the place of the first fault of the words after a verb: of the first wrong word; or the number of all words, if one is
-- missing; or the place of the word with the mask
abbrev pub or_missing : Bool → ℕ → Option ℕ → Option ℕ
or_missing true count wrong = Some count
or_missing false count wrong = wrong

abbrev pub or_word : Option ℕ → Option ℕ → Option ℕ
or_word (Some place) later = Some place
or_word None later = later

abbrev pub fault_of : List KeyRow → List (List ℕ) → Option ℕ
fault_of rows words = or_word (wrong_word rows [] words) (or_missing (is_missing rows words) (length words + 1) (wrong_mask words))

-- ---- what words name

-- the keys for the name of what is opened there
abbrev pub keys_at : Port → List (List ℕ)
keys_at Side = codes "plan" ∷ codes "script" ∷ codes "fields" ∷ codes "streams" ∷ []
keys_at Input = codes "in" ∷ codes "script" ∷ []
keys_at Output = codes "out" ∷ []
keys_at Report = codes "report" ∷ []

-- the keys whose values are names to read, and names to write
abbrev pub read_keys : List (List ℕ)
read_keys = codes "in" ∷ keys_at Side

abbrev pub written_keys : List (List ℕ)
written_keys = codes "out" ∷ codes "report" ∷ []

-- one of the words gives this value to the key
abbrev pub Assigns : List (List ℕ) → List ℕ → List ℕ → Type 0
Assigns words key value = Contains words (key ++ 61 ∷ value)

-- one of the words gives this value to one of the keys
abbrev pub AssignsToOne : List (List ℕ) → List (List ℕ) → List ℕ → Type 0
AssignsToOne words keys value = (key : List ℕ) × Contains keys key × Assigns words key value
