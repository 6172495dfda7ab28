-- The command that the words give, or the place of the first fault in them.
use Rattle.std.specs.Prelude.{ℕ, ◌≤◌, ◌≡◌, List, [], ◌∷◌, map, Option, Some, None, Result, Ok, Err, IfSome, IsSome, unwrap_or}
use Rattle.std.specs.String.{string_bytes}
use Rattle.std.specs.declared.string.String.{String}
use Rattle.pocket_cmd.specs.Verbs.{KeyRow, verb_rows, verb_of}
use Rattle.pocket_cmd.specs.Words.{Words, AssignsToOne, fault_of, keys_at, name_of, number_at}
use Rattle.pocket_cmd.specs.declared.verbs.ValueKind.{ValueKind}
use Rattle.pocket_cmd.specs.declared.verbs.ValueKind.TheVariants.{Name, Number, Mask}
use Rattle.pocket_cmd.specs.declared.verbs.Port.{Port}
use Rattle.pocket_cmd.specs.declared.verbs.Port.TheVariants.{Side, Input, Output, Report}
use Rattle.pocket_cmd.specs.declared.verbs.Verb.{Verb}
use Rattle.pocket_cmd.specs.declared.words.Command.{Command as Held}

-- a verb, and the words after it
abbrev pub Command : Type 0
Command = Verb × Words

-- the names that a command opens: those of its side input, its input, its output and its report. Only the name of an
-- output is one that every command has
pub record Names : Type 0 where
  pub side : Option (List ℕ)
  pub input : Option (List ℕ)
  pub output : List ℕ
  pub report : Option (List ℕ)

-- the name that a command has for what is opened there
abbrev pub name_at : Command → Port → Option (List ℕ)
name_at command port = name_of (verb_rows command.0) command.1 port

abbrev pub names_of : Command → Names
names_of command = record { side = name_at command Side; input = name_at command Input; output = unwrap_or (name_at command Output) []; report = name_at command Report }

-- ---- from the words

abbrev pub unless_fault : Option ℕ → Command → Result Command ℕ
unless_fault None command = Ok command
unless_fault (Some place) command = Err place

abbrev pub command_after : Option Verb → Words → Result Command ℕ
command_after None words = Err 0
command_after (Some verb) words = unless_fault (fault_of (verb_rows verb) words) (verb, words)

-- the verb and the words after it; or the place of the first faulty word; or the number of words, if one is missing; or the
-- place of the word with the mask, if its text denotes none
abbrev pub command_of : Words → Result Command ℕ
command_of [] = Err 0
command_of (word ∷ words) = command_after (verb_of word) words

-- the words give this command; they give a command of which this holds
abbrev pub IsCommandOf : {Z : Type 0} → List (String Z) → Command → Type 0
IsCommandOf words command = command_of (map string_bytes words) ≡ Ok command

abbrev pub HasCommand : {Z : Type 0} → List (String Z) → (Command → Type 0) → Type 0
HasCommand words Holds = (command : Command) × IsCommandOf words command × Holds command

-- ---- what is right

-- a number is within the bounds of its key
abbrev pub IsInBounds : ValueKind → ℕ → Type 0
IsInBounds (Number low high) n = (low ≤ n) × (n ≤ high)
IsInBounds (Name port) n = Unit
IsInBounds Mask n = Unit

-- what words give to each key of these rows that has a number is within its bounds
abbrev pub AreInBounds : List KeyRow → Words → Type 0
AreInBounds [] words = Unit
AreInBounds (row ∷ rows) words = IsInBounds row.kind (number_at words row.key) × AreInBounds rows words

-- the numbers of a command are within the bounds of its verb
abbrev pub IsRight : Command → Type 0
IsRight command = AreInBounds (verb_rows command.0) command.1

-- each name is one that a word gives to a key of it, and the output has one
pub record AreGiven (words : Words) (command : Command) : Type 0 where
  pub names : (port : Port) → IfSome (name_at command port) (AssignsToOne words (keys_at port))
  pub output : IsSome (name_at command Output)

-- ---- what the code holds

abbrev pub view_command : Held → Command
view_command c = (c.verb, map string_bytes c.words.now)

abbrev pub view_result : Result Held ℕ → Result Command ℕ
view_result (Ok command) = Ok (view_command command)
view_result (Err word) = Err word
