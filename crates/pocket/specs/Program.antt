-- What the program itself answers, and what it leaves at its desk of files.
use Rattle.std.specs.Prelude.{ℕ, ◌≤◌, ◌⊎◌, List, [], ◌∷◌, codes, ◌&&◌, ◌||◌, Option, Some, None, is_some, Result, Err, if◌then◌else◌, take, map}
use Rattle.std.specs.Str.{bytes_eq}
use Rattle.std.specs.String.{string_bytes}
use Rattle.std.specs.declared.string.String.{String}
use Rattle.desk_ports.specs.declared.file.FileDesk.{FileDesk}
use Rattle.desk_ports.specs.FileDesk.{file_counts, GathersNothing}
use Rattle.pocket_cmd.specs.declared.status.Refusal.TheVariants.{WriteFault}
use Rattle.pocket_cmd.specs.declared.status.Status.{Status}
use Rattle.pocket_cmd.specs.declared.status.Status.TheVariants.{Done, Refused}
use Rattle.pocket_cmd.specs.Verbs.{verb_of}
use Rattle.pocket.specs.declared.Asked.{Asked}
use Rattle.pocket.specs.declared.Asked.TheVariants as asked

-- what a word asks about the program itself
abbrev pub asked_of : List ℕ → Option Asked
asked_of word =
    if bytes_eq word (codes "--help") || bytes_eq word (codes "-h") || bytes_eq word (codes "help") then Some asked.Help
    else if bytes_eq word (codes "--version") || bytes_eq word (codes "-V") then Some asked.Version
    else None

-- what a word asks after a first word: the help of that, if it is a verb
abbrev pub asked_of_verb : List ℕ → List ℕ → Option Asked
asked_of_verb verb word =
    if (bytes_eq word (codes "--help") || bytes_eq word (codes "-h")) && is_some (verb_of verb) then Some asked.VerbHelp else None

-- what the program is asked by the only word, or by the second of two
abbrev pub asked_by : List (List ℕ) → Option Asked
asked_by [] = None
asked_by (word ∷ []) = asked_of word
asked_by (verb ∷ word ∷ []) = asked_of_verb verb word
asked_by (word ∷ next ∷ third ∷ rest) = None

-- the words that are looked at
abbrev pub seen : {Z : Type 0} → List (String Z) → List (List ℕ)
seen words = map string_bytes (take 1000 words)

-- nothing is gathered for either output, or a fault of writing was counted
abbrev pub IsHandedOver : FileDesk → Type 0
IsHandedOver desk = GathersNothing desk ⊎ (1 ≤ (file_counts desk).writes)

-- what the program answers, by the answer of `pocket` and that of handing over: the first, but a failed writing if the command
-- was done and handing over failed
abbrev pub answered : {T E : Type 0} → Status → Result T E → Status
answered Done (Err failed) = Refused WriteFault
answered status handed = status
