-- What reading a text, and opening and finishing the names of a command, do to a desk.
use Rattle.std.specs.Prelude.{◌≡◌, ℕ, ◌<◌, ◌≤◌, ◌⊎◌, Bool, true, IsTrue, List, [], length, drop, Option, Some, None, Result, Ok, Err, IfSome, IsSome}
use Rattle.std.specs.Option.{option_map}
use Rattle.desk_ports.specs.Meanings.{Meanings, Counts, Kept, FailsToRead, FailsToWrite, IsReadyIn, IsReadyOut, incoming, kept_at, kept_after, left, made, with_incoming, with_outgoing}
use Rattle.desk_ports.specs.declared.desk.Inlet.{Inlet}
use Rattle.desk_ports.specs.declared.desk.Inlet.TheVariants as inlet
use Rattle.desk_ports.specs.declared.desk.Outlet.TheVariants as outlet
use Rattle.pocket_cmd.specs.declared.run.Names.{Names as Held}
use Rattle.pocket_cmd.specs.declared.run.Unopened.{Unopened}
use Rattle.pocket_cmd.specs.declared.run.Unopened.TheVariants as unopened
use Rattle.pocket_cmd.specs.declared.text.TextFault.{TextFault}
use Rattle.pocket_cmd.specs.declared.text.TextFault.TheVariants as unread
use Rattle.pocket_cmd.specs.Command.{Names}
use Rattle.pocket_cmd.specs.Words.{Words, AssignsToOne, read_keys, written_keys}

abbrev pub view_names : Held → Names
view_names names = record {
  side = option_map (λ name. name.now) names.side;
  input = option_map (λ name. name.now) names.input;
  output = names.output.now;
  report = option_map (λ name. name.now) names.report;
}

abbrev pub told_bytes : Option Kept → Option (List ℕ) → List ℕ → Option (List ℕ)
told_bytes (Some kept) (Some rest) name = Some (kept_at kept name)
told_bytes (Some kept) None name = None
told_bytes None rest name = None

-- the bytes of an input, if the desk tells what it keeps under the name and what is left of an input
abbrev pub given : Meanings → Inlet → List ℕ → Option (List ℕ)
given m i name = told_bytes m.held (left m i) name

-- the same; none are read if there is no name
abbrev pub given_at : Meanings → Inlet → Option (List ℕ) → Option (List ℕ)
given_at m i None = Some []
given_at m i (Some name) = given m i name

-- the text of a side input, and the bytes of an input
abbrev pub side_given : Meanings → Option (List ℕ) → Option (List ℕ)
side_given m side = given_at m inlet.Side side

abbrev pub input_given : Meanings → Option (List ℕ) → Option (List ℕ)
input_given m input = given_at m inlet.Main input

-- the desk tells both inputs of these names
abbrev pub AreTold : Names → Meanings → List ℕ → List ℕ → Type 0
AreTold names m text input = (side_given m names.side ≡ Some text) × (input_given m names.input ≡ Some input)

-- the desk grants each name that words give to what is read, and to what is written
pub record GrantsNames (words : Words) (m : Meanings) : Type 0 where
  pub reads : (name : List ℕ) → AssignsToOne words read_keys name → IsTrue (m.grants_in name)
  pub writes : (name : List ℕ) → AssignsToOne words written_keys name → IsTrue (m.grants_out name)

-- the desk grants the names that a command opens
abbrev pub AreGranted : Names → Meanings → Type 0
AreGranted names m =
    IfSome names.side (λ name. IsTrue (m.grants_in name)) × IfSome names.input (λ name. IsTrue (m.grants_in name))
    × IsTrue (m.grants_out names.output) × IfSome names.report (λ name. IsTrue (m.grants_out name))

-- ---- a text, which is that of a side input, or of an input that is read whole too

-- the text of this name is this, if the desk tells it
abbrev pub IsText : Meanings → Inlet → Option (List ℕ) → List ℕ → Type 0
IsText m i name text = IfSome (given_at m i name) (λ bytes. text ≡ bytes)

-- it has more than 1,048,576 bytes, if the desk tells it
abbrev pub IsTextLong : Meanings → Inlet → Option (List ℕ) → Type 0
IsTextLong m i name = IfSome (given_at m i name) (λ bytes. 1048576 < length bytes)

-- it has at least so many bytes, if the desk tells it
abbrev pub HasTextBytes : Meanings → Inlet → List ℕ → ℕ → Type 0
HasTextBytes m i name n = IfSome (given m i name) (λ bytes. n ≤ length bytes)

-- so many bytes of it were read, if the desk tells it, and the bytes after them are left
abbrev pub IsTextReadTo : ℕ → Meanings → Inlet → Option (List ℕ) → Meanings → Type 0
IsTextReadTo n old i name new = IfSome (given_at old i name) (λ bytes. left new i ≡ Some (drop n bytes))

-- Reading a text failed. It was not opened, and nothing changed; or fewer than so many bytes of it were read, those after
-- them are left, and nothing else changed: the failing read may be the one that finds the end.
abbrev pub IsTextCutOff : ℕ → Meanings → Inlet → List ℕ → Meanings → Type 0
IsTextCutOff most old i text new =
    (new ≡ old)
    ⊎ ((n : ℕ) × (n < most) × (n ≤ length text) × (new ≡ with_incoming old i (record { left = Some (drop n text); ready = true })))

-- the same, if the desk tells the text
abbrev pub IsTextUnread : ℕ → Meanings → Inlet → Option (List ℕ) → Meanings → Type 0
IsTextUnread most old i name new = IfSome (given_at old i name) (λ text. IsTextCutOff most old i text new)

-- the text was opened and read to its end, if there is one
abbrev pub with_text : Meanings → Inlet → Option (List ℕ) → Meanings
with_text m i None = m
with_text m i (Some name) = with_incoming m i (record { left = option_map (λ _. []) (left m i); ready = true })

-- nothing changed but what comes over this inlet, if anything is read there
abbrev pub KeepsAllBut : Inlet → Option (List ℕ) → Meanings → Meanings → Type 0
KeepsAllBut i None old new = new ≡ old
KeepsAllBut i (Some name) old new = new ≡ with_incoming old i (incoming new i)

-- why a text was not read: reading failed, and otherwise both counts are as before
abbrev pub HasTextCause : {T : Type 0} → Counts → Counts → Result T TextFault → Type 0
HasTextCause old new (Ok text) = new ≡ old
HasTextCause old new (Err unread.TooLong) = new ≡ old
HasTextCause old new (Err unread.ReadFault) = FailsToRead old new
HasTextCause old new (Err unread.NoMemory) = new ≡ old

-- so many bytes of a room for a text are filled, and the room has at most one byte more than a text may have
abbrev pub IsRoom : ℕ → List ℕ → Type 0
IsRoom filled room = (filled ≤ length room) × (length room ≤ 1048577)

-- ---- opening

-- what a run needs is opened: the input if it reads one, the output, and the report if it writes one
abbrev pub IsReadyFor : Bool → Bool → Meanings → Type 0
IsReadyFor reads reports m = (IsTrue reads → IsReadyIn m inlet.Main) × IsReadyOut m outlet.Main × (IsTrue reports → IsReadyOut m outlet.Report)

-- the input is opened, if there is one, and has these bytes
abbrev pub with_input : Meanings → Option (List ℕ) → List ℕ → Meanings
with_input m None bytes = m
with_input m (Some name) bytes = with_incoming m inlet.Main (record { left = option_map (λ _. bytes) (left m inlet.Main); ready = true })

-- the output is opened under a name
abbrev pub with_output : Meanings → List ℕ → Meanings
with_output m name = with_outgoing m outlet.Main (record { made = option_map (λ _. []) (made m outlet.Main); name = option_map (λ _. name) m.output.name; ready = true })

-- the report is opened under a name, if there is one
abbrev pub with_report : Meanings → Option (List ℕ) → Meanings
with_report m None = m
with_report m (Some name) =
    with_outgoing m outlet.Report (record { made = option_map (λ _. []) (made m outlet.Report); name = option_map (λ _. name) m.report.name; ready = true })

-- all names but that of the side input are opened, and the input has these bytes
abbrev pub all_opened : Names → Meanings → List ℕ → Meanings
all_opened names old bytes = with_report (with_output (with_input old names.input bytes) names.output) names.report

-- the bytes are those that are kept under the input's name, if the desk tells what it keeps, and none if there is no
-- input
abbrev pub AreKeptUnder : Meanings → Option (List ℕ) → List ℕ → Type 0
AreKeptUnder m None bytes = bytes ≡ []
AreKeptUnder m (Some name) bytes = IfSome m.held (λ kept. bytes ≡ kept_at kept name)

-- what was opened before the report, if there is one, stands
abbrev pub LacksReport : Names → Option (List ℕ) → Meanings → Meanings → List ℕ → Type 0
LacksReport names None old new bytes = new ≡ with_input old names.input bytes
LacksReport names (Some report) old new bytes =
    (new ≡ with_input old names.input bytes) ⊎ (new ≡ with_output (with_input old names.input bytes) names.output)

-- the output, or the report, was not opened: what was opened before it stands so
abbrev pub IsHalfOpened : Names → Meanings → Meanings → List ℕ → Type 0
IsHalfOpened names old new bytes = LacksReport names names.report old new bytes

-- after the opening of all names
abbrev pub AfterOpening : Names → Meanings → Meanings → Result (Unit {0}) Unopened → Type 0
AfterOpening names old new (Ok done) = (bytes : List ℕ) × AreKeptUnder old names.input bytes × (new ≡ all_opened names old bytes)
AfterOpening names old new (Err unopened.Input) = IsSome names.input × (new ≡ old)
AfterOpening names old new (Err unopened.Output) = (bytes : List ℕ) × AreKeptUnder old names.input bytes × IsHalfOpened names old new bytes

-- why a name was not opened: reading or writing failed, and otherwise both counts are as before
abbrev pub HasOpeningCause : Counts → Counts → Result (Unit {0}) Unopened → Type 0
HasOpeningCause old new (Ok done) = new ≡ old
HasOpeningCause old new (Err unopened.Input) = FailsToRead old new
HasOpeningCause old new (Err unopened.Output) = FailsToWrite old new

-- ---- finishing

-- what the output made is kept under its name, and what the report made, if there is one
abbrev pub with_output_kept : Meanings → Meanings
with_output_kept m = record m { held = kept_after m.held m.output.name (made m outlet.Main) }

abbrev pub with_report_kept : Option (List ℕ) → Meanings → Meanings
with_report_kept None m = m
with_report_kept (Some name) m = record m { held = kept_after m.held m.report.name (made m outlet.Report) }

-- all are
abbrev pub all_finished : Option (List ℕ) → Meanings → Meanings
all_finished report m = with_report_kept report (with_output_kept m)

-- nothing was kept, or the output alone if there is a report
abbrev pub IsHalfKept : Option (List ℕ) → Meanings → Meanings → Type 0
IsHalfKept None old new = new ≡ old
IsHalfKept (Some report) old new = (new ≡ old) ⊎ (new ≡ with_output_kept old)

-- after the finishing of all outputs
abbrev pub AfterFinishing : {E : Type 0} → Option (List ℕ) → Meanings → Meanings → Result (Unit {0}) E → Type 0
AfterFinishing report old new (Ok done) = new ≡ all_finished report old
AfterFinishing report old new (Err failed) = IsHalfKept report old new
