-- What a refused command leaves, in plain words.
use Rattle.std.specs.Prelude.{◌≡◌, ◌⊎◌, ℕ, List, Option, Some, None, IsSome}
use Rattle.std.specs.Option.{option_map}
use Rattle.desk_ports.specs.declared.desk.Inlet.TheVariants as inlet
use Rattle.desk_ports.specs.declared.desk.Outlet.TheVariants as outlet
use Rattle.desk_ports.specs.Meanings.{Meanings, kept_after, made}
use Rattle.pocket_cmd.specs.declared.status.Refusal.{Refusal}
use Rattle.pocket_cmd.specs.Command.{Command, names_of}
use Rattle.pocket_cmd.specs.Courses.{bad_script_row_of}
use Rattle.pocket_cmd.specs.Outcome.{Stands}
use Rattle.pocket_cmd.specs.Status.{Class, class_of}
use Rattle.pocket_cmd.specs.Status as class

-- nothing has changed but the side input
abbrev pub KeepsAllButSide : Meanings → Meanings → Type 0
KeepsAllButSide old new = new ≡ record old { side = new.side }

-- nothing has changed but the side input, and an input that is a text
abbrev pub KeepsAllButTexts : Option (List ℕ → Option ℕ) → Meanings → Meanings → Type 0
KeepsAllButTexts None old new = KeepsAllButSide old new
KeepsAllButTexts (Some bad_row) old new = new ≡ record old { side = new.side; input = new.input }

-- each name has what it had
abbrev pub KeepsNames : Meanings → Meanings → Type 0
KeepsNames old new = new.held ≡ old.held

-- both outputs were made as far as they are when the command is done
pub record AreMadeAsDone (command : Command) (old new : Meanings) : Type 0 where
  pub done : Meanings
  pub stands : Stands command old done None
  pub output : made new outlet.Main ≡ made done outlet.Main
  pub report : made new outlet.Report ≡ made done outlet.Report

-- the command has a report, both outputs were made as far as they are when it is done, and what the output made is kept
-- under its name; each other name has what it had
pub record IsOutputKept (command : Command) (old new : Meanings) : Type 0 where
  pub report : IsSome (names_of command).report
  pub made_as_done : AreMadeAsDone command old new
  pub kept : new.held ≡ kept_after old.held (option_map (λ _. (names_of command).output) old.output.name) (made new outlet.Main)

-- after a refusal
abbrev pub LeavesByClass : Command → Meanings → Meanings → Class → Type 0
LeavesByClass command old new (class.Word word) = new ≡ old
LeavesByClass command old new (class.Text inlet.Side bad) = KeepsAllButSide old new
LeavesByClass command old new (class.Text inlet.Main bad) = KeepsAllButTexts (bad_script_row_of command) old new
LeavesByClass command old new class.Memory = KeepsAllButTexts (bad_script_row_of command) old new
LeavesByClass command old new (class.Data fault) = KeepsNames old new
LeavesByClass command old new class.Reading = KeepsNames old new
LeavesByClass command old new class.Writing = KeepsNames old new ⊎ IsOutputKept command old new

abbrev pub Leaves : Command → Meanings → Meanings → Refusal → Type 0
Leaves command old new refusal = LeavesByClass command old new (class_of refusal)
