-- How a command ends, what each refusal is about, and the exit number that each end has.
use Rattle.std.specs.Prelude.{◌≡◌, ℕ, Option, Some, None, Result, Ok, Err}
use Rattle.desk_ports.specs.declared.desk.Inlet.{Inlet}
use Rattle.desk_ports.specs.declared.desk.Inlet.TheVariants as inlet
use Rattle.desk_ports.specs.Meanings.{Counts, FailsToRead, FailsToWrite, Stop}
use Rattle.desk_ports.specs.Meanings as stop
use Rattle.side_tables.specs.declared.fault.SideFault.{SideFault}
use Rattle.side_tables.specs.declared.fault.SideFault.TheVariants as table
use Rattle.pocket_cmd.specs.Courses.{DataFault}
use Rattle.pocket_cmd.specs.Courses as fault
use Rattle.pocket_cmd.specs.declared.text.TextFault.{TextFault}
use Rattle.pocket_cmd.specs.declared.text.TextFault.TheVariants as unread
use Rattle.pocket_cmd.specs.declared.status.Status.{Status}
use Rattle.pocket_cmd.specs.declared.status.Status.TheVariants.{Done, Refused}
use Rattle.pocket_cmd.specs.declared.status.Refusal.{Refusal}
use Rattle.pocket_cmd.specs.declared.status.Refusal.TheVariants.{BadWords, SideTooLong, BadSide, ScriptTooLong, BadScript, ReadFault, WriteFault, CutRecord, SpareBit, BadStore, TooMany, NoMemory}

-- the refusal for a fault of the data
abbrev pub refusal_of : DataFault → Refusal
refusal_of (fault.CutRecord t) = CutRecord t
refusal_of (fault.SpareBit t) = SpareBit t
refusal_of (fault.BadStore byte kind) = BadStore byte kind
refusal_of fault.TooMany = TooMany

-- the refusal for a run that ended before it was done
abbrev pub refusal_by : Stop DataFault → Refusal
refusal_by (stop.Data fault) = refusal_of fault
refusal_by stop.ReadFault = ReadFault
refusal_by stop.WriteFault = WriteFault

abbrev pub refused_by : Result (Unit {0}) (Stop DataFault) → Result (Unit {0}) Refusal
refused_by (Ok done) = Ok done
refused_by (Err stop) = Err (refusal_by stop)

-- a run ended so that this holds, and this is its answer
pub record IsEnded (Over : Result (Unit {0}) (Stop DataFault) → Type 0) (answer : Result (Unit {0}) Refusal) : Type 0 where
  pub ended : Result (Unit {0}) (Stop DataFault)
  pub over : Over ended
  pub answered : answer ≡ refused_by ended

-- what is wrong with a text: it is too long, or this record of it is the first that is no row
pub data BadText : Type 0 where
  Long : BadText
  Row : ℕ → BadText

-- the refusal for a text of a side input, or of an input
abbrev pub refusal_for : Inlet → BadText → Refusal
refusal_for inlet.Side Long = SideTooLong
refusal_for inlet.Side (Row row) = BadSide row
refusal_for inlet.Main Long = ScriptTooLong
refusal_for inlet.Main (Row row) = BadScript row

-- the refusal if a text was not read, and if it is no table
abbrev pub refusal_at : Inlet → TextFault → Refusal
refusal_at i unread.TooLong = refusal_for i Long
refusal_at i unread.ReadFault = ReadFault
refusal_at i unread.NoMemory = NoMemory

abbrev pub refusal_in : Inlet → SideFault → Refusal
refusal_in i table.TooLong = refusal_for i Long
refusal_in i (table.Row row) = refusal_for i (Row row)
refusal_in i table.NoMemory = NoMemory

-- the answer if a course ends so
abbrev pub status_of : Option DataFault → Status
status_of None = Done
status_of (Some fault) = Refused (refusal_of fault)

abbrev pub status_by : Result (Unit {0}) Refusal → Status
status_by (Ok done) = Done
status_by (Err refusal) = Refused refusal

-- ---- what a refusal is about

-- a word, the text of a side input or of an input, the data, a failed reading or writing, or want of memory
pub data Class : Type 0 where
  Word : ℕ → Class
  Text : Inlet → BadText → Class
  Data : DataFault → Class
  Reading : Class
  Writing : Class
  Memory : Class

abbrev pub class_of : Refusal → Class
class_of (BadWords word) = Word word
class_of SideTooLong = Text inlet.Side Long
class_of (BadSide row) = Text inlet.Side (Row row)
class_of ScriptTooLong = Text inlet.Main Long
class_of (BadScript row) = Text inlet.Main (Row row)
class_of ReadFault = Reading
class_of WriteFault = Writing
class_of (CutRecord t) = Data (fault.CutRecord t)
class_of (SpareBit t) = Data (fault.SpareBit t)
class_of (BadStore byte kind) = Data (fault.BadStore byte kind)
class_of TooMany = Data fault.TooMany
class_of NoMemory = Memory

-- the exit number of each class
abbrev pub exit_number_of : Class → ℕ
exit_number_of Reading = 1
exit_number_of Writing = 1
exit_number_of (Word word) = 2
exit_number_of (Text i bad) = 3
exit_number_of (Data fault) = 4
exit_number_of Memory = 5

-- the exit number of a command
abbrev pub exit_number : Status → ℕ
exit_number Done = 0
exit_number (Refused refusal) = exit_number_of (class_of refusal)

-- why a command gave up: reading or writing failed, and otherwise both counts are as before
abbrev pub HasClassCause : Counts → Counts → Class → Type 0
HasClassCause old new Reading = FailsToRead old new
HasClassCause old new Writing = FailsToWrite old new
HasClassCause old new (Word word) = new ≡ old
HasClassCause old new (Text i bad) = new ≡ old
HasClassCause old new (Data fault) = new ≡ old
HasClassCause old new Memory = new ≡ old

-- why a command ended: of every answer but a fault of the desk both counts are as before
abbrev pub HasStatusCause : Counts → Counts → Status → Type 0
HasStatusCause old new Done = new ≡ old
HasStatusCause old new (Refused refusal) = HasClassCause old new (class_of refusal)
