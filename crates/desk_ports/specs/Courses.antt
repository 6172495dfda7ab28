-- What a command owes for its input, what a run of it does to a desk, and work over an input that is walked item by item.
use Rattle.std.specs.Io.KnownBytes.{prepend_known, append_known}
use Rattle.std.specs.List.{flat_map}
use Rattle.std.specs.Prelude.{◌≡◌, ℕ, List, [], ◌∷◌, ◌++◌, map, Option, Some, None, Result, Ok, Err, IfSome}
use Rattle.desk_ports.specs.Meanings.{Stop, Data, ReadFault, WriteFault, Meanings, Counts, FailsToRead, FailsToWrite, left, made, with_left, with_made}
use Rattle.desk_ports.specs.declared.desk.Inlet.TheVariants as inlet
use Rattle.desk_ports.specs.declared.desk.Outlet.{Outlet}
use Rattle.desk_ports.specs.declared.desk.Outlet.TheVariants as outlet

-- ---- what a command owes for its input, that is, must write, and what a run of it does to a desk, by its answer. Every
-- command reads one input to its end and writes up to two outputs

-- bytes for both outlets, each with its outlet, in the order in which they are written
abbrev pub Outputs : Type 0
Outputs = List (Outlet × ℕ)

abbrev pub to_outlet : Outlet → List ℕ → Outputs
to_outlet o bytes = map (λ byte. (o, byte)) bytes

abbrev pub to_output : List ℕ → Outputs
to_output bytes = to_outlet outlet.Main bytes

abbrev pub to_report : List ℕ → Outputs
to_report bytes = to_outlet outlet.Report bytes

abbrev pub other_than : Outlet → Outlet
other_than outlet.Main = outlet.Report
other_than outlet.Report = outlet.Main

-- a byte, if it is for this outlet
abbrev pub byte_for : Outlet → Outlet × ℕ → List ℕ
byte_for outlet.Main (outlet.Main, byte) = byte ∷ []
byte_for outlet.Main (outlet.Report, byte) = []
byte_for outlet.Report (outlet.Main, byte) = []
byte_for outlet.Report (outlet.Report, byte) = byte ∷ []

-- those of them that are for this outlet
abbrev pub bytes_for : Outlet → Outputs → List ℕ
bytes_for o outputs = flat_map (byte_for o) outputs

-- the text of each output
pub record OutputTexts : Type 0 where
  pub output : List ℕ
  pub report : List ℕ

abbrev pub texts_of : Outputs → OutputTexts
texts_of outputs = record { output = bytes_for outlet.Main outputs; report = bytes_for outlet.Report outputs }

-- the same desk with other bytes still to come and other bytes made
abbrev pub with_bytes : Meanings → Option (List ℕ) → Option (List ℕ) → Option (List ℕ) → Meanings
with_bytes m rest output report = with_made (with_made (with_left m inlet.Main rest) outlet.Main output) outlet.Report report

-- these bytes were taken from the main input, these were added to the outputs, each to its own, and nothing else changed
pub record Ran (old new : Meanings) (taken : List ℕ) (outputs : Outputs) : Type 0 where
  pub input : left old inlet.Main ≡ prepend_known taken (left new inlet.Main)
  pub output : made new outlet.Main ≡ append_known (made old outlet.Main) (bytes_for outlet.Main outputs)
  pub report : made new outlet.Report ≡ append_known (made old outlet.Report) (bytes_for outlet.Report outputs)
  pub others : new ≡ with_bytes old (left new inlet.Main) (made new outlet.Main) (made new outlet.Report)

-- What a command owes for an input: what must be written when the end of the input is reached, what a complete input
-- adds to that, and the fault of the data, if there is one.
pub record Course (F : Type 0) : Type 0 where
  pub before : Outputs
  pub after : Outputs
  pub ending : Option F

abbrev pub by_ending : {F : Type 0} → Option F → Outputs → Outputs → Outputs
by_ending None before after = before ++ after
by_ending (Some fault) before after = before

-- all that is owed: what a complete input adds is not owed if there is a fault
abbrev pub owed : {F : Type 0} → Course F → Outputs
owed course = by_ending course.ending course.before course.after

-- the same course if these outputs were written already
abbrev pub written_first : {F : Type 0} → Outputs → Course F → Course F
written_first stand course = record course { before = stand ++ course.before }

-- what was written is a prefix of all that is owed
pub record AreFronts (stand all : Outputs) : Type 0 where
  pub rest : Outputs
  pub joined : stand ++ rest ≡ all

-- The input is these bytes, if the desk tells it. A prefix of it was taken, this was added to the outputs, and nothing
-- else changed.
pub record Went (old new : Meanings) (input : List ℕ) (stand : Outputs) : Type 0 where
  pub taken : List ℕ
  pub rest : List ℕ
  pub split : taken ++ rest ≡ input
  pub told : IfSome (left new inlet.Main) (λ bytes. bytes ≡ rest)
  pub ran : Ran old new taken stand

-- nothing is left of the main input, if the desk tells it
abbrev pub IsReadOut : Meanings → Type 0
IsReadOut m = IfSome (left m inlet.Main) (λ bytes. bytes ≡ [])

-- the course of the input ends like this, and all that it owes was written; an input without a fault was read to its end
pub record Ends {F : Type 0} (course_of : List ℕ → Course F) (old new : Meanings) (ending : Option F) : Type 0 where
  pub input : List ℕ
  pub went : Went old new input (owed (course_of input))
  pub ends : (course_of input).ending ≡ ending
  pub read_out : ending ≡ None → IsReadOut new

-- a read failed: what is owed for the bytes that were taken was written, and nothing of what a complete input adds
pub record IsCutOff {F : Type 0} (course_of : List ℕ → Course F) (old new : Meanings) : Type 0 where
  pub taken : List ℕ
  pub ran : Ran old new taken (course_of taken).before

-- a write failed: a prefix of what the input owes was written
pub record IsCutShort {F : Type 0} (course_of : List ℕ → Course F) (old new : Meanings) : Type 0 where
  pub input : List ℕ
  pub stand : Outputs
  pub went : Went old new input stand
  pub fronts : AreFronts stand (owed (course_of input))

-- after a run that ended before it was done
abbrev pub AfterStop : {F : Type 0} → (List ℕ → Course F) → Meanings → Meanings → Stop F → Type 0
AfterStop course_of old new (Data fault) = Ends course_of old new (Some fault)
AfterStop course_of old new ReadFault = IsCutOff course_of old new
AfterStop course_of old new WriteFault = IsCutShort course_of old new

-- the work of a run: what it owes for the bytes of its input, and what it answers if they have no fault
pub record Work (A F : Type 0) : Type 0 where
  pub course : List ℕ → Course F
  pub answer : List ℕ → A

-- all of the work is done: what the input owes was written, and the answer is the one for the same bytes, whatever the
-- desk tells
pub record Finishes {A F : Type 0} (work : Work A F) (old new : Meanings) (answer : A) : Type 0 where
  pub ends : Ends work.course old new None
  pub answered : answer ≡ work.answer ends.input

-- after a run, by its answer
abbrev pub AfterRun : {A F : Type 0} → Work A F → Meanings → Meanings → Result A (Stop F) → Type 0
AfterRun work old new (Ok answer) = Finishes work old new answer
AfterRun work old new (Err stop) = AfterStop work.course old new stop

-- an answer, its fault as a reason to end a run
abbrev pub by_stop : {T E F : Type 0} → (E → Stop F) → Result T E → Result T (Stop F)
by_stop stop_of (Ok done) = Ok done
by_stop stop_of (Err fault) = Err (stop_of fault)

-- why a run ended: for every answer but a fault of the desk both counts are as before
abbrev pub HasCause : {T F : Type 0} → Counts → Counts → Result T (Stop F) → Type 0
HasCause old new (Ok done) = new ≡ old
HasCause old new (Err (Data fault)) = new ≡ old
HasCause old new (Err ReadFault) = FailsToRead old new
HasCause old new (Err WriteFault) = FailsToWrite old new

-- ---- work over an input that is walked item by item, as a store is by its packets and a recording by its vectors

-- the walk over the bytes that are left: its items in order, and the fault that ends it, or none
pub record WalkOver (P F : Type 0) : Type 0 where
  pub items : List ℕ → List P
  pub ending : List ℕ → Option F

-- what items owe, and, if the input is whole, the answer after them and the output that is owed last
pub record WalkWork (P A : Type 0) : Type 0 where
  pub before : List P → Outputs
  pub answer : List P → A
  pub after : List P → Outputs

-- what is owed for the bytes that are left
abbrev pub course_on : {P A F : Type 0} → WalkWork P A → WalkOver P F → List ℕ → Course F
course_on k walk bytes = record { before = k.before (walk.items bytes); after = k.after (walk.items bytes); ending = walk.ending bytes }

-- the work over them
abbrev pub work_on : {P A F : Type 0} → WalkWork P A → WalkOver P F → Work A F
work_on k walk = record { course = course_on k walk; answer = λ bytes. k.answer (walk.items bytes) }
