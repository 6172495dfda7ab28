-- Courses whose fault is named otherwise, refusals for faults of chains, and how a trial may be refused.
use Rattle.std.specs.Option.{option_map}
use Rattle.std.proofs.Common.{◌≡◌, ℕ, true, List, Option, Some, None, Ok, Err, refl, sym, ap, subst, ◌⊎◌, ◌<◌, Bool, false, [], length, inl, inr, arith}
use Rattle.desk_ports.specs.Courses.{Outputs, Course, by_ending, owed, Went, Ends, AreFronts, AfterStop, HasCause, to_output}
use Rattle.desk_ports.specs.Meanings.{Stop, Data, ReadFault, WriteFault, Meanings, Counts}
use Rattle.desk_ports.specs.Turns.{Wrote, WroteFront}
use Rattle.desk_ports.specs.declared.desk.Inlet.TheVariants as inlet
use Rattle.pocket_cmd.specs.Command.{names_of}
use Rattle.pocket_cmd.specs.Courses.{with_fault, DataFault, stop_with, course_of, text_course}
use Rattle.pocket_cmd.specs.Courses as fault
use Rattle.pocket_cmd.specs.Jobs.{AfterJob}
use Rattle.pocket_cmd.specs.Outcome.{AfterRefusal, AfterTextClass, HasRunReadFailed, IsTooLong, HasReadFailed, Stands}
use Rattle.pocket_cmd.specs.Status.{HasClassCause, IsEnded, class_of, refusal_by, refusal_of}
use Rattle.pocket_cmd.specs.Status as class
use Rattle.pocket_cmd.specs.Words.{Words}
use Rattle.pocket_cmd.specs.declared.status.Refusal.{Refusal}
use Rattle.pocket_cmd.specs.declared.status.Refusal.TheVariants as refusal
use Rattle.pocket_cmd.specs.declared.verbs.Verb.TheVariants.{Trial}

-- ---- A course whose fault is named otherwise, and the refusal for a fault of a chain

by_ending-named : {F G : Type 0} (name : F → G) (ending : Option F) (before after : Outputs) → by_ending ending before after ≡ by_ending (option_map name ending) before after
by_ending-named name None before after = refl
by_ending-named name (Some fault) before after = refl

-- it owes the same
pub owed-with_fault : {F G : Type 0} (name : F → G) (course : Course F) → owed course ≡ owed (with_fault name course)
owed-with_fault name course = by_ending-named name course.ending course.before course.after

-- it has a fault if it had one
pub unmapped : {A B : Type 0} (f : A → B) (o : Option A) → option_map f o ≡ None → o ≡ None
unmapped f None e = refl
unmapped f (Some x) e = absurd cc

-- and what stands after a run is the same
pub Ends-with_fault : {F G : Type 0} (name : F → G) (course_of : List ℕ → Course F) (old new : Meanings) (ending : Option F) → Ends course_of old new ending → Ends (λ input. with_fault name (course_of input)) old new (option_map name ending)
Ends-with_fault name course_of old new ending e = record {
  input = e.input;
  went = subst (Went old new e.input) (owed-with_fault name (course_of e.input)) e.went;
  ends = ap (option_map name) e.ends;
  read_out = λ whole. e.read_out (unmapped name ending whole);
}

pub AfterStop-with_fault : {F : Type 0} (name : F → DataFault) (course_of : List ℕ → Course F) (old new : Meanings) (stop : Stop F) → AfterStop course_of old new stop → AfterJob true (λ input. with_fault name (course_of input)) old new (Err (stop_with name stop))
AfterStop-with_fault name course_of old new (Data fault) e = Ends-with_fault name course_of old new (Some fault) e
AfterStop-with_fault name course_of old new ReadFault e = record { taken = e.taken; ran = e.ran }
AfterStop-with_fault name course_of old new WriteFault e = record {
  input = e.input;
  stand = e.stand;
  went = e.went;
  fronts = subst (AreFronts e.stand) (owed-with_fault name (course_of e.input)) e.fronts;
}

-- ---- the answer of a chain

pub IsEnded-done : {F : Type 0} (name : F → DataFault) (course_of : List ℕ → Course F) (old new : Meanings) → Ends course_of old new None → IsEnded (AfterJob true (λ input. with_fault name (course_of input)) old new) (Ok tt)
IsEnded-done name course_of old new e = record { ended = Ok tt; over = Ends-with_fault name course_of old new None e; answered = refl }

pub IsEnded-stop : {F : Type 0} (name : F → DataFault) (course_of : List ℕ → Course F) (old new : Meanings) (stop : Stop F) (refusal : Refusal) → AfterStop course_of old new stop → refusal ≡ refusal_by (stop_with name stop)
    → IsEnded (AfterJob true (λ input. with_fault name (course_of input)) old new) (Err refusal)
IsEnded-stop name course_of old new stop refusal e is =
    record { ended = Err (stop_with name stop); over = AfterStop-with_fault name course_of old new stop e; answered = ap Err is }

-- ---- the class of a refusal

pub class-refusal_of : (f : DataFault) → class_of (refusal_of f) ≡ class.Data f
class-refusal_of (fault.CutRecord t) = refl
class-refusal_of (fault.SpareBit t) = refl
class-refusal_of (fault.BadStore byte kind) = refl
class-refusal_of fault.TooMany = refl

-- its cause
pub HasClassCause-stop : {F : Type 0} (name : F → DataFault) (old new : Counts) (stop : Stop F) (refusal : Refusal) → HasCause {T = Unit {0}} old new (Err stop) → refusal ≡ refusal_by (stop_with name stop) → HasClassCause old new (class_of refusal)
HasClassCause-stop {F = F} name old new stop refusal e is = subst (λ why. HasClassCause old new (class_of why)) (sym is) (by_stop stop e) where
  by_stop : (stop : Stop F) → HasCause {T = Unit {0}} old new (Err stop) → HasClassCause old new (class_of (refusal_by (stop_with name stop)))
  by_stop (Data f) e = subst (HasClassCause old new) (sym (class-refusal_of (name f))) e
  by_stop ReadFault e = e
  by_stop WriteFault e = e

-- ---- how a trial may be refused

long-trial : (t : Words) (old new : Meanings) → IsTooLong inlet.Side None old new → ⊥
long-trial t old new e = none e.long where
  none : 1048576 < length {A = ℕ} [] → ⊥
  none h = omega (arith, h)

no_name : ◌≡◌ {A = Bool} false true → ⊥
no_name e = cc

unread-run : (course : List ℕ → Course DataFault) (t : Words) (old new : Meanings) → HasRunReadFailed (names_of (Trial, t)) course old new → ⊥
unread-run course t old new (inl e) = no_name e.0
unread-run course t old new (inr e) = e.after

unread-trial : (t : Words) (old new : Meanings) → HasReadFailed (Trial, t) old new → ⊥
unread-trial t old new (inl e) = no_name e.0
unread-trial t old new (inr e) = by_run e.after where
  by_run : AfterTextClass (Trial, t) e.text old new class.Reading → ⊥
  by_run (inl (inl not_begun)) = not_begun.0
  by_run (inl (inr not_begun)) = not_begun.1
  by_run (inr run) = unread-run (course_of (Trial, t) e.text) t old new run.1

ended-trial : (t : Words) (old new : Meanings) (fault : DataFault) → Stands (Trial, t) old new (Some fault) → ⊥
ended-trial t old new fault e = none e.after.1.after.ran.ends where
  none : ◌≡◌ {A = Option DataFault} None (Some fault) → ⊥
  none e = cc

pub refused-trial : (t : Words) (old new : Meanings) (why : Refusal) → AfterRefusal (Trial, t) old new why → (why ≡ refusal.WriteFault) ⊎ (why ≡ refusal.NoMemory)
refused-trial t old new (refusal.BadWords word) e = absurd e
refused-trial t old new refusal.SideTooLong e = absurd (long-trial t old new e)
refused-trial t old new refusal.ScriptTooLong e = absurd e.after.1
refused-trial t old new (refusal.BadScript row) e = absurd e.after.1
refused-trial t old new (refusal.BadSide row) e = absurd (row-trial e.after.0) where
  row-trial : ◌≡◌ {A = Option ℕ} None (Some row) → ⊥
  row-trial e = cc
refused-trial t old new refusal.ReadFault e = absurd (unread-trial t old new e)
refused-trial t old new refusal.WriteFault e = inl refl
refused-trial t old new (refusal.CutRecord n) e = absurd (ended-trial t old new _ e)
refused-trial t old new (refusal.SpareBit n) e = absurd (ended-trial t old new _ e)
refused-trial t old new (refusal.BadStore byte kind) e = absurd (ended-trial t old new _ e)
refused-trial t old new refusal.TooMany e = absurd (ended-trial t old new _ e)
refused-trial t old new refusal.NoMemory e = inr refl

-- ---- A text that is written when there is no input

-- it is written
pub IsEnded-text : (text : List ℕ) (old new : Meanings) → Wrote old new (to_output text) → IsEnded (AfterJob false (λ input. text_course text) old new) (Ok tt)
IsEnded-text text old new wrote = record { ended = Ok tt; over = record { ran = wrote; ends = refl }; answered = refl }

-- a front of it is
pub IsEnded-text_cut : (text : List ℕ) (old new : Meanings) → WroteFront old new (to_output text) → IsEnded (AfterJob false (λ input. text_course text) old new) (Err refusal.WriteFault)
IsEnded-text_cut text old new front = record { ended = Err WriteFault; over = record { stand = front.stand; ran = front.wrote; fronts = front.fronts }; answered = refl }
