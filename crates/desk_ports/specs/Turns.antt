-- What work a run over a desk still has to do, what one turn of it does, and what a call that writes leaves.
use Rattle.std.specs.Prelude.{◌≡◌, ℕ, Bool, IsTrue, List, [], ◌++◌, None, Result, Ok, Err, OnOk, OnErr}
use Rattle.desk_ports.specs.Courses.{Outputs, Ran, written_first, AreFronts, Work, Finishes, AfterStop}
use Rattle.desk_ports.specs.Meanings.{Stop, Meanings, IsReadyIn, IsReadyOut, Counts, HasWriteCause}
use Rattle.desk_ports.specs.declared.desk.Inlet.TheVariants as inlet
use Rattle.desk_ports.specs.declared.desk.Outlet.{Outlet}
use Rattle.desk_ports.specs.declared.desk.Outlet.TheVariants as outlet
use Rattle.desk_ports.specs.declared.turns.Turn.{Turn}
use Rattle.desk_ports.specs.declared.turns.Turn.TheVariants.{More, Done}

-- ---- what work a run over a desk still has to do, and what one turn of it does

-- there is work that is owed, that is, still to do
pub record IsOwed {A F : Type 0} (owes : Work A F → Type 0) : Type 0 where
  pub work : Work A F
  pub owed : owes work

-- the input was opened, and so was each output that is written
pub record AreReady (writes : Outlet → Bool) (m : Meanings) : Type 0 where
  pub input : IsReadyIn m inlet.Main
  pub outputs : (outlet : Outlet) → IsTrue (writes outlet) → IsReadyOut m outlet

-- the main input, the main output and the report were opened
abbrev pub IsReadyRun : Meanings → Type 0
IsReadyRun m = IsReadyIn m inlet.Main × IsReadyOut m outlet.Main × IsReadyOut m outlet.Report

-- If the input begins with these bytes, these outputs are owed for them, and for the bytes after them the other work is
-- to do.
pub record Steps {A F : Type 0} (work next : Work A F) (taken : List ℕ) (outputs : Outputs) : Type 0 where
  pub course : (rest : List ℕ) → work.course (taken ++ rest) ≡ written_first outputs (next.course rest)
  pub answer : (rest : List ℕ) → work.answer (taken ++ rest) ≡ next.answer rest

-- Part of the work is done: some bytes were taken, and what is owed for them was written.
pub record Reaches {A F : Type 0} (work next : Work A F) (old new : Meanings) : Type 0 where
  pub taken : List ℕ
  pub outputs : Outputs
  pub ran : Ran old new taken outputs
  pub steps : Steps work next taken outputs

-- part of the work is done, and some other work is still to do
pub record Advances {A F : Type 0} (work : Work A F) (owes : Work A F → Type 0) (old new : Meanings) : Type 0 where
  pub next : Work A F
  pub owed : owes next
  pub reaches : Reaches work next old new

-- after a turn of a run, by its answer
abbrev pub AfterTurn : {A F : Type 0} → Work A F → (Work A F → Type 0) → Meanings → Meanings → Result (Turn A) (Stop F) → Type 0
AfterTurn work owes old new (Ok More) = Advances work owes old new
AfterTurn work owes old new (Ok (Done answer)) = Finishes work old new answer
AfterTurn work owes old new (Err stop) = AfterStop work.course old new stop

-- Nothing is left of the input: this last part is owed, and this is the answer.
pub record IsLast {A F : Type 0} (work : Work A F) (last : Outputs) (value : A) : Type 0 where
  pub course : work.course [] ≡ record { before = []; after = last; ending = None }
  pub answer : work.answer [] ≡ value

-- these bytes were written, and nothing else happened
abbrev pub Wrote : Meanings → Meanings → Outputs → Type 0
Wrote old new all = Ran old new [] all

-- a prefix of these bytes was written, and nothing else happened
pub record WroteFront (old new : Meanings) (all : Outputs) : Type 0 where
  pub stand : Outputs
  pub wrote : Wrote old new stand
  pub fronts : AreFronts stand all

-- ---- what a call that writes to a desk leaves, by its answer

-- After Ok all of these outputs were written. After Err a write failed, and a prefix of them was written. Nothing else
-- happened.
pub record Writes {D T E : Type 0} (meaning : D → Meanings) (counts : D → Counts) (old new : D) (outputs : Outputs) (result : Result T E) : Type 0 where
  pub wrote : OnOk result (Wrote (meaning old) (meaning new) outputs)
  pub front : OnErr result (WroteFront (meaning old) (meaning new) outputs)
  pub cause : HasWriteCause (counts old) (counts new) result
