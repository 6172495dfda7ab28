-- Turns and steps of a run, and writes to a desk: how they are made and joined.
use Rattle.std.specs.Io.KnownBytes.{IsAtEnd, append_known}
use Rattle.std.proofs.Common.{◌≡◌, ℕ, Bool, List, [], ◌++◌, Option, Some, None, Result, Ok, Err, refl, sym, ap, ◌∙◌, subst, append_assoc, append-nil, ◌∷◌, IfSome, length, take, drop, take-append-drop, IsErrAnd}
use Rattle.std.proofs.Math.Seq.{take-append_seam}
use Rattle.std.proofs.lemmas.List.{take-map}
use Rattle.std.proofs.lemmas.Result.{on_ok_weaker, on_err_weaker, err_from_is_err_and}
use Rattle.desk_ports.specs.Courses.{Outputs, Ran, Course, owed, written_first, AreFronts, Went, Ends, IsCutOff, IsCutShort, Work, Finishes, AfterStop, AfterRun, WalkOver, WalkWork, course_on, work_on, to_outlet, with_bytes}
use Rattle.desk_ports.specs.Meanings.{Stop, Data, ReadFault, WriteFault, Meanings, Moves, left, Counts, Adds, AddsFront, IsReadyOut, HasWriteCause, made}
use Rattle.desk_ports.specs.Turns.{AreReady, Steps, Reaches, Advances, IsLast, Wrote, WroteFront, Writes}
use Rattle.desk_ports.specs.declared.desk.Inlet.TheVariants as inlet
use Rattle.desk_ports.specs.declared.desk.Outlet.{Outlet}
use Rattle.desk_ports.specs.declared.desk.Outlet.TheVariants as outlet
use Rattle.desk_ports.proofs.Courses.{Ran-none, Ran-then, Ran-moves, Ran-ready_in, Ran-ready_out, owed-written_first, written_first-twice, AreFronts-then, AreFronts-put, rest_of, Went-ran, Went-then, IfSome-IsAtEnd, prepend_known-none, Ends-fault, IsCutOff-moves, append_known-none, bytes_for-own, bytes_for-other, to_outlet-append, Ran-adds}

-- ---- joined turns

-- no turn was made
pub Reaches-none : {A F : Type 0} (work : Work A F) (m : Meanings) → Reaches work work m m
Reaches-none work m = record { taken = []; outputs = []; ran = Ran-none m; steps = record { course = λ rest. refl; answer = λ rest. refl } }

Steps-then : {A F : Type 0} (work here next : Work A F) (xs ys : List ℕ) (a b : Outputs) → Steps work here xs a → Steps here next ys b → Steps work next (xs ++ ys) (a ++ b)
Steps-then work here next xs ys a b p q = record {
  course = λ rest. ap work.course (append_assoc xs ys rest) ∙ (p.course (ys ++ rest) ∙ (ap (written_first a) (q.course rest) ∙ written_first-twice a b (next.course rest)));
  answer = λ rest. ap work.answer (append_assoc xs ys rest) ∙ (p.answer (ys ++ rest) ∙ q.answer rest);
}

Reaches-then : {A F : Type 0} (work here next : Work A F) (a b c : Meanings) → Reaches work here a b → Reaches here next b c → Reaches work next a c
Reaches-then work here next a b c p q = record {
  taken = p.taken ++ q.taken;
  outputs = p.outputs ++ q.outputs;
  ran = Ran-then a b c p.taken q.taken p.outputs q.outputs p.ran q.ran;
  steps = Steps-then work here next p.taken q.taken p.outputs q.outputs p.steps q.steps;
}

-- one more turn
pub Advances-after : {A F : Type 0} (work here : Work A F) (owes : Work A F → Type 0) (a b c : Meanings) → Reaches work here a b → Advances here owes b c → Advances work owes a c
Advances-after work here owes a b c p q = record { next = q.next; owed = q.owed; reaches = Reaches-then work here q.next a b c p q.reaches }

Ends-after : {A F : Type 0} (work here : Work A F) (a b c : Meanings) (ending : Option F) → Reaches work here a b → Ends here.course b c ending → Ends work.course a c ending
Ends-after {F = F} work here a b c ending p q =
    let course = p.steps.course q.input in
    record {
      input = p.taken ++ q.input;
      went = subst (Went a c (p.taken ++ q.input)) (sym (ap owed course ∙ owed-written_first p.outputs (here.course q.input))) (Went-then a b c p.taken q.input p.outputs (owed (here.course q.input)) p.ran q.went);
      ends = ap (λ (k : Course F). k.ending) course ∙ q.ends;
      read_out = q.read_out;
    }

IsCutOff-after : {A F : Type 0} (work here : Work A F) (a b c : Meanings) → Reaches work here a b → IsCutOff here.course b c → IsCutOff work.course a c
IsCutOff-after {F = F} work here a b c p q =
    record {
      taken = p.taken ++ q.taken;
      ran = subst (Ran a c (p.taken ++ q.taken)) (sym (ap (λ (k : Course F). k.before) (p.steps.course q.taken))) (Ran-then a b c p.taken q.taken p.outputs (here.course q.taken).before p.ran q.ran);
    }

IsCutShort-after : {A F : Type 0} (work here : Work A F) (a b c : Meanings) → Reaches work here a b → IsCutShort here.course b c → IsCutShort work.course a c
IsCutShort-after work here a b c p q = record {
  input = p.taken ++ q.input;
  stand = p.outputs ++ q.stand;
  went = Went-then a b c p.taken q.input p.outputs q.stand p.ran q.went;
  fronts = subst (AreFronts (p.outputs ++ q.stand)) (sym (ap owed (p.steps.course q.input) ∙ owed-written_first p.outputs (here.course q.input))) (AreFronts-put p.outputs q.stand (owed (here.course q.input)) q.fronts);
}

-- a fault that ended the run, after the turns before it
pub AfterStop-after : {A F : Type 0} (work here : Work A F) (a b c : Meanings) (stop : Stop F) → Reaches work here a b → AfterStop here.course b c stop → AfterStop work.course a c stop
AfterStop-after work here a b c (Data fault) p q = Ends-after work here a b c (Some fault) p q
AfterStop-after work here a b c ReadFault p q = IsCutOff-after work here a b c p q
AfterStop-after work here a b c WriteFault p q = IsCutShort-after work here a b c p q

-- the answer of all of the work is that of its last part
pub Finishes-after : {A F : Type 0} (work here : Work A F) (a b c : Meanings) (answer : A) → Reaches work here a b → Finishes here b c answer → Finishes work a c answer
unfolding Ends-after
Finishes-after work here a b c answer p q = record { ends = Ends-after work here a b c None p q.ends; answered = q.answered ∙ sym (p.steps.answer q.ends.input) }

-- a run after a part of it that was done before
AfterRun-after : {A F : Type 0} (work here : Work A F) (a b c : Meanings) (result : Result A (Stop F)) → Reaches work here a b → AfterRun here b c result → AfterRun work a c result
AfterRun-after work here a b c (Ok answer) p q = Finishes-after work here a b c answer p q
AfterRun-after work here a b c (Err stop) p q = AfterStop-after work here a b c stop p q

-- what was opened stays open
pub AreReady-ran : (writes : Outlet → Bool) (a b : Meanings) (xs : List ℕ) (us : Outputs) → Ran a b xs us → AreReady writes a → AreReady writes b
AreReady-ran writes a b xs us ran ready = record { input = Ran-ready_in a b xs us ran ready.input; outputs = λ outlet is. Ran-ready_out a b outlet xs us ran (ready.outputs outlet is) }

pub AreReady-moved : {writes : Outlet → Bool} {a b : Meanings} {taken : List ℕ} → Moves a b inlet.Main taken → AreReady writes a → AreReady writes b
AreReady-moved {writes = writes} {a = a} {b = b} {taken = taken} moves ready = AreReady-ran writes a b taken [] (Ran-moves a b taken moves) ready

-- ---- a turn

pub Ran-taken : (a b c : Meanings) (taken : List ℕ) (outputs : Outputs) → Moves a b inlet.Main taken → Wrote b c outputs → Ran a c taken outputs
Ran-taken a b c taken outputs moves wrote = subst (λ (l : List ℕ). Ran a c l outputs) (append-nil taken) (Ran-then a b c taken [] [] outputs (Ran-moves a b taken moves) wrote)

-- bytes were taken, and all that is owed for them was written
pub Advances-taken : {A F : Type 0} {work here next : Work A F} {owes : Work A F → Type 0} {a b c : Meanings} {taken : List ℕ} {outputs : Outputs} → work ≡ here → Steps here next taken outputs → Moves a b inlet.Main taken → Wrote b c outputs → owes next → Advances work owes a c
Advances-taken {A = A} {F = F} {next = next} {owes = owes} {a = a} {b = b} {c = c} {taken = taken} {outputs = outputs} is steps moves wrote owed =
    subst (λ (w : Work A F). Advances w owes a c) (sym is) (record { next = next; owed = owed; reaches = record { taken = taken; outputs = outputs; ran = Ran-taken a b c taken outputs moves wrote; steps = steps } })

IsCutShort-front : {A F : Type 0} (work next : Work A F) (a b : Meanings) (taken : List ℕ) (stand outputs : Outputs) → Steps work next taken outputs → AreFronts stand outputs → Ran a b taken stand → IsCutShort work.course a b
IsCutShort-front work next a b taken stand outputs steps fronts ran =
    let rest = rest_of (left b inlet.Main) in
    record {
      input = taken ++ rest;
      stand = stand;
      went = Went-ran a b taken stand ran;
      fronts = subst (AreFronts stand) (sym (ap owed (steps.course rest) ∙ owed-written_first outputs (next.course rest))) (AreFronts-then stand outputs (owed (next.course rest)) fronts);
    }

-- and if a write failed, only a prefix of it was written
pub IsCutShort-taken : {A F : Type 0} {work here next : Work A F} {a b c : Meanings} {taken : List ℕ} {outputs : Outputs} → work ≡ here → Steps here next taken outputs → Moves a b inlet.Main taken → WroteFront b c outputs → IsCutShort work.course a c
IsCutShort-taken {A = A} {F = F} {here = here} {next = next} {a = a} {b = b} {c = c} {taken = taken} {outputs = outputs} is steps moves front =
    subst (λ (w : Work A F). IsCutShort w.course a c) (sym is) (IsCutShort-front here next a c taken front.stand outputs steps front.fronts (Ran-taken a b c taken front.stand moves front.wrote))

-- a run after what is owed before anything is read was written
pub AfterRun-wrote : {A F : Type 0} (work here : Work A F) (a b c : Meanings) (outputs : Outputs) (result : Result A (Stop F)) → Steps work here [] outputs → Wrote a b outputs → AfterRun here b c result → AfterRun work a c result
AfterRun-wrote work here a b c outputs result steps wrote = AfterRun-after work here a b c result (record { taken = []; outputs = outputs; ran = wrote; steps = steps })

pub IsCutShort-wrote : {A F : Type 0} (work next : Work A F) (a b : Meanings) (outputs : Outputs) → Steps work next [] outputs → WroteFront a b outputs → IsCutShort work.course a b
IsCutShort-wrote work next a b outputs steps front = IsCutShort-front work next a b [] front.stand outputs steps front.fronts front.wrote

-- ---- the end

pub Went-end : (a b c : Meanings) (stand : Outputs) → Moves a b inlet.Main [] → IsAtEnd (left a inlet.Main) → Wrote b c stand → Went a c [] stand
Went-end a b c stand moves at_end wrote =
    let ran = Ran-taken a b c [] stand moves wrote in
    record { taken = []; rest = []; split = refl; told = IfSome-IsAtEnd (left c inlet.Main) (subst IsAtEnd (ran.input ∙ sym (prepend_known-none (left c inlet.Main))) at_end); ran = ran }

-- the input is at its end, and the last part was written
pub Finishes-end : {A F : Type 0} {work here : Work A F} {a b c : Meanings} {last : Outputs} {answer : A} → work ≡ here → IsLast here last answer → Moves a b inlet.Main [] → IsAtEnd (left a inlet.Main) → Wrote b c last → Finishes work a c answer
unfolding Went-end
Finishes-end {A = A} {F = F} {here = here} {a = a} {b = b} {c = c} {last = last} {answer = answer} is ends moves at_end wrote =
    let went = Went-end a b c last moves at_end wrote in
    subst (λ (w : Work A F). Finishes w a c answer) (sym is) (record {
      ends = record {
        input = [];
        went = subst (Went a c []) (sym (ap owed ends.course)) went;
        ends = ap (λ (k : Course F). k.ending) ends.course;
        read_out = λ whole. went.told;
      };
      answered = sym ends.answer;
    })

-- and if a write failed, only a prefix of it was written
pub IsCutShort-end : {A F : Type 0} {work here : Work A F} {a b c : Meanings} {last : Outputs} {answer : A} → work ≡ here → IsLast here last answer → Moves a b inlet.Main [] → IsAtEnd (left a inlet.Main) → WroteFront b c last → IsCutShort work.course a c
IsCutShort-end {A = A} {F = F} {a = a} {b = b} {c = c} {last = last} is ends moves at_end front =
    subst (λ (w : Work A F). IsCutShort w.course a c) (sym is) (record {
      input = [];
      stand = front.stand;
      went = Went-end a b c front.stand moves at_end front.wrote;
      fronts = subst (AreFronts front.stand) (sym (ap owed ends.course)) front.fronts;
    })

-- ---- the walk ends early

-- the fault ends the walk, and no item is before it
pub record StopsAt {P F : Type 0} (walk : WalkOver P F) (a b : Meanings) (fault : F) : Type 0 where
  pub taken : List ℕ
  pub rest : List ℕ
  pub moved : Moves a b inlet.Main taken
  pub told : IfSome (left b inlet.Main) (λ bytes. bytes ≡ rest)
  pub items : walk.items (taken ++ rest) ≡ []
  pub ending : walk.ending (taken ++ rest) ≡ Some fault

-- a read failed before a whole item was read
pub record IsCutInItem {P F : Type 0} (walk : WalkOver P F) (a b : Meanings) : Type 0 where
  pub taken : List ℕ
  pub moved : Moves a b inlet.Main taken
  pub items : walk.items taken ≡ []

-- by the reason to end the run
abbrev pub AfterWalk : {P F : Type 0} → WalkOver P F → Meanings → Meanings → Stop F → Type 0
AfterWalk walk a b (Data fault) = StopsAt walk a b fault
AfterWalk walk a b ReadFault = IsCutInItem walk a b
AfterWalk walk a b WriteFault = ⊥

AfterStop-at : {P A F : Type 0} (k : WalkWork P A) (walk : WalkOver P F) (a b : Meanings) (stop : Stop F) → k.before [] ≡ [] → AfterWalk walk a b stop → AfterStop (course_on k walk) a b stop
AfterStop-at k walk a b (Data fault) nothing stops = Ends-fault (course_on k walk) a b stops.taken stops.rest fault stops.moved stops.told (ap k.before stops.items ∙ nothing) stops.ending
AfterStop-at k walk a b ReadFault nothing cut = IsCutOff-moves (course_on k walk) a b cut.taken cut.moved (ap k.before cut.items ∙ nothing)
AfterStop-at k walk a b WriteFault nothing none = absurd none

-- then the run ends
pub AfterStop-on : {P A F : Type 0} (k : WalkWork P A) (walk : WalkOver P F) (work : Work A F) (a b : Meanings) (stop : Stop F) → work ≡ work_on k walk → k.before [] ≡ [] → AfterWalk walk a b stop → AfterStop work.course a b stop
AfterStop-on {A = A} {F = F} k walk work a b stop is nothing after = subst (λ (w : Work A F). AfterStop w.course a b stop) (sym is) (AfterStop-at k walk a b stop nothing after)

-- ---- an item was read

-- Some bytes were read, with which the walk begins with this item; after them it goes on as the later walk.
pub record TakesItem {P F : Type 0} (walk later : WalkOver P F) (a b : Meanings) (item : P) : Type 0 where
  pub taken : List ℕ
  pub moved : Moves a b inlet.Main taken
  pub items : (rest : List ℕ) → walk.items (taken ++ rest) ≡ item ∷ later.items rest
  pub ending : (rest : List ℕ) → walk.ending (taken ++ rest) ≡ later.ending rest

-- an item owes this output, and the items after it owe other work
pub record GoesOn {P A : Type 0} (k next : WalkWork P A) (item : P) (outputs : Outputs) : Type 0 where
  pub before : (items : List P) → k.before (item ∷ items) ≡ outputs ++ next.before items
  pub answer : (items : List P) → k.answer (item ∷ items) ≡ next.answer items
  pub after : (items : List P) → k.after (item ∷ items) ≡ next.after items

-- its bytes were taken, and this output is owed for them
Steps-on : {P A F : Type 0} {k next : WalkWork P A} {walk later : WalkOver P F} {a b : Meanings} {item : P} {outputs : Outputs} (takes : TakesItem walk later a b item) → GoesOn k next item outputs → Steps (work_on k walk) (work_on next later) takes.taken outputs
Steps-on {k = k} {later = later} takes goes_on = record {
  course = λ rest.
      let before = ap k.before (takes.items rest) ∙ goes_on.before (later.items rest) in
      let after = ap k.after (takes.items rest) ∙ goes_on.after (later.items rest) in
      let ending = takes.ending rest in
      λ i. record { before = before i; after = after i; ending = ending i };
  answer = λ rest. ap k.answer (takes.items rest) ∙ goes_on.answer (later.items rest);
}

-- all that it owes was written
pub Advances-on : {P A F : Type 0} {k next : WalkWork P A} {walk later : WalkOver P F} {work : Work A F} {owes : Work A F → Type 0} {a b d : Meanings} {item : P} {outputs : Outputs}
    → TakesItem walk later a b item → GoesOn k next item outputs → work ≡ work_on k walk → Wrote b d outputs → owes (work_on next later) → Advances work owes a d
Advances-on takes goes_on is wrote owed = Advances-taken is (Steps-on takes goes_on) takes.moved wrote owed

-- and if a write failed, only a prefix of it was written
pub IsCutShort-on : {P A F : Type 0} {k next : WalkWork P A} {walk later : WalkOver P F} {work : Work A F} {a b d : Meanings} {item : P} {outputs : Outputs}
    → TakesItem walk later a b item → GoesOn k next item outputs → work ≡ work_on k walk → WroteFront b d outputs → IsCutShort work.course a d
IsCutShort-on takes goes_on is front = IsCutShort-taken is (Steps-on takes goes_on) takes.moved front

-- ---- nothing is left

-- the walk is at its end, and so is the input
pub record IsOver {P F : Type 0} (walk : WalkOver P F) (a b : Meanings) : Type 0 where
  pub items : walk.items [] ≡ []
  pub ending : walk.ending [] ≡ None
  pub moved : Moves a b inlet.Main []
  pub at_end : IsAtEnd (left a inlet.Main)

-- if there is no item, this last part alone is owed, and this is the answer
pub record IsDone {P A : Type 0} (k : WalkWork P A) (last : Outputs) (answer : A) : Type 0 where
  pub nothing : k.before [] ≡ []
  pub last_is : k.after [] ≡ last
  pub answer_is : k.answer [] ≡ answer

IsLast-on : {P A F : Type 0} {k : WalkWork P A} {walk : WalkOver P F} {a b : Meanings} {last : Outputs} {answer : A} → IsDone k last answer → IsOver walk a b → IsLast (work_on k walk) last answer
IsLast-on {k = k} done over =
    let nothing = ap k.before over.items ∙ done.nothing in
    let after = ap k.after over.items ∙ done.last_is in
    let ending = over.ending in
    record { course = λ i. record { before = nothing i; after = after i; ending = ending i }; answer = ap k.answer over.items ∙ done.answer_is }

-- the last part was written
pub Finishes-on : {P A F : Type 0} {k : WalkWork P A} {walk : WalkOver P F} {work : Work A F} {a b d : Meanings} {last : Outputs} {answer : A} → IsDone k last answer → IsOver walk a b → work ≡ work_on k walk → Wrote b d last → Finishes work a d answer
Finishes-on done over is wrote = Finishes-end is (IsLast-on done over) over.moved over.at_end wrote

-- and if a write failed, only a prefix of it was written
pub IsCutShort-end-on : {P A F : Type 0} {k : WalkWork P A} {walk : WalkOver P F} {work : Work A F} {a b d : Meanings} {last : Outputs} {answer : A} → IsDone k last answer → IsOver walk a b → work ≡ work_on k walk → WroteFront b d last → IsCutShort work.course a d
IsCutShort-end-on done over is front = IsCutShort-end is (IsLast-on done over) over.moved over.at_end front

-- ---- one outlet

pub Wrote-adds : {a b : Meanings} {bytes : List ℕ} (o : Outlet) → Adds a b o bytes → Wrote a b (to_outlet o bytes)
Wrote-adds {a = a} {b = b} {bytes = bytes} o adds = Ran-adds a b o bytes adds

pub WroteFront-adds : {a b : Meanings} {bytes : List ℕ} (o : Outlet) → AddsFront a b o bytes → WroteFront a b (to_outlet o bytes)
WroteFront-adds o cut = record { stand = to_outlet o cut.front; wrote = Wrote-adds o cut.added; fronts = record { rest = to_outlet o cut.rest; joined = sym (to_outlet-append o cut.front cut.rest) ∙ ap (to_outlet o) cut.joined } }

-- and back
pub Adds-wrote : {a b : Meanings} {bytes : List ℕ} (o : Outlet) → Wrote a b (to_outlet o bytes) → Adds a b o bytes
Adds-wrote {a = a} {b = b} {bytes = bytes} outlet.Main wrote =
    let input : left b inlet.Main ≡ left a inlet.Main = prepend_known-none (left b inlet.Main) ∙ sym wrote.input in
    let report : made b outlet.Report ≡ made a outlet.Report = wrote.report ∙ (ap (append_known (made a outlet.Report)) (bytes_for-other outlet.Report bytes) ∙ sym (append_known-none (made a outlet.Report))) in
    record { added = wrote.output ∙ ap (append_known (made a outlet.Main)) (bytes_for-own outlet.Main bytes); others = wrote.others ∙ λ i. with_bytes a (input i) (made b outlet.Main) (report i) }
Adds-wrote {a = a} {b = b} {bytes = bytes} outlet.Report wrote =
    let input : left b inlet.Main ≡ left a inlet.Main = prepend_known-none (left b inlet.Main) ∙ sym wrote.input in
    let output : made b outlet.Main ≡ made a outlet.Main = wrote.output ∙ (ap (append_known (made a outlet.Main)) (bytes_for-other outlet.Main bytes) ∙ sym (append_known-none (made a outlet.Main))) in
    record { added = wrote.report ∙ ap (append_known (made a outlet.Report)) (bytes_for-own outlet.Report bytes); others = wrote.others ∙ λ i. with_bytes a (input i) (output i) (made b outlet.Report) }

pub AddsFront-wrote : {a b : Meanings} {bytes : List ℕ} (o : Outlet) → WroteFront a b (to_outlet o bytes) → AddsFront a b o bytes
AddsFront-wrote {a = a} {b = b} {bytes = bytes} o cut =
    let n = length cut.stand in
    let all = sym (take-append_seam cut.stand cut.fronts.rest) ∙ (ap (take n) cut.fronts.joined ∙ take-map (λ (byte : ℕ). (o, byte)) n bytes) in
    record { front = take n bytes; rest = drop n bytes; joined = take-append-drop n bytes; added = Adds-wrote o (subst (Wrote a b) all cut.wrote) }

-- ---- one write after another

pub Wrote-then : {a b c : Meanings} {x y : Outputs} → Wrote a b x → Wrote b c y → Wrote a c (x ++ y)
Wrote-then {a = a} {b = b} {c = c} {x = x} {y = y} first next = Ran-then a b c [] [] x y first next

WroteFront-after : {a b c : Meanings} {x y : Outputs} → Wrote a b x → WroteFront b c y → WroteFront a c (x ++ y)
WroteFront-after {x = x} {y = y} first cut = record { stand = x ++ cut.stand; wrote = Wrote-then first cut.wrote; fronts = AreFronts-put x cut.stand y cut.fronts }

-- these outputs were written, and nothing else happened
abbrev pub HasWritten : {D : Type 0} → (D → Meanings) → (D → Counts) → D → D → Outputs → Type 0
HasWritten meaning counts old new outputs = Writes {T = Unit {0}} {E = Unit {0}} meaning counts old new outputs (Ok tt)

-- nothing was written
pub Writes-none : {D T E : Type 0} {meaning : D → Meanings} {counts : D → Counts} {a : D} {t : T} → Writes {E = E} meaning counts a a [] (Ok t)
Writes-none {meaning = meaning} {a = a} = record { wrote = Ran-none (meaning a); front = tt; cause = refl }

module _ {D T E : Type 0} {meaning : D → Meanings} {counts : D → Counts} {a b : D} where
  -- an opened outlet stays open
  pub Writes-ready : {x : Outputs} {t : T} (o : Outlet) → Writes {E = E} meaning counts a b x (Ok t) → IsReadyOut (meaning a) o → IsReadyOut (meaning b) o
  Writes-ready {x = x} o first ready = Ran-ready_out (meaning a) (meaning b) o [] x first.wrote ready

  -- the same outputs in other words
  pub Writes-is : {x y : Outputs} {r : Result T E} → x ≡ y → Writes meaning counts a b x r → Writes meaning counts a b y r
  Writes-is {r = r} same writes = subst (λ (o : Outputs). Writes meaning counts a b o r) same writes

  -- a write that was done, and another one after it
  pub Writes-then : {U F : Type 0} {c : D} {x y : Outputs} {t : T} {r : Result U F} → Writes {E = E} meaning counts a b x (Ok t) → Writes meaning counts b c y r → Writes meaning counts a c (x ++ y) r
  Writes-then {c = c} {r = r} first next = record {
    wrote = on_ok_weaker r (Wrote-then first.wrote) next.wrote;
    front = on_err_weaker r (WroteFront-after first.wrote) next.front;
    cause = subst (λ (k : Counts). HasWriteCause k (counts c) r) first.cause next.cause;
  }

  -- the same writes, with another answer
  pub Writes-ok : {U F : Type 0} {x : Outputs} {t : T} {u : U} → Writes {E = E} meaning counts a b x (Ok t) → Writes {E = F} meaning counts a b x (Ok u)
  Writes-ok first = record { wrote = first.wrote; front = tt; cause = first.cause }

  pub Writes-err : {U F : Type 0} {x : Outputs} {e : E} {r : Result U F} (Q : F → Type 0) → IsErrAnd r Q → Writes {T = T} meaning counts a b x (Err e) → Writes meaning counts a b x r
  Writes-err {r = r} Q failed first = let p = err_from_is_err_and r failed in rw p.1 (record { wrote = tt; front = first.front; cause = first.cause })

  -- a write that failed, and others that were to come after it
  pub Writes-cut : {U F : Type 0} {x : Outputs} {e : E} {r : Result U F} (Q : F → Type 0) (y : Outputs) → IsErrAnd r Q → Writes {T = T} meaning counts a b x (Err e) → Writes meaning counts a b (x ++ y) r
  Writes-cut {x = x} {r = r} Q y failed first =
      let p = err_from_is_err_and r failed in
      let cut = first.front in
      rw p.1 (record { wrote = tt; front = record { stand = cut.stand; wrote = cut.wrote; fronts = AreFronts-then cut.stand x y cut.fronts }; cause = first.cause })

-- bytes for one outlet, and more of them
pub Writes-more : {D T E U F : Type 0} {meaning : D → Meanings} {counts : D → Counts} {a b c : D} {t : T} {r : Result U F} (o : Outlet) (xs ys : List ℕ)
    → Writes {E = E} meaning counts a b (to_outlet o xs) (Ok t) → Writes meaning counts b c (to_outlet o ys) r → Writes meaning counts a c (to_outlet o (xs ++ ys)) r
Writes-more o xs ys first next = Writes-is (sym (to_outlet-append o xs ys)) (Writes-then first next)

pub Writes-cut-more : {D T E U F : Type 0} {meaning : D → Meanings} {counts : D → Counts} {a b : D} {e : E} {r : Result U F} (Q : F → Type 0) (o : Outlet) (xs ys : List ℕ)
    → IsErrAnd r Q → Writes {T = T} meaning counts a b (to_outlet o xs) (Err e) → Writes meaning counts a b (to_outlet o (xs ++ ys)) r
Writes-cut-more Q o xs ys failed first = Writes-is (sym (to_outlet-append o xs ys)) (Writes-cut Q (to_outlet o ys) failed first)
