-- A fact for one answer of a call that gives a value, or none at the end, or a fault.
use Rattle.std.specs.Prelude.{Option, Some, None, Result, Ok, Err, ⊤}

-- the fact holds for the value, if there is one
abbrev pub IfGiven : {T E : Type 0} → Result (Option T) E → (T → Type 0) → Type 0
IfGiven (Ok (Some x)) P = P x
IfGiven (Ok None) P = ⊤
IfGiven (Err e) P = ⊤

-- the fact holds at the end
abbrev pub OnEnd : {T E : Type 0} → Result (Option T) E → Type 0 → Type 0
OnEnd (Ok (Some x)) P = ⊤
OnEnd (Ok None) P = P
OnEnd (Err e) P = ⊤

-- the fact holds at the end and after a fault
abbrev pub OnStop : {T E : Type 0} → Result (Option T) E → Type 0 → Type 0
OnStop (Ok (Some x)) P = ⊤
OnStop (Ok None) P = P
OnStop (Err e) P = P
