use Rattle.std.proofs.Common.{List, ℕ, map, IsTrue, Result, Ok, Err, refl, sym, subst}
use Rattle.std.specs.Prelude.{IsErr, OnErr}
use Rattle.std.specs.String.{string_bytes}
use Rattle.desk_ports.specs.Meanings.{HasReadCause}
use Rattle.pocket_c.specs.CommandDesk.{CommandState, command_counts, give_name}
use Rattle.pocket_c.proofs.CommandDesks.{lacking-unopened, read-cause}
use Rattle.pocket_c.proofs.command_desk.CommandDeskDesk.open_in.Goals as goal

on-err : {T E P : Type 0} (r : Result T E) → (IsErr r → P) → OnErr r P
on-err (Ok done) by = tt
on-err (Err e) by = by refl

pub returns-clause-cause : goal.returns-clause-cause
returns-clause-cause c =
    let words : List (List ℕ) = map string_bytes c.self.inside.words.now in
    let after : CommandState = record { desk = c.open_in.new.self; words = words; lacking = c.self.inside.lacking } in
    let given : IsTrue (give_name words c.args.name.now) = subst (λ (s : CommandState). IsTrue (give_name s.words c.args.name.now)) (sym c.self.view_is) c.requires in
    subst (λ (s : CommandState). HasReadCause (command_counts s) (command_counts after) c.open_in.result) c.self.view_is
    (read-cause c.self.inside.desk c.open_in.new.self words c.self.inside.lacking c.open_in.result c.open_in.ensures.still c.open_in.ensures.fault
    (on-err c.open_in.result (λ failed. lacking-unopened c.self.inside.desk words c.self.inside.lacking c.args.name.now c.self.invariant given (c.open_in.ensures.fails.0 failed))))
