use Rattle.std.proofs.lemmas.Result.{on_ok_weaker, on_err_weaker}
use Rattle.desk_ports.proofs.Steps.{Adds-wrote, AddsFront-wrote, Wrote-adds, WroteFront-adds, Writes-then}
use Rattle.desk_ports.proofs.laws.writes_go_by_their_answer.Goals as goal

pub returns-clause-meant : goal.returns-clause-meant
returns-clause-meant g c = λ meaning counts old new o bytes result. (
  λ writes. (on_ok_weaker result (Adds-wrote o) writes.wrote, on_err_weaker result (AddsFront-wrote o) writes.front, writes.cause),
  λ told. record { wrote = on_ok_weaker result (Wrote-adds o) told.0; front = on_err_weaker result (WroteFront-adds o) told.1; cause = told.2 },
)

pub returns-clause-joined : goal.returns-clause-joined
returns-clause-joined g c = λ meaning counts a b d first next done answer result is before after. Writes-then (rw is at before) after
