use Rattle.std.proofs.Common.{List, subst}
use Rattle.std.proofs.lemmas.Result.{err_from_is_err_and}
use Rattle.desk_ports.specs.Courses.{AfterRun, IsCutShort, by_stop}
use Rattle.desk_ports.specs.Turns.{Wrote, WroteFront}
use Rattle.desk_ports.proofs.Steps.{AfterRun-wrote, IsCutShort-wrote}
use Rattle.param_table.specs.declared.rows.Column.{Column}
use Rattle.flight_chain.specs.Compressing.{stop_by}
use Rattle.param_table.specs.Tabling.{Tabulation, headers, rest_work, table_course, table_work, tabulation_of}
use Rattle.param_table.proofs.TableCourses.{Owes-unread, Steps-headers}
use Rattle.param_table.proofs.tabler.Tabler.tabulate.Goals as goal

pub returns-in_err-write_headers-clause-ran : goal.returns-in_err-write_headers-clause-ran
returns-in_err-write_headers-clause-ran g c =
    let a = g.D.Desk.meaning c.args.desk.now in
    let b = g.D.Desk.meaning c.write_headers.new.desk in
    let s = c.self.inside.tabling in
    let front = subst (λ (columns : List Column). WroteFront a b (headers columns)) c.columns.ensures c.in_err-write_headers.ensures.front in
    let cut = IsCutShort-wrote (table_work (tabulation_of s)) (rest_work s) a b (headers s.fields) (Steps-headers s c.self.invariant) front in
    let p = err_from_is_err_and c.from_residual.result c.from_residual.ensures.1 in
    rw (p.1, p.2) (subst (λ (k : Tabulation). IsCutShort (table_course k) a b) c.self.view_is cut)

pub returns-clause-ran : goal.returns-clause-ran
returns-clause-ran g c =
    let a = g.D.Desk.meaning c.args.desk.now in
    let b = g.D.Desk.meaning c.write_headers.new.desk in
    let d = g.D.Desk.meaning c.drive.new.desk in
    let s = c.self.inside.tabling in
    let wrote = subst (λ (columns : List Column). Wrote a b (headers columns)) c.columns.ensures c.in_ok-write_headers.ensures.wrote in
    let ran = c.drive.ensures.ran (rest_work s) (Owes-unread s c.write_headers.new.line c.self.invariant) in
    subst (λ (k : Tabulation). AfterRun (table_work k) a d (by_stop stop_by c.drive.result)) c.self.view_is (AfterRun-wrote (table_work (tabulation_of s)) (rest_work s) a b d (headers s.fields) (by_stop stop_by c.drive.result) (Steps-headers s c.self.invariant) wrote ran)
