use Rattle.std.proofs.Common.{ap}
use Rattle.std.proofs.lemmas.Result.{err_from_is_err_and}
use Rattle.desk_ports.specs.Courses.{by_stop, to_report}
use Rattle.desk_ports.proofs.Steps.{AfterRun-wrote, IsCutShort-wrote, Writes-is}
use Rattle.ground_chain.specs.Report.{header_row}
use Rattle.packet_store.specs.StoreReader.{stop_by}
use Rattle.late_window.proofs.restorer.run_after_header.Goals as goal

pub returns-in_err-write_all-clause-ran : goal.returns-in_err-write_all-clause-ran
returns-in_err-write_all-clause-ran g c = λ work rest owed steps.
    let a = g.D.Desk.meaning c.args.desk.now in
    let b = g.D.Desk.meaning c.write_all.new.desk in
    let written = Writes-is (ap to_report c.as_bytes.ensures.value) c.in_err-write_all.ensures in
    let cut = IsCutShort-wrote work rest a b (to_report header_row) steps written.front in
    let p = err_from_is_err_and c.from_residual.result c.from_residual.ensures.1 in
    rw (p.1, p.2) cut

pub returns-clause-ran : goal.returns-clause-ran
returns-clause-ran g c = λ work rest owed steps.
    let a = g.D.Desk.meaning c.args.desk.now in
    let b = g.D.Desk.meaning c.write_all.new.desk in
    let d = g.D.Desk.meaning c.drive.new.desk in
    let written = Writes-is (ap to_report c.as_bytes.ensures.value) c.in_ok-write_all.ensures in
    AfterRun-wrote work rest a b d (to_report header_row) (by_stop stop_by c.drive.result) steps written.wrote (c.drive.ensures.ran rest owed)
