use Rattle.std.proofs.Common.{codes, ap}
use Rattle.desk_ports.specs.declared.desk.Outlet.TheVariants as outlet
use Rattle.desk_ports.specs.Courses.{to_report}
use Rattle.desk_ports.proofs.Steps.{Writes-cut-more, Writes-is, Writes-more}
use Rattle.ground_chain.specs.Report.{header_row}
use Rattle.multi_ground.proofs.writing.write_header.Goals as goal

pub returns-in_err-write_all : goal.returns-in_err-write_all
returns-in_err-write_all g c = Writes-cut-more _ outlet.Report (codes "apid,") header_row c.from_residual.ensures.1 c.in_err-write_all.ensures

pub returns : goal.returns
returns g c = Writes-more outlet.Report (codes "apid,") header_row c.in_ok-write_all.ensures (Writes-is (ap to_report c.as_bytes.ensures.value) c.write_all-2.ensures)
