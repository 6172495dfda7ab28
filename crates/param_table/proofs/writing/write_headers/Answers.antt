use Rattle.std.proofs.Common.{ap, ◌∙◌}
use Rattle.desk_ports.specs.Courses.{to_output, to_report}
use Rattle.desk_ports.proofs.Steps.{Writes-cut, Writes-is, Writes-then}
use Rattle.param_table.specs.Texts.{header_row}
use Rattle.param_table.proofs.writing.write_headers.Goals as goal

pub returns-in_err-write_all : goal.returns-in_err-write_all
returns-in_err-write_all g c = Writes-cut _ (to_report header_row) c.from_residual.ensures.1 (Writes-is (ap to_output (c.as_bytes.ensures ∙ c.put_names.ensures)) c.in_err-write_all.ensures)

pub returns : goal.returns
returns g c =
    let names = Writes-is (ap to_output (c.as_bytes.ensures ∙ c.put_names.ensures)) c.in_ok-write_all.ensures in
    Writes-then names (Writes-is (ap to_report c.as_bytes-2.ensures.value) c.write_all-2.ensures)
