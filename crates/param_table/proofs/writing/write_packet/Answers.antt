use Rattle.std.proofs.Common.{ap, ◌∙◌}
use Rattle.desk_ports.specs.Courses.{to_output, to_report}
use Rattle.desk_ports.proofs.Steps.{Writes-cut, Writes-is, Writes-then}
use Rattle.param_table.specs.Texts.{packet_violations, violation_rows}
use Rattle.param_table.proofs.writing.write_packet.Goals as goal

pub returns-in_err-write_all-clause-written : goal.returns-in_err-write_all-clause-written
returns-in_err-write_all-clause-written g c =
    let rows = violation_rows (packet_violations c.args.columns.now (c.args.t, c.args.packet.now)) in
    Writes-cut _ (to_report rows) c.from_residual.ensures.1 (Writes-is (ap to_output (c.as_bytes.ensures ∙ c.put_values.ensures)) c.in_err-write_all.ensures)

pub returns-clause-written : goal.returns-clause-written
returns-clause-written g c = Writes-then (Writes-is (ap to_output (c.as_bytes.ensures ∙ c.put_values.ensures)) c.in_ok-write_all.ensures) c.write_violations.ensures.written
