use Rattle.std.proofs.Common.{refl, ap, ◌∙◌}
use Rattle.desk_ports.specs.declared.desk.Outlet.TheVariants as outlet
use Rattle.desk_ports.specs.Courses.{to_report}
use Rattle.desk_ports.proofs.Steps.{Writes-is}
use Rattle.ground_chain.proofs.reporting.ReportingAccount.end.Goals as goal

pub write_all-requires : goal.write_all-requires
write_all-requires g c = c.requires.ready.outputs outlet.Report refl

pub returns : goal.returns
returns g c = Writes-is (ap to_report (c.as_bytes.ensures ∙ c.end_row.ensures)) c.write_all.ensures
