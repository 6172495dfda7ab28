use Rattle.std.proofs.Common.{◌∙◌}
use Rattle.desk_ports.specs.declared.desk.Outlet.TheVariants as outlet
use Rattle.desk_ports.proofs.Steps.{Writes-cut-more, Writes-more}
use Rattle.loss_player.specs.Report.{header_row, numbers_row}
use Rattle.loss_player.proofs.report.write_report.Goals as goal

pub returns-in_err-write_all : goal.returns-in_err-write_all
returns-in_err-write_all g c = Writes-cut-more _ outlet.Report header_row (numbers_row c.args.played.now) c.from_residual.ensures.1 (rw c.as_bytes.ensures.value at c.in_err-write_all.ensures)

pub returns : goal.returns
returns g c = Writes-more outlet.Report header_row (numbers_row c.args.played.now) (rw c.as_bytes.ensures.value at c.in_ok-write_all.ensures) (rw (c.as_bytes-2.ensures ∙ c.numbers_row.ensures) at c.write_all-2.ensures)
