use Rattle.std.proofs.Common.{ℕ, List, ap, ◌∙◌, append-nil}
use Rattle.desk_ports.specs.declared.desk.Outlet.TheVariants as outlet
use Rattle.desk_ports.specs.Courses.{to_report}
use Rattle.desk_ports.proofs.Steps.{Writes-cut-more, Writes-is, Writes-more}
use Rattle.ground_chain.specs.Report.{lost_row, own_row}
use Rattle.multi_ground.specs.MultiOutputs.{tagged}
use Rattle.multi_ground.proofs.writing.write_rows.Goals as goal

pub returns-in_err-write_tagged : goal.returns-in_err-write_tagged
returns-in_err-write_tagged g c =
    let v = c.args.verdict.now in
    let lost = ap (λ (l : List ℕ). to_report (tagged c.args.apid l)) (c.rows_of.ensures ∙ append-nil (lost_row v.lost)) in
    Writes-cut-more _ outlet.Report _ (tagged c.args.apid (own_row v.t v.kind)) c.from_residual.ensures.1 (Writes-is lost c.in_err-write_tagged.ensures)

pub returns : goal.returns
returns g c =
    let lost = ap (λ (l : List ℕ). to_report (tagged c.args.apid l)) (c.rows_of.ensures ∙ append-nil (lost_row c.args.verdict.now.lost)) in
    let own = ap (λ (l : List ℕ). to_report (tagged c.args.apid l)) c.rows_of-2.ensures in
    Writes-more outlet.Report _ _ (Writes-is lost c.in_ok-write_tagged.ensures) (Writes-is own c.write_tagged-2.ensures)
