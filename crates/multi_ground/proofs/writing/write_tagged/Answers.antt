use Rattle.std.proofs.Common.{◌<◌, length, ap, ◌∙◌, rules}
use Rattle.desk_ports.specs.declared.desk.Outlet.TheVariants as outlet
use Rattle.desk_ports.specs.Courses.{to_report}
use Rattle.desk_ports.proofs.Steps.{Writes-cut-more, Writes-is, Writes-more}
use Rattle.multi_ground.proofs.RowsApart.{tagged-some}
use Rattle.multi_ground.proofs.writing.write_tagged.Goals as goal

pub returns-in_err-write_all : goal.returns-in_err-write_all
returns-in_err-write_all g c =
    let row = c.args.row.now in
    let some : 0 < length c.args.row.now = search rules in
    let tag = Writes-is (ap to_report (c.as_bytes.ensures ∙ c.tag.ensures)) c.in_err-write_all.ensures in
    Writes-is (ap to_report (tagged-some c.args.apid row some)) (Writes-cut-more _ outlet.Report _ row c.from_residual.ensures.1 tag)

pub returns : goal.returns
returns g c =
    let some : 0 < length c.args.row.now = search rules in
    let tag = Writes-is (ap to_report (c.as_bytes.ensures ∙ c.tag.ensures)) c.in_ok-write_all.ensures in
    Writes-is (ap to_report (tagged-some c.args.apid c.args.row.now some)) (Writes-more outlet.Report _ _ tag (Writes-is (ap to_report c.as_bytes-bytes.ensures) c.write_all-2.ensures))
