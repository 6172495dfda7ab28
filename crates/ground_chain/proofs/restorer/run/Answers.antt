use Rattle.std.proofs.Common.{[], ap}
use Rattle.std.proofs.lemmas.Result.{err_from_is_err_and}
use Rattle.desk_ports.specs.Courses.{by_stop, to_report}
use Rattle.desk_ports.specs.Turns.{Steps}
use Rattle.desk_ports.proofs.Steps.{AfterRun-wrote, IsCutShort-wrote, Writes-is}
use Rattle.packet_store.specs.StoreReader.{stop_by}
use Rattle.ground_chain.specs.declared.receiving.Receiving.{Receiving}
use Rattle.ground_chain.specs.declared.reporting.Reporting.{Reporting}
use Rattle.ground_chain.specs.Report.{header_row}
use Rattle.ground_chain.specs.Restoring.{restore_course, restore_work, restored_texts}
use Rattle.ground_chain.specs.Receiving.{IsUnread, receiving_state, rest_work}
use Rattle.ground_chain.proofs.RestCourses.{Owes-unread, Steps-unread, restore_course-is}
use Rattle.ground_chain.proofs.restorer.run.Goals as goal

unread : (s : Receiving Reporting) → IsUnread s → Steps (restore_work (receiving_state s).places (receiving_state s).apid) (rest_work restored_texts s) [] (to_report header_row)
unread s is = let k = receiving_state s in Steps-unread restored_texts s (restore_course k.places k.apid) (to_report header_row) is (restore_course-is k.places k.apid)

pub returns-in_err-write_all-clause-ran : goal.returns-in_err-write_all-clause-ran
returns-in_err-write_all-clause-ran g c =
    let a = g.D.Desk.meaning c.args.desk.now in
    let b = g.D.Desk.meaning c.write_all.new.desk in
    let s = c.args.receiving.now in
    let k = receiving_state s in
    let written = Writes-is (ap to_report c.as_bytes.ensures.value) c.in_err-write_all.ensures in
    let cut = IsCutShort-wrote (restore_work k.places k.apid) (rest_work restored_texts s) a b (to_report header_row) (unread s c.requires.unread) written.front in
    let p = err_from_is_err_and c.from_residual.result c.from_residual.ensures.1 in
    rw (p.1, p.2) cut

pub returns-clause-ran : goal.returns-clause-ran
returns-clause-ran g c =
    let a = g.D.Desk.meaning c.args.desk.now in
    let b = g.D.Desk.meaning c.write_all.new.desk in
    let d = g.D.Desk.meaning c.drive.new.desk in
    let s = c.args.receiving.now in
    let k = receiving_state s in
    let written = Writes-is (ap to_report c.as_bytes.ensures.value) c.in_ok-write_all.ensures in
    let ran = c.drive.ensures.ran (rest_work restored_texts s) (Owes-unread restored_texts s c.requires.unread) in
    AfterRun-wrote (restore_work k.places k.apid) (rest_work restored_texts s) a b d (to_report header_row) (by_stop stop_by c.drive.result) (unread s c.requires.unread) written.wrote ran
