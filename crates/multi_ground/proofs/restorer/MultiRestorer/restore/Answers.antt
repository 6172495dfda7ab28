use Rattle.std.proofs.Common.{◌≡◌, ◌<◌, ℕ, All, List, [], Some, Result, Ok, Err, OnOk, subst}
use Rattle.std.proofs.lemmas.Result.{err_from_is_err_and}
use Rattle.desk_ports.specs.declared.desk.Inlet.TheVariants as inlet
use Rattle.desk_ports.specs.Meanings.{Meanings, left}
use Rattle.desk_ports.specs.Courses.{AfterRun, IsCutShort, by_stop, to_report, work_on}
use Rattle.desk_ports.proofs.Steps.{AfterRun-wrote, IsCutShort-wrote}
use Rattle.packet_store.specs.StoreReader.{walk_over, stop_by}
use Rattle.side_tables.specs.declared.rows.StreamRow.{StreamRow}
use Rattle.side_tables.specs.Streams.{AreStreams}
use Rattle.packet_store.specs.declared.fault.RunFault.{RunFault}
use Rattle.multi_ground.specs.Apart.{AreRestored}
use Rattle.multi_ground.specs.MultiOutputs.{multi_course, multi_header, multi_work}
use Rattle.multi_ground.specs.Receiving.{left_after}
use Rattle.multi_ground.proofs.MultiCourses.{Owes-unread, Steps-unread, no_shape}
use Rattle.multi_ground.proofs.StreamsApart.{AreRestored-done}
use Rattle.multi_ground.proofs.restorer.MultiRestorer.restore.Goals as goal

pub returns-in_err-write_header-clause-ran : goal.returns-in_err-write_header-clause-ran
returns-in_err-write_header-clause-ran g c =
    let a = g.D.Desk.meaning c.args.desk.now in
    let b = g.D.Desk.meaning c.write_header.new.desk in
    let s = c.self.inside.receiving in
    let cut = IsCutShort-wrote (multi_work s.streams) (work_on (left_after s.streams []) (walk_over s.reader)) a b (to_report multi_header) (Steps-unread s c.self.invariant) c.in_err-write_header.ensures.front in
    let p = err_from_is_err_and c.from_residual.result c.from_residual.ensures.1 in
    rw (p.1, p.2) (subst (λ (streams : List StreamRow). IsCutShort (multi_course streams) a b) c.self.view_is cut)

pub drive-requires-clause-owed : goal.drive-requires-clause-owed
drive-requires-clause-owed g c = let s = c.self.inside.receiving in record { work = work_on (left_after s.streams []) (walk_over s.reader); owed = Owes-unread s c.self.invariant }

pub returns-clause-ran : goal.returns-clause-ran
returns-clause-ran g c =
    let a = g.D.Desk.meaning c.args.desk.now in
    let b = g.D.Desk.meaning c.write_header.new.desk in
    let d = g.D.Desk.meaning c.drive.new.desk in
    let s = c.self.inside.receiving in
    let here = work_on (left_after s.streams []) (walk_over s.reader) in
    subst (λ (streams : List StreamRow). AfterRun (multi_work streams) a d (by_stop stop_by c.drive.result)) c.self.view_is
    (AfterRun-wrote (multi_work s.streams) here a b d (to_report multi_header) (by_stop stop_by c.drive.result) (Steps-unread s c.self.invariant) c.in_ok-write_header.ensures.wrote (c.drive.ensures.ran here (Owes-unread s c.self.invariant)))

pub returns-clause-shape : goal.returns-clause-shape
returns-clause-shape g c = λ byte is.
    let a = g.D.Desk.meaning c.args.desk.now in
    let d = g.D.Desk.meaning c.drive.new.desk in
    no_shape c.args.self a d byte (subst (λ (result : Result ℕ RunFault). AfterRun (multi_work c.args.self) a d (by_stop stop_by result)) is (returns-clause-ran g c))

done : (streams : List StreamRow) (store : List ℕ) (a b : Meanings) (result : Result ℕ RunFault) → AreStreams streams → All (λ n. n < 256) store → left a inlet.Main ≡ Some store → AfterRun (multi_work streams) a b (by_stop stop_by result) → OnOk result (AreRestored streams store a b)
done streams store a b (Ok written) are bytes told ran = AreRestored-done streams store a b are bytes told ran.ends
done streams store a b (Err fault) are bytes told ran = tt

pub returns-clause-apart : goal.returns-clause-apart
returns-clause-apart g c = λ store bytes told.
    let a = g.D.Desk.meaning c.args.desk.now in
    let d = g.D.Desk.meaning c.drive.new.desk in
    done c.args.self store a d c.drive.result (subst AreStreams c.self.view_is c.self.invariant.received.streams) bytes told (returns-clause-ran g c)
