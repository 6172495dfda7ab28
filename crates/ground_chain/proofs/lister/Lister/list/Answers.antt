use Rattle.std.proofs.Common.{[], refl, subst}
use Rattle.desk_ports.specs.Courses.{AfterRun, by_stop}
use Rattle.desk_ports.proofs.Courses.{Ran-none}
use Rattle.desk_ports.proofs.Steps.{AfterRun-wrote}
use Rattle.ground_chain.specs.Listing.{listed_texts, listing_course, listing_work}
use Rattle.packet_store.specs.StoreReader.{stop_by}
use Rattle.ground_chain.specs.Restoring.{RestorerState}
use Rattle.ground_chain.specs.Receiving.{receiving_state, rest_work}
use Rattle.ground_chain.proofs.DeliveredRuns.{IsOk-run}
use Rattle.ground_chain.proofs.RestCourses.{Owes-unread, Steps-unread, listing_course-is}
use Rattle.ground_chain.proofs.lister.Lister.list.Goals as goal

pub returns-clause-ran : goal.returns-clause-ran
returns-clause-ran g c =
    let a = g.D.Desk.meaning c.args.desk.now in
    let d = g.D.Desk.meaning c.drive.new.desk in
    let s = c.self.inside.receiving in
    let k = receiving_state s in
    -- nothing is written before the first arrival
    let steps = Steps-unread listed_texts s (listing_course k.places k.apid) [] c.self.invariant (listing_course-is k.places k.apid) in
    let ran = c.drive.ensures.ran (rest_work listed_texts s) (Owes-unread listed_texts s c.self.invariant) in
    subst (λ (r : RestorerState). AfterRun (listing_work r.places r.apid) a d (by_stop stop_by c.drive.result)) c.self.view_is
    (AfterRun-wrote (listing_work k.places k.apid) (rest_work listed_texts s) a a d [] (by_stop stop_by c.drive.result) steps (Ran-none a) ran)

pub returns-clause-complete : goal.returns-clause-complete
returns-clause-complete g c = λ h copies played few reads writes.
    let a = g.D.Desk.meaning c.args.desk.now in
    let d = g.D.Desk.meaning c.drive.new.desk in
    let old = g.D.Desk.counts c.args.desk.now in
    let new = g.D.Desk.counts c.drive.new.desk in
    IsOk-run c.args.self.places c.args.self.apid (listing_work c.args.self.places c.args.self.apid) h copies a d old new c.drive.result (λ store. refl) played few (returns-clause-ran g c) c.drive.ensures.cause reads writes
