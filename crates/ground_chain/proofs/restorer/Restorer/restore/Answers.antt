use Rattle.std.proofs.Common.{ℕ, Ok, Err, Result, IfOk, refl, subst}
use Rattle.desk_ports.specs.Meanings.{Meanings}
use Rattle.desk_ports.specs.Courses.{AfterRun, by_stop}
use Rattle.mask_update.specs.Histories.{History}
use Rattle.packet_store.specs.declared.fault.RunFault.{RunFault}
use Rattle.ground_chain.specs.declared.restored.Restored.{Restored}
use Rattle.ground_chain.specs.Deliveries.{IsDelivered, IsPlayed}
use Rattle.packet_store.specs.StoreReader.{stop_by}
use Rattle.ground_chain.specs.Restoring.{RestorerState, restore_work}
use Rattle.ground_chain.proofs.DeliveredRuns.{IsDelivered-done, IsOk-run}
use Rattle.ground_chain.proofs.restorer.Restorer.restore.Goals as goal

pub returns-clause-ran : goal.returns-clause-ran
returns-clause-ran g c =
    let a = g.D.Desk.meaning c.args.desk.now in
    let d = g.D.Desk.meaning c.run.new.desk in
    subst (λ (r : RestorerState). AfterRun (restore_work r.places r.apid) a d (by_stop stop_by c.run.result)) c.self.view_is c.run.ensures.ran

delivered : (f apid : ℕ) (h : History) (copies : ℕ → ℕ) (a b : Meanings) (result : Result Restored RunFault) → IsPlayed f apid h copies a → AfterRun (restore_work f apid) a b (by_stop stop_by result)
    → IfOk result (λ restored. IsDelivered h copies restored a b)
delivered f apid h copies a b (Ok restored) played ran = IsDelivered-done f apid h copies restored a b played ran
delivered f apid h copies a b (Err fault) played ran = tt

pub returns-clause-headline : goal.returns-clause-headline
returns-clause-headline g c = λ h copies played.
    delivered c.args.self.places c.args.self.apid h copies (g.D.Desk.meaning c.args.desk.now) (g.D.Desk.meaning c.run.new.desk) c.run.result played (returns-clause-ran g c)

pub returns-clause-complete : goal.returns-clause-complete
returns-clause-complete g c = λ h copies played few reads writes.
    let a = g.D.Desk.meaning c.args.desk.now in
    let d = g.D.Desk.meaning c.run.new.desk in
    let old = g.D.Desk.counts c.args.desk.now in
    let new = g.D.Desk.counts c.run.new.desk in
    let cause = c.run.ensures.cause in
    IsOk-run c.args.self.places c.args.self.apid (restore_work c.args.self.places c.args.self.apid) h copies a d old new c.run.result (λ store. refl) played few (returns-clause-ran g c) cause reads writes
