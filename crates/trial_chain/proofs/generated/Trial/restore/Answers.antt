use Rattle.std.proofs.Common.{◌≡◌, Some, ap, ◌∙◌}
use Rattle.std.proofs.lemmas.Result.{IfOk-weaker}
use Rattle.desk_ports.specs.Courses.{owed, texts_of}
use Rattle.desk_ports.specs.Meanings.{kept_at}
use Rattle.packet_store.specs.Walks.{walk}
use Rattle.ground_chain.specs.Deliveries.{delivered_numbers}
use Rattle.ground_chain.specs.Report.{restored_of}
use Rattle.ground_chain.specs.Restoring.{RestorerState, restore_course, store_run}
use Rattle.trial_chain.specs.Stages.{held_restored, played_name, report_name, restored_name, with_outputs}
use Rattle.trial_chain.specs.Trials.{trial_copies, trial_history}
use Rattle.trial_chain.proofs.TrialHistories.{numbers-restored, whole-played}
use Rattle.trial_chain.proofs.TrialHeld.{IsSome-played, held-restored, kept-played}
use Rattle.trial_chain.proofs.generated.Trial.restore.Goals as goal

pub restore-requires : goal.restore-requires
restore-requires c = (
  record { nothing = c.requires.0; held = IsSome-played c.args.self.seed c.args.self.packets c.args.self.f c.args.self.robust c.args.held.held c.requires.1 },
  (λ i. (walk (Some (ap (λ (r : RestorerState). r.apid) c.in_ok-restorer.ensures i))
      (kept-played c.args.self.seed c.args.self.packets c.args.self.f c.args.self.robust c.args.held.held c.requires.1 i)).ending)
      ∙ whole-played c.args.self.seed c.args.self.packets c.args.self.f c.args.self.robust c.args.self.bounds,
)

pub returns-clause-held : goal.returns-clause-held
returns-clause-held c =
    IfOk-weaker c.restore.result
    (λ after. after.0.held ≡ with_outputs c.args.held.held restored_name report_name (texts_of (owed (restore_course c.in_ok-restorer.restorer.places c.in_ok-restorer.restorer.apid (kept_at c.args.held.held played_name)))))
    (λ after. after.0.held ≡ held_restored c.args.self.seed c.args.self.packets c.args.self.f c.args.self.robust)
    (λ after is. held-restored c.args.self.seed c.args.self.packets c.args.self.f c.args.self.robust c.args.self.bounds c.args.held.held after.0.held c.in_ok-restorer.restorer c.requires.1 c.in_ok-restorer.ensures is)
    c.restore.ensures.held

pub returns-clause-numbers : goal.returns-clause-numbers
returns-clause-numbers c =
    let numbers : restored_of (store_run c.in_ok-restorer.restorer.places c.in_ok-restorer.restorer.apid (kept_at c.args.held.held played_name))
    ≡ delivered_numbers (trial_history c.args.self.seed c.args.self.packets c.args.self.f c.args.self.robust) (trial_copies c.args.self.seed c.args.self.packets) =
    (λ i. restored_of (store_run (ap (λ (r : RestorerState). r.places) c.in_ok-restorer.ensures i) (ap (λ (r : RestorerState). r.apid) c.in_ok-restorer.ensures i)
    (kept-played c.args.self.seed c.args.self.packets c.args.self.f c.args.self.robust c.args.held.held c.requires.1 i)))
    ∙ numbers-restored c.args.self.seed c.args.self.packets c.args.self.f c.args.self.robust c.args.self.bounds in
    IfOk-weaker c.restore.result (λ after. after.1 ≡ restored_of (store_run c.in_ok-restorer.restorer.places c.in_ok-restorer.restorer.apid (kept_at c.args.held.held played_name)))
    (λ after. after.1 ≡ delivered_numbers (trial_history c.args.self.seed c.args.self.packets c.args.self.f c.args.self.robust) (trial_copies c.args.self.seed c.args.self.packets)) (λ after is. is ∙ numbers) c.restore.ensures.numbers
