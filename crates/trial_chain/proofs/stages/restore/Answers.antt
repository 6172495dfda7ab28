use Rattle.std.proofs.Common.{◌≡◌, ap, ◌∙◌}
use Rattle.std.proofs.lemmas.Result.{IfOk-at_ok, IfOk-weaker, on_ok_weaker}
use Rattle.desk_ports.specs.Courses.{owed, texts_of}
use Rattle.desk_ports.specs.Meanings.{kept_at}
use Rattle.ground_chain.specs.Report.{restored_of}
use Rattle.ground_chain.specs.Restoring.{RestorerState, restore_course, store_run}
use Rattle.trial_chain.specs.Stages.{HoldsJust, run_meanings, run_reported, played_name, report_name, restored_name, with_outputs}
use Rattle.trial_chain.proofs.TrialHeld.{answer_ended, held_ended, held_reported, run_reported-own}
use Rattle.trial_chain.proofs.stages.restore.Goals as goal

pub restore_on-restored-requires-clause-opened : goal.restore_on-restored-requires-clause-opened
restore_on-restored-requires-clause-opened c =
    run_reported-own c.args.desk played_name restored_name report_name c.in_ok-run.run' (IfOk-at_ok (λ run. run_meanings run ≡ run_reported c.args.desk played_name restored_name report_name) c.in_ok-run.ensures.run c.reported.ensures)

pub returns-clause-held : goal.returns-clause-held
returns-clause-held c =
    let held = held_reported c.args.desk played_name restored_name report_name c.in_ok-run.run' (IfOk-at_ok (λ run. run_meanings run ≡ run_reported c.args.desk played_name restored_name report_name) c.in_ok-run.ensures.run c.reported.ensures) in
    let now = with_outputs c.args.desk.held restored_name report_name (texts_of (owed (restore_course c.args.restorer.places c.args.restorer.apid (kept_at c.args.desk.held played_name)))) in
    IfOk-weaker c.ended.result (λ after. HoldsJust after.0 now) (λ after. after.0.held ≡ now) (λ after just. just.1)
    (held_ended c.ended.result c.restore_on-restored.result c.restore_on-restored.new.run.desk.held now
    c.ended.ensures.desk c.ended.ensures.answer
    (on_ok_weaker c.restore_on-restored.result (λ is. is ∙ λ i. with_outputs (held i) restored_name report_name (texts_of (owed (restore_course (ap (λ (r : RestorerState). r.places) c.in_ok-run.ensures.chain i) (ap (λ (r : RestorerState). r.apid) c.in_ok-run.ensures.chain i) (kept_at (held i) played_name))))) c.restore_on-restored.ensures.held))

pub returns-clause-numbers : goal.returns-clause-numbers
returns-clause-numbers c =
    let held = held_reported c.args.desk played_name restored_name report_name c.in_ok-run.run' (IfOk-at_ok (λ run. run_meanings run ≡ run_reported c.args.desk played_name restored_name report_name) c.in_ok-run.ensures.run c.reported.ensures) in
    IfOk-weaker c.ended.result
    (λ after. after.1 ≡ restored_of (store_run c.in_ok-run.restorer.places c.in_ok-run.restorer.apid (kept_at c.in_ok-run.run'.desk.held played_name)))
    (λ after. after.1 ≡ restored_of (store_run c.args.restorer.places c.args.restorer.apid (kept_at c.args.desk.held played_name)))
    (λ after is. is ∙ λ i. restored_of (store_run (ap (λ (r : RestorerState). r.places) c.in_ok-run.ensures.chain i) (ap (λ (r : RestorerState). r.apid) c.in_ok-run.ensures.chain i) (kept_at (held i) played_name)))
    (answer_ended c.ended.result c.restore_on-restored.result (λ answer. answer ≡ restored_of (store_run c.in_ok-run.restorer.places c.in_ok-run.restorer.apid (kept_at c.in_ok-run.run'.desk.held played_name))) c.ended.ensures.answer c.restore_on-restored.ensures.numbers)
