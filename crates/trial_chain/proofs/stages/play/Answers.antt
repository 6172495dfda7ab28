use Rattle.std.proofs.Common.{◌≡◌, ap, ◌∙◌}
use Rattle.std.proofs.lemmas.Result.{IfOk-at_ok, IfOk-weaker, on_ok_weaker}
use Rattle.desk_ports.specs.Courses.{owed, texts_of}
use Rattle.desk_ports.specs.Meanings.{kept_at}
use Rattle.side_tables.specs.Rows.{copies_of}
use Rattle.loss_player.specs.Played.{store_numbers}
use Rattle.loss_player.specs.Playing.{PlayerState, play_course}
use Rattle.trial_chain.specs.Stages.{run_meanings, run_reported, play_name, played_name, store_name, with_outputs}
use Rattle.trial_chain.proofs.TrialHeld.{answer_ended, held_ended, held_reported, run_reported-own}
use Rattle.trial_chain.proofs.stages.play.Goals as goal

pub play_on-played-requires-clause-opened : goal.play_on-played-requires-clause-opened
play_on-played-requires-clause-opened c =
    run_reported-own c.args.desk store_name played_name play_name c.in_ok-run.run' (IfOk-at_ok (λ run. run_meanings run ≡ run_reported c.args.desk store_name played_name play_name) c.in_ok-run.ensures.run c.reported.ensures)

pub returns-clause-held : goal.returns-clause-held
returns-clause-held c =
    let held = held_reported c.args.desk store_name played_name play_name c.in_ok-run.run' (IfOk-at_ok (λ run. run_meanings run ≡ run_reported c.args.desk store_name played_name play_name) c.in_ok-run.ensures.run c.reported.ensures) in
    held_ended c.ended.result c.play_on-played.result c.play_on-played.new.run.desk.held (with_outputs c.args.desk.held played_name play_name (texts_of (owed (play_course (copies_of c.args.player.rows) c.args.player.apid (kept_at c.args.desk.held store_name)))))
    c.ended.ensures.desk c.ended.ensures.answer
    (on_ok_weaker c.play_on-played.result (λ is. is ∙ λ i. with_outputs (held i) played_name play_name (texts_of (owed (play_course (copies_of (ap (λ (p : PlayerState). p.rows) c.in_ok-run.ensures.chain i)) (ap (λ (p : PlayerState). p.apid) c.in_ok-run.ensures.chain i) (kept_at (held i) store_name))))) c.play_on-played.ensures.held)

pub returns-clause-numbers : goal.returns-clause-numbers
returns-clause-numbers c =
    let held = held_reported c.args.desk store_name played_name play_name c.in_ok-run.run' (IfOk-at_ok (λ run. run_meanings run ≡ run_reported c.args.desk store_name played_name play_name) c.in_ok-run.ensures.run c.reported.ensures) in
    IfOk-weaker c.ended.result
    (λ after. after.1 ≡ store_numbers (copies_of c.in_ok-run.player.rows) c.in_ok-run.player.apid (kept_at c.in_ok-run.run'.desk.held store_name))
    (λ after. after.1 ≡ store_numbers (copies_of c.args.player.rows) c.args.player.apid (kept_at c.args.desk.held store_name))
    (λ after is. is ∙ λ i. store_numbers (copies_of (ap (λ (p : PlayerState). p.rows) c.in_ok-run.ensures.chain i)) (ap (λ (p : PlayerState). p.apid) c.in_ok-run.ensures.chain i) (kept_at (held i) store_name))
    (answer_ended c.ended.result c.play_on-played.result (λ answer. answer ≡ store_numbers (copies_of c.in_ok-run.player.rows) c.in_ok-run.player.apid (kept_at c.in_ok-run.run'.desk.held store_name)) c.ended.ensures.answer c.play_on-played.ensures.numbers)
