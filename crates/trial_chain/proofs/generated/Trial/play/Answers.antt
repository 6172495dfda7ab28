use Rattle.std.proofs.Common.{◌≡◌, Some, ap, ◌∙◌}
use Rattle.std.proofs.lemmas.Result.{IfOk-weaker}
use Rattle.desk_ports.specs.Courses.{owed, texts_of}
use Rattle.desk_ports.specs.Meanings.{kept_at}
use Rattle.side_tables.specs.Rows.{copies_of}
use Rattle.packet_store.specs.Walks.{walk}
use Rattle.loss_player.specs.Played.{played_of, store_numbers}
use Rattle.loss_player.specs.Playing.{PlayerState, play_course}
use Rattle.trial_chain.specs.Stages.{HoldsJust, held_played, held_recording, play_name, played_name, store_name, trial_store, with_outputs}
use Rattle.trial_chain.specs.Trials.{trial_copies}
use Rattle.trial_chain.proofs.TrialHistories.{numbers-store, whole-store}
use Rattle.trial_chain.proofs.TrialHeld.{IsSome-here, held-played, kept-store, same-copies}
use Rattle.trial_chain.proofs.generated.Trial.play.Goals as goal

pub play-requires : goal.play-requires
play-requires c = (
  record { nothing = c.requires.held.0; held = IsSome-here c.args.held.held (held_recording c.args.self.seed c.args.self.packets c.args.self.f) store_name (trial_store c.args.self.seed c.args.self.packets c.args.self.f c.args.self.robust) c.requires.held.1 },
  (λ i. (walk (Some (ap (λ (p : PlayerState). p.apid) c.in_ok-player.ensures i))
      (kept-store c.args.self.seed c.args.self.packets c.args.self.f c.args.self.robust c.args.held.held c.requires.held.1 i)).ending)
      ∙ whole-store c.args.self.seed c.args.self.packets c.args.self.f c.args.self.robust c.args.self.bounds,
)

pub returns-clause-held : goal.returns-clause-held
returns-clause-held c =
    let apid = ap (λ (p : PlayerState). p.apid) c.in_ok-player.ensures in
    let copies = same-copies c.args.self.seed c.args.self.packets c.in_ok-player.player.rows c.args.script.now (ap (λ (p : PlayerState). p.rows) c.in_ok-player.ensures) c.requires.script.1 in
    IfOk-weaker c.play.result
    (λ after. HoldsJust after.0 (with_outputs c.args.held.held played_name play_name (texts_of (owed (play_course (copies_of c.in_ok-player.player.rows) c.in_ok-player.player.apid (kept_at c.args.held.held store_name))))))
    (λ after. HoldsJust after.0 (held_played c.args.self.seed c.args.self.packets c.args.self.f c.args.self.robust))
    (λ after is. (is.0, held-played c.args.self.seed c.args.self.packets c.args.self.f c.args.self.robust c.args.self.bounds c.args.held.held after.0.held c.in_ok-player.player c.requires.held.1 apid copies is.1))
    c.play.ensures.held

pub returns-clause-numbers : goal.returns-clause-numbers
returns-clause-numbers c =
    let apid = ap (λ (p : PlayerState). p.apid) c.in_ok-player.ensures in
    let copies = same-copies c.args.self.seed c.args.self.packets c.in_ok-player.player.rows c.args.script.now (ap (λ (p : PlayerState). p.rows) c.in_ok-player.ensures) c.requires.script.1 in
    let numbers : store_numbers (copies_of c.in_ok-player.player.rows) c.in_ok-player.player.apid (kept_at c.args.held.held store_name) ≡ played_of (trial_copies c.args.self.seed c.args.self.packets) c.args.self.packets =
    (λ i. store_numbers (copies i) (apid i) (kept-store c.args.self.seed c.args.self.packets c.args.self.f c.args.self.robust c.args.held.held c.requires.held.1 i))
    ∙ numbers-store c.args.self.seed c.args.self.packets c.args.self.f c.args.self.robust (trial_copies c.args.self.seed c.args.self.packets) c.args.self.bounds in
    IfOk-weaker c.play.result (λ after. after.1 ≡ store_numbers (copies_of c.in_ok-player.player.rows) c.in_ok-player.player.apid (kept_at c.args.held.held store_name))
    (λ after. after.1 ≡ played_of (trial_copies c.args.self.seed c.args.self.packets) c.args.self.packets) (λ after is. is ∙ numbers) c.play.ensures.numbers
