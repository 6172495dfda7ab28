use Rattle.std.proofs.Common.{◌∙◌}
use Rattle.std.proofs.lemmas.Result.{IfOk-weaker}
use Rattle.std.specs.FinMap as map
use Rattle.desk_ports.specs.Courses.{owed, texts_of}
use Rattle.desk_ports.specs.Meanings.{kept_at}
use Rattle.desk_ports.specs.MemState.{MemState}
use Rattle.flight_chain.specs.Compressing.{compress_course}
use Rattle.trial_chain.specs.Stages.{HoldsJust, held_store, recording_name, store_name}
use Rattle.trial_chain.specs.Trials.{trial_recording}
use Rattle.trial_chain.proofs.TrialHistories.{whole-recording}
use Rattle.trial_chain.proofs.TrialHeld.{IsSome-here, held-compressed, kept-recording}
use Rattle.trial_chain.proofs.generated.Trial.compress.Goals as goal

pub compress-requires : goal.compress-requires
compress-requires c = (
  record { nothing = c.requires.0; held = IsSome-here c.args.held.held map.empty recording_name (trial_recording c.args.self.seed c.args.self.packets c.args.self.f) c.requires.1 },
  (λ i. (compress_course (c.in_ok-flight.ensures i) (kept-recording c.args.self.seed c.args.self.packets c.args.self.f c.args.held.held c.requires.1 i)).ending)
      ∙ whole-recording c.args.self.seed c.args.self.packets c.args.self.f c.args.self.robust c.args.self.bounds,
)

pub returns : goal.returns
returns c =
    IfOk-weaker c.compress.result
    (λ (after : MemState). HoldsJust after (map.insert c.args.held.held store_name (texts_of (owed (compress_course c.in_ok-flight.flight (kept_at c.args.held.held recording_name)))).output))
    (λ after. HoldsJust after (held_store c.args.self.seed c.args.self.packets c.args.self.f c.args.self.robust))
    (λ after is. (is.0, held-compressed c.args.self.seed c.args.self.packets c.args.self.f c.args.self.robust c.args.self.bounds c.args.held.held after.held c.in_ok-flight.flight c.requires.1 c.in_ok-flight.ensures is.1))
    c.compress.ensures
