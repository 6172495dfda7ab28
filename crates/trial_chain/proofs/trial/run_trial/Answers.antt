use Rattle.std.proofs.Common.{ℕ, List, [], Option, unwrap_or, length, ap, ◌∙◌}
use Rattle.desk_ports.specs.MemState.{MemState}
use Rattle.trial_chain.proofs.TrialHeld.{HoldsTrial-held}
use Rattle.trial_chain.proofs.trial.run_trial.Goals as goal

pub returns-clause-held : goal.returns-clause-held
returns-clause-held c = HoldsTrial-held c.args.seed c.args.packets c.args.f c.args.robust c.put_in_place.new.desk.held (ap (λ (d : MemState). d.held) c.put_in_place.ensures ∙ c.in_ok-held-4.ensures.held)

pub returns-clause-summary : goal.returns-clause-summary
returns-clause-summary c =
    let holds = HoldsTrial-held c.args.seed c.args.packets c.args.f c.args.robust c.put_in_place.new.desk.held (ap (λ (d : MemState). d.held) c.put_in_place.ensures ∙ c.in_ok-held-4.ensures.held) in
    λ i. record {
      packets = c.from.ensures i;
      recording = length ((c.get.ensures ∙ ap (λ (o : Option (List ℕ)). unwrap_or o []) holds.recording) i);
      store = length ((c.get-2.ensures ∙ ap (λ (o : Option (List ℕ)). unwrap_or o []) holds.store) i);
      played = length ((c.get-3.ensures ∙ ap (λ (o : Option (List ℕ)). unwrap_or o []) holds.played) i);
      delivered = (c.in_ok-held-3.ensures.numbers i).delivered;
      written = (c.in_ok-held-4.ensures.numbers i).written;
      listed = (c.in_ok-held-4.ensures.numbers i).listed;
    }
