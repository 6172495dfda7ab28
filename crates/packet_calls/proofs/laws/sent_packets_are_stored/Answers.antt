use Rattle.std.proofs.Common.{ℕ, [], length, refl, sym, ap, ◌∙◌}
use Rattle.mask_update.specs.Histories.{history_of, step_of, with_step}
use Rattle.mask_update.proofs.StepByStep.{length-history_of, history_of-push}
use Rattle.flight_chain.proofs.CompressCourses.{store_of-push}
use Rattle.packet_calls.proofs.laws.sent_packets_are_stored.Goals as goal

pub returns : goal.returns
returns c = record {
  none = λ mask apid. refl;
  one_more = λ h robust input flags apid. store_of-push h (step_of (λ _. flags) (λ _. robust) (length h.steps, input)) apid;
  first = λ flags robust f mask is. ap (λ (n : ℕ). record { places = n; first_mask = mask; steps = [] }) (sym is);
  by_schedule = λ inputs flags robust f mask input.
      history_of-push inputs flags robust f mask input
      ∙ ap (λ (t : ℕ). with_step (history_of inputs flags robust f mask) (step_of (λ _. flags (length inputs)) (λ _. robust (length inputs)) (t, input))) (sym (length-history_of inputs flags robust f mask));
}
