use Rattle.std.proofs.Common.{◌++◌, ap, subst, sym, ◌∙◌}
use Rattle.ground_chain.specs.Run.{known_after, nothing_known, run, run_from}
use Rattle.ground_chain.proofs.EveryRun.{run_from-append}
use Rattle.ground_chain.specs.Reception.{HasJudged, Reckoning, next_run}
use Rattle.packet_calls.proofs.Received.{receivers_agree}
use Rattle.packet_calls.proofs.laws.loaded_receivers_go_on.Goals as goal

pub returns-clause-answers : goal.returns-clause-answers
returns-clause-answers c f saved loaded arrivals valid also e = ap (λ (r : Reckoning). next_run r arrivals) (receivers_agree f loaded saved also valid e)

pub returns-clause-judged : goal.returns-clause-judged
returns-clause-judged c f saved loaded arrivals valid also e has = subst (λ (r : Reckoning). HasJudged f arrivals r) (sym (receivers_agree f loaded saved also valid e)) has

pub returns-clause-after : goal.returns-clause-after
returns-clause-after c f before after saved has =
    let known = sym (has.stands ∙ ap (λ p. known_after p before) has.places) in
    let places = sym has.places in
    run_from-append f nothing_known before after ∙ (λ i. run f before ++ run_from (places i) (known i) after)
