use Rattle.std.proofs.Common.{◌≡◌, ℕ, List, [], ◌∷◌, ◌++◌, ap, ◌∙◌, append-nil}
use Rattle.std.specs.List.{flat_map}
use Rattle.std.proofs.lemmas.Grind.{flat_map-append}
use Rattle.ground_chain.specs.Run.{Arrival, Judged, nothing_known, judged_by, judge, known_after, repeat_judged, run}
use Rattle.ground_chain.specs.Report.{written_bytes, verdict_rows}
use Rattle.ground_chain.proofs.EveryRun.{known_from-append, run_from-append}
use Rattle.ground_chain.proofs.laws.repeats_change_nothing.Goals as goal

-- what adds nothing of its own
same_text : (f : ℕ) (text : Judged → List ℕ) (arrivals : List Arrival) (arrival : Arrival) → text (judge f (known_after f arrivals) arrival) ≡ [] → flat_map text (run f (arrivals ++ arrival ∷ [])) ≡ flat_map text (run f arrivals)
same_text f text arrivals arrival nothing =
    let j = judge f (known_after f arrivals) arrival in
    ap (flat_map text) (run_from-append f nothing_known arrivals (arrival ∷ []))
    ∙ (flat_map-append text (run f arrivals) (j ∷ []) ∙ (ap (λ (l : List ℕ). flat_map text (run f arrivals) ++ (l ++ [])) nothing ∙ append-nil (flat_map text (run f arrivals))))

pub returns : goal.returns
returns c = λ f arrivals arrival none.
    let known = known_after f arrivals in
    let same : judge f known arrival ≡ repeat_judged known = ap (judged_by f known arrival.body) none in (
      same,
      known_from-append f nothing_known arrivals (arrival ∷ []) ∙ ap (λ (j : Judged). j.after) same,
      same_text f (λ j. written_bytes j) arrivals arrival (ap (λ (j : Judged). written_bytes j) same),
      same_text f (λ j. verdict_rows j.verdict) arrivals arrival (ap (λ (j : Judged). verdict_rows j.verdict) same),
    )
