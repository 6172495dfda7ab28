use Rattle.std.proofs.Common.{◌≡◌, ℕ, List, [], ◌∷◌, ◌++◌, append-nil, sym, ap, ◌∙◌}
use Rattle.std.specs.List.{flat_map}
use Rattle.std.proofs.lemmas.Grind.{flat_map-append}
use Rattle.ground_chain.specs.Reception.{known_of, next_judged, HasJudged, Reckoning}
use Rattle.ground_chain.specs.Report.{verdict_rows, written_bytes}
use Rattle.ground_chain.specs.Run.{Arrival, Judged, judge, known_after, nothing_known, run}
use Rattle.ground_chain.proofs.DeliveredRuns.{owed-whole}
use Rattle.ground_chain.proofs.EveryRun.{run_from-append}
use Rattle.packet_calls.proofs.laws.verdicts_are_those_of_restoring.Goals as goal

module _ (f count : ℕ) (body : List ℕ) (arrivals : List Arrival) (r : Reckoning) (has : HasJudged f arrivals r) where
  abbrev arrival : Arrival
  arrival = record { count = count; body = body }

  known : known_after f arrivals ≡ known_of r.reception
  known = ap (λ n. known_after n arrivals) (sym has.places) ∙ sym has.stands

  next_is : judge f (known_after f arrivals) arrival ≡ next_judged r.reception count body
  next_is = λ i. judge (sym has.places i) (known i) arrival

  next : run f (arrivals ++ arrival ∷ []) ≡ run f arrivals ++ next_judged r.reception count body ∷ []
  next = run_from-append f nothing_known arrivals (arrival ∷ []) ∙ ap (λ (j : Judged). run f arrivals ++ j ∷ []) next_is

  one_more : (g : Judged → List ℕ) → flat_map g (run f (arrivals ++ arrival ∷ [])) ≡ flat_map g (run f arrivals) ++ g (next_judged r.reception count body)
  one_more g =
      ap (flat_map g) next ∙ (flat_map-append g (run f arrivals) (next_judged r.reception count body ∷ [])
      ∙ ap (λ l. flat_map g (run f arrivals) ++ l) (append-nil (g (next_judged r.reception count body))))

pub returns : goal.returns
returns c = record {
  next = next;
  rows = λ f count body arrivals r has. one_more f count body arrivals r has (λ j. verdict_rows j.verdict);
  contents = λ f count body arrivals r has. one_more f count body arrivals r has (λ j. written_bytes j);
  numbers = λ f arrivals r has. has.counted;
  restore = owed-whole;
}
