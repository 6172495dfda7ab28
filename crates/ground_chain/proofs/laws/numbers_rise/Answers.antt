use Rattle.std.proofs.Common.{◌<◌, List, [], ◌∷◌, ◌++◌, arith}
use Rattle.std.proofs.lemmas.List.Elements.{All-cons}
use Rattle.packet_store.specs.SpacePackets.{period}
use Rattle.ground_chain.specs.Run.{number_after, Arrival, nothing_known, known_after}
use Rattle.ground_chain.specs.Report.{AreArrivals}
use Rattle.ground_chain.proofs.Told.{first_arrival, later_arrivals, number_later, numbers_below, expected_own}
use Rattle.ground_chain.proofs.laws.numbers_rise.Goals as goal

all_before : (arrivals more : List Arrival) → AreArrivals (arrivals ++ more) → AreArrivals arrivals
all_before [] more all = λ k d within. absurd (omega arith)
all_before (a ∷ arrivals) more all =
    let rest = all_before arrivals more (later_arrivals a (arrivals ++ more) all) in
    at (first_arrival a (arrivals ++ more) all) rest where
      at : a.count < period → AreArrivals arrivals → AreArrivals (a ∷ arrivals)
      at here rest = All-cons (λ (x : Arrival). x.count < period) a arrivals here rest

the_last : (arrivals : List Arrival) (a : Arrival) → AreArrivals (arrivals ++ a ∷ []) → a.count < period
the_last [] a all = first_arrival a [] all
the_last (x ∷ arrivals) a all = the_last arrivals a (later_arrivals x (arrivals ++ a ∷ []) all)

pub returns : goal.returns
returns c = λ f arrivals arrival all own k d within.
    let known = known_after f arrivals in
    let here = expected_own f known arrival.body (number_after known.latest arrival.count) (number_later known.latest arrival.count (the_last arrivals arrival all)) own in
    let below = numbers_below f nothing_known arrivals (all_before arrivals (arrival ∷ []) all) k d within in
    omega (arith, here, below)
