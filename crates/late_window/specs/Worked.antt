-- Words for worked orders.
use Rattle.std.specs.Prelude.{List, [], ◌∷◌, map}
use Rattle.ground_chain.specs.Run.{Arrival}
use Rattle.ground_chain.specs.Deliveries.{arrival_at}
use Rattle.ground_chain.specs.Worked.{four_packets}

-- four packets of 8 bits, B0 B1 B1 B3 in hexadecimal, of which the second comes after the third
abbrev pub swapped : List Arrival
swapped = map (arrival_at four_packets) (0 ∷ 2 ∷ 1 ∷ 3 ∷ [])
